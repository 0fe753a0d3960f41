-- Which keys are told, and what is told of each (RFC 4035 5.2).
use Rattle.std.specs.Prelude.{◌≡◌, ◌≢◌, ◌⊎◌, ◌≤◌, ℕ, List, [], ◌∷◌, Option, Some, None, Contains}
use Rattle.dnsv_names.specs.Name.{Labels, SameName}
use Rattle.dnsv_canonical.specs.Rrsets.{IsNumbered, ReceivedRrset}
use Rattle.dnsv_chain.specs.Anchor.{IsAnchorMatch}
use Rattle.dnsv_chain.specs.Ds.{IsMatch}
use Rattle.dnsv_anchors.specs.declared.anchor.Anchor.{Anchor}
use Rattle.dnsv_proof_forms.specs.records.Numbers.{number_cmp}
use Rattle.dnsv_canonical.specs.declared.number.RecordNumber.{RecordNumber}
use Rattle.dnsv_derivations.specs.Explained.{Setting}
use Rattle.dnsv_verifier.specs.Admissible.{DnskeyRecord}
use Rattle.std.specs.declared.cmp.Ordering.TheVariants.{Less}
use Rattle.dnsv_derivations.specs.Following.{IsDsMatch, IsGoodUnder, IsNamed}
use Rattle.dnsv_derivations.specs.derivations.WaySearch.{AreKeysInOrder, signature_of}
use Rattle.dnsv_derivations.specs.Listing.{AreOfNumbered, AreWhere}
use Rattle.dnsv_derivations.specs.derivations.Ways.{record_at}
use Rattle.dnsv_lines.specs.declared.line.Line.{Line}
use Rattle.dnsv_lines.specs.declared.line.Line.TheVariants as line
use Rattle.dnsv_lines.specs.declared.line.fault.Reason.{Reason}
use Rattle.dnsv_lines.specs.declared.line.fault.Reason.TheVariants as reason
use Rattle.dnsv_lines.specs.declared.line.fault.key.ShownKey.{ShownKey}
use Rattle.dnsv_lines.specs.declared.line.fault.signature.ShownSignature.{ShownSignature}
use Rattle.dnsv_lines.specs.declared.line.fault.signature.WhySignature.{WhySignature}
use Rattle.dnsv_lines.specs.declared.line.fault.signature.WhySignature.TheVariants as why
use Rattle.dnsv_records.specs.declared.ds.Ds.{Ds}
use Rattle.dnsv_records.specs.declared.number.DigestType.{DigestType}

-- ---- the zones in question

-- an RRset of the type at the owner is a DNSKEY RRset of the zone
pub record IsOfDnskeys (rtype : ℕ) (owner zone : Labels) : Type 0 where
  pub dnskeys : rtype ≡ 48
  pub at : SameName owner zone

-- the signer, where the word speaks of its keys
abbrev pub IsSignerAsked : WhySignature → ShownSignature → Labels → Type 0
IsSignerAsked why.KeyMissing signature zone = SameName signature.signer zone
IsSignerAsked why.NotZoneKey signature zone = SameName signature.signer zone
IsSignerAsked why.KeyUntrusted signature zone = SameName signature.signer zone
IsSignerAsked _ signature zone = ⊥

-- what fails is a matter of the zone's keys: it is said of the zone, of what leads into it, of a DNSKEY RRset there, or
-- of the keys that a signature names
abbrev pub AsksKeysOf : Reason → Labels → Type 0
AsksKeysOf (reason.Zone fault) zone = SameName fault.zone zone
AsksKeysOf (reason.Entry fault) zone = SameName fault.entry.zone zone
AsksKeysOf (reason.NotSelfSigned key) zone = SameName key.zone zone
AsksKeysOf (reason.NotVouched keys) zone = SameName keys.zone zone
AsksKeysOf (reason.Unsigned unsigned) zone = IsOfDnskeys unsigned.rtype.0 unsigned.owner zone
AsksKeysOf (reason.Signature fault) zone =
    IsOfDnskeys fault.signature.rtype.0 fault.signature.owner zone
    ⊎ IsSignerAsked fault.why fault.signature zone
AsksKeysOf (reason.NoCloser closer) zone =
    IsOfDnskeys closer.signature.rtype.0 closer.signature.owner zone
AsksKeysOf _ zone = ⊥

-- one of the lines does
pub record IsInQuestion (lines : List Line) (zone : Labels) : Type 0 where
  pub reason : Reason
  pub among : Contains lines (line.Reason reason)
  pub asks : AsksKeysOf reason zone

-- ---- what is told of a key

-- the lowest number that is such, if one is
abbrev pub IsLowestOf : (ℕ → Type 0) → Option ℕ → Type 0
IsLowestOf Such None = (n : ℕ) → ¬ Such n
IsLowestOf Such (Some n) = Such n × ((other : ℕ) → Such other → n ≤ other)

-- anchor A matches the key
abbrev pub IsMatchedByAnchor : Setting → DnskeyRecord → ℕ → Type 0
IsMatchedByAnchor setting key number =
    (anchor : Anchor) × IsNumbered setting.anchors number anchor × IsAnchorMatch anchor key

-- a usable DS record, signed or not, matches the key
abbrev pub IsMatchedByDs : Setting → DnskeyRecord → RecordNumber → Type 0
IsMatchedByDs setting key number = (digest_type : DigestType) × IsDsMatch setting.rrsets number digest_type key

-- one of the records, of a DS RRset of the owner, matches the key: no public clause cites this
pub record HasMatch (records : List Ds) (owner : Labels) (key : DnskeyRecord) : Type 0 where
  pub ds : Ds
  pub among : Contains records ds
  pub matching : IsMatch owner ds key

-- the lowest such record, if one is
abbrev pub IsLowestDs : Setting → DnskeyRecord → Option RecordNumber → Type 0
IsLowestDs setting key None = (number : RecordNumber) → ¬ IsMatchedByDs setting key number
IsLowestDs setting key (Some number) =
    IsMatchedByDs setting key number
    × ((other : RecordNumber) → IsMatchedByDs setting key other → number_cmp other number ≢ Less)

-- the key of DNSKEY RRset k at the place, with what is good under it and what matches it
pub record IsShownKey (setting : Setting) (k place : ℕ) (set : ReceivedRrset) (key : DnskeyRecord) (shown : ShownKey)
    : Type 0 where
  pub zone : shown.zone ≡ set.owner
  pub number : shown.number ≡ record_at k place
  pub named : IsNamed key shown.key
  pub flags : shown.flags.0 ≡ key.dnskey.flags.0
  pub signature : IsLowestOf (λ s. IsGoodUnder setting (signature_of k s) set key) shown.signature
  pub anchor : IsLowestOf (IsMatchedByAnchor setting key) shown.anchor
  pub ds : IsLowestDs setting key shown.ds

-- ---- the lines

-- of the key of RRset k at the place
abbrev pub IsKeyLine : Setting → ℕ → ReceivedRrset → ℕ → DnskeyRecord → List Line → Type 0
IsKeyLine setting k set place key lines =
    (shown : ShownKey) × IsShownKey setting k place set key shown × (lines ≡ line.Key shown ∷ [])

-- of RRset k, if it is a DNSKEY RRset of a zone in question
abbrev pub AreLinesOfSet : Setting → List Line → ℕ → ReceivedRrset → List Line → Type 0
AreLinesOfSet setting reasons k set =
    AreWhere ((set.rtype ≡ 48) × IsInQuestion reasons set.owner)
    (λ lines. (keys : List DnskeyRecord) × AreKeysInOrder set keys × AreOfNumbered (IsKeyLine setting k set) 1 keys lines)

-- a line for each DNSKEY record of the zones in question, by RRset and place
abbrev pub AreLinesOfKeysAsked : Setting → List Line → List Line → Type 0
AreLinesOfKeysAsked setting reasons = AreOfNumbered (AreLinesOfSet setting reasons) 1 setting.rrsets
