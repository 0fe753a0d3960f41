-- How the first way is looked for.
use Rattle.std.specs.Prelude.{◌≡◌, ◌≢◌, ◌<◌, ◌≤◌, ◌+◌, ◌-◌, ℕ, List, Contains, MatchOption, Option, get_or, length, map}
use Rattle.std.specs.List.{AllByRecursion}
use Rattle.std.specs.declared.cmp.Ordering.TheVariants.{Less}
use Rattle.dnsv_names.specs.Name.{Labels, SameName}
use Rattle.dnsv_records.specs.declared.dnskey.Dnskey.{Dnskey}
use Rattle.dnsv_canonical.specs.Canonical.{IsCanonical, rdata_cmp}
use Rattle.dnsv_canonical.specs.Rrsets.{IsNumbered, ReceivedRrset}
use Rattle.dnsv_verifier.specs.Admissible.{DnskeyRecord}
use Rattle.dnsv_chain.specs.Anchor.{IsAnchorMatch}
use Rattle.dnsv_chain.specs.Ds.{IsMatch}
use Rattle.dnsv_chain.specs.Trusted.{IsKeyOf, IsTrusted}
use Rattle.dnsv_anchors.specs.declared.anchor.Anchor.{Anchor}
use Rattle.dnsv_anchors.specs.declared.anchor.Anchor.TheVariants as anchor
use Rattle.dnsv_proof_forms.specs.records.Numbers.{number_cmp}
use Rattle.dnsv_derivations.specs.Explained.{IsTodo, Setting}
use Rattle.dnsv_derivations.specs.Following.{IsGoodUnder, IsNamed}
use Rattle.dnsv_derivations.specs.derivations.NewKeys.{AreNewKeys}
use Rattle.dnsv_derivations.specs.derivations.Ways.{HasSecured, IsFirstWay, IsWayInto, Way, record_at, voucher_rank}
use Rattle.dnsv_canonical.specs.declared.number.SignatureNumber.{SignatureNumber}
use Rattle.dnsv_lines.specs.declared.line.derivation.Voucher.{Voucher}
use Rattle.dnsv_lines.specs.declared.line.derivation.Voucher.TheVariants as voucher
use Rattle.dnsv_derivations.specs.declared.derivations.ways.FoundWay.{FoundWay}
use Rattle.dnsv_derivations.specs.declared.derivations.ways.kept.KeptWay.{KeptWay}
use Rattle.dnsv_derivations.specs.declared.derivations.ways.kept.NewKey.{NewKey}
use Rattle.dnsv_derivations.specs.declared.derivations.ways.keys.GoodSignature.{GoodSignature}
use Rattle.dnsv_derivations.specs.declared.derivations.ways.keys.KeySet.{KeySet}
use Rattle.dnsv_derivations.specs.declared.derivations.ways.keys.SetKey.{SetKey}
use Rattle.dnsv_derivations.specs.declared.derivations.ways.matcher.Matcher.{Matcher}
use Rattle.dnsv_derivations.specs.declared.derivations.ways.matcher.Matcher.TheVariants as matcher

-- ---- keys and signatures of an RRset

abbrev pub signature_of : ℕ → ℕ → SignatureNumber
signature_of k s = record { rrset = k; signature = s }

-- the keys of the DNSKEY RRset, in the order of their RDATA
pub record AreKeysInOrder (set : ReceivedRrset) (keys : List DnskeyRecord) : Type 0 where
  pub canonical : IsCanonical set.rdata (map (λ key. key.rdata) keys)
  pub each : (key : DnskeyRecord) → Contains keys key → IsKeyOf set key

-- no signature of RRset k with a lower number is good under the key
pub record IsLowestGood
    (setting : Setting) (k : ℕ) (rrset : ReceivedRrset) (key : DnskeyRecord) (found : GoodSignature) : Type 0 where
  pub good : IsGoodUnder setting (signature_of k found.number) rrset key
  pub todo : IsTodo setting.todo good.good.entry found.todo.0
  pub lowest : (t : ℕ) → IsGoodUnder setting (signature_of k t) rrset key → found.number ≤ t

-- it is told how the key signs RRset k: by its lowest signature that is good under it, if there is one
abbrev pub IsSetKey : Setting → ℕ → ReceivedRrset → SetKey → Type 0
IsSetKey setting k rrset each = MatchOption each.signing
    ((s : ℕ) → ¬ IsGoodUnder setting (signature_of k s) rrset each.key.now)
    (λ signing. (signing.digested ≡ each.key.now) × IsLowestGood setting k rrset each.key.now signing.signature)

-- these are the keys, and so of each
pub record AreSetKeys (setting : Setting) (k : ℕ) (rrset : ReceivedRrset) (keys : List DnskeyRecord) (made : List SetKey)
    : Type 0 where
  pub are : map (λ each. each.key.now) made ≡ keys
  pub each : AllByRecursion (IsSetKey setting k rrset) made

-- the RRset has the number, and these are its keys in order
pub record IsKeySet (setting : Setting) (set : KeySet) : Type 0 where
  pub numbered : IsNumbered setting.rrsets set.number set.rrset.now
  pub in_order : AreKeysInOrder set.rrset.now (map (λ (each : SetKey). each.key.now) set.keys.items)
  pub each : AllByRecursion (IsSetKey setting set.number set.rrset.now) set.keys.items

-- none of the signatures up to the number is
abbrev pub IsNoneTo : Setting → ℕ → ReceivedRrset → DnskeyRecord → ℕ → Type 0
IsNoneTo setting k rrset key n = (s : ℕ) → s ≤ n → ¬ IsGoodUnder setting (signature_of k s) rrset key

-- the key of the owner that the RDATA is
abbrev pub key_of : Labels → List ℕ → Dnskey → DnskeyRecord
key_of owner rdata dnskey = record { owner = owner; rdata = rdata; dnskey = dnskey }

-- none of the first n keys is such
abbrev pub IsNoneYet : List DnskeyRecord → (DnskeyRecord → Type 0) → ℕ → Type 0
IsNoneYet keys Such n = (j : ℕ) (d : DnskeyRecord) → j < n → j < length keys → ¬ Such (get_or keys j d)

-- ---- by what matches

-- the key is such, and signs DNSKEY RRset k
abbrev pub SignsAs : Setting → ℕ → ReceivedRrset → (DnskeyRecord → Type 0) → DnskeyRecord → Type 0
SignsAs setting k set Matches key = (t : ℕ) × Matches key × IsGoodUnder setting (signature_of k t) set key

-- the way found is by the lowest key that is such and signs the RRset, and its lowest signature
pub record IsFirstUnder
    (setting : Setting) (k : ℕ) (set : ReceivedRrset) (Matches : DnskeyRecord → Type 0) (voucher : Voucher)
    (found : FoundWay) : Type 0 where
  pub voucher_is : found.voucher ≡ voucher
  pub key : DnskeyRecord
  pub named : IsNamed key found.key
  pub stands : IsKeyOf set key
  pub matched : Matches key
  pub good : IsLowestGood setting k set key found.signature
  pub lowest : (other : DnskeyRecord) → IsKeyOf set other → SignsAs setting k set Matches other
      → rdata_cmp other.rdata key.rdata ≢ Less

-- no key that is such signs the RRset
abbrev pub IsNoneUnder : Setting → ℕ → ReceivedRrset → (DnskeyRecord → Type 0) → Type 0
IsNoneUnder setting k set Matches = (other : DnskeyRecord) → IsKeyOf set other → ¬ SignsAs setting k set Matches other

-- the anchor, or the record of a DS RRset with the owner, matches the key
abbrev pub MatchesBy : Matcher → DnskeyRecord → Type 0
MatchesBy (matcher.Anchor anchor) = IsAnchorMatch anchor.now
MatchesBy (matcher.Ds owner ds) = IsMatch owner.now ds.now

-- the anchor, which has the number, is told so
abbrev pub IsVoucherOf : ℕ → Anchor → Voucher → Type 0
IsVoucherOf number (anchor.Ds owner ds) told = told ≡ voucher.DsAnchor number ds.digest_type
IsVoucherOf number (anchor.Key owner rdata) told = told ≡ voucher.KeyAnchor number

-- the RRset, which has the number, is a DS RRset of the name, and has a secured signature
pub record MayDelegate (setting : Setting) (number : ℕ) (ds : ReceivedRrset) (name : Labels) : Type 0 where
  pub rtype : ds.rtype ≡ 43
  pub owner : SameName ds.owner name
  pub secured : HasSecured setting number

-- ---- ways

-- the way found is the first
pub record IsFoundWay (setting : Setting) (k : ℕ) (found : FoundWay) : Type 0 where
  pub key : DnskeyRecord
  pub named : IsNamed key found.key
  pub first : IsFirstWay setting k (record { voucher = found.voucher; key = key; signature = found.signature.number })
  pub todo : IsTodo setting.todo first.is.good.good.entry found.signature.todo.0

abbrev pub IsNoWay : Setting → ℕ → Type 0
IsNoWay setting k = (way : Way) → ¬ IsWayInto setting k way

-- this is the first way into RRset k, or there is none
abbrev pub IsWayOf : Setting → ℕ → Option FoundWay → Type 0
IsWayOf setting k way = MatchOption way (IsNoWay setting k) (IsFoundWay setting k)

-- these are the keys that RRset k, if it is trusted, is the first of its owner to have
abbrev pub HasNewKeys : Setting → ℕ → List NewKey → Type 0
HasNewKeys setting k keys = (set : ReceivedRrset) → IsNumbered setting.rrsets k set
    → IsTrusted setting.meaning setting.moment setting.rrsets setting.anchors set → AreNewKeys setting (k - 1) set keys

-- this is kept of RRset k: its first way, and those keys
pub record IsKeptWay (setting : Setting) (k : ℕ) (kept : KeptWay) : Type 0 where
  pub way : IsWayOf setting k kept.way
  pub keys : HasNewKeys setting k kept.new_keys.items

-- each of these is so for the RRset with its number
abbrev pub AreFirstWays : Setting → List KeptWay → Type 0
AreFirstWays setting ways = (k : ℕ) (kept : KeptWay) → IsNumbered ways k kept → IsKeptWay setting k kept

-- no way goes before it
abbrev pub IsNoWayBefore : Setting → ℕ → ℕ → ℕ → Type 0
IsNoWayBefore setting k rrset place =
    (way : Way) → IsWayInto setting k way → number_cmp (voucher_rank way.voucher) (record_at rrset place) ≢ Less

-- the number at a place, counted from 0, or one that no RRset has
abbrev pub number_or_end : List ReceivedRrset → List ℕ → ℕ → ℕ
number_or_end rrsets numbers place = get_or numbers place (length rrsets + 1)
