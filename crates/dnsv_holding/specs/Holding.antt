-- What holds for a verdict: of each link of the way and of the verdict at the last name, or of what may be hoped of it;
-- from when to when that holds; and where the RRsets stand that it names.
use Rattle.std.specs.Prelude.{◌≡◌, ℕ, List, [], ◌∷◌, Option, Some, None, map}
use Rattle.dnsv_names.specs.Name.{Labels}
use Rattle.dnsv_records.specs.Rrsig.{IsRrsig}
use Rattle.dnsv_records.specs.declared.rrsig.Rrsig.{Rrsig}
use Rattle.dnsv_canonical.specs.Rrsets.{IsNumbered, ReceivedRrset}
use Rattle.dnsv_canonical.specs.SignedData.{IsExpanded}
use Rattle.dnsv_chain.specs.Trust.{KeptTrust, SecuredIn}
use Rattle.dnsv_denial.specs.proving.ShownDenials.{IsShownNoCloser, IsShownNoData, IsShownNoName}
use Rattle.dnsv_denial.specs.unsigned_cuts.Cuts.{HasUnsignedCut}
use Rattle.dnsv_denial.specs.unsigned_cuts.ShownCut.{IsShownOptOutCloser}
use Rattle.dnsv_denial.specs.declared.proving.shown_denial.ShownDenial.{ShownDenial}
use Rattle.dnsv_denial.specs.declared.unsigned_cuts.shown_cut.ShownCut.{ShownCut}
use Rattle.dnsv_verifier.specs.declared.entry.Entry.{Entry}
use Rattle.dnsv_verdict.specs.Insecure.{IsOptOutWildcardSet}
use Rattle.dnsv_verdict.specs.Secure.{IsFirstSuch}
use Rattle.dnsv_verdict.specs.Verdict.{IsSettledAsBy}
use Rattle.dnsv_verdict.specs.declared.link.Link.{Link}
use Rattle.dnsv_verdict.specs.declared.verdict.Verdict.{Verdict}
use Rattle.dnsv_verdict.specs.declared.verdict.Verdict.TheVariants.{SecureAnswer, SecureAlias, SecureNoName, SecureNoData, Insecure, Pending, Bogus, Indeterminate}
use Rattle.dnsv_derivations.specs.Denials.{IsDenialTold, IsExpandedTold}
use Rattle.dnsv_derivations.specs.Explained.{Explained, Setting, setting_in}
use Rattle.dnsv_holding.specs.Explained.{basis_in, hoped}
use Rattle.dnsv_derivations.specs.Places.{ArePlacesOf, ArePlacesTold}
use Rattle.dnsv_derivations.specs.Saying.{AreBoth, AreEach}
use Rattle.dnsv_derivations.specs.derivations.HeldTo.{IsHeldTo}
use Rattle.dnsv_derivations.specs.derivations.OwnDerivations.{IsSignatureTold, IsTrustIn}
use Rattle.dnsv_derivations.specs.intervals.Holding.{IsHoldingOf}
use Rattle.dnsv_derivations.specs.unsigned_cuts.ShownCuts.{IsCutShownBy, IsCutTold}
use Rattle.dnsv_lines.specs.declared.line.interval.Interval.{Interval}
use Rattle.dnsv_lines.specs.declared.line.Kind.{Kind}
use Rattle.dnsv_lines.specs.declared.line.Kind.TheVariants as kind
use Rattle.dnsv_lines.specs.declared.line.Line.{Line}
use Rattle.dnsv_lines.specs.declared.line.Line.TheVariants as line
use Rattle.dnsv_canonical.specs.declared.number.SignatureNumber.{SignatureNumber}
use Rattle.dnsv_lines.specs.declared.line.place.RrsetPlace.{RrsetPlace}

-- ---- an RRset that holds for a name

-- the signature with the number, and the RRset that it is of
pub record IsSignatureAt (rrsets : List ReceivedRrset) (number : SignatureNumber) (rrset : ReceivedRrset) (rrsig : Rrsig)
    : Type 0 where
  pub is_rrset : IsNumbered rrsets number.rrset rrset
  pub rdata : List ℕ
  pub is_signature : IsNumbered rrset.signatures number.signature rdata
  pub read : IsRrsig rdata rrsig

-- The signature is derived; and where a wildcard is behind it, it is told how the first chain of its signer that does
-- shows that no closer name than the wildcard is there (RFC 4035 5.3.4).
pub data IsSetTold (setting : Setting) (name : Labels) (number : SignatureNumber) (before lines : List Line) : Type 0 where
  as_owned : (rrset : ReceivedRrset) (rrsig : Rrsig) → IsSignatureAt setting.rrsets number rrset rrsig
      → ¬ IsExpanded rrset.owner rrsig → IsSignatureTold setting number before lines
      → IsSetTold setting name number before lines
  by_wildcard : (rrset : ReceivedRrset) (rrsig : Rrsig) (trust : KeptTrust) (shown : ShownDenial)
      → IsSignatureAt setting.rrsets number rrset rrsig → IsExpanded rrset.owner rrsig → IsTrustIn setting trust
      → IsShownNoCloser (SecuredIn trust) setting.rrsets name rrsig.labels rrsig.signer shown
      → IsExpandedTold setting name number shown before lines
      → IsSetTold setting name number before lines

abbrev pub signature_of : ℕ → ℕ → SignatureNumber
signature_of k s = record { rrset = k; signature = s }

abbrev pub IsLinkTold : Setting → Link → List Line → List Line → Type 0
IsLinkTold setting link = IsSetTold setting link.name (signature_of link.rrset link.signature)

-- ---- what holds for a verdict that needs no more answers

-- it is told how the first proof shows that there is no such name
pub record IsNoNameTold (setting : Setting) (name : Labels) (before lines : List Line) : Type 0 where
  pub trust : KeptTrust
  pub good : IsTrustIn setting trust
  pub shown : ShownDenial
  pub is : IsShownNoName (SecuredIn trust) setting.rrsets name shown
  pub told : IsDenialTold setting name shown before lines

-- that the type isn't there
pub record IsNoDataTold (setting : Setting) (name : Labels) (t : ℕ) (before lines : List Line) : Type 0 where
  pub trust : KeptTrust
  pub good : IsTrustIn setting trust
  pub shown : ShownDenial
  pub is : IsShownNoData (SecuredIn trust) setting.rrsets name t shown
  pub told : IsDenialTold setting name shown before lines

-- From which name on the name may be unsigned: as records of the zones above it show, or, where they don't, by the first
-- answer from a wildcard against which Opt-Out may stand. Of that its signature is derived, and how the first chain of
-- its signer that does covers the next closer name (RFC 5155 8.8).
pub data IsUnsignedFromTold (setting : Setting) (name : Labels) (t : ℕ) (before lines : List Line) : Type 0 where
  by_cut : (shown : ShownCut) → IsCutShownBy setting name shown → IsCutTold setting name shown before lines
      → IsUnsignedFromTold setting name t before lines
  by_wildcard : (trust : KeptTrust) → IsTrustIn setting trust
      → ¬ HasUnsignedCut (SecuredIn trust) setting.rrsets name → (k s : ℕ)
      → (first : IsFirstSuch (IsOptOutWildcardSet (SecuredIn trust) setting.rrsets name t) k s) → (shown : ShownDenial)
      → IsShownOptOutCloser (SecuredIn trust) setting.rrsets name first.such.rrsig.labels first.such.rrsig.signer shown
      → IsExpandedTold setting name (signature_of k s) shown before lines
      → IsUnsignedFromTold setting name t before lines

-- what holds for the verdict at the name, which is one of the first five
abbrev pub IsSettledTold : Setting → Labels → ℕ → Verdict → List Line → List Line → Type 0
IsSettledTold setting name t (SecureAnswer k s) = IsSetTold setting name (signature_of k s)
IsSettledTold setting name t (SecureAlias k s) = IsSetTold setting name (signature_of k s)
IsSettledTold setting name t (SecureNoName proof) = IsNoNameTold setting name
IsSettledTold setting name t (SecureNoData proof) = IsNoDataTold setting name t
IsSettledTold setting name t (Insecure cut) = IsUnsignedFromTold setting name t
IsSettledTold setting name t verdict = λ before lines. ⊥

-- ---- what holds for any verdict

-- the word of a verdict that needs no more answers
abbrev pub told_kind : Verdict → Option Kind
told_kind (SecureAnswer k s) = Some kind.SecureAnswer
told_kind (SecureAlias k s) = Some kind.SecureAlias
told_kind (SecureNoName proof) = Some kind.SecureNoName
told_kind (SecureNoData proof) = Some kind.SecureNoData
told_kind (Insecure cut) = Some kind.Insecure
told_kind _ = None

-- what the verdict at the name would be with each of these entries, which the verifier doesn't know, valid; and what
-- holds for that one then
pub record IsHopeTold (explained : Explained) (name : Labels) (t : ℕ) (unknown : List Entry) (before lines : List Line)
    : Type 0 where
  pub verdict : Verdict
  pub is : IsSettledAsBy (basis_in (hoped explained unknown)) name t verdict
  pub kind : Kind
  pub its_kind : told_kind verdict ≡ Some kind
  pub told : AreBoth (λ before lines. lines ≡ line.Hope kind ∷ [])
      (IsSettledTold (setting_in (hoped explained unknown)) name t verdict) before lines

-- Of a verdict that needs no more answers, what holds for it; of one that does, what may be hoped; and where nothing is
-- proved, how far trust holds.
abbrev pub IsVerdictTold : Explained → Labels → ℕ → Verdict → List Line → List Line → Type 0
IsVerdictTold explained name t (Pending unknown) = IsHopeTold explained name t unknown
IsVerdictTold explained name t Bogus = IsHeldTo (setting_in explained) name
IsVerdictTold explained name t Indeterminate = IsHeldTo (setting_in explained) name
IsVerdictTold explained name t verdict = IsSettledTold (setting_in explained) name t verdict

-- nothing is proved
abbrev pub IsUnproved : Verdict → Type 0
IsUnproved Bogus = Unit {0}
IsUnproved Indeterminate = Unit {0}
IsUnproved _ = ⊥

-- ---- the way

-- what holds for each link in order, and then for the verdict at the last name
abbrev pub IsWayTold : Explained → ℕ → List Link → Labels → Verdict → List Line → List Line → Type 0
IsWayTold explained t links last verdict =
    AreBoth (AreEach (IsLinkTold (setting_in explained)) links) (IsVerdictTold explained last t verdict)

-- behind lines that were told: the greatest interval in which the signatures that they show are valid, and where the
-- RRsets stand that they name
pub record IsEnd (rrsets : List ReceivedRrset) (moment : ℕ) (told lines : List Line) : Type 0 where
  pub interval : Interval
  pub holds : IsHoldingOf rrsets told moment interval
  pub places : List RrsetPlace
  pub stand : ArePlacesOf rrsets told places
  pub are : lines ≡ line.Holds interval ∷ map (λ place. line.Rrset place) places

-- of a verdict that needs more answers, or none, the places alone
abbrev pub IsEndTold : Explained → Verdict → List Line → List Line → Type 0
IsEndTold explained (Pending unknown) = ArePlacesTold explained.rrsets
IsEndTold explained Bogus = ArePlacesTold explained.rrsets
IsEndTold explained Indeterminate = ArePlacesTold explained.rrsets
IsEndTold explained verdict = IsEnd explained.rrsets explained.table.moment

-- what holds, and the last lines
abbrev pub IsHoldingTold : Explained → ℕ → List Link → Labels → Verdict → List Line → List Line → Type 0
IsHoldingTold explained t links last verdict =
    AreBoth (IsWayTold explained t links last verdict) (IsEndTold explained verdict)

-- by what each line of it follows from those before: under hope, where that is told
abbrev pub its_setting : Explained → Verdict → Setting
its_setting explained (Pending unknown) = setting_in (hoped explained unknown)
its_setting explained verdict = setting_in explained
