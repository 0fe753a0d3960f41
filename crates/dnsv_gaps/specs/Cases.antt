-- What a source of a zone says of a question: the first case that is so (RFC 4035 5.4, RFC 5155 8.3 to 8.7, RFC 6840 4.1).
use Rattle.std.specs.Prelude.{⊤, ◌≡◌, ◌≢◌, ◌⊎◌, ◌↔◌, ◌+◌, ◌<◌, ℕ, IsTrue, List, [], ◌∷◌, Option, Some, None, Contains, length}
use Rattle.std.specs.List.{AllZip}
use Rattle.std.specs.List.Sorted.{IsStrictlySortedBy}
use Rattle.std.specs.declared.cmp.Ordering.TheVariants.{Less}
use Rattle.dnsv_names.specs.Name.{Labels, SameName, IsAtOrBelow, rightmost}
use Rattle.dnsv_names.specs.Order.{IsBelow}
use Rattle.dnsv_names.specs.Tree.{wildcard_of}
use Rattle.dnsv_names.specs.declared.number.RecordType.{RecordType}
use Rattle.dnsv_zones.specs.forms.RecordWords.{RecordWords}
use Rattle.dnsv_zones.specs.zones.TypeNumbers.{cname, dname, ds, soa}
use Rattle.dnsv_zones.specs.zones.Types.{Denies, IsClosed}
use Rattle.dnsv_canonical.specs.declared.number.RecordNumber.{RecordNumber}
use Rattle.dnsv_proof_forms.specs.records.Numbers.{number_cmp}
use Rattle.dnsv_lines.specs.declared.line.fault.denial.WhySource.{WhySource}
use Rattle.dnsv_lines.specs.declared.line.fault.denial.WhySource.TheVariants as why
use Rattle.dnsv_chain.specs.Basis.{Basis}
use Rattle.dnsv_remedies.specs.declared.facts.denial.ClosedFacts.{ClosedFacts}
use Rattle.dnsv_remedies.specs.declared.facts.denial.EncloserFacts.{EncloserFacts}
use Rattle.dnsv_remedies.specs.declared.facts.denial.RecordsAt.{RecordsAt}
use Rattle.dnsv_remedies.specs.declared.facts.denial.RecordsAt.TheVariants as records
use Rattle.dnsv_remedies.specs.declared.facts.denial.SourceCase.{SourceCase}
use Rattle.dnsv_remedies.specs.declared.facts.denial.SourceCase.TheVariants as case
use Rattle.dnsv_remedies.specs.declared.facts.denial.WildcardFacts.{WildcardFacts}
use Rattle.dnsv_remedies.specs.declared.facts.denial.WildcardFacts.TheVariants as wildcard
use Rattle.dnsv_mending.specs.declared.facts.signature.RrsetFacts.{RrsetFacts}
use Rattle.dnsv_gaps.specs.Parts.{AreFactsOf}

-- ---- words: `said` is what the records of the source say

-- the record is at the name: its owner or its hash is the name's
abbrev pub IsAt : RecordWords RecordNumber → Labels → RecordNumber → Type 0
IsAt said name = said.TypesAt name (λ has. ⊤)

-- it says that nothing is at the name: that it isn't there, or that it is an empty non-terminal
abbrev pub IsRuledOut : RecordWords RecordNumber → Labels → RecordNumber → Type 0
IsRuledOut said name number = said.Absent name number ⊎ said.OptedOut name number ⊎ said.EmptyNonTerminal name number

-- some record is such
abbrev pub HasOne : (RecordNumber → Type 0) → Type 0
HasOne Such = (number : RecordNumber) × Such number

abbrev pub HasNone : (RecordNumber → Type 0) → Type 0
HasNone Such = (number : RecordNumber) → ¬ Such number

-- a record shows the name to be there, or none needs to
abbrev pub IsShown : RecordWords RecordNumber → Labels → Type 0
IsShown said name = said.NeedsNone name ⊎ HasOne (said.Encloser name)

-- ---- records at a name

-- the first type of these that is held: what is asked, or CNAME; where DS is asked, SOA
pub data IsHeld (has : ℕ → Type 0) (t : ℕ) : Option RecordType → Type 0 where
  asked : has t → IsHeld has t (Some (record { 0 = t }))
  alias : ¬ has t → has cname → IsHeld has t (Some (record { 0 = cname }))
  apex : ¬ has t → ¬ has cname → t ≡ ds → has soa → IsHeld has t (Some (record { 0 = soa }))
  none : ¬ has t → ¬ has cname → (t ≡ ds → ¬ has soa) → IsHeld has t None

-- what is in the way in the record: that type, or that it is one of a delegation
abbrev pub why_held : RecordNumber → Option RecordType → WhySource
why_held number (Some rtype) = why.TypeHeld number rtype
why_held number None = why.Delegation number

-- so of the record at the name
pub record IsHeldAt (said : RecordWords RecordNumber) (name : Labels) (t : ℕ) (number : RecordNumber) (told : WhySource)
    : Type 0 where
  pub held : Option RecordType
  pub is_held : said.TypesAt name (λ has. IsHeld has t held) number
  pub is_told : told ≡ why_held number held

-- all records at the name, by their numbers
pub record AreAt (said : RecordWords RecordNumber) (name : Labels) (numbers : List RecordNumber) : Type 0 where
  pub rising : IsStrictlySortedBy number_cmp numbers
  pub members : (number : RecordNumber) → Contains numbers number ↔ IsAt said name number

-- what is in the way in each of them
pub record AreHeld (said : RecordWords RecordNumber) (name : Labels) (t : ℕ) (told : List WhySource) : Type 0 where
  pub numbers : List RecordNumber
  pub are_at : AreAt said name numbers
  pub each : AllZip (IsHeldAt said name t) numbers told

abbrev pub IsDenying : RecordWords RecordNumber → Labels → ℕ → RecordNumber → Type 0
IsDenying said name t = said.TypesAt name (λ has. Denies has t)

-- what records at the name say of the type: some deny it, or none does
abbrev pub AreRecordsAt : Basis → RecordWords RecordNumber → Labels → ℕ → RecordsAt → Type 0
AreRecordsAt basis said name t (records.Denying rrsets) =
    HasOne (IsDenying said name t) × AreFactsOf basis (IsDenying said name t) rrsets.items
AreRecordsAt basis said name t (records.Holding facts) =
    HasNone (IsDenying said name t) × AreFactsOf basis (IsAt said name) facts.rrsets.items × AreHeld said name t facts.held.items

-- ---- the cases

-- a closed record is at the name's so many labels, strictly below the zone and above the name
pub record IsClosedAbove (said : RecordWords RecordNumber) (zone name : Labels) (labels : ℕ) : Type 0 where
  pub above : labels < length name
  pub below : IsBelow (rightmost name labels) zone
  pub closed : HasOne (said.TypesAt (rightmost name labels) IsClosed)

abbrev pub HasNoneClosed : RecordWords RecordNumber → Labels → Labels → Type 0
HasNoneClosed said zone name = (labels : ℕ) → ¬ IsClosedAbove said zone name labels

-- at the shortest such name the record of lowest number
pub record IsFirstClosed (said : RecordWords RecordNumber) (zone name : Labels) (labels : ℕ) (number : RecordNumber) : Type 0 where
  pub closed : IsClosedAbove said zone name labels
  pub fewest : (fewer : ℕ) → fewer < labels → ¬ IsClosedAbove said zone name fewer
  pub is : said.TypesAt (rightmost name labels) IsClosed number
  pub lowest : (other : RecordNumber) → said.TypesAt (rightmost name labels) IsClosed other → number_cmp other number ≢ Less

pub record AreClosedFacts (basis : Basis) (said : RecordWords RecordNumber) (zone name : Labels) (facts : ClosedFacts) : Type 0 where
  pub first : IsFirstClosed said zone name facts.name facts.number
  pub by_dname : IsTrue facts.is_dname ↔ said.TypesAt (rightmost name facts.name) (λ has. has dname) facts.number
  pub rrset : AreFactsOf basis (λ number. number ≡ facts.number) (facts.rrset ∷ [])

-- the longest proper ancestor of the name in the zone that is shown to be there
pub record IsLongestShown (said : RecordWords RecordNumber) (zone name : Labels) (labels : ℕ) : Type 0 where
  pub above : labels < length name
  pub within : IsAtOrBelow (rightmost name labels) zone
  pub shown : IsShown said (rightmost name labels)
  pub most : (more : ℕ) → labels < more → more < length name → ¬ IsShown said (rightmost name more)

-- no proper ancestor in the zone is
abbrev pub HasNoneShown : RecordWords RecordNumber → Labels → Labels → Type 0
HasNoneShown said zone name =
    (labels : ℕ) → labels < length name → IsAtOrBelow (rightmost name labels) zone → ¬ IsShown said (rightmost name labels)

-- what shows it: none, where none needs to
pub data AreShowing (basis : Basis) (said : RecordWords RecordNumber) (name : Labels) : List RrsetFacts → Type 0 where
  needless : said.NeedsNone name → AreShowing basis said name []
  by_records : {facts : List RrsetFacts} → ¬ said.NeedsNone name → AreFactsOf basis (said.Encloser name) facts
      → AreShowing basis said name facts

-- the record covers the name without the Opt-Out flag, or where none does, with it
abbrev pub IsBestCover : RecordWords RecordNumber → Labels → RecordNumber → Type 0
IsBestCover said name number = said.Absent name number ⊎ (HasNone (said.Absent name) × said.OptedOut name number)

-- records with the Opt-Out flag alone cover the name
abbrev pub IsOptedOut : RecordWords RecordNumber → Labels → Type 0
IsOptedOut said name = HasOne (said.OptedOut name) × HasNone (said.Absent name)

-- what is said of the wildcard: nothing is asked where records with the Opt-Out flag alone cover the next closer name
abbrev pub AreWildcardFacts : Basis → RecordWords RecordNumber → Labels → Labels → ℕ → WildcardFacts → Type 0
AreWildcardFacts basis said next below t wildcard.OptedOut = IsOptedOut said next
AreWildcardFacts basis said next below t (wildcard.At found) =
    (¬ IsOptedOut said next) × HasOne (IsAt said below) × AreRecordsAt basis said below t found
AreWildcardFacts basis said next below t (wildcard.Covered rrsets) =
    (¬ IsOptedOut said next) × HasNone (IsAt said below) × AreFactsOf basis (IsRuledOut said below) rrsets.items

pub record AreEncloserFacts (basis : Basis) (said : RecordWords RecordNumber) (zone name : Labels) (t : ℕ)
    (facts : EncloserFacts) : Type 0 where
  pub longest : IsLongestShown said zone name facts.name
  pub next : facts.next ≡ facts.name + 1
  pub shown : AreShowing basis said (rightmost name facts.name) facts.shown.items
  pub covers : AreFactsOf basis (IsBestCover said (rightmost name facts.next)) facts.covers.items
  pub wildcard : AreWildcardFacts basis said (rightmost name facts.next) (wildcard_of (rightmost name facts.name)) t facts.wildcard

-- none of the first cases is so, up to an empty non-terminal
pub record IsNotThere (said : RecordWords RecordNumber) (zone name : Labels) : Type 0 where
  pub open_above : HasNoneClosed said zone name
  pub unmatched : HasNone (IsAt said name)
  pub below : ¬ SameName name zone
  pub not_empty : HasNone (said.EmptyNonTerminal name)

-- the first case that is so
abbrev pub IsSourceCase : Basis → RecordWords RecordNumber → Labels → Labels → ℕ → SourceCase → Type 0
IsSourceCase basis said zone name t (case.Closed facts) = AreClosedFacts basis said zone name facts
IsSourceCase basis said zone name t (case.At found) =
    HasNoneClosed said zone name × HasOne (IsAt said name) × AreRecordsAt basis said name t found
IsSourceCase basis said zone name t case.Apex = HasNoneClosed said zone name × HasNone (IsAt said name) × SameName name zone
IsSourceCase basis said zone name t (case.NonTerminal rrsets) =
    HasNoneClosed said zone name × HasNone (IsAt said name) × (¬ SameName name zone)
    × HasOne (said.EmptyNonTerminal name) × AreFactsOf basis (said.EmptyNonTerminal name) rrsets.items
IsSourceCase basis said zone name t case.NoEncloser = IsNotThere said zone name × HasNoneShown said zone name
IsSourceCase basis said zone name t (case.Encloser facts) =
    IsNotThere said zone name × AreEncloserFacts basis said zone name t facts
