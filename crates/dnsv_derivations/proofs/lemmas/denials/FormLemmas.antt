-- What is so of a form of proof that a chain of a zone shows.
use Rattle.std.proofs.Common.{◌≡◌, ◌<◌, ◌+◌, ℕ, List, [], ◌∷◌, ◌++◌, Option, Some, None, length, refl, sym, arith}
use Rattle.std.specs.List.{AllByRecursion, Contains}
use Rattle.dnsv_names.specs.Name.{Labels, SameName, rightmost}
use Rattle.dnsv_names.specs.Tree.{wildcard_of}
use Rattle.dnsv_canonical.specs.Rrsets.{ReceivedRrset}
use Rattle.dnsv_proof_forms.specs.forms.ProofForms.{ShowsEncloser, ShowsNoCloser, ShowsNoData, ShowsNoName, ShowsWildcard, form_encloser, form_records, wildcard_records}
use Rattle.dnsv_proof_forms.specs.forms.ProofForms.ShowsNoCloser.{no_closer as closer_shown}
use Rattle.dnsv_proof_forms.specs.forms.ProofForms.ShowsNoData.{at_name, empty, at_wildcard, empty_wildcard}
use Rattle.dnsv_proof_forms.specs.forms.ProofForms.ShowsNoName.{no_name as name_shown}
use Rattle.dnsv_denial.specs.gathering.Evidence.{IsSecuredBy}
use Rattle.dnsv_proof_forms.specs.records.RecordsAt.{listed}
use Rattle.dnsv_proof_forms.specs.forms.ProofParts.{IsPartName, encloser_part, form_parts, part_name, wildcard_parts}
use Rattle.dnsv_denial.specs.proving.ShownDenials.{kind_of}
use Rattle.dnsv_denial.specs.gathering.EvidenceWords.{Chain, evidence_said}
use Rattle.dnsv_proof_forms.specs.records.Numbers.{number_cmp}
use Rattle.dnsv_denial.specs.gathering.EvidenceWords.Chain.{ByNsec, ByNsec3}
use Rattle.dnsv_proof_forms.specs.declared.forms.proof_form.ProofForm.{ProofForm}
use Rattle.dnsv_proof_forms.specs.declared.forms.proof_form.WildcardParts.{WildcardParts}
use Rattle.dnsv_proof_forms.specs.declared.forms.proof_part.PartName.{PartName}
use Rattle.dnsv_proof_forms.specs.declared.forms.proof_part.PartName.TheVariants as part
use Rattle.dnsv_proof_forms.specs.declared.forms.proof_part.PartRelation.{PartRelation}
use Rattle.dnsv_proof_forms.specs.declared.forms.proof_part.PartRelation.TheVariants as related
use Rattle.dnsv_proof_forms.specs.declared.forms.proof_part.ProofPart.{ProofPart}
use Rattle.dnsv_canonical.specs.declared.number.RecordNumber.{RecordNumber}
use Rattle.dnsv_derivations.specs.Denials.{FitsCase, FitsEncloser, told_case, told_relation, told_role}
use Rattle.dnsv_derivations.specs.Following.Parts.{IsWord}
use Rattle.dnsv_lines.specs.declared.line.denial.Relation.TheVariants as relation
use Rattle.dnsv_lines.specs.declared.line.denial.Role.TheVariants as role
use Rattle.dnsv_derivations.proofs.lemmas.denials.PartLemmas.{word_signed}
use Rattle.dnsv_derivations.proofs.lemmas.derivations.WayLemmas.KeysLemmas.{each_at}

pub each_member : {X : Type 0} (P : X → Type 0) (xs : List X) (x : X) → AllByRecursion P xs → Contains xs x → P x
each_member P xs x all there = each_at P xs there.0 x all there.1 (sym there.2)

module _ (S : ℕ → ℕ → Type 0) (rrsets : List ReceivedRrset) (apex name : Labels) where
  -- the part says so, by a record of the zone's chain or of the zone itself
  abbrev pub PartSays : Chain → PartName → PartRelation → Option RecordNumber → Type 0
  PartSays chain of related None = (told_relation related ≡ relation.Apex) × SameName (part_name name of) apex
  PartSays chain of related (Some number) =
      IsWord (evidence_said S rrsets apex chain) (told_role of) (told_relation related) (part_name name of) number

  pub record IsShownPart (chain : Chain) (shown : ProofPart) : Type 0 where
    pub within : IsPartName (length name) shown.name
    pub says : PartSays chain shown.name shown.relation shown.by

  abbrev pub AreShownParts : Chain → List ProofPart → Type 0
  AreShownParts chain parts = AllByRecursion (IsShownPart chain) parts

  abbrev pub IsSigned : RecordNumber → Type 0
  IsSigned number = IsSecuredBy S rrsets apex number.rrset

  -- ---- forms that ask of the wildcard

  pub encloser_says : (chain : Chain) (labels : ℕ) (by : Option RecordNumber) → labels < length name
      → ShowsEncloser number_cmp (evidence_said S rrsets apex chain) (rightmost name labels) by
      → IsShownPart chain (encloser_part (kind_of chain) labels by)
  encloser_says ByNsec labels None below shows = record { within = omega (arith, below); says = (refl, shows) }
  encloser_says ByNsec labels (Some number) below shows = record { within = omega (arith, below); says = shows.1.says }
  encloser_says (ByNsec3 parameters) labels None below shows = absurd shows
  encloser_says (ByNsec3 parameters) labels (Some number) below shows =
      record { within = omega (arith, below); says = shows.1.says }

  pub wildcard_says : (chain : Chain) (Says : Labels → RecordNumber → Type 0) (last : PartRelation) (parts : WildcardParts RecordNumber)
      → ShowsWildcard number_cmp (evidence_said S rrsets apex chain) apex name Says parts
      → ((number : RecordNumber) → Says (wildcard_of (rightmost name parts.labels)) number
      → PartSays chain (part.Wildcard parts.labels) last (Some number))
      → AreShownParts chain (wildcard_parts (kind_of chain) parts last)
  wildcard_says chain Says last parts shows word = (
    encloser_says chain parts.labels parts.encloser shows.above.proper shows.encloser,
    (
      record { within = shows.above.proper; says = shows.next_closer.says },
      (record { within = shows.above.proper; says = word parts.wildcard shows.wildcard.says }, tt),
    ),
  )

  abbrev pub EncloserSigned : Option RecordNumber → Type 0
  EncloserSigned None = Unit {0}
  EncloserSigned (Some number) = IsSigned number

  pub encloser_signed : (chain : Chain) (encloser : Labels) (by : Option RecordNumber)
      → ShowsEncloser number_cmp (evidence_said S rrsets apex chain) encloser by → EncloserSigned by
  encloser_signed chain encloser None shows = tt
  encloser_signed chain encloser (Some number) shows =
      word_signed S rrsets apex number chain role.ClosestEncloser relation.Exists encloser shows.1.says

  all_signed : (by : Option RecordNumber) (next_closer last : RecordNumber) → EncloserSigned by → IsSigned next_closer → IsSigned last
      → AllByRecursion IsSigned ((listed by ++ next_closer ∷ []) ++ last ∷ [])
  all_signed None next_closer last first second third = (second, (third, tt))
  all_signed (Some number) next_closer last first second third = (first, (second, (third, tt)))

  -- ---- what is so of a form that stands

  pub record FormFacts (chain : Chain) (shape : ProofForm RecordNumber) : Type 0 where
    pub parts : AreShownParts chain (form_parts (kind_of chain) shape)
    pub encloser : FitsEncloser name (form_encloser shape)
    pub case : FitsCase name (told_case shape)
    pub records : AllByRecursion IsSigned (form_records shape)

  pub wildcard_records_signed : (chain : Chain) (Says : Labels → RecordNumber → Type 0) (last : PartRelation)
      (parts : WildcardParts RecordNumber) → ShowsWildcard number_cmp (evidence_said S rrsets apex chain) apex name Says parts
      → ((number : RecordNumber) → Says (wildcard_of (rightmost name parts.labels)) number
      → PartSays chain (part.Wildcard parts.labels) last (Some number))
      → AllByRecursion IsSigned (wildcard_records parts)
  wildcard_records_signed chain Says last parts shows word =
      all_signed parts.encloser parts.next_closer parts.wildcard
      (encloser_signed chain (rightmost name parts.labels) parts.encloser shows.encloser)
      (word_signed S rrsets apex parts.next_closer chain role.NextCloser relation.Covered (rightmost name (parts.labels + 1))
      shows.next_closer.says)
      (word_signed S rrsets apex parts.wildcard chain role.Wildcard (told_relation last) (wildcard_of (rightmost name parts.labels))
      (word parts.wildcard shows.wildcard.says))

  pub no_name_facts : (chain : Chain) (shape : ProofForm RecordNumber)
      → ShowsNoName number_cmp (evidence_said S rrsets apex chain) apex name shape → FormFacts chain shape
  no_name_facts chain shape (name_shown parts shows) =
      let below = shows.shows.above.proper in record {
        parts = wildcard_says chain _ related.Covered parts shows.shows (λ number says. says);
        encloser = omega (arith, below);
        case = tt;
        records = wildcard_records_signed chain _ related.Covered parts shows.shows (λ number says. says);
      }

  pub no_data_facts : (chain : Chain) (t : ℕ) (shape : ProofForm RecordNumber)
      → ShowsNoData number_cmp (evidence_said S rrsets apex chain) apex name t shape → FormFacts chain shape
  no_data_facts chain t shape (at_name number shows) = record {
    parts = (record { within = tt; says = (t, shows.types.says) }, tt);
    encloser = tt;
    case = tt;
    records = (word_signed S rrsets apex number chain role.Name relation.Matched name (t, shows.types.says), tt);
  }
  no_data_facts chain t shape (empty number shows) = record {
    parts = (record { within = tt; says = shows.empty.says }, tt);
    encloser = tt;
    case = tt;
    records = (word_signed S rrsets apex number chain role.Name relation.NonTerminal name shows.empty.says, tt);
  }
  no_data_facts chain t shape (at_wildcard parts shows) =
      let below = shows.shows.above.proper in record {
        parts = wildcard_says chain _ related.Matched parts shows.shows (λ number says. (t, says));
        encloser = omega (arith, below);
        case = tt;
        records = wildcard_records_signed chain _ related.Matched parts shows.shows (λ number says. (t, says));
      }
  no_data_facts chain t shape (empty_wildcard parts shows) =
      let below = shows.shows.above.proper in record {
        parts = wildcard_says chain _ related.NonTerminal parts shows.shows (λ number says. says);
        encloser = omega (arith, below);
        case = tt;
        records = wildcard_records_signed chain _ related.NonTerminal parts shows.shows (λ number says. says);
      }

  pub no_closer_facts : (chain : Chain) (labels : ℕ) (shape : ProofForm RecordNumber)
      → ShowsNoCloser number_cmp (evidence_said S rrsets apex chain) apex name labels shape → FormFacts chain shape
  no_closer_facts chain labels shape (closer_shown number shows) =
      let below = shows.above.proper in record {
        parts = (record { within = shows.above.proper; says = shows.next_closer.says }, tt);
        encloser = omega (arith, below);
        case = tt;
        records = (
          word_signed S rrsets apex number chain role.NextCloser relation.Covered (rightmost name (labels + 1)) shows.next_closer.says,
          tt,
        );
      }
