-- What part lines tell of a proof, and lines of the signatures of its records.
use Rattle.std.proofs.Common.{◌≡◌, ◌∙◌, ℕ, List, [], ◌∷◌, ◌++◌, Option, Some, None, refl, sym, ap, subst, append_assoc, ⊎_elim}
use Rattle.std.proofs.lemmas.List.Elements.{Contains-append_cases, Contains-append_left, Contains-append_right, Contains-push}
use Rattle.std.specs.List.{AllByRecursion, Contains}
use Rattle.dnsv_names.specs.Name.{Labels, lower_case}
use Rattle.dnsv_canonical.specs.Rrsets.{ReceivedRrset}
use Rattle.dnsv_canonical.specs.declared.number.RecordNumber.{RecordNumber}
use Rattle.dnsv_denial.specs.gathering.Evidence.{IsSecuredBy}
use Rattle.dnsv_proof_forms.specs.forms.ProofParts.{part_name}
use Rattle.dnsv_proof_forms.specs.declared.forms.proof_part.ProofPart.{ProofPart}
use Rattle.dnsv_derivations.specs.Denials.{IsPartSaid, IsPartTold, IsTellingOf, number_told, told_relation}
use Rattle.dnsv_derivations.specs.Explained.{Setting}
use Rattle.dnsv_derivations.specs.Saying.{AreEach}
use Rattle.dnsv_derivations.specs.derivations.OwnDerivations.{AreRecordsDerived}
use Rattle.dnsv_derivations.proofs.lemmas.denials.FollowLemmas.{OwnSaid, records_said}
use Rattle.dnsv_derivations.proofs.lemmas.denials.FormLemmas.{each_member}
use Rattle.dnsv_derivations.proofs.lemmas.denials.PartLemmas.{secured_too}
use Rattle.dnsv_lines.specs.declared.line.Line.{Line}
use Rattle.dnsv_lines.specs.declared.line.Line.TheVariants as line
use Rattle.dnsv_lines.specs.declared.line.denial.RecordPlace.{RecordPlace}
use Rattle.dnsv_lines.specs.declared.line.denial.Relation.{Relation}
use Rattle.dnsv_rules.specs.Told.{IsShownGood, IsTold}

-- ---- lines among others

-- each of the few lines is among the many
abbrev pub AreWithin : List Line → List Line → Type 0
AreWithin few many = (each : Line) → Contains few each → Contains many each

pub within_front : (before first second many : List Line) → AreWithin (before ++ (first ++ second)) many → AreWithin (before ++ first) many
within_front before first second many within each there =
    ⊎_elim
    (λ (early : Contains before each). within each (Contains-append_left before (first ++ second) each early))
    (λ (here : Contains first each).
    within each (Contains-append_right before (first ++ second) each (Contains-append_left first second each here)))
    (Contains-append_cases before first each there)

pub within_back : (before first second many : List Line) → AreWithin (before ++ (first ++ second)) many
    → AreWithin ((before ++ first) ++ second) many
within_back before first second many within =
    let Lines : List Line → Type 0 = λ all. AreWithin all many in subst Lines (sym (append_assoc before first second)) within

pub told_within : (few many : List Line) (related : Relation) (name : Labels) (by : Option RecordNumber) → AreWithin few many
    → IsTold few related name by → IsTold many related name by
told_within few many related name by within told = record {
  part = told.part;
  among = within (line.Part told.part) told.among;
  is_relation = told.is_relation;
  is_name = told.is_name;
  is_by = told.is_by;
}

-- a signature of the zone over the RRset is shown to be good
abbrev pub IsOwn : List ReceivedRrset → List Line → Labels → ℕ → Type 0
IsOwn rrsets lines zone k = IsSecuredBy (IsShownGood lines) rrsets zone k

own_within : (rrsets : List ReceivedRrset) (few many : List Line) (zone : Labels) (k : ℕ) → AreWithin few many → IsOwn rrsets few zone k
    → IsOwn rrsets many zone k
own_within rrsets few many zone k within own =
    secured_too (IsShownGood few) (IsShownGood many) rrsets zone k
    (λ s good. record { signed = good.signed; among = within (line.Signed good.signed) good.among; is = good.is }) own

-- ---- parts

-- a line tells the part of a proof for the name
abbrev pub IsPartTellable : List Line → Labels → ProofPart → Type 0
IsPartTellable lines name part = IsTold lines (told_relation part.relation) (part_name name part.name) part.by

pub number_of : (rrsets : List ReceivedRrset) (by : Option RecordNumber) (told : Option RecordPlace) → IsTellingOf rrsets by told → number_told told ≡ by
number_of rrsets None None telling = refl
number_of rrsets None (Some place) telling = absurd telling
number_of rrsets (Some number) None telling = absurd telling
number_of rrsets (Some number) (Some place) telling = ap (λ (each : RecordNumber). Some each) telling.0

module _ (rrsets : List ReceivedRrset) (name : Labels) where
  part_told : (part : ProofPart) (before lines : List Line) → IsPartTold rrsets name part before lines
      → IsPartTellable (before ++ lines) name part
  part_told part before lines told =
      let its_number : number_told told.part.by ≡ part.by = number_of rrsets part.by told.part.by told.is.by in
      ⊎_elim
      (λ (once : IsPartSaid told.part before × (lines ≡ [])).
      let said = once.0 in
      let by_said : IsPartTellable (before ++ lines) name part = record {
        part = said.said;
        among = Contains-append_left before lines (line.Part said.said) said.among;
        is_relation = said.same.relation ∙ told.is.relation;
        is_name = said.same.name ∙ ap lower_case told.is.name;
        is_by = said.same.by ∙ its_number;
      } in by_said)
      (λ (once : (¬ IsPartSaid told.part before) × (lines ≡ line.Part told.part ∷ [])).
      let There : List Line → Type 0 = λ more. Contains (before ++ more) (line.Part told.part) in
      let by_line : IsPartTellable (before ++ lines) name part = record {
        part = told.part;
        among = subst There (sym once.1) (Contains-push before (line.Part told.part));
        is_relation = told.is.relation;
        is_name = ap lower_case told.is.name;
        is_by = its_number;
      } in by_line)
      told.once

  -- each part that is told
  pub parts_told : (all : List Line) (parts : List ProofPart) (before lines : List Line) → AreEach (IsPartTold rrsets name) parts before lines
      → AreWithin (before ++ lines) all → AllByRecursion (IsPartTellable all name) parts
  parts_told all [] before lines each within = tt
  parts_told all (part ∷ parts) before lines each within =
      let Lines : List Line → Type 0 = λ more. AreWithin (before ++ more) all in
      let parted : AreWithin (before ++ (each.first ++ each.second)) all = subst Lines each.parts within in (
        told_within (before ++ each.first) all (told_relation part.relation) (part_name name part.name) part.by
            (within_front before each.first each.second all parted) (part_told part before each.first each.says_first),
        parts_told all parts (before ++ each.first) each.second each.says_second
            (within_back before each.first each.second all parted),
      )

-- ---- records

-- of each record that is derived a signature is shown to be good
pub records_own : (setting : Setting) (zone : Labels) (records : List RecordNumber) (before lines all : List Line)
    → AreRecordsDerived setting zone records before lines → AreWithin (before ++ lines) all → (number : RecordNumber)
    → Contains records number → IsOwn setting.rrsets all zone number.rrset
records_own setting zone records before lines all derived within number there =
    own_within setting.rrsets (before ++ lines) all zone number.rrset within
    (each_member (λ (one : RecordNumber). OwnSaid setting zone (before ++ lines) one.rrset) records number
    (records_said setting zone records before lines derived) there)
