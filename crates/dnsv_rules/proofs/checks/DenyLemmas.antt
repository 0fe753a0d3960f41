-- Of the parts of a form that is shown, those that match the name asked or a wildcard deny the type asked.
use Rattle.std.proofs.Common.{◌≡◌, ℕ, List, Option, Some, None, refl}
use Rattle.std.specs.List.{AllByRecursion}
use Rattle.dnsv_names.specs.Name.{Labels, rightmost}
use Rattle.dnsv_names.specs.Tree.{wildcard_of}
use Rattle.dnsv_zones.specs.zones.Types.{Denies}
use Rattle.dnsv_canonical.specs.Rrsets.{ReceivedRrset}
use Rattle.dnsv_canonical.specs.declared.number.RecordNumber.{RecordNumber}
use Rattle.dnsv_proof_forms.specs.forms.ProofForms.{ShowsNoCloser, ShowsNoData, ShowsNoName, form_records}
use Rattle.dnsv_proof_forms.specs.forms.ProofForms.ShowsNoCloser.{no_closer as closer_shown}
use Rattle.dnsv_proof_forms.specs.forms.ProofForms.ShowsNoData.{at_name, empty, at_wildcard, empty_wildcard}
use Rattle.dnsv_proof_forms.specs.forms.ProofForms.ShowsNoName.{no_name as name_shown}
use Rattle.dnsv_proof_forms.specs.forms.ShownUnsigned.{ShowsDelegation, ShowsOptOut, ShowsOptOutCloser}
use Rattle.dnsv_proof_forms.specs.forms.ShownUnsigned.ShowsDelegation.{delegation as delegation_shown}
use Rattle.dnsv_proof_forms.specs.forms.ShownUnsigned.ShowsOptOut.{opt_out as out_shown, wildcard_opt_out as wildcard_out_shown}
use Rattle.dnsv_proof_forms.specs.forms.ShownUnsigned.ShowsOptOutCloser.{opt_out_closer as closer_out_shown}
use Rattle.dnsv_proof_forms.specs.forms.ProofParts.{encloser_part, form_parts, part_name}
use Rattle.dnsv_denial.specs.proving.ShownDenials.{kind_of}
use Rattle.dnsv_denial.specs.gathering.EvidenceWords.{Chain, evidence_said}
use Rattle.dnsv_proof_forms.specs.records.Numbers.{number_cmp}
use Rattle.dnsv_proof_forms.specs.declared.forms.proof_form.ProofForm.{ProofForm}
use Rattle.dnsv_proof_forms.specs.declared.forms.proof_part.ProofPart.{ProofPart}
use Rattle.dnsv_proof_forms.specs.declared.records.chain_kind.ChainKind.{ChainKind}
use Rattle.dnsv_derivations.specs.Denials.{told_relation, told_role}
use Rattle.dnsv_lines.specs.declared.line.Line.{Line}
use Rattle.dnsv_lines.specs.declared.line.denial.Relation.{Relation}
use Rattle.dnsv_lines.specs.declared.line.denial.Relation.TheVariants as relation
use Rattle.dnsv_lines.specs.declared.line.denial.Role.{Role}
use Rattle.dnsv_lines.specs.declared.line.denial.Role.TheVariants as role
use Rattle.dnsv_rules.specs.Checked.{Asked, DeniesIf}
use Rattle.dnsv_rules.specs.Told.{shown_said}
use Rattle.dnsv_rules.proofs.checks.FormLemmas.{Counts, last_counts, types_own}

-- what is asked of the record follows from something else
pub denied_by : (of : Role) (related : Relation) (A B : Type 0) → (A → B) → DeniesIf of related A → DeniesIf of related B
denied_by role.Name relation.Matched A B leads denied = leads denied
denied_by role.Wildcard relation.Matched A B leads denied = leads denied
denied_by of related A B leads denied = tt

-- the record of the part denies the type asked, where it is matched with the name or the wildcard
abbrev pub PartDenies : List ReceivedRrset → Asked → List Line → Labels → Labels → Chain → ProofPart → Type 0
PartDenies rrsets asked lines name zone chain part =
    DeniesIf (told_role part.name) (told_relation part.relation)
    ((number : RecordNumber) × (part.by ≡ Some number)
    × (shown_said rrsets lines zone chain).TypesAt (part_name name part.name) (λ has. Denies has asked.rtype) number)

module _ (S : ℕ → ℕ → Type 0) (rrsets : List ReceivedRrset) (lines : List Line) (zone name : Labels) (asked : Asked) (chain : Chain) where
  abbrev Part_ : ProofPart → Type 0
  Part_ part = PartDenies rrsets asked lines name zone chain part

  abbrev pub All : ProofForm RecordNumber → Type 0
  All shape = AllByRecursion Part_ (form_parts (kind_of chain) shape)

  -- an encloser says nothing of the type
  encloser_denies : (kind : ChainKind) (labels : ℕ) (by : Option RecordNumber) → Part_ (encloser_part kind labels by)
  encloser_denies kind labels None = tt
  encloser_denies kind labels (Some number) = tt

  pub no_name_denies : (apex : Labels) (shape : ProofForm RecordNumber) → ShowsNoName number_cmp (evidence_said S rrsets apex chain) apex name shape
      → All shape
  no_name_denies apex _ (name_shown parts x) = (encloser_denies (kind_of chain) parts.labels parts.encloser, (tt, (tt, tt)))

  pub no_data_denies : (shape : ProofForm RecordNumber) → AllByRecursion (Counts S rrsets lines zone name) (form_records shape)
      → ShowsNoData number_cmp (evidence_said S rrsets zone chain) zone name asked.rtype shape → All shape
  no_data_denies _ counts (at_name number x) =
      ((number, refl, types_own S rrsets lines zone name chain asked.rtype name number counts.0 x.types.says), tt)
  no_data_denies _ counts (empty number x) = (tt, tt)
  no_data_denies _ counts (at_wildcard parts x) =
      let denied = types_own S rrsets lines zone name chain asked.rtype (wildcard_of (rightmost name parts.labels)) parts.wildcard
      (last_counts S rrsets lines zone name parts counts) x.shows.wildcard.says in
      (encloser_denies (kind_of chain) parts.labels parts.encloser, (tt, ((parts.wildcard, refl, denied), tt)))
  no_data_denies _ counts (empty_wildcard parts x) = (encloser_denies (kind_of chain) parts.labels parts.encloser, (tt, (tt, tt)))

  pub delegation_denies : (apex : Labels) (labels : ℕ) (shape : ProofForm RecordNumber)
      → ShowsDelegation number_cmp (evidence_said S rrsets apex chain) apex name labels shape → All shape
  delegation_denies apex labels _ (delegation_shown number x) = (tt, tt)

  pub opt_out_denies : (apex : Labels) (labels : ℕ) (shape : ProofForm RecordNumber)
      → ShowsOptOut number_cmp (evidence_said S rrsets apex chain) apex name labels shape → All shape
  opt_out_denies apex labels _ (out_shown by number x) = (encloser_denies (kind_of chain) labels by, (tt, tt))
  opt_out_denies apex labels _ (wildcard_out_shown parts same x) = (encloser_denies (kind_of chain) parts.labels parts.encloser, (tt, (tt, tt)))

  pub no_closer_denies : (apex : Labels) (labels : ℕ) (shape : ProofForm RecordNumber)
      → ShowsNoCloser number_cmp (evidence_said S rrsets apex chain) apex name labels shape → All shape
  no_closer_denies apex labels _ (closer_shown number x) = (tt, tt)

  pub out_closer_denies : (apex : Labels) (labels : ℕ) (shape : ProofForm RecordNumber)
      → ShowsOptOutCloser number_cmp (evidence_said S rrsets apex chain) apex name labels shape → All shape
  out_closer_denies apex labels _ (closer_out_shown number x) = (tt, tt)
