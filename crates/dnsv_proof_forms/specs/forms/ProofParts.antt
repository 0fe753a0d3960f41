-- What each part of a proof says: which record is for what, and how it is related to which name.
use Rattle.std.specs.Prelude.{⊤, ◌+◌, ◌<◌, ◌≤◌, ℕ, List, [], ◌∷◌, Option, Some, None}
use Rattle.dnsv_names.specs.Name.{Labels, rightmost}
use Rattle.dnsv_names.specs.Tree.{wildcard_of}
use Rattle.dnsv_proof_forms.specs.declared.forms.proof_form.ProofForm.{ProofForm}
use Rattle.dnsv_proof_forms.specs.declared.forms.proof_form.ProofForm.TheVariants.{NoName, NoData, EmptyNonTerminal, WildcardNoData, EmptyWildcard}
use Rattle.dnsv_proof_forms.specs.declared.forms.proof_form.ProofForm.TheVariants as form
use Rattle.dnsv_proof_forms.specs.declared.forms.proof_form.WildcardParts.{WildcardParts}
use Rattle.dnsv_proof_forms.specs.declared.forms.proof_part.PartName.{PartName}
use Rattle.dnsv_proof_forms.specs.declared.forms.proof_part.PartName.TheVariants.{ClosestEncloser, NextCloser, Wildcard, Name, Cut}
use Rattle.dnsv_proof_forms.specs.declared.forms.proof_part.PartRelation.{PartRelation}
use Rattle.dnsv_proof_forms.specs.declared.forms.proof_part.PartRelation.TheVariants as relation
use Rattle.dnsv_proof_forms.specs.declared.forms.proof_part.ProofPart.{ProofPart}
use Rattle.dnsv_proof_forms.specs.declared.records.chain_kind.ChainKind.{ChainKind}
use Rattle.dnsv_proof_forms.specs.declared.records.chain_kind.ChainKind.TheVariants.{Nsec, Nsec3}
use Rattle.dnsv_canonical.specs.declared.number.RecordNumber.{RecordNumber}

-- an NSEC record shows a node by its owner or its next name, an NSEC3 record by its hash
abbrev pub encloser_relation : ChainKind → PartRelation
encloser_relation Nsec = relation.Exists
encloser_relation Nsec3 = relation.Matched

-- a record says so of the name
abbrev pub part_by : PartName → PartRelation → RecordNumber → ProofPart
part_by name related number = record { name = name; relation = related; by = Some number }

-- the closest encloser of so many labels, which is the zone itself where no record shows it
abbrev pub encloser_part : ChainKind → ℕ → Option RecordNumber → ProofPart
encloser_part chain labels None = record { name = ClosestEncloser labels; relation = relation.Apex; by = None }
encloser_part chain labels (Some number) = part_by (ClosestEncloser labels) (encloser_relation chain) number

-- the three parts of a form that asks of the wildcard, to which the last record is related so
abbrev pub wildcard_parts : ChainKind → WildcardParts RecordNumber → PartRelation → List ProofPart
wildcard_parts chain parts related =
    encloser_part chain parts.labels parts.encloser
    ∷ part_by (NextCloser parts.labels) relation.Covered parts.next_closer
    ∷ part_by (Wildcard parts.labels) related parts.wildcard ∷ []

-- the closest encloser, and the next closer name that Opt-Out may leave out
abbrev pub opt_out_parts : ChainKind → ℕ → Option RecordNumber → RecordNumber → List ProofPart
opt_out_parts chain labels encloser number =
    encloser_part chain labels encloser ∷ part_by (NextCloser labels) relation.OptOut number ∷ []

-- the parts in the order of the form
abbrev pub form_parts : ChainKind → ProofForm RecordNumber → List ProofPart
form_parts chain (NoName parts) = wildcard_parts chain parts relation.Covered
form_parts chain (NoData number) = part_by Name relation.Matched number ∷ []
form_parts chain (EmptyNonTerminal number) = part_by Name relation.NonTerminal number ∷ []
form_parts chain (WildcardNoData parts) = wildcard_parts chain parts relation.Matched
form_parts chain (EmptyWildcard parts) = wildcard_parts chain parts relation.NonTerminal
form_parts chain (form.NoCloser labels number) = part_by (NextCloser labels) relation.Covered number ∷ []
form_parts chain (form.Delegation labels number) = part_by (Cut labels) relation.Matched number ∷ []
form_parts chain (form.OptOut labels encloser number) = opt_out_parts chain labels encloser number
form_parts chain (form.WildcardOptOut parts) = wildcard_parts chain parts relation.OptOut
form_parts chain (form.OptOutCloser labels number) = part_by (NextCloser labels) relation.OptOut number ∷ []

-- ---- the names

-- the name that a part speaks of
abbrev pub part_name : Labels → PartName → Labels
part_name name (ClosestEncloser labels) = rightmost name labels
part_name name (NextCloser labels) = rightmost name (labels + 1)
part_name name (Wildcard labels) = wildcard_of (rightmost name labels)
part_name name Name = name
part_name name (Cut labels) = rightmost name labels

-- a question with so many labels has that name
abbrev pub IsPartName : ℕ → PartName → Type 0
IsPartName count (ClosestEncloser labels) = labels ≤ count
IsPartName count (NextCloser labels) = labels < count
IsPartName count (Wildcard labels) = labels < count
IsPartName count Name = ⊤
IsPartName count (Cut labels) = labels ≤ count
