use Rattle.std.proofs.Common.{Option, Some, None, refl, sym, subst, ◌∙◌}
use Rattle.dnsv_names.specs.Name.{Labels}
use Rattle.dnsv_proof_forms.specs.declared.forms.proof_part.PartName.{PartName}
use Rattle.dnsv_derivations.specs.Denials.{FitsCase, IsCaseFor}
use Rattle.dnsv_derivations.specs.Saying.{Adds}
use Rattle.dnsv_derivations.specs.unsigned_cuts.UnsignedCuts.{IsCaseTold}
use Rattle.dnsv_lines.specs.declared.line.cut.InsecureCase.{InsecureCase}
use Rattle.dnsv_derivations.proofs.lemmas.SayingLemmas.{nothing_added}
use Rattle.dnsv_derivations.proofs.denials.case.add_case_for.Goals as goal

pub returns-in_default : goal.returns-in_default
returns-in_default c =
    let lines = c.args.lines.now.items in
    let name = c.args.name.now in
    let zone = c.args.shown.now.proof.zone in
    let For : Option (InsecureCase × PartName) → Type 0 = λ which. Adds (IsCaseFor which name zone) lines lines in
    subst For (sym c.in_default.is ∙ c.told_case.ensures) (nothing_added lines (IsCaseFor None name zone) refl)

pub returns : goal.returns
returns c =
    let lines = c.args.lines.now.items in
    let name = c.args.name.now in
    let told = c.add_case.new.lines.items in
    let which = c.in-Some.which in
    let is = sym c.in-Some.is ∙ c.told_case.ensures in
    let Fits : Option (InsecureCase × PartName) → Type 0 = λ each. FitsCase name each in
    let For : Option (InsecureCase × PartName) → Type 0 = λ each. Adds (IsCaseFor each name c.args.shown.now.proof.zone) lines told in
    let At : Labels → Type 0 = λ each. Adds (IsCaseTold which.0 each (Some c.args.shown.now.proof.zone)) lines told in
    let By : Labels → Type 0 = λ each. Adds (IsCaseTold which.0 c.of-at.result (Some each)) lines told in
    subst For is (subst At (c.of-at.ensures.value (subst Fits (sym is) c.requires))
    (subst By (c.in_ok-clone.ensures.cases ∙ c.zone-zone.ensures) c.in_ok-add_case.ensures))
