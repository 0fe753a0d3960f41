use Rattle.std.proofs.Common.{Option, None, [], ◌∷◌, refl, sym, subst, inl, inr, ◌∙◌}
use Rattle.std.proofs.lemmas.Bool.{false≢true}
use Rattle.dnsv_derivations.specs.Denials.{IsFormTold, IsProofOf, IsProofSaid}
use Rattle.dnsv_derivations.specs.Saying.{Adds}
use Rattle.dnsv_lines.specs.declared.line.Line.TheVariants as line
use Rattle.dnsv_lines.specs.declared.line.denial.Form.{Form}
use Rattle.dnsv_derivations.proofs.lemmas.SayingLemmas.{nothing_added}
use Rattle.dnsv_derivations.proofs.denials.proof.add_proof.Goals as goal

pub returns-in_default : goal.returns-in_default
returns-in_default c =
    let lines = c.args.lines.now.items in
    let As : Option Form → Type 0 = λ form. Adds (IsProofOf form c.args.name.now c.args.shown.now) lines lines in
    subst As (sym c.in_default.is ∙ c.told_form.ensures)
    (nothing_added lines (IsProofOf None c.args.name.now c.args.shown.now) refl)

pub returns-then-is_proof_said : goal.returns-then-is_proof_said
returns-then-is_proof_said c =
    let lines = c.args.lines.now.items in
    let As : Option Form → Type 0 = λ form. Adds (IsProofOf form c.args.name.now c.args.shown.now) lines lines in
    let said : IsProofSaid c.proof_line-proof.result lines =
    subst (λ each. IsProofSaid c.proof_line-proof.result each) c.deref.ensures.value (c.is_proof_said.ensures.0 c.if-is_proof_said.true) in
    subst As (sym c.in-Some.is ∙ c.told_form.ensures)
    (nothing_added lines (IsFormTold c.in-Some.form c.args.name.now c.args.shown.now)
    (record { proof = c.proof_line-proof.result; is = c.proof_line-proof.ensures; once = inl (said, refl) }))

pub returns : goal.returns
returns c =
    let lines = c.args.lines.now.items in
    let As : Option Form → Type 0 = λ form. Adds (IsProofOf form c.args.name.now c.args.shown.now) lines c.push.new.self.items in
    subst As (sym c.in-Some.is ∙ c.told_form.ensures)
    (record {
      more = line.Proof c.proof_line-proof.result ∷ [];
      is = c.in_ok-push.ensures.items;
      says = record {
        proof = c.proof_line-proof.result;
        is = c.proof_line-proof.ensures;
        once = inr (
          λ said. false≢true (sym c.if-is_proof_said.false
              ∙ c.is_proof_said.ensures.1 (subst (λ each. IsProofSaid c.proof_line-proof.result each) (sym c.deref.ensures.value) said)),
          refl,
        );
      };
    })
