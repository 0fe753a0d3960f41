use Rattle.std.proofs.Common.{List, ℕ, subst, sym, ◌∙◌}
use Rattle.std.proofs.lemmas.Bool.{false≢true}
use Rattle.dnsv_names.specs.Name.{Labels, rightmost}
use Rattle.dnsv_gaps.specs.Asking.{asking}
use Rattle.dnsv_gaps.specs.Denials.{IsDenialOf}
use Rattle.dnsv_gaps.proofs.DenialLemmas.{AreTo, all_denials, none_more, none_to, one_to}
use Rattle.dnsv_gaps.proofs.denials.denials_of.Goals as goal
use Rattle.dnsv_gaps.proofs.denials.denials_of.Goals.{then-is_denial_of+in_ok-push, else-is_denial_of}

pub loop-place-init : goal.loop-place-init
loop-place-init c =
    let Such = IsDenialOf (asking c.args.question.now) (rightmost c.args.question.now.name.now c.args.labels) in
    let rrsets = c.rrsets-rrset-items.result.now in
    subst (λ (numbers : List ℕ). AreTo Such rrsets 0 numbers) (sym c.new-numbers.ensures.items) (none_to Such rrsets)

pub loop-place-preserved : goal.loop-place-preserved
loop-place-preserved c =
    let a = asking c.args.question.now in
    let zone = rightmost c.args.question.now.name.now c.args.labels in
    let rrsets = c.rrsets-rrset-items.result.now in
    let Of : Labels → Type 0 = λ z. IsDenialOf a z c.rrset-item.result in
    elim c.if-is_denial_of.branch [
      | then-is_denial_of+in_ok-push w ↦ rw w.numbers-is (one_to (IsDenialOf a zone) rrsets c.loop-place.place c.rrset-item.result c.loop-place.numbers.items _
          c.loop-place-test.true c.rrset-item.is (subst Of c.suffix-zone.ensures.labels (c.is_denial_of.ensures.0 w.if-is_denial_of.true))
          w.in_ok-push.ensures.items c.loop-place.invariant)
      | else-is_denial_of w ↦ rw w.numbers-is (none_more (IsDenialOf a zone) rrsets c.loop-place.place c.rrset-item.result c.loop-place.numbers.items
          c.loop-place-test.true c.rrset-item.is
          (λ is. false≢true (sym w.if-is_denial_of.false ∙ c.is_denial_of.ensures.1 (subst Of (sym c.suffix-zone.ensures.labels) is)))
          c.loop-place.invariant)
    ]

pub returns-clause-order : goal.returns-clause-order
returns-clause-order c = c.loop-place.invariant.rising

pub returns-clause-members : goal.returns-clause-members
returns-clause-members c =
    let a = asking c.args.question.now in
    let zone = rightmost c.args.question.now.name.now c.args.labels in
    all_denials a zone c.rrsets-rrset-items.result.now (c.rrsets-rrset-items.ensures.value ∙ c.capture.ensures) c.loop-place.place
    c.loop-place.numbers.items c.loop-place-test.false c.loop-place.invariant
