use Rattle.std.proofs.Common.{List, [], ap, subst, sym, take, ◌+◌, ◌++◌, ◌∙◌}
use Rattle.std.proofs.lemmas.List.Filters.{dedup_is}
use Rattle.dnsv_canonical.specs.declared.number.RecordNumber.{RecordNumber}
use Rattle.dnsv_verifier.specs.Asking.{AddsJust, ComesOfSome}
use Rattle.dnsv_verifier.proofs.AskLemmas.{some_all, some_more}
use Rattle.dnsv_gaps.specs.declared.sources.HeldSource.{HeldSource}
use Rattle.dnsv_gaps.proofs.QuestionLemmas.CloserLemmas.{rising_once, same_members}
use Rattle.dnsv_gaps.proofs.QuestionLemmas.SayingLemmas.{SaidBy, adds_saying, all_said}
use Rattle.dnsv_gaps.proofs.question.closers.numbers_of.Goals as goal

pub loop-held-preserved : goal.loop-held-preserved
loop-held-preserved c =
    let question = c.args.question.now in
    let By : HeldSource → RecordNumber → Type 0 = SaidBy question c.args.zone c.args.asked c.args.word in
    let held = c.held-item.result in
    subst (λ (new : List RecordNumber). AddsJust {X = RecordNumber} (ComesOfSome By (take (c.loop-held.held-index + 1) c.args.sources.now)) [] new)
    (sym (c.in_ok-extend_from_slice.ensures.items ∙ ap (λ (said : List RecordNumber). c.loop-held.numbers.items ++ said) c.deref.ensures.value))
    (some_more By c.args.sources.now c.loop-held.held-index held [] c.loop-held.numbers.items _ c.loop-held-test.true c.held-item.is
    c.loop-held.invariant
    (adds_saying question c.args.zone c.args.asked c.args.word c.source-source.result held c.loop-held.numbers.items c.in_ok-said.said.items
    c.source-source.ensures.labels c.source-source.ensures.chain c.in_ok-said.ensures.all))

pub returns-clause-order : goal.returns-clause-order
returns-clause-order c =
    rw (dedup_is _ _ _ c.dedup.ensures.filtered) (rising_once c.sort_unstable.new.self.items c.sort_unstable.ensures.sorted)

pub returns-clause-members : goal.returns-clause-members
returns-clause-members c = λ n.
    let question = c.args.question.now in
    let By : HeldSource → RecordNumber → Type 0 = SaidBy question c.args.zone c.args.asked c.args.word in
    let all = all_said question c.args.zone c.args.asked c.args.word c.args.sources.now c.loop-held.numbers.items
    (some_all By c.args.sources.now c.loop-held.held-index [] c.loop-held.numbers.items c.loop-held-test.false c.loop-held.invariant) n in
    let same = same_members c.loop-held.numbers.items c.sort_unstable.new.self.items c.sort_unstable.ensures.permutation n in
    rw (dedup_is _ _ _ c.dedup.ensures.filtered) (λ there. all.0 (same.0 there), λ is. same.1 (all.1 is))
