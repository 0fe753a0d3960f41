use Rattle.std.proofs.Common.{◌≡◌, ◌+◌, ◌-◌, ◌≤◌, ℕ, List, length, arith, subst, sym, ◌∙◌}
use Rattle.std.proofs.lemmas.Bool.{false≢true}
use Rattle.dnsv_names.specs.Name.{rightmost}
use Rattle.dnsv_chain.specs.Basis.{basis_by}
use Rattle.dnsv_faults.specs.KnownZones.{IsKnownZone}
use Rattle.dnsv_remedies.specs.declared.facts.denial.SpeakerFacts.{SpeakerFacts}
use Rattle.dnsv_gaps.specs.Asking.{asking}
use Rattle.dnsv_gaps.proofs.SpeakerLemmas.{AreFrom, all_from, none_from, one_known, one_unknown}
use Rattle.dnsv_gaps.proofs.speakers.speaker_facts.Goals as goal
use Rattle.dnsv_gaps.proofs.speakers.speaker_facts.Goals.{then-is_known+in_ok-zone_facts+in_ok-push, else-is_known}

pub loop-above-init : goal.loop-above-init
loop-above-init c =
    let a = asking c.args.question.now in
    let n = c.labels-count.result + 1 - 0 in
    subst (λ (speakers : List SpeakerFacts). AreFrom a n speakers) (sym c.new-speakers.ensures.items)
    (none_from a n (omega (arith, c.labels-count.ensures.count)))

pub loop-above-preserved : goal.loop-above-preserved
loop-above-preserved c =
    let a = asking c.args.question.now in
    let name = c.args.question.now.name.now in
    let count = c.labels-count.result in
    let above = c.loop-above.above in
    let n : ℕ = count + 1 - (above + 1) in
    let less = c.loop-above-test.true in
    let asked : count - above ≡ n = omega (arith, less) in
    let within : n ≤ length name = omega (arith, c.labels-count.ensures.count) in
    let more : count + 1 - above ≡ n + 1 = omega (arith, less) in
    let so_far = subst (λ (m : ℕ). AreFrom a m c.loop-above.speakers.items) more c.loop-above.invariant in
    let Known : ℕ → Type 0 = λ m. IsKnownZone (basis_by c.args.question.now.facts.now) name c.args.question.now.rtype.0 (rightmost name m) in
    elim c.if-is_known.branch [
      | then-is_known+in_ok-zone_facts+in_ok-push w ↦ rw w.speakers-is (one_known a n within c.loop-above.speakers.items so_far w.in_ok-zone_facts.field-0 _
          (subst Known asked (c.is_known.ensures.0 w.if-is_known.true)) (w.in_ok-zone_facts.ensures.labels ∙ asked) w.in_ok-zone_facts.ensures.facts
          w.in_ok-push.ensures.items)
      | else-is_known w ↦ rw w.speakers-is (one_unknown a n within c.loop-above.speakers.items so_far
          (λ known. false≢true (sym w.if-is_known.false ∙ c.is_known.ensures.1 (subst Known (sym asked) known))))
    ]

pub returns : goal.returns
returns c =
    all_from (asking c.args.question.now) (c.labels-count.result + 1 - c.loop-above.above) c.loop-above.speakers.items
    (omega (arith, c.loop-above-test.false)) c.loop-above.invariant
