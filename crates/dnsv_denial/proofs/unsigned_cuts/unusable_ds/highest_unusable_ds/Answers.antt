use Rattle.std.proofs.Common.{ℕ, ◌∙◌, List, length, ap, subst}
use Rattle.std.specs.Prelude.{Some, Contains}
use Rattle.dnsv_names.specs.Name.{Labels}
use Rattle.dnsv_chain.specs.Trust.{SecuredIn}
use Rattle.dnsv_chain.specs.UnusableDs.{IsUnusableDs}
use Rattle.dnsv_denial.specs.unsigned_cuts.Findings.{IsLesser}
use Rattle.dnsv_denial.proofs.lemmas.gathering.EvidenceLemmas.{numbered_here}
use Rattle.dnsv_denial.proofs.lemmas.unsigned_cuts.FindingLemmas.{none_here, one_here, all_of_them}
use Rattle.dnsv_denial.proofs.unsigned_cuts.unusable_ds.highest_unusable_ds.Goals as goal
use Rattle.dnsv_denial.proofs.unsigned_cuts.unusable_ds.highest_unusable_ds.Goals.{then-is_unusable_ds, else-is_unusable_ds}

pub loop-place-preserved : goal.loop-place-preserved
loop-place-preserved c =
    let numbered = numbered_here c.rrsets-rrset-items.result.now c.loop-place.place c.rrset-item.result c.loop-place-test.true c.rrset-item.is in
    elim c.if-is_unusable_ds.branch [
      | then-is_unusable_ds w ↦ rw w.fewest-is
          (one_here (SecuredIn c.args.trust.now) c.rrsets-rrset-items.result.now c.args.name.now c.loop-place.place c.rrset-item.result c.loop-place.fewest w.lesser-fewest.result numbered
          (subst (λ (xs : List ℕ). IsUnusableDs (λ s. Contains xs s) c.rrset-item.result c.args.name.now) c.signed.ensures (c.is_unusable_ds.ensures.0 w.if-is_unusable_ds.true))
          (subst (λ (n : ℕ). IsLesser c.loop-place.fewest (Some n) w.lesser-fewest.result) (w.labels.ensures.count ∙ ap (λ (owner : Labels). length owner) w.owner.ensures) w.lesser-fewest.ensures)
          c.loop-place.invariant)
      | else-is_unusable_ds w ↦ rw w.fewest-is
          (none_here (SecuredIn c.args.trust.now) c.rrsets-rrset-items.result.now c.args.name.now c.loop-place.place c.rrset-item.result c.loop-place.fewest numbered
          (subst (λ (xs : List ℕ). ¬ IsUnusableDs (λ s. Contains xs s) c.rrset-item.result c.args.name.now) c.signed.ensures
          (λ is. let holds = c.is_unusable_ds.ensures.1 is in let fails = w.if-is_unusable_ds.false in cc))
          c.loop-place.invariant)
    ]

pub returns : goal.returns
returns c = rw (← c.rrsets-rrset-items.ensures.value)
    (all_of_them (SecuredIn c.args.trust.now) c.rrsets-rrset-items.result.now c.args.name.now c.loop-place.place c.loop-place.fewest c.loop-place-test.false c.loop-place.invariant)
