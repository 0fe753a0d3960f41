use Rattle.std.proofs.Common.{◌≡◌, true, false, sym, ◌∙◌, subst}
use Rattle.dnsv_canonical.specs.Evidence.{IsSmall}
use Rattle.dnsv_canonical.proofs.ListLemmas.{each_at}
use Rattle.dnsv_canonical.proofs.capture.limits.are_small.Goals as goal

pub returns-then-not-branch : goal.returns-then-not-branch
returns-then-not-branch c = (
  λ t. let turned : false ≡ true = t in cc,
  λ small. let turned : true ≡ false =
      sym (c.in_ok-is_small.ensures.1 (subst IsSmall (sym c.rrset-item.is) (each_at IsSmall c.args.rrsets.now c.loop-rrset.rrset-index _ small c.loop-rrset-test.true))) ∙ c.if-not-branch.true in cc,
)
