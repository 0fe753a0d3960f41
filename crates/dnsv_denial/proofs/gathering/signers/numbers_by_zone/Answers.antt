use Rattle.dnsv_anchors.specs.ByOwner.{values_at}
use Rattle.dnsv_chain.specs.Trust.{SecuredIn}
use Rattle.dnsv_denial.proofs.lemmas.gathering.EvidenceLemmas.{numbered_here}
use Rattle.dnsv_denial.proofs.lemmas.gathering.SignerLemmas.{listed_begin, listed_end, listed_more, listed_pass}
use Rattle.dnsv_denial.proofs.gathering.signers.numbers_by_zone.Goals as goal
use Rattle.dnsv_denial.proofs.gathering.signers.numbers_by_zone.Goals.{then-is_denial_type+in_ok-add_signers, else-is_denial_type}

pub loop-place-init : goal.loop-place-init
loop-place-init c = listed_begin (SecuredIn c.args.trust.now) c.rrsets-rrset-items.result.now (values_at c.new-numbers.result)

pub loop-place-preserved : goal.loop-place-preserved
loop-place-preserved c =
    let numbered = numbered_here c.rrsets-rrset-items.result.now c.loop-place.place c.rrset-item.result c.loop-place-test.true c.rrset-item.is in
    elim c.if-is_denial_type.branch [
      | then-is_denial_type+in_ok-add_signers w ↦ rw w.numbers-is
          (listed_more (SecuredIn c.args.trust.now) c.rrsets-rrset-items.result.now c.loop-place.place c.rrset-item.result (values_at c.loop-place.numbers) (values_at w.add_signers.new.numbers) numbered
          w.in_ok-add_signers.ensures.kept (rw w.signed.ensures at w.in_ok-add_signers.ensures.added) c.loop-place.invariant)
      | else-is_denial_type w ↦ rw w.numbers-is
          (listed_pass (SecuredIn c.args.trust.now) c.rrsets-rrset-items.result.now c.loop-place.place c.rrset-item.result (values_at c.loop-place.numbers) numbered
          (λ denies. let yes = c.is_denial_type.ensures.1 (rw c.rtype.ensures denies) in let isnt = w.if-is_denial_type.false in cc) c.loop-place.invariant)
    ]

pub returns : goal.returns
returns c = rw (← c.rrsets-rrset-items.ensures.value) (listed_end (SecuredIn c.args.trust.now) c.rrsets-rrset-items.result.now c.loop-place.place (values_at c.loop-place.numbers) c.loop-place-test.false c.loop-place.invariant)
