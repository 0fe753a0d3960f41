use Rattle.std.proofs.Common.{rules, refl, sym, ap, ◌∙◌, subst, List, map}
use Rattle.std.proofs.lemmas.Fn.{always_returns_same}
use Rattle.std.proofs.lemmas.List.Sorted.{ranks_by}
use Rattle.std.specs.List.{AllByRecursion, enumerate_from}
use Rattle.std.specs.Ordering.{is_lt}
use Rattle.dnsv_faults.specs.Rrsets.{rank_cmp}
use Rattle.dnsv_faults.specs.Rrsets.RrsetSearch.{IsSignatureOf, rank, seen_signature}
use Rattle.dnsv_faults.specs.declared.rrset.NumberedSignature.{NumberedSignature}
use Rattle.dnsv_zone_keys.proofs.lemmas.OnceLemmas.{each_push}
use Rattle.dnsv_faults.proofs.lemmas.OrderLemmas.{all_moved, its_signature, order_more, put_in_order, rank_cmp_total, whole}
use Rattle.dnsv_faults.proofs.rrset.in_order.Goals as goal

pub loop-place-preserved : goal.loop-place-preserved
loop-place-preserved c =
    let signatures = c.signatures-rrsig-items.result.now in
    let i = c.loop-place.place in
    let rrsig = c.rrsig-item.result in (
      ap (map seen_signature) c.in_ok-push.ensures.items
          ∙ order_more seen_signature signatures i rrsig c.loop-place.order.items _ c.loop-place-test.true c.rrsig-item.is refl c.loop-place.invariant.0,
      subst (λ (order : List NumberedSignature). AllByRecursion (IsSignatureOf c.args.rrset.now) order) (sym c.in_ok-push.ensures.items)
          (each_push (IsSignatureOf c.args.rrset.now) c.loop-place.order.items _ c.loop-place.invariant.1
          (its_signature c.args.rrset.now signatures i rrsig c.signatures-rrsig-items.ensures c.loop-place-test.true c.rrsig-item.is)),
    )

pub returns-clause-order : goal.returns-clause-order
returns-clause-order c =
    let signatures = c.signatures-rrsig-items.result.now in
    put_in_order c.args.rrset.now signatures c.loop-place.order.items _ c.signatures-rrsig-items.ensures
    (c.loop-place.invariant.0 ∙ ap (enumerate_from 1) (whole signatures c.loop-place.place c.loop-place-test.false))
    c.sort_unstable_by.ensures.permutation
    (c.sort_unstable_by.ensures.sorted (λ x y. is_lt (rank_cmp (rank x) (rank y))) (ranks_by rank_cmp_total rank)
    (always_returns_same _ _ _ (λ a r f called. search rules)))

pub returns-clause-each : goal.returns-clause-each
returns-clause-each c =
    all_moved (IsSignatureOf c.args.rrset.now) c.loop-place.order.items _ c.sort_unstable_by.ensures.permutation c.loop-place.invariant.1
