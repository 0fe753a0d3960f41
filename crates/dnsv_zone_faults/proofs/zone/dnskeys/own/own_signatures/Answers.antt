use Rattle.std.proofs.Common.{List, ap, map, subst, sym, ◌∙◌}
use Rattle.std.specs.List.{AllByRecursion, enumerate_from}
use Rattle.dnsv_zone_faults.specs.Dnskeys.DnskeySearch.{IsOwn, basis_in}
use Rattle.dnsv_zone_faults.specs.declared.zone.dnskeys.tagged.OwnSignature.{OwnSignature}
use Rattle.dnsv_zone_keys.proofs.lemmas.OnceLemmas.{each_push}
use Rattle.dnsv_faults.proofs.lemmas.OrderLemmas.{its_signature, order_more, whole}
use Rattle.dnsv_zone_faults.proofs.lemmas.zones.OwnLemmas.{own_are, seen_own}
use Rattle.dnsv_zone_faults.proofs.zone.dnskeys.own.own_signatures.Goals as goal

pub own_signature-requires-clause-its : goal.own_signature-requires-clause-its
own_signature-requires-clause-its c =
    its_signature c.args.rrset.now c.signatures-rrsig-items.result.now c.loop-place.place c.rrsig-item.result c.signatures-rrsig-items.ensures
    c.loop-place-test.true c.rrsig-item.is

pub loop-place-preserved : goal.loop-place-preserved
loop-place-preserved c =
    let Own : OwnSignature → Type 0 = IsOwn (basis_in c.args.keyed.now) c.args.rrset.now c.args.keys.now in
    let found = c.in_ok-own_signature.ensures in (
      ap (map seen_own) c.in_ok-push.ensures.items
          ∙ order_more seen_own c.signatures-rrsig-items.result.now c.loop-place.place c.rrsig-item.result c.loop-place.own.items _
          c.loop-place-test.true c.rrsig-item.is (λ i. (found.number i, found.is i)) c.loop-place.invariant.0,
      subst (λ (own : List OwnSignature). AllByRecursion Own own) (sym c.in_ok-push.ensures.items)
          (each_push Own c.loop-place.own.items _ c.loop-place.invariant.1 found.own),
    )

pub returns : goal.returns
returns c =
    let signatures = c.signatures-rrsig-items.result.now in
    own_are (basis_in c.args.keyed.now) c.args.rrset.now c.args.keys.now signatures c.loop-place.own.items c.of.result c.signatures-rrsig-items.ensures
    (c.loop-place.invariant.0 ∙ ap (enumerate_from 1) (whole signatures c.loop-place.place c.loop-place-test.false)) c.loop-place.invariant.1 c.of.ensures
