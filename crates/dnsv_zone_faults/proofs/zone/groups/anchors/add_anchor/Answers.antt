use Rattle.std.proofs.Common.{inl, subst}
use Rattle.dnsv_lines.specs.declared.line.fault.zone.EntryNumber.TheVariants as number
use Rattle.dnsv_zone_keys.specs.Vouchers.{AreVoucherFacts, Wanted}
use Rattle.dnsv_zone_faults.proofs.zone.groups.anchors.add_anchor.Goals as goal

pub returns : goal.returns
returns c =
    inl (
      c.is_owner.ensures.0 c.if-not-is_owner.false,
      record {
        known = c.in_ok-voucher_facts.field-0;
        is = λ rrsets zone are.
            subst (λ (wanted : Wanted). AreVoucherFacts rrsets zone (number.Anchor c.args.number) wanted c.in_ok-voucher_facts.field-0) c.asked_by.ensures
            (c.in_ok-voucher_facts.ensures rrsets zone are);
        added = c.in_ok-push.ensures.items;
      },
    )
