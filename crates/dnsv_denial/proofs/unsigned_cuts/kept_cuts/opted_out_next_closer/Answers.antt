use Rattle.dnsv_chain.specs.Trust.{SecuredIn}
use Rattle.dnsv_denial.proofs.lemmas.unsigned_cuts.OptOutNextCloserLemmas.{kept_at, kept_of_opt_out, opt_out_of_kept, opt_out_within}
use Rattle.dnsv_denial.proofs.unsigned_cuts.kept_cuts.opted_out_next_closer.Goals as goal

pub returns-then-not-is_at_or_below : goal.returns-then-not-is_at_or_below
returns-then-not-is_at_or_below c = λ trust rrsets view has.
    let holds = c.is_at_or_below.ensures.at_or_below.1 (opt_out_within (SecuredIn trust) rrsets c.args.name.now c.args.labels c.args.zone.now has) in
    let fails = c.if-not-is_at_or_below.true in cc

pub returns-then-not-zone_opts_out_next_closer : goal.returns-then-not-zone_opts_out_next_closer
returns-then-not-zone_opts_out_next_closer c = λ trust rrsets view has.
    let below = c.is_at_or_below.ensures.at_or_below.0 c.if-not-is_at_or_below.false in
    let kept = kept_at (SecuredIn trust) rrsets c.args.name.now c.args.zone.now c.args.zones.now c.labels.result c.index-zones-labels.result view.are_zones below c.labels.ensures.count c.index-zones-labels.is in
    let holds = (c.zone_opts_out_next_closer.ensures trust rrsets kept.1 (view.are_sets trust)).1
    (kept_of_opt_out (SecuredIn trust) rrsets c.args.name.now c.args.labels c.args.zone.now c.index-zones-labels.result.zone kept.0 below has) in
    let fails = c.if-not-zone_opts_out_next_closer.true in cc

pub returns : goal.returns
returns c = λ trust rrsets view.
    let below = c.is_at_or_below.ensures.at_or_below.0 c.if-not-is_at_or_below.false in
    let kept = kept_at (SecuredIn trust) rrsets c.args.name.now c.args.zone.now c.args.zones.now c.labels.result c.index-zones-labels.result view.are_zones below c.labels.ensures.count c.index-zones-labels.is in
    let opted_out = (c.zone_opts_out_next_closer.ensures trust rrsets kept.1 (view.are_sets trust)).0 c.if-not-zone_opts_out_next_closer.false in (
      opt_out_of_kept (SecuredIn trust) rrsets c.args.name.now c.args.labels c.args.zone.now c.index-zones-labels.result.zone kept.0 below opted_out,
      c.next_closer.ensures.value opted_out.above.proper,
    )
