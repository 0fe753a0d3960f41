use Rattle.dnsv_derivations.proofs.lemmas.intervals.ShownLemmas.{are_valid, holding_shown, shown_by}
use Rattle.dnsv_derivations.proofs.shown.holding_of.Goals as goal

pub holding-requires : goal.holding-requires
holding-requires c =
    are_valid c.args.capture.now.rrsets c.args.lines.now c.deref.result.now
    (shown_by _ _ c.args.lines.now _ _ c.rrsets.ensures.value c.deref.ensures.value c.in_ok-times.ensures) c.args.moment c.requires

pub returns : goal.returns
returns c =
    holding_shown c.args.capture.now.rrsets c.args.lines.now c.deref.result.now
    (shown_by _ _ c.args.lines.now _ _ c.rrsets.ensures.value c.deref.ensures.value c.in_ok-times.ensures) c.args.moment
    c.holding.result c.holding.ensures
