use Rattle.dnsv_derivations.specs.Explained.{setting_in}
use Rattle.dnsv_derivations.proofs.lemmas.intervals.MomentLemmas.{all_shown_valid}
use Rattle.dnsv_explain.proofs.lemmas.telling.ExplanationLemmas.{end_added, valid_there}
use Rattle.dnsv_explain.proofs.explanation.end.add_end.Goals as goal

pub holding_of-requires : goal.holding_of-requires
holding_of-requires c =
    valid_there c.args.evidence.now.rrsets c.capture.result.now.rrsets c.args.lines.now.items c.deref.result.now
    c.args.evidence.now.table.moment c.moment.result c.capture.ensures c.deref.ensures.value c.moment.ensures
    (all_shown_valid (setting_in c.args.evidence.now) c.args.lines.now.items c.requires)

pub returns : goal.returns
returns c =
    end_added c.args.evidence.now.rrsets c.capture.result.now.rrsets c.capture-2.result.now.rrsets
    c.args.evidence.now.table.moment c.moment.result c.args.lines.now.items c.deref.result.now c.deref-2.result.now _ _
    c.in_ok-interval.interval c.in_ok-places.places.items c.capture.ensures c.capture-2.ensures c.moment.ensures
    c.deref.ensures.value c.deref-2.ensures.value c.in_ok-interval.ensures c.in_ok-places.ensures c.in_ok-push.ensures.items
    c.in_ok-add_places.ensures
