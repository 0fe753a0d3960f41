use Rattle.std.proofs.lemmas.List.{drop_all, drop_more}
use Rattle.dnsv_moments.proofs.lemmas.texts.ShownLemmas.{shown_all, shown_more}
use Rattle.dnsv_moments.proofs.texts.shown.shown_each.Goals as goal

pub loop-border-preserved : goal.loop-border-preserved
loop-border-preserved c =
    shown_more c.args.rrsets.now c.args.borders.now c.loop-border.border-index _ c.loop-border.all.items c.push_shown.new.all.items
    (drop_more c.args.borders.now c.loop-border.border-index _ c.loop-border-test.true) c.loop-border.invariant c.in_ok-push_shown.ensures

pub returns : goal.returns
returns c =
    shown_all c.args.rrsets.now c.args.borders.now c.loop-border.border-index c.loop-border.all.items
    (drop_all c.loop-border.border-index c.args.borders.now c.loop-border-test.false) c.loop-border.invariant
