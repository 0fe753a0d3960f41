use Rattle.dnsv_moments.proofs.lemmas.texts.ShownLemmas.{AreShownTo}
use Rattle.dnsv_moments.proofs.texts.shown.shown_each.Given as goal

-- what is shown so far
abbrev pub invariant-loop-border : goal.invariant-loop-border
invariant-loop-border l = AreShownTo l.rrsets l.borders l.border-index l.all.items
