use Rattle.std.proofs.Common.{◌≡◌}
use Rattle.dnsv_derivations.specs.Explained.{setting_in}
use Rattle.dnsv_derivations.proofs.lemmas.derivations.HeldLemmas.{NoneTrusted}
use Rattle.dnsv_derivations.proofs.held.add_first.Given as goal

-- none so far is trusted, and nothing is added
abbrev pub invariant-loop-number : goal.invariant-loop-number
invariant-loop-number l = record {
  none : NoneTrusted (setting_in l.evidence) l.numbers l.number-index;
  same : l.lines.items ≡ l.initial.lines.items;
}
