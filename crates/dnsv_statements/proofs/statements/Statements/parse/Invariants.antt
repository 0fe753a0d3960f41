use Rattle.std.proofs.Common.{◌++◌, map}
use Rattle.std.specs.List.Sorted.{IsStrictlySortedBy}
use Rattle.dnsv_names.specs.Lines.{HasLines}
use Rattle.dnsv_verifier.specs.Entry.{entry_cmp}
use Rattle.dnsv_statements.proofs.StatementsLemmas.{SaysSoFar}
use Rattle.dnsv_statements.proofs.statements.Statements.parse.Given as goal

abbrev pub invariant-loop-line : goal.invariant-loop-line
invariant-loop-line l =
    record {
      has : HasLines l.text (l.yielded ++ l.line-iterator);
      says : SaysSoFar l.yielded (l.rising.items ++ l.tree.entries);
      rising : IsStrictlySortedBy entry_cmp (map (λ each. each.0) l.rising.items);
    }
