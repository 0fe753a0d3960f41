use Rattle.std.proofs.Common.{◌≡◌, ◌-◌, ◌≤◌, length, take, drop}
use Rattle.std.specs.List.{AllByRecursion}
use Rattle.std.specs.declared.cmp.Ordering.TheVariants.{Less, Greater}
use Rattle.dnsv_canonical.specs.Index.Grouping.{IsIndexOf, stands}
use Rattle.dnsv_canonical.proofs.capture.index.Index.find.Given as goal

-- what is before `low` is less, what is from `high` on is greater
abbrev pub invariant-loop-low : goal.invariant-loop-low
invariant-loop-low l = record {
  order : l.low ≤ l.high;
  within : l.high ≤ length l.self.starts.items;
  before : (index : IsIndexOf l.rrsets l.self.numbers.items l.self.starts.items) → AllByRecursion (λ first. stands first (l.name, l.rtype.0) ≡ Less) (take l.low index.firsts);
  behind : (index : IsIndexOf l.rrsets l.self.numbers.items l.self.starts.items) → AllByRecursion (λ first. stands first (l.name, l.rtype.0) ≡ Greater) (drop l.high index.firsts);
}

abbrev pub decreases-loop-low : goal.decreases-loop-low
decreases-loop-low l = l.high - l.low
