use Rattle.std.proofs.Common.{◌≡◌, ◌++◌, length, map}
use Rattle.dnsv_lines.specs.declared.line.Line.TheVariants as line
use Rattle.dnsv_explain.proofs.explanation.end.add_places.Given as goal

-- the lines of the places so far
abbrev pub invariant-loop-place : goal.invariant-loop-place
invariant-loop-place l = record {
  parts : l.yielded ++ l.place-iterator.rest.items ≡ l.fn.places.items;
  size : l.place-iterator.rest.len ≡ length l.place-iterator.rest.items;
  added : l.lines.items ≡ l.initial.lines.items ++ map (λ place. line.Rrset place) l.yielded;
}
