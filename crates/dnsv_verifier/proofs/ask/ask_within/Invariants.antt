use Rattle.std.proofs.Common.{◌≡◌, ◌≤◌, length, map, take, vec_len}
use Rattle.std.specs.Vec.{vec_capacity}
use Rattle.dnsv_names.specs.Count.{counted}
use Rattle.dnsv_verifier.specs.Numbers.{entry_of}
use Rattle.dnsv_verifier.proofs.ask.ask_within.Given as goal

-- what was said of those so far, and room for the others
abbrev pub invariant-loop-each : goal.invariant-loop-each
invariant-loop-each g l = record {
  said : l.answers.items ≡ map (λ each. g.V.Verifier.meaning l.verifier (entry_of l.parts each)) (take l.each-index l.each-items);
  number : vec_len l.answers ≡ l.each-index;
  ticks : l.count ≡ counted l.initial.count l.each-index;
  room : length l.each-items ≤ vec_capacity l.answers;
}
