use Rattle.std.proofs.Common.{◌≡◌, map, take}
use Rattle.std.specs.List.{filter, zip}
use Rattle.dnsv_verifier.specs.Numbers.{is_timely_in}
use Rattle.dnsv_verifier.proofs.table.timely.timely_entries.Given as goal

-- those of the entries so far
abbrev pub invariant-loop-place : goal.invariant-loop-place
invariant-loop-place l = record {
  kept : l.kept.items ≡ map (λ each. each.0) (filter (is_timely_in l.moment l.parts) (take l.place (zip l.numbers l.answers)));
  said : l.said.items ≡ map (λ each. each.1) (filter (is_timely_in l.moment l.parts) (take l.place (zip l.numbers l.answers)));
}
