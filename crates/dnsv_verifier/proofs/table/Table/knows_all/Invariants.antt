use Rattle.std.proofs.Common.{◌≡◌, [], take}
use Rattle.std.specs.List.{filter}
use Rattle.dnsv_verifier.specs.Table.{is_unknown}
use Rattle.dnsv_verifier.proofs.table.Table.knows_all.Given as goal

-- none of the answers so far is Unknown
abbrev pub invariant-loop-answer : goal.invariant-loop-answer
invariant-loop-answer l = filter is_unknown (take l.answer-index l.answer-items) ≡ []
