use Rattle.std.proofs.Common.{◌≡◌, ◌++◌, vec_len}
use Rattle.dnsv_statements.specs.StatementsReading.{said_in}
use Rattle.dnsv_verifier.specs.declared.entry.Entry.{Entry}
use Rattle.dnsv_statements.proofs.statements.said.gather.Given as goal

-- what the vector and the tree say stays
abbrev pub invariant-loop-entry : goal.invariant-loop-entry
invariant-loop-entry l =
    (each : Entry) → said_in (l.rising.items ++ l.tree.entries) each ≡ said_in (l.initial.rising.items ++ l.initial.tree.entries) each

abbrev pub decreases-loop-entry : goal.decreases-loop-entry
decreases-loop-entry l = vec_len l.rising
