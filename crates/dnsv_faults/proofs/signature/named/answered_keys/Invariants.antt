use Rattle.std.proofs.Common.{take}
use Rattle.dnsv_verifier.specs.Asking.{GivesEach}
use Rattle.dnsv_verifier.specs.Table.{table_answer}
use Rattle.dnsv_zone_keys.specs.Answers.AnswerSearch.{IsSaidOf}
use Rattle.dnsv_zone_keys.specs.Keys.{IsZoneKey}
use Rattle.dnsv_faults.proofs.signature.named.answered_keys.Given as goal

-- those of the keys so far
abbrev pub invariant-loop-placed : goal.invariant-loop-placed
invariant-loop-placed l =
    GivesEach (IsSaidOf (table_answer l.table) l.table.moment l.rrset l.rrsig) (λ placed. IsZoneKey placed.key)
    (take l.placed-index l.keys) l.named.items
