use Rattle.std.proofs.Common.{◌<◌, ℕ, get_or}
use Rattle.dnsv_verifier.specs.Admissible.{DnskeyRecord, IsGood}
use Rattle.dnsv_verifier.specs.Table.{table_answer}
use Rattle.dnsv_chain.proofs.signing.is_good_by_number.Given as goal

-- it is good under none of the keys so far
abbrev pub invariant-loop-key : goal.invariant-loop-key
invariant-loop-key l =
    (k : ℕ) (d : DnskeyRecord) → k < l.key-index
    → IsGood (table_answer l.answered.table.now) l.answered.table.now.moment l.answered.rrset.now l.rrsig (get_or l.keys k d) → ⊥
