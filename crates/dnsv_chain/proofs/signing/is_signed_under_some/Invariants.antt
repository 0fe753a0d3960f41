use Rattle.std.proofs.Common.{◌<◌, ℕ, get_or}
use Rattle.dnsv_records.specs.declared.rrsig.Rrsig.{Rrsig}
use Rattle.dnsv_verifier.specs.Table.{table_answer}
use Rattle.dnsv_chain.specs.Signing.{IsGoodUnderSome}
use Rattle.dnsv_chain.proofs.signing.is_signed_under_some.Given as goal

-- none of the signatures so far is good
abbrev pub invariant-loop-place : goal.invariant-loop-place
invariant-loop-place l =
    (k : ℕ) (d : Rrsig) → k < l.place
    → IsGoodUnderSome (table_answer l.answered.table.now) l.answered.table.now.moment l.answered.rrset.now (get_or l.rrsig-items k d) l.keys → ⊥
