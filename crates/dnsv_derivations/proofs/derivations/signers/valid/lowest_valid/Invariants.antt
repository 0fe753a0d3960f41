use Rattle.dnsv_verifier.specs.Table.{table_answer}
use Rattle.dnsv_derivations.specs.derivations.SignerSearch.{IsLowestValid}
use Rattle.dnsv_derivations.proofs.derivations.signers.valid.lowest_valid.Given as goal

-- the lowest so far
abbrev pub invariant-loop-key : goal.invariant-loop-key
invariant-loop-key l = IsLowestValid (table_answer l.table) l.rrsig l.octets l.set l.keys l.key-index l.lowest
