use Rattle.std.specs.FinSet as set
use Rattle.std.proofs.Common.{sym, subst}
use Rattle.dnsv_proof_forms.specs.words.ChainSaid.{IsTypesAt}
use Rattle.dnsv_proof_forms.proofs.records.chain_records.ChainRecords.types.Goals as goal

pub returns-in-Nsec : goal.returns-in-Nsec
returns-in-Nsec c = subst (λ records. IsTypesAt records c.args.place (λ t. set.contains c.nsec_types.result.now t)) (sym c.in-Nsec.is) c.nsec_types.ensures

pub returns-in-Nsec3 : goal.returns-in-Nsec3
returns-in-Nsec3 c = subst (λ records. IsTypesAt records c.args.place (λ t. set.contains c.nsec3_types.result.now t)) (sym c.in-Nsec3.is) (rw c.as_slice.ensures at c.nsec3_types.ensures)
