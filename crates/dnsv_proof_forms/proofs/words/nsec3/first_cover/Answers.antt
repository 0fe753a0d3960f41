use Rattle.std.proofs.Common.{◌≡◌}
use Rattle.dnsv_zones.specs.chains.Rdata.{parameters_of}
use Rattle.dnsv_proof_forms.specs.records.AskedHash.{hash_of}
use Rattle.dnsv_proof_forms.specs.records.HashWords.{CoversHash}
use Rattle.dnsv_proof_forms.specs.records.Record.{flags_of, read_nsec3}
use Rattle.dnsv_proof_forms.specs.words.Asked.{asked_name}
use Rattle.dnsv_proof_forms.proofs.lemmas.words.FirstAmongLemmas.{first_of_parts}
use Rattle.dnsv_proof_forms.proofs.lemmas.records.HashIndexLemmas.{cover_listed}
use Rattle.dnsv_proof_forms.proofs.lemmas.records.HashLemmas.{cover_first}
use Rattle.dnsv_proof_forms.proofs.words.nsec3.first_cover.Goals as goal

pub returns : goal.returns
returns c =
    let parameters = parameters_of c.args.records.now.parameters.now in
    cover_first (hash_of c.args.records.now) (asked_name c.args.records.now.name.now c.args.asked) c.hash-hash.result
    (flags_of c.args.is_opt_out) c.args.records.now.entries.now c.earlier.result c.hash-hash.ensures
    (first_of_parts (λ entry. CoversHash parameters c.hash-hash.result (read_nsec3 entry) × ((read_nsec3 entry).flags ≡ flags_of c.args.is_opt_out))
    c.args.records.now.entries.now c.around.result.now c.wrapping.result.now c.first_among-around.result c.first_among-wrapping.result c.earlier.result
    (cover_listed c.args.records.now.entries.now parameters c.hash-hash.result c.around.result.now c.wrapping.result.now
    (λ entry. (read_nsec3 entry).flags ≡ flags_of c.args.is_opt_out) c.around.ensures.all c.wrapping.ensures.all)
    (rw c.as_slice.ensures at c.first_among-around.ensures) (rw c.as_slice-2.ensures at c.first_among-wrapping.ensures) c.earlier.ensures)

pub first_among-around-requires : goal.first_among-around-requires
first_among-around-requires c = rw c.as_slice.ensures c.around.ensures.within

pub first_among-wrapping-requires : goal.first_among-wrapping-requires
first_among-wrapping-requires c = rw c.as_slice-2.ensures c.wrapping.ensures.within
