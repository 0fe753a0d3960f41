use Rattle.dnsv_zones.specs.chains.NsecChain.{IsInBitmap}
use Rattle.dnsv_zones.specs.chains.Rdata.{parameters_of}
use Rattle.dnsv_proof_forms.specs.records.AskedHash.{hash_of}
use Rattle.dnsv_proof_forms.specs.records.HashWords.{HasHash}
use Rattle.dnsv_proof_forms.specs.records.Record.{read_nsec3}
use Rattle.dnsv_proof_forms.specs.words.Asked.{asked_name, said_types}
use Rattle.dnsv_proof_forms.proofs.lemmas.words.FirstAmongLemmas.{first_listed}
use Rattle.dnsv_proof_forms.proofs.lemmas.records.HashIndexLemmas.{match_listed}
use Rattle.dnsv_proof_forms.proofs.lemmas.records.HashLemmas.{match_first}
use Rattle.dnsv_proof_forms.proofs.words.nsec3.first_match.Goals as goal

pub returns : goal.returns
returns c =
    let parameters = parameters_of c.args.records.now.parameters.now in
    match_first (hash_of c.args.records.now) (asked_name c.args.records.now.name.now c.args.asked) c.hash-hash.result
    (said_types c.args.types) c.args.records.now.entries.now c.first_among.result c.hash-hash.ensures
    (first_listed (λ entry. HasHash parameters c.hash-hash.result (read_nsec3 entry) × said_types c.args.types (IsInBitmap (read_nsec3 entry).types))
    c.args.records.now.entries.now c.at.result.now c.first_among.result
    (match_listed c.args.records.now.entries.now parameters c.hash-hash.result c.at.result.now
    (λ entry. said_types c.args.types (IsInBitmap (read_nsec3 entry).types)) c.at.ensures.all)
    (rw c.as_slice.ensures at c.first_among.ensures))

pub first_among-requires : goal.first_among-requires
first_among-requires c = rw c.as_slice.ensures c.at.ensures.within
