use Rattle.std.proofs.Common.{inl, arith}
use Rattle.dnsv_zones.specs.chains.NsecChain.{IsInBitmap}
use Rattle.dnsv_zones.specs.chains.Rdata.{parameters_of}
use Rattle.dnsv_proof_forms.specs.records.AskedHash.{hash_of}
use Rattle.dnsv_proof_forms.specs.records.Record.{read_nsec3}
use Rattle.dnsv_proof_forms.specs.words.Asked.{asked_name, said_types}
use Rattle.dnsv_proof_forms.proofs.lemmas.records.HashIndexLemmas.{match_listed}
use Rattle.dnsv_proof_forms.proofs.lemmas.words.AllSaidLemmas.{matches_all}
use Rattle.dnsv_proof_forms.proofs.words.nsec3.all_matches.Goals as goal

pub all_among-requires-clause-one : goal.all_among-requires-clause-one
all_among-requires-clause-one c = rw c.as_slice.ensures c.at.ensures.within

pub all_among-requires-clause-all : goal.all_among-requires-clause-all
all_among-requires-clause-all c = rw c.as_slice.ensures (λ place said. inl (match_listed c.args.records.now.entries.now (parameters_of c.args.records.now.parameters.now) c.hash-hash.result c.at.result.now
    (λ entry. said_types c.args.types (IsInBitmap (read_nsec3 entry).types)) c.at.ensures.all place said))

pub returns : goal.returns
returns c =
    matches_all (hash_of c.args.records.now) (asked_name c.args.records.now.name.now c.args.asked) c.hash-hash.result c.args.records.now.entries.now c.in_ok-places.places.items c.hash-hash.ensures
    (said_types c.args.types) (rw c.as_slice.ensures at c.in_ok-places.ensures)
