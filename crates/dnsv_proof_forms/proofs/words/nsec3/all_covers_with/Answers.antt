use Rattle.std.proofs.Common.{◌≡◌}
use Rattle.dnsv_proof_forms.specs.records.Record.{flags_of, read_nsec3}
use Rattle.dnsv_zones.specs.chains.Rdata.{parameters_of}
use Rattle.dnsv_proof_forms.specs.records.AskedHash.{hash_of}
use Rattle.dnsv_proof_forms.specs.words.Asked.{asked_name}
use Rattle.dnsv_proof_forms.proofs.lemmas.records.HashIndexLemmas.{cover_listed}
use Rattle.dnsv_proof_forms.proofs.lemmas.words.AllSaidLemmas.{covers_all_with}
use Rattle.dnsv_proof_forms.proofs.words.nsec3.all_covers_with.Goals as goal

pub all_among-requires-clause-one : goal.all_among-requires-clause-one
all_among-requires-clause-one c = rw c.as_slice.ensures c.around-around.ensures.within

pub all_among-requires-clause-other : goal.all_among-requires-clause-other
all_among-requires-clause-other c = rw c.as_slice.ensures c.wrapping.ensures.within

pub all_among-requires-clause-all : goal.all_among-requires-clause-all
all_among-requires-clause-all c = rw c.as_slice.ensures (cover_listed c.args.records.now.entries.now (parameters_of c.args.records.now.parameters.now) c.hash-hash.result c.around-around.result.now c.wrapping.result.now
    (λ entry. (read_nsec3 entry).flags ≡ flags_of c.args.is_opt_out) c.around-around.ensures.all c.wrapping.ensures.all)

pub returns : goal.returns
returns c =
    covers_all_with (hash_of c.args.records.now) (asked_name c.args.records.now.name.now c.args.asked) c.hash-hash.result c.args.records.now.entries.now c.in_ok-places.places.items c.hash-hash.ensures (flags_of c.args.is_opt_out)
    (rw c.as_slice.ensures at c.in_ok-places.ensures)
