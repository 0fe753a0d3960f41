-- What records say, they say at places that are there.
use Rattle.std.proofs.lemmas.Option.{slice_get_within}
use Rattle.dnsv_names.specs.Name.{Labels}
use Rattle.dnsv_proof_forms.specs.records.Numbers.{record_count}
use Rattle.dnsv_proof_forms.specs.words.ChainSaid.{chain_said}
use Rattle.dnsv_proof_forms.specs.declared.records.chain_records.ChainRecords.{ChainRecords}
use Rattle.dnsv_proof_forms.specs.declared.records.chain_records.ChainRecords.TheVariants.{Nsec, Nsec3}
use Rattle.dnsv_proof_forms.proofs.lemmas.forms.DenialLemmas.{AreBound}

pub chain_bound : (apex : Labels) (records : ChainRecords) → AreBound (record_count records) (chain_said apex records)
chain_bound apex (Nsec entries) = record {
  encloser = λ name place said. slice_get_within entries.now place said.entry said.there;
  absent = λ name place said. slice_get_within entries.now place said.entry said.there;
  empty_non_terminal = λ name place said. slice_get_within entries.now place said.entry said.there;
  types_at = λ name Says place said. slice_get_within entries.now place said.entry said.there;
  opted_out = λ name place none. absurd none;
}
chain_bound apex (Nsec3 hashed) = record {
  encloser = λ name place said. slice_get_within hashed.now.entries.now place said.entry said.there;
  absent = λ name place said. slice_get_within hashed.now.entries.now place said.entry said.there;
  empty_non_terminal = λ name place none. absurd none;
  types_at = λ name Says place said. slice_get_within hashed.now.entries.now place said.entry said.there;
  opted_out = λ name place said. slice_get_within hashed.now.entries.now place said.entry said.there;
}
