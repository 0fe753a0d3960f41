use Rattle.std.specs.FinSet as set
use Rattle.std.proofs.Common.{ap, length, refl}
use Rattle.std.proofs.lemmas.Option.{slice_get_read}
use Rattle.dnsv_proof_forms.specs.declared.records.entry.NsecEntry.{NsecEntry}
use Rattle.dnsv_proof_forms.proofs.records.chain_records.nsec_types.Goals as goal

pub returns : goal.returns
returns c = record {
  entry = c.index-entries-place.result;
  there = slice_get_read c.args.entries.now (length c.args.entries.now) c.args.place c.index-entries-place.result refl c.requires c.index-entries-place.is;
  says = ap (λ (entry : NsecEntry). λ t. set.contains entry.nsec.now.types t) c.index-entries-place.is;
}
