use Rattle.std.specs.Prelude.{string_bytes, true}
use Rattle.dnsv_evidence_texts.specs.Listing.{data_json, data_line}
use Rattle.dnsv_evidence_texts.proofs.ListingLemmas.{OfRrset}
use Rattle.dnsv_evidence_texts.proofs.PartLemmas.{Listed}
use Rattle.dnsv_evidence_texts.proofs.listing.push_rrsets.Given as goal

abbrev pub invariant-loop-index : goal.invariant-loop-index
invariant-loop-index l = Listed OfRrset data_line data_json l.format l.rrsets l.index true (string_bytes l.fn.text) l.first (string_bytes l.text)
