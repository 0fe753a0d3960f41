use Rattle.std.specs.Prelude.{string_bytes}
use Rattle.dnsv_evidence_texts.specs.Listing.{data_json, data_line}
use Rattle.dnsv_evidence_texts.proofs.ListingLemmas.{OfSignature}
use Rattle.dnsv_evidence_texts.proofs.PartLemmas.{Listed}
use Rattle.dnsv_evidence_texts.proofs.listing.push_rrset.Given as goal

abbrev pub invariant-loop-index : goal.invariant-loop-index
invariant-loop-index l =
    Listed (OfSignature l.number l.rrset) data_line data_json l.format l.rrset.signatures l.index l.fn.first (string_bytes l.fn.text) l.first (string_bytes l.text)
