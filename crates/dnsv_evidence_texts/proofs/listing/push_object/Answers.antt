use Rattle.std.proofs.Common.{string_bytes}
use Rattle.std.specs.Option.{option_map}
use Rattle.dnsv_evidence_texts.specs.Listing.{data_json}
use Rattle.dnsv_lines.proofs.JsonLemmas.{one_written}
use Rattle.dnsv_evidence_texts.proofs.listing.push_object.Goals as goal

pub returns-clause-text : goal.returns-clause-text
returns-clause-text c =
    one_written c.args.first.now (string_bytes c.args.text.now) (string_bytes c.push_comma.new.text) (string_bytes c.push_members.new.text)
    (data_json (record { rrset = c.args.rrset; signature = c.args.signature; octets = option_map (λ octets. octets.items) c.args.octets }))
    c.in_ok-push_comma.ensures.text c.in_ok-push_members.ensures
