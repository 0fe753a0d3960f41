use Rattle.std.proofs.Common.{refl, ◌∙◌}
use Rattle.dnsv_anchors.proofs.HexFieldLemmas.{parts_decoded}
use Rattle.dnsv_statements.proofs.packed_entry.PackedEntry.of_digits.Goals as goal

pub returns : goal.returns
returns c =
    let are = parts_decoded c.args.key.now c.args.signed_data.now c.args.signature.now c.in_ok-octets.octets.items c.push_decoded.new.octets.items c.push_decoded-2.new.octets.items c.push_decoded-3.new.octets.items c.len-data_at.result c.len-signature_at.result
    c.in_ok-octets.ensures.items c.in_ok-push_decoded.ensures c.in_ok-push_decoded-2.ensures c.in_ok-push_decoded-3.ensures (c.len-data_at.ensures ∙ c.push_decoded.new.octets.ok.0) (c.len-signature_at.ensures ∙ c.push_decoded-2.new.octets.ok.0) in
    (refl, are.0, are.1, are.2)
