use Rattle.std.proofs.Common.{◌≡◌, length, ap, ◌∙◌, arith}
use Rattle.dnsv_names.specs.Name.Spelling.{labels_of}
use Rattle.dnsv_names.specs.Name.WireLaws.{length-wire}
use Rattle.dnsv_names.proofs.name.Name.labels.Goals as goal

pub returns-clause-at_most_127 : goal.returns-clause-at_most_127
returns-clause-at_most_127 c =
    let count : c.label_count.result ≡ length (labels_of c.self.inside.octets.items) = c.label_count.ensures ∙ ap (λ octets. length (labels_of octets)) c.as_slice.ensures.value in
    omega (arith, count, length-wire _ c.self.invariant.name.each, c.self.invariant.name.at_most_255)
