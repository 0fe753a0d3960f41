use Rattle.std.proofs.Common.{rules, ◌≡◌, ◌++◌, sym, ap, ◌∙◌}
use Rattle.std.specs.Ordering.{ordering_then}
use Rattle.dnsv_names.specs.Octets.{octets_cmp}
use Rattle.dnsv_verifier.proofs.SignedDataLemmas.{parted, shorter}
use Rattle.dnsv_verifier.proofs.signed_data.against.Goals as goal

pub returns-then-octets-front : goal.returns-then-octets-front
returns-then-octets-front c =
    c.compare_octets.ensures ∙ sym (shorter c.args.octets.now c.args.front.now c.args.records.now c.if-octets-front.true)

pub returns : goal.returns
returns c =
    let split = c.split_at.ensures in
    let joined : c.then_with.result ≡ ordering_then (octets_cmp c.split_at.result.0.now c.args.front.now)
    (octets_cmp c.split_at.result.1.now c.args.records.now) = search rules in
    joined ∙ sym (parted c.split_at.result.0.now c.args.front.now c.split_at.result.1.now c.args.records.now split.front_len)
    ∙ ap (λ octets. octets_cmp octets (c.args.front.now ++ c.args.records.now)) (sym split.by_index.0)
