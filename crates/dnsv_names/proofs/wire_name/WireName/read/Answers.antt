use Rattle.std.proofs.Common.{◌≡◌, length, take, sym, ap, ◌∙◌, Some, unwrap_or}
use Rattle.std.proofs.lemmas.List.{take_at}
use Rattle.dnsv_names.specs.Name.{wire}
use Rattle.dnsv_names.specs.Name.Spelling.{labels_of}
use Rattle.dnsv_names.specs.Name.WireLaws.{labels_of-wire}
use Rattle.dnsv_names.proofs.wire_name.WireName.read.Goals as goal

pub returns-clause-every : goal.returns-clause-every
returns-clause-every c = λ labels rest name form.
    let size : c.in_ok-length.length ≡ length (wire labels) = ap (λ found. unwrap_or found 0) (sym (c.in_ok-length.was) ∙ c.wire_length.ensures.every labels rest name form) in
    let spelled : take c.in_ok-length.length c.args.octets.now ≡ wire labels = ap (take c.in_ok-length.length) form ∙ take_at (wire labels) rest c.in_ok-length.length (sym size) in
    ap Some (ap (λ found. (found, c.in_ok-length.length)) (ap labels_of spelled ∙ labels_of-wire labels name.each) ∙ ap (λ n. (labels, n)) size)
