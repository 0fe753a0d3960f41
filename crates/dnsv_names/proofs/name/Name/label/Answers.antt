use Rattle.std.proofs.Common.{ap, ◌∙◌, arith}
use Rattle.dnsv_names.specs.Name.Spelling.{labels_of}
use Rattle.dnsv_names.proofs.NameLemmas.{label_found}
use Rattle.dnsv_names.proofs.name.Name.label.Goals as goal

pub slice_bounds-result-end : goal.slice_bounds-result-end
slice_bounds-result-end c =
    let found = label_found c.as_slice-octets.result.now _ _ c.args.i (ap labels_of c.as_slice-octets.ensures.value ∙ c.self.view_is) c.requires c.label_place-place.ensures.rest in
    omega (arith, found.within)

pub returns : goal.returns
returns c =
    let found = label_found c.as_slice-octets.result.now _ _ c.args.i (ap labels_of c.as_slice-octets.ensures.value ∙ c.self.view_is) c.requires c.label_place-place.ensures.rest in
    found.octets_of _ (omega arith)
