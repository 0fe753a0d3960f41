use Rattle.std.proofs.Common.{◌∙◌, sym, ap, length, arith, subst}
use Rattle.dnsv_names.specs.Name.{wire}
use Rattle.dnsv_message.specs.NameAt.{NameFrom}
use Rattle.dnsv_message.proofs.FollowLemmas.{octets_are, named_by, labels_found}
use Rattle.dnsv_message.proofs.name_ref.name_ref_at.Goals as goal

pub behind_pointers-requires : goal.behind_pointers-requires
behind_pointers-requires c =
    let found = c.in_ok-size.ensures.found in
    named_by c.args.octets.now c.args.place found.0 c.in_ok-size.end (octets_are c.args.octets.now (λ i. omega (arith, c.type_inv.octets i))) found.1

pub invariant_of-name : goal.invariant_of-name
invariant_of-name c =
    let found = c.in_ok-size.ensures.found in
    let same = c.behind_pointers.ensures.same ∙ labels_found c.args.octets.now c.args.place found.0 c.in_ok-size.end (octets_are c.args.octets.now (λ i. omega (arith, c.type_inv.octets i))) found.1 in
    (c.behind_pointers.ensures.stands, found.2 ∙ ap (λ labels. length (wire labels)) (sym same))

pub returns-clause-found : goal.returns-clause-found
returns-clause-found c =
    let found = c.in_ok-size.ensures.found in
    let same = c.behind_pointers.ensures.same ∙ labels_found c.args.octets.now c.args.place found.0 c.in_ok-size.end (octets_are c.args.octets.now (λ i. omega (arith, c.type_inv.octets i))) found.1 in
    subst (λ labels. NameFrom c.args.octets.now c.args.place labels c.in_ok-size.end) (sym same) found.1
