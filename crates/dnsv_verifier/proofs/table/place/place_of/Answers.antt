use Rattle.std.proofs.Common.{rules}
use Rattle.std.proofs.lemmas.Fn.{always_returns_same}
use Rattle.std.proofs.lemmas.List.Elements.{Contains-get_or}
use Rattle.dnsv_verifier.specs.Numbers.{signature_number_cmp}
use Rattle.dnsv_verifier.proofs.PlaceLemmas.{signature_number_Equal}
use Rattle.dnsv_verifier.proofs.table.place.place_of.Goals as goal

pub returns-in-Ok : goal.returns-in-Ok
returns-in-Ok c =
    let tied = c.in-Ok.ensures.position (λ place. signature_number_cmp place.number c.args.number) (always_returns_same _ _ _ (λ a r f called. search rules)) in
    (Contains-get_or c.args.places.now c.in-Ok.place _ c.in-Ok.ensures.bound, signature_number_Equal _ _ (tied _))
