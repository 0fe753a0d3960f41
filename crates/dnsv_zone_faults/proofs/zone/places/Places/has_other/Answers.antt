use Rattle.std.proofs.Common.{ℕ, List, refl, subst, arith}
use Rattle.dnsv_zone_faults.specs.Dnskeys.PlaceSearch.{HasOther}
use Rattle.dnsv_zone_faults.proofs.lemmas.zones.PlaceLemmas.{two_places}
use Rattle.dnsv_zone_faults.proofs.zone.places.Places.has_other.Goals as goal

pub returns-then-len-gt1 : goal.returns-then-len-gt1
returns-then-len-gt1 c =
    let long = c.if-len-gt1.true in
    let count = c.len.ensures in
    let size = c.self.inside.places.ok.0 in (
      λ yes. subst (λ (places : List ℕ). HasOther places c.args.place) c.self.view_is
          (two_places c.self.inside.places.items c.args.place c.self.invariant (omega (arith, long, count, size))),
      λ has. refl,
    )
