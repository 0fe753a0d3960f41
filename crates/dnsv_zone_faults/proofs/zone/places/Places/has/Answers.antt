use Rattle.std.proofs.Common.{ℕ, List, refl, sym, ◌∙◌, subst}
use Rattle.std.proofs.lemmas.Bool.{false≢true}
use Rattle.std.specs.List.Sorted.{IsStrictlyIncreasing}
use Rattle.std.specs.Prelude.{Contains}
use Rattle.dnsv_zone_faults.proofs.lemmas.zones.FindLemmas.{found_place, no_place}
use Rattle.dnsv_zone_faults.proofs.zone.places.Places.has.Goals as goal

pub returns-in-Ok : goal.returns-in-Ok
returns-in-Ok c =
    let are = c.deref.ensures.value ∙ c.self.view_is in
    let rising = subst IsStrictlyIncreasing (sym c.deref.ensures.value) c.self.invariant in (
      λ yes. subst (λ (places : List ℕ). Contains places c.args.place) are (found_place c.deref.result.now c.args.place c.in-Ok.field-0 rising c.in-Ok.ensures.ok),
      λ there. refl,
    )

pub returns-in-Err : goal.returns-in-Err
returns-in-Err c =
    let are = c.deref.ensures.value ∙ c.self.view_is in
    let rising = subst IsStrictlyIncreasing (sym c.deref.ensures.value) c.self.invariant in (
      λ yes. absurd (false≢true yes),
      λ there. absurd (no_place c.deref.result.now c.args.place c.in-Err.field-0 rising c.in-Err.ensures.position
          (subst (λ (places : List ℕ). Contains places c.args.place) (sym are) there)),
    )
