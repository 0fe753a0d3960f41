use Rattle.std.proofs.Common.{rules, sym, subst}
use Rattle.std.proofs.lemmas.Fn.{always_returns_same}
use Rattle.std.proofs.lemmas.List.Elements.{Contains-get_or}
use Rattle.std.specs.Prelude.{Contains}
use Rattle.dnsv_canonical.specs.Canonical.{rdata_cmp}
use Rattle.dnsv_zone_keys.specs.Keys.Index.{Placed}
use Rattle.dnsv_zone_faults.proofs.lemmas.zones.FindLemmas.{missed, tied}
use Rattle.dnsv_zone_faults.proofs.zone.keyed.find.Goals as goal

pub returns-in-Ok : goal.returns-in-Ok
returns-in-Ok c =
    let keys = c.args.keys.now in
    let found = c.index-keys-place.result in (
      subst (λ (placed : Placed). Contains keys placed) (sym c.index-keys-place.is) (Contains-get_or keys c.in-Ok.place found c.in-Ok.ensures.bound),
      tied keys c.args.rdata.now c.in-Ok.place found c.index-keys-place.is
          (c.in-Ok.ensures.position (λ (each : Placed). rdata_cmp each.key.rdata c.args.rdata.now) (always_returns_same _ _ _ (λ a r f called. search rules))),
    )

pub returns-in-Err : goal.returns-in-Err
returns-in-Err c =
    missed c.args.keys.now c.args.rdata.now c.in-Err.field-0 c.requires
    (c.in-Err.ensures.position (λ (each : Placed). rdata_cmp each.key.rdata c.args.rdata.now) (always_returns_same _ _ _ (λ a r f called. search rules)))
