use Rattle.std.proofs.Common.{[], ◌∷◌, append-nil, inl, inr, refl, sym, ◌∙◌}
use Rattle.std.proofs.lemmas.Bool.{false≢true}
use Rattle.dnsv_zones.specs.chains.Rdata.{parameters_of}
use Rattle.dnsv_gaps.specs.declared.sources.HeldSource.TheVariants as held
use Rattle.dnsv_gaps.proofs.ZoneLemmas.{entries_with}
use Rattle.dnsv_gaps.proofs.sources.add_nsec3s.Goals as goal

pub returns-then-not-is_source : goal.returns-then-not-is_source
returns-then-not-is_source c =
    let same = entries_with c.args.question.now c.args.zone.now (parameters_of c.args.parameters.now) c.in-Some.hashed c.in-Some.ensures.1 in (
      [],
      sym (append-nil c.args.sources.now.items),
      inl (λ has. false≢true (sym c.if-not-is_source.true ∙ c.is_source.ensures.1 (same.1 has)), refl),
    )

pub returns : goal.returns
returns c =
    let same = entries_with c.args.question.now c.args.zone.now (parameters_of c.args.parameters.now) c.in-Some.hashed c.in-Some.ensures.1 in (
      held.Nsec3 c.in-Some.hashed ∷ [],
      c.in-Ok.ensures.items,
      inr (same.0 (c.is_source.ensures.0 c.if-not-is_source.false), (held.Nsec3 c.in-Some.hashed, c.in-Some.ensures.1, refl)),
    )
