use Rattle.std.proofs.Common.{[], ◌∷◌, refl, sym, subst, inl, inr, ◌∙◌}
use Rattle.std.proofs.lemmas.Bool.{false≢true}
use Rattle.std.proofs.lemmas.List.{append-nil}
use Rattle.dnsv_derivations.specs.Denials.{IsPartSaid}
use Rattle.dnsv_lines.specs.declared.line.Line.TheVariants as line
use Rattle.dnsv_derivations.proofs.denials.part.add_part.Goals as goal

pub returns-then-is_part_said : goal.returns-then-is_part_said
returns-then-is_part_said c = record {
  more = [];
  is = sym (append-nil c.args.lines.now.items);
  says = record {
    part = c.in_ok-told.told;
    is = c.in_ok-told.ensures;
    once = inl (subst (λ lines. IsPartSaid c.in_ok-told.told lines) c.deref.ensures.value (c.is_part_said.ensures.0 c.if-is_part_said.true), refl);
  };
}

pub returns : goal.returns
returns c = record {
  more = line.Part c.in_ok-told.told ∷ [];
  is = c.in_ok-push.ensures.items;
  says = record {
    part = c.in_ok-told.told;
    is = c.in_ok-told.ensures;
    once = inr (λ said. false≢true (sym c.if-is_part_said.false ∙ c.is_part_said.ensures.1 (subst (λ lines. IsPartSaid c.in_ok-told.told lines) (sym c.deref.ensures.value) said)), refl);
  };
}
