use Rattle.std.proofs.Common.{List, sym, subst, ⊎_elim}
use Rattle.dnsv_names.specs.Name.{SameName}
use Rattle.dnsv_verdict.proofs.WayLemmas.{among_link, among_last, among_split, HasLinkAt}
use Rattle.dnsv_verdict.specs.declared.link.Link.{Link}
use Rattle.dnsv_verdict.proofs.way.is_on.Goals as goal

pub returns-then-has_link_at : goal.returns-then-has_link_at
returns-then-has_link_at c = (
  λ _. among_link c.args.way.now.links c.args.way.now.last c.args.name.now
      (subst (λ (links : List Link). HasLinkAt links c.args.name.now) c.as_slice.ensures.value (c.has_link_at.ensures.0 c.if-has_link_at.true)),
  λ _. c.if-has_link_at.true,
)

pub returns-else-has_link_at : goal.returns-else-has_link_at
returns-else-has_link_at c = (
  λ holds. among_last c.args.way.now.links c.args.way.now.last c.args.name.now (c.eq.ensures.same.0 holds),
  λ among. ⊎_elim (λ (there : HasLinkAt c.args.way.now.links c.args.name.now).
      let holds = c.has_link_at.ensures.1 (subst (λ (links : List Link). HasLinkAt links c.args.name.now) (sym c.as_slice.ensures.value) there) in
      let fails = c.if-has_link_at.false in cc)
      (λ (same : SameName c.args.name.now c.args.way.now.last). c.eq.ensures.same.1 same)
      (among_split c.args.way.now.links c.args.way.now.last c.args.name.now among),
)
