use Rattle.std.proofs.Common.{sym, ap, ◌∙◌}
use Rattle.std.specs.Prelude.{not}
use Rattle.std.proofs.lemmas.Bool.{eqb-true, false≢true, not-false}
use Rattle.std.proofs.lemmas.Bool.Decides.{Decides-eqb}
use Rattle.dnsv_gaps.specs.Cases.IsHeld.{alias, apex, asked, none}
use Rattle.dnsv_gaps.proofs.speakers.cases.at_name.held.Goals as goal

pub returns-then-contains : goal.returns-then-contains
returns-then-contains c = asked (sym c.contains.ensures ∙ c.if-contains.true)

pub returns-then-contains-2 : goal.returns-then-contains-2
returns-then-contains-2 c =
    alias (λ has. false≢true (sym c.if-contains.false ∙ c.contains.ensures ∙ has)) (sym c.contains-2.ensures ∙ c.if-contains-2.true)

pub returns-then-ne : goal.returns-then-ne
returns-then-ne c =
    none (λ has. false≢true (sym c.if-contains.false ∙ c.contains.ensures ∙ has))
    (λ has. false≢true (sym c.if-contains-2.false ∙ c.contains-2.ensures ∙ has))
    (λ is has. false≢true (sym (ap not ((Decides-eqb c.args.rtype.0 43).1 is)) ∙ sym c.ne.ensures ∙ c.if-ne.true))

pub returns-then-contains-3 : goal.returns-then-contains-3
returns-then-contains-3 c =
    apex (λ has. false≢true (sym c.if-contains.false ∙ c.contains.ensures ∙ has))
    (λ has. false≢true (sym c.if-contains-2.false ∙ c.contains-2.ensures ∙ has))
    (eqb-true _ _ (not-false _ (sym c.ne.ensures ∙ c.if-ne.false))) (sym c.contains-3.ensures ∙ c.if-contains-3.true)

pub returns : goal.returns
returns c =
    none (λ has. false≢true (sym c.if-contains.false ∙ c.contains.ensures ∙ has))
    (λ has. false≢true (sym c.if-contains-2.false ∙ c.contains-2.ensures ∙ has))
    (λ is has. false≢true (sym c.if-contains-3.false ∙ c.contains-3.ensures ∙ has))
