use Rattle.std.proofs.Common.{◌∙◌, sym, subst, IsTrue}
use Rattle.std.proofs.lemmas.Bool.{eqb-true}
use Rattle.dnsv_canonical.specs.Index.Grouping.{key_of}
use Rattle.dnsv_canonical.specs.Index.Merging.{EndsWith}
use Rattle.dnsv_canonical.proofs.IndexLemmas.InOrder.{same_owner_ends}
use Rattle.dnsv_canonical.proofs.capture.index.merged.Merged.ends_with.Goals as goal

pub returns-then-eq : goal.returns-then-eq
returns-then-eq c =
    subst (λ last. (IsTrue c.eq-then-eq.result → EndsWith last (key_of c.args.rrset.now)) × (EndsWith last (key_of c.args.rrset.now) → IsTrue c.eq-then-eq.result)) (sym c.in-Some.is)
    (same_owner_ends c.in-Some.last.now c.args.rrset.now c.owner.result.now c.owner-then-eq.result.now c.eq-then-eq.result c.owner.ensures c.owner-then-eq.ensures
    (sym c.rtype.ensures ∙ eqb-true _ _ (sym c.eq.ensures ∙ c.if-eq.true) ∙ c.rtype-2.ensures) c.eq-then-eq.ensures.same)
