use Rattle.std.proofs.Common.{◌∙◌, ap, sym, subst}
use Rattle.dnsv_chain.specs.Trust.{SecuredIn}
use Rattle.dnsv_denial.specs.WildcardAnswers.{AreAnswers}
use Rattle.dnsv_denial.specs.gathering.Kept.{IsViewOf}
use Rattle.dnsv_denial.proofs.lemmas.gathering.NameHashesLemmas.{view_of_kept}
use Rattle.dnsv_denial.proofs.view.View.of_zones.Goals as goal

pub wildcard_answers-requires : goal.wildcard_answers-requires
wildcard_answers-requires c =
    let sets = c.deref-3.ensures.value ∙ ap (λ v. v.items) c.deref-2.ensures in
    subst (λ zones. IsViewOf (SecuredIn c.args.trust.now) c.args.capture.now.rrsets c.name.result.now c.deref-3.result.now zones) (sym c.deref.ensures.value)
    (subst (λ each. IsViewOf (SecuredIn c.args.trust.now) c.args.capture.now.rrsets c.name.result.now each c.args.zones.items) (sym sets)
    (view_of_kept c.args.trust.now c.args.hashes.now.rrsets c.args.capture.now.rrsets c.args.hashes.now.name c.name.result.now c.in_ok-sets.sets.value.items c.args.zones.items
    c.requires.hashes c.name.ensures c.in_ok-sets.ensures c.requires.zones))

pub invariant_of-result : goal.invariant_of-result
invariant_of-result c =
    let its = c.in_ok-clone.ensures.cases ∙ c.name-2.ensures in (
      view_of_kept c.args.trust.now c.args.hashes.now.rrsets c.args.capture.now.rrsets c.args.hashes.now.name _ c.in_ok-sets.sets.value.items c.args.zones.items
          c.requires.hashes its c.in_ok-sets.ensures c.requires.zones,
      subst (λ name. AreAnswers (SecuredIn c.args.trust.now) c.args.capture.now.rrsets name c.in_ok-answers.answers) (c.name.ensures ∙ sym its) c.in_ok-answers.ensures,
    )
