-- what the trust settles, the verifier settles; else what hope would settle, and the anchors
use Rattle.std.proofs.Common.{◌∙◌, ap, refl, subst, sym}
use Rattle.std.proofs.lemmas.Option.{MatchOption-at_none, MatchOption-at_some}
use Rattle.dnsv_verifier.specs.Table.{unknown_entries}
use Rattle.dnsv_chain.specs.Trust.{SecuredIn}
use Rattle.dnsv_verdict.proofs.TrailLemmas.{settled_without_hope}
use Rattle.dnsv_verdict.proofs.TrustLemmas.{settled_as_by_trust, settled_is_verdict, unsettled_on}
use Rattle.dnsv_verdict.proofs.UnknownLemmas.{table_unknown}
use Rattle.dnsv_chain.specs.Basis.{Basis, HasAnchor, basis_of}
use Rattle.dnsv_verdict.proofs.at_name.verdict_by.Goals as goal

pub returns-in-Some-clause-value : goal.returns-in-Some-clause-value
returns-in-Some-clause-value c = λ meaning moment table.
    let case = c.args.case.now in
    settled_is_verdict (basis_of case.rrsets case.anchors moment meaning)
    c.args.hashes.now.name c.args.rtype.0 c.in-Some.verdict
    (settled_as_by_trust meaning moment case.rrsets case.anchors case.table case.trust table.of_moment
    (c.a_table_is_its_verifier.ensures.answer meaning moment case.rrsets case.table table)
    c.trust_depends_on_what_is_asked.ensures.numbers c.trust-trust.ensures.of c.args.hashes.now.name c.args.rtype.0 c.in-Some.verdict
    (MatchOption-at_some _ _ c.in-Some.verdict c.in-Some.is c.in_ok-verdict.ensures))

pub returns-in-Some-clause-kept : goal.returns-in-Some-clause-kept
returns-in-Some-clause-kept c =
    let case = c.args.case.now in
    record {
      keeps = refl;
      hashes = refl;
      hope = λ keeps none. settled_without_hope case (SecuredIn case.trust) case.rrsets c.args.hashes.now.name c.args.rtype.0 c.in-Some.verdict _
          (MatchOption-at_some _ _ c.in-Some.verdict c.in-Some.is c.in_ok-verdict.ensures) none;
      unkept = λ not. refl;
    }

pub returns-in-Some-2-clause-value : goal.returns-in-Some-2-clause-value
returns-in-Some-2-clause-value c = λ meaning moment table.
    let case = c.args.case.now in
    let judged : Basis = basis_of case.rrsets case.anchors moment meaning in
    let never = unsettled_on case meaning moment table (c.a_table_is_its_verifier.ensures.answer meaning moment case.rrsets case.table table)
    c.trust_depends_on_what_is_asked.ensures.numbers c.trust-trust.ensures.of c.args.hashes.now.name c.args.rtype.0 (MatchOption-at_none _ _ c.in_default.is c.in_ok-verdict.ensures) in (
      never,
      MatchOption-at_some _ _ c.in-Some-2.hope c.in-Some-2.is (c.in_ok-hope.ensures.may meaning moment table never),
      table_unknown judged case.table table c.in_ok-unknown.unknown
          (c.in_ok-unknown.ensures.value ∙ ap unknown_entries c.table.ensures) c.in_ok-unknown.ensures.rising,
    )

pub returns-then-has_anchor-clause-value : goal.returns-then-has_anchor-clause-value
returns-then-has_anchor-clause-value c = λ meaning moment table.
    let case = c.args.case.now in
    let never = unsettled_on case meaning moment table (c.a_table_is_its_verifier.ensures.answer meaning moment case.rrsets case.table table)
    c.trust_depends_on_what_is_asked.ensures.numbers c.trust-trust.ensures.of c.args.hashes.now.name c.args.rtype.0 (MatchOption-at_none _ _ c.in_default.is c.in_ok-verdict.ensures) in (
      never,
      MatchOption-at_none _ _ c.in_default-2.is (c.in_ok-hope.ensures.may meaning moment table never),
      subst (λ name. HasAnchor case.anchors name) c.name.ensures
          (subst (λ anchors. HasAnchor anchors c.name.result.now) c.anchors.ensures (c.has_anchor.ensures.0 c.if-has_anchor.true)),
    )

pub returns-clause-value : goal.returns-clause-value
returns-clause-value c = λ meaning moment table.
    let case = c.args.case.now in
    let never = unsettled_on case meaning moment table (c.a_table_is_its_verifier.ensures.answer meaning moment case.rrsets case.table table)
    c.trust_depends_on_what_is_asked.ensures.numbers c.trust-trust.ensures.of c.args.hashes.now.name c.args.rtype.0 (MatchOption-at_none _ _ c.in_default.is c.in_ok-verdict.ensures) in (
      never,
      MatchOption-at_none _ _ c.in_default-2.is (c.in_ok-hope.ensures.may meaning moment table never),
      λ has. (let holds = c.has_anchor.ensures.1 (subst (λ anchors. HasAnchor anchors c.name.result.now) (sym c.anchors.ensures) (subst (λ name. HasAnchor case.anchors name) (sym c.name.ensures) has)) in let fails = c.if-has_anchor.false in cc),
    )
