-- the hopeful table's trust settles what the hopeful verifier settles; where nothing is unknown, hope settles nothing more
use Rattle.std.proofs.Common.{◌∙◌, ap, refl, subst, sym}
use Rattle.std.proofs.lemmas.Option.{MatchOption-at_none, MatchOption-at_some}
use Rattle.std.proofs.lemmas.Result.{err_from_is_err_and}
use Rattle.dnsv_verifier.specs.Table.{hoped_answer, table_answer, unknown_entries}
use Rattle.dnsv_verifier.specs.declared.answer.Answer.{Answer}
use Rattle.dnsv_verifier.specs.declared.entry.Entry.{Entry}
use Rattle.dnsv_chain.specs.Trust.{SecuredIn}
use Rattle.dnsv_verdict.proofs.CaseLemmas.{settled_stands}
use Rattle.dnsv_verdict.proofs.OfCase.{trust_alike}
use Rattle.dnsv_verdict.proofs.SettledLemmas.PendingLemmas.{nothing_to_hope}
use Rattle.dnsv_verdict.proofs.TrustLemmas.{settled_as_by_trust, settled_by_trust, settled_from_trust}
use Rattle.dnsv_verdict.proofs.UnknownLemmas.{hoped_table, none_unknown}
use Rattle.dnsv_chain.specs.Basis.{CaseContents, Basis, basis_of}
use Rattle.dnsv_verdict.specs.Settled.{IsSettled, IsSettledAs}
use Rattle.dnsv_verdict.proofs.at_name.hope_for.Goals as goal

pub settled_on-requires : goal.settled_on-requires
settled_on-requires c =
    c.requires.rrsets ∙ sym (ap (λ (each : CaseContents). each.rrsets) c.as_ref.ensures ∙ c.in_ok-hoped.ensures.hopeful.rrsets)

pub returns-then-knows_all-clause-may : goal.returns-then-knows_all-clause-may
returns-then-knows_all-clause-may c = λ meaning moment table unsettled.
    let case = c.args.case.now in
    let judged : Basis = basis_of case.rrsets case.anchors moment meaning in
    λ may. unsettled (nothing_to_hope c.trust_depends_on_what_is_asked.ensures.numbers judged c.args.hashes.now.name c.args.rtype.0
    (none_unknown judged case.table table (ap unknown_entries (sym c.table-table.ensures) ∙ c.knows_all.ensures.0 c.if-knows_all.true)) may)

pub returns-in_err-verdict-clause-may : goal.returns-in_err-verdict-clause-may
returns-in_err-verdict-clause-may c = λ meaning moment table unsettled.
    let p = err_from_is_err_and c.from_residual-in_err-verdict.result c.from_residual-in_err-verdict.ensures.1 in
    rw p.1 tt

pub returns-clause-may : goal.returns-clause-may
returns-clause-may c = λ meaning moment table unsettled.
    let case = c.args.case.now in
    let its = c.in_ok-hoped.hoped.value in
    let its_own = c.in_ok-hoped.ensures.hopeful in
    let hoped : Entry → Answer = λ entry. hoped_answer (meaning entry) in
    let is = hoped_table hoped moment case.rrsets its_own.table (c.unknown_entries_may_turn_out_valid.ensures.hoped meaning moment case.rrsets case.table table) in
    settled_from_trust hoped moment case.rrsets case.anchors its.table its.trust is.of_moment
    (c.a_table_is_its_verifier.ensures.answer hoped moment case.rrsets its.table is)
    c.trust_depends_on_what_is_asked.ensures.numbers (trust_alike case its its_own.rrsets its_own.anchors its_own.trust) c.args.hashes.now.name c.args.rtype.0
    (settled_stands (SecuredIn its.trust) case.rrsets c.args.hashes.now.name c.args.rtype.0 c.in-Some.verdict
    (subst (λ all. IsSettledAs (SecuredIn its.trust) all c.args.hashes.now.name c.args.rtype.0 c.in-Some.verdict) its_own.rrsets
    (MatchOption-at_some _ _ c.in-Some.verdict c.in-Some.is (rw c.as_ref.ensures at c.in_ok-verdict.ensures))))

pub returns-clause-hope : goal.returns-clause-hope
returns-clause-hope c =
    let its = c.in_ok-hoped.hoped.value in
    let its_own = c.in_ok-hoped.ensures.hopeful in
    record {
      rrsets = its_own.rrsets;
      anchors = its_own.anchors;
      table = its_own.table;
      trust = its_own.trust;
      verdict = settled_as_by_trust (table_answer its.table) its.table.moment its.rrsets its.anchors its.table its.trust refl
          (λ entry asked. refl) c.trust_depends_on_what_is_asked.ensures.numbers its_own.trust c.args.hashes.now.name c.args.rtype.0 c.in-Some.verdict
          (MatchOption-at_some _ _ c.in-Some.verdict c.in-Some.is (rw c.as_ref.ensures at c.in_ok-verdict.ensures));
    }

pub returns-in_default-clause-may : goal.returns-in_default-clause-may
returns-in_default-clause-may c = λ meaning moment table unsettled.
    let case = c.args.case.now in
    let its = c.in_ok-hoped.hoped.value in
    let its_own = c.in_ok-hoped.ensures.hopeful in
    let hoped : Entry → Answer = λ entry. hoped_answer (meaning entry) in
    let is = hoped_table hoped moment case.rrsets its_own.table (c.unknown_entries_may_turn_out_valid.ensures.hoped meaning moment case.rrsets case.table table) in
    λ may. subst (λ all. ¬ IsSettled (SecuredIn its.trust) all c.args.hashes.now.name c.args.rtype.0) its_own.rrsets
    (MatchOption-at_none _ _ c.in_default.is (rw c.as_ref.ensures at c.in_ok-verdict.ensures))
    (settled_by_trust hoped moment case.rrsets case.anchors its.table its.trust is.of_moment
    (c.a_table_is_its_verifier.ensures.answer hoped moment case.rrsets its.table is)
    c.trust_depends_on_what_is_asked.ensures.numbers (trust_alike case its its_own.rrsets its_own.anchors its_own.trust) c.args.hashes.now.name c.args.rtype.0 may)
