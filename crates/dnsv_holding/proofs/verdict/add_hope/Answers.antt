use Rattle.std.proofs.Common.{◌∙◌, List, ap, subst, sym}
use Rattle.dnsv_canonical.specs.Rrsets.{ReceivedRrset}
use Rattle.dnsv_chain.specs.Basis.{CaseContents, HasTrust, basis_by}
use Rattle.dnsv_verdict.specs.Report.{hashed_in}
use Rattle.dnsv_holding.proofs.lemmas.marks.HopeLemmas.{hope_settled, hope_told}
use Rattle.dnsv_holding.proofs.lemmas.marks.HopedWayLemmas.{hope_by_ways}
use Rattle.dnsv_holding.proofs.lemmas.telling.SecureLemmas.{has_kind}
use Rattle.dnsv_holding.proofs.lemmas.telling.TellLemmas.{todo_same}
use Rattle.dnsv_holding.proofs.verdict.add_hope.Goals as goal

pub with_ways-hoped-requires : goal.with_ways-hoped-requires
with_ways-hoped-requires c =
    hope_by_ways c.args.case.now c.args.hope.now c.args.unknown.now c.args.name.now c.args.rtype.0 c.args.ways.now c.evidence_of-bare.result
    c.requires.hope c.requires.unknown (rw c.as_ref-hoped_case.ensures at c.evidence_of-bare.ensures) c.requires.ways

pub returns-in_default : goal.returns-in_default
returns-in_default c =
    absurd (has_kind c.args.evidence.now c.args.name.now c.args.rtype.0 (basis_by c.args.hope.now.case.value) c.args.hope.now.verdict
    c.requires.hope.verdict (sym c.kind_of.ensures ∙ c.in_default.is))

pub add_settled-requires-clause-at : goal.add_settled-requires-clause-at
add_settled-requires-clause-at c =
    let case = c.as_ref-hoped_case.ensures in record {
      trust = subst HasTrust (sym case) c.requires.hope.trust;
      evidence = todo_same c.as_ref-hoped_case.result.now c.with_ways-hoped.result c.args.unknown.now (c.with_ways-hoped.ensures ∙ c.evidence_of-bare.ensures);
      hashes = c.requires.hashes ∙ ap (λ (each : List ReceivedRrset). hashed_in each c.args.name.now)
          (sym (ap (λ (each : CaseContents). each.rrsets) case ∙ c.requires.hope.rrsets));
    }

pub add_settled-requires-clause-verdict : goal.add_settled-requires-clause-verdict
add_settled-requires-clause-verdict c =
    hope_settled c.args.evidence.now c.with_ways-hoped.result c.args.case.now c.args.hope.now c.args.unknown.now c.args.name.now
    c.args.rtype.0 c.requires.evidence (c.with_ways-hoped.ensures ∙ (rw c.as_ref-hoped_case.ensures at c.evidence_of-bare.ensures)) c.requires.hope

pub returns : goal.returns
returns c =
    hope_told c.args.evidence.now c.with_ways-hoped.result c.args.case.now c.args.hope.now c.args.unknown.now c.args.name.now
    c.args.rtype.0 c.requires.evidence (c.with_ways-hoped.ensures ∙ (rw c.as_ref-hoped_case.ensures at c.evidence_of-bare.ensures)) c.requires.hope c.in-Some.kind c.args.lines.now.items _ _
    (sym c.kind_of.ensures ∙ c.in-Some.is) c.in_ok-push.ensures.items c.in_ok-add_settled.ensures
