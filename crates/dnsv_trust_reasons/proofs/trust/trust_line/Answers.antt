use Rattle.std.proofs.Common.{subst, sym}
use Rattle.std.specs.Prelude.{IfOk, MatchOption}
use Rattle.dnsv_chain.specs.Basis.{basis_by}
use Rattle.dnsv_lines.specs.declared.line.Line.{Line}
use Rattle.dnsv_mending.specs.declared.told.Told.{Told}
use Rattle.dnsv_trust_reasons.specs.TrustLines.{IsTrustLine}
use Rattle.dnsv_trust_reasons.proofs.trust.trust_line.Goals as goal

pub returns-in-Zone : goal.returns-in-Zone
returns-in-Zone c =
    subst (λ (told : Told). MatchOption c.zone_line.result ((each : Line) → ¬ IsTrustLine (basis_by c.args.facts.now) c.args.name.now told each) (IsTrustLine (basis_by c.args.facts.now) c.args.name.now told))
    (sym c.in-Zone.is) (c.zone_line.ensures (basis_by c.args.facts.now))

pub returns-in-Entry : goal.returns-in-Entry
returns-in-Entry c =
    subst (λ (told : Told). IfOk c.entry_line.result (λ found. MatchOption found ((each : Line) → ¬ IsTrustLine (basis_by c.args.facts.now) c.args.name.now told each) (IsTrustLine (basis_by c.args.facts.now) c.args.name.now told)))
    (sym c.in-Entry.is) (c.entry_line.ensures c.args.name.now)

pub returns-in-NotSelfSigned : goal.returns-in-NotSelfSigned
returns-in-NotSelfSigned c =
    subst (λ (told : Told). IfOk c.self_line.result (λ found. MatchOption found ((each : Line) → ¬ IsTrustLine (basis_by c.args.facts.now) c.args.name.now told each) (IsTrustLine (basis_by c.args.facts.now) c.args.name.now told)))
    (sym c.in-NotSelfSigned.is) (c.self_line.ensures c.args.name.now)

pub returns-in-NotVouched : goal.returns-in-NotVouched
returns-in-NotVouched c =
    subst (λ (told : Told). MatchOption c.vouched_line.result ((each : Line) → ¬ IsTrustLine (basis_by c.args.facts.now) c.args.name.now told each) (IsTrustLine (basis_by c.args.facts.now) c.args.name.now told))
    (sym c.in-NotVouched.is) (c.vouched_line.ensures c.args.name.now)

pub returns-in-Unsigned : goal.returns-in-Unsigned
returns-in-Unsigned c =
    subst (λ (told : Told). MatchOption c.unsigned_line.result ((each : Line) → ¬ IsTrustLine (basis_by c.args.facts.now) c.args.name.now told each) (IsTrustLine (basis_by c.args.facts.now) c.args.name.now told))
    (sym c.in-Unsigned.is) (c.unsigned_line.ensures c.args.name.now)

pub returns-in-Signature : goal.returns-in-Signature
returns-in-Signature c =
    subst (λ (told : Told). MatchOption c.signature_line.result ((each : Line) → ¬ IsTrustLine (basis_by c.args.facts.now) c.args.name.now told each) (IsTrustLine (basis_by c.args.facts.now) c.args.name.now told))
    (sym c.in-Signature.is) (c.signature_line.ensures c.args.name.now)

pub returns-in-Follows : goal.returns-in-Follows
returns-in-Follows c =
    subst (λ (told : Told). MatchOption c.follows_line.result ((each : Line) → ¬ IsTrustLine (basis_by c.args.facts.now) c.args.name.now told each) (IsTrustLine (basis_by c.args.facts.now) c.args.name.now told))
    (sym c.in-Follows.is) (c.follows_line.ensures c.args.name.now)
