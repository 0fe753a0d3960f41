use Rattle.std.proofs.Common.{List, subst, sym, ◌∙◌}
use Rattle.std.proofs.lemmas.Bool.{false≢true}
use Rattle.std.proofs.lemmas.Option.{MatchOption-at_some}
use Rattle.dnsv_derivations.proofs.lemmas.derivations.ClimbLemmas.{whole}
use Rattle.dnsv_derivations.specs.derivations.Derivations.{IsDerivation}
use Rattle.dnsv_derivations.specs.derivations.Derivations.IsDerivation.{said_signed}
use Rattle.dnsv_derivations.specs.derivations.Derivations.Subject.{signature}
use Rattle.dnsv_derivations.specs.Explained.{setting_in}
use Rattle.dnsv_lines.specs.declared.line.Line.{Line}
use Rattle.dnsv_derivations.proofs.derivations.derivation.Goals as goal

pub returns-then-is_signature_said : goal.returns-then-is_signature_said
returns-then-is_signature_said c =
    let Derives : List Line → Type 0 = λ lines. IsDerivation (setting_in c.args.evidence.now) c.args.before.now (signature c.args.number) lines in
    subst Derives (sym c.new.ensures.items) (said_signed (c.is_signature_said.ensures.0 c.if-is_signature_said.true))

pub returns : goal.returns
returns c =
    whole (setting_in c.args.evidence.now) c.args.before.now c.args.number c.in-Some.signed c.in_ok-lines.lines.items c.push.new.self.items
    (λ said. false≢true (sym c.if-is_signature_said.false ∙ c.is_signature_said.ensures.1 said))
    (MatchOption-at_some _ _ c.in-Some.signed c.in-Some.is c.in_ok-signed.ensures) c.in_ok-lines.ensures c.in_ok-push.ensures.items
