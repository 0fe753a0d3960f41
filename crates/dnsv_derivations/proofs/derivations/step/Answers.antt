use Rattle.std.proofs.Common.{◌++◌, ◌∷◌, [], List, sym, ap, subst, ◌∙◌}
use Rattle.std.proofs.lemmas.Bool.{false≢true}
use Rattle.std.proofs.lemmas.Option.{MatchOption-at_some}
use Rattle.dnsv_derivations.specs.Following.{IsSignatureSaid}
use Rattle.dnsv_derivations.specs.Explained.{setting_in}
use Rattle.dnsv_derivations.specs.derivations.Ways.{IsSignedLine}
use Rattle.dnsv_lines.specs.declared.line.Line.{Line}
use Rattle.dnsv_lines.specs.declared.line.Line.TheVariants as line
use Rattle.dnsv_canonical.specs.declared.number.SignatureNumber.{SignatureNumber}
use Rattle.dnsv_derivations.proofs.lemmas.derivations.ClimbLemmas.{anchor_alone, by_anchor, by_said, by_signed, ds_secured, number_is, said_before}
use Rattle.dnsv_derivations.proofs.derivations.step.Goals as goal

pub returns-then-is_trust_said : goal.returns-then-is_trust_said
returns-then-is_trust_said c =
    said_before (setting_in c.args.evidence.now) c.args.before.now c.args.number c.args.lines.now.items
    (c.is_trust_said.ensures.0 c.if-is_trust_said.true)

pub returns-in_default-voucher : goal.returns-in_default-voucher
returns-in_default-voucher c =
    by_anchor (setting_in c.args.evidence.now) c.args.before.now c.args.number c.args.lines.now.items c.push.new.self.items c.in-Some.trusted
    c.in_ok-push.ensures.items (λ said. false≢true (sym c.if-is_trust_said.false ∙ c.is_trust_said.ensures.1 said))
    (MatchOption-at_some _ _ c.in-Some.trusted c.in-Some.is c.in_ok-trusted.ensures)
    (anchor_alone c.in-Some.trusted.voucher c.in_default-voucher.not-Ds)

pub returns-in_default-lowest_secured : goal.returns-in_default-lowest_secured
returns-in_default-lowest_secured c =
    absurd (ds_secured (setting_in c.args.evidence.now) c.args.before.now c.args.number c.in-Some.trusted c.in-Ds.record c.in-Ds.field-1
    (MatchOption-at_some _ _ c.in-Some.trusted c.in-Some.is c.in_ok-trusted.ensures) c.in-Ds.is c.in_default-lowest_secured.ensures)

pub returns-then-is_signature_said : goal.returns-then-is_signature_said
returns-then-is_signature_said c =
    let lowest = c.in-Some-lowest_secured.lowest in
    let Said : SignatureNumber → Type 0 = λ number. IsSignatureSaid c.args.before.now number in
    by_said (setting_in c.args.evidence.now) c.args.before.now c.args.number c.args.lines.now.items c.push.new.self.items c.in-Some.trusted
    c.in-Ds.record c.in-Ds.field-1 lowest.signature c.in_ok-push.ensures.items
    (λ said. false≢true (sym c.if-is_trust_said.false ∙ c.is_trust_said.ensures.1 said))
    (MatchOption-at_some _ _ c.in-Some.trusted c.in-Some.is c.in_ok-trusted.ensures) c.in-Ds.is c.in-Some-lowest_secured.ensures.1
    (subst Said (number_is lowest c.in-Ds.record.rrset c.in-Some-lowest_secured.ensures.0) (c.is_signature_said.ensures.0 c.if-is_signature_said.true))

pub returns : goal.returns
returns c =
    let lowest = c.in-Some-lowest_secured.lowest in
    let by_parts = number_is lowest c.in-Ds.record.rrset c.in-Some-lowest_secured.ensures.0 in
    let Unsaid : SignatureNumber → Type 0 = λ number. ¬ IsSignatureSaid c.args.before.now number in
    let Is : SignatureNumber → Type 0 = λ number. IsSignedLine (setting_in c.args.evidence.now) number c.in-Some-2.signed in
    by_signed (setting_in c.args.evidence.now) c.args.before.now c.args.number c.args.lines.now.items c.push-2.new.self.items c.in-Some.trusted
    c.in-Ds.record c.in-Ds.field-1 lowest.signature c.in-Some-2.signed
    (c.in_ok-push-2.ensures.items ∙ ap (λ (front : List Line). front ++ line.Signed c.in-Some-2.signed ∷ []) c.in_ok-push.ensures.items)
    (λ said. false≢true (sym c.if-is_trust_said.false ∙ c.is_trust_said.ensures.1 said))
    (MatchOption-at_some _ _ c.in-Some.trusted c.in-Some.is c.in_ok-trusted.ensures) c.in-Ds.is c.in-Some-lowest_secured.ensures.1
    (subst Unsaid by_parts (λ said. false≢true (sym c.if-is_signature_said.false ∙ c.is_signature_said.ensures.1 said)))
    (subst Is by_parts (MatchOption-at_some _ _ c.in-Some-2.signed c.in-Some-2.is c.in_ok-signed.ensures))
