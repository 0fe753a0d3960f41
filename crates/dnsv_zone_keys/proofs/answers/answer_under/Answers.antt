use Rattle.std.proofs.Common.{List, ℕ, Some, sym, ap, ◌∙◌, subst}
use Rattle.std.specs.Option.{option_map}
use Rattle.dnsv_canonical.specs.SignedData.{IsSignedData}
use Rattle.dnsv_mending.specs.declared.facts.signature.KeyAnswer.{KeyAnswer}
use Rattle.dnsv_verifier.specs.Table.{table_answer}
use Rattle.dnsv_zone_keys.specs.Answers.AnswerSearch.{IsAskedOf}
use Rattle.dnsv_zone_keys.specs.Answers.{IsKeyAnswer}
use Rattle.dnsv_zone_keys.proofs.lemmas.AnswerLemmas.{says_so}
use Rattle.dnsv_zone_keys.proofs.answers.answer_under.Goals as goal

pub returns : goal.returns
returns c =
    let meaning = table_answer c.args.table.now in
    let moment = c.args.table.now.moment in
    let rrset = c.args.rrset.now in
    let rrsig = c.args.rrsig.now in
    let asked : IsAskedOf moment rrset rrsig (Some c.in-Some.octets.items) =
    subst (λ octets. IsAskedOf moment rrset rrsig (option_map (λ each. each.items) octets)) c.in-Some.is c.requires in
    let signed = subst (λ (octets : List ℕ). IsSignedData rrset.owner rrset.rtype rrset.rdata rrsig (Some octets)) (sym c.as_slice.ensures.value) asked.1 in
    subst (λ (answer : KeyAnswer). IsKeyAnswer meaning moment rrset rrsig c.args.key.now answer) (sym c.key_answer.ensures)
    (says_so meaning moment rrset rrsig c.args.key.now c.as_slice.result.now asked.0 signed
    (c.may_have_made.ensures.0 c.if-not-may_have_made.false)
    (λ a b first second. c.a_pair_has_one_entry.ensures.one rrset rrsig c.args.key.now a b first second)
    c.answer.result (sym (c.answer.ensures ∙ ap meaning c.entry_over.ensures)))
