use Rattle.std.proofs.Common.{◌↔◌, IsTrue, subst}
use Rattle.dnsv_mending.specs.declared.facts.signature.KeyAnswer.{KeyAnswer}
use Rattle.dnsv_mending.specs.declared.facts.signature.KeyAnswer.TheVariants as said
use Rattle.dnsv_verifier.specs.Admissible.{DnskeyRecord, IsGood}
use Rattle.dnsv_verifier.specs.Table.{table_answer}
use Rattle.dnsv_zone_keys.specs.Answers.AnswerSearch.{is_good_answer}
use Rattle.dnsv_zone_keys.specs.Answers.{IsKeyAnswer}
use Rattle.dnsv_zone_keys.proofs.lemmas.AnswerLemmas.{good_is}
use Rattle.dnsv_zone_faults.proofs.zone.dnskeys.own.is_good_under.Goals as goal

pub returns-in-Good : goal.returns-in-Good
returns-in-Good c =
    let table = c.args.table.now in
    let Is : KeyAnswer → Type 0 = λ answer. IsKeyAnswer (table_answer table) table.moment c.args.rrset.now c.args.rrsig.now c.key.result.now answer in
    subst (λ (key : DnskeyRecord). IsTrue (is_good_answer said.Good) ↔ IsGood (table_answer table) table.moment c.args.rrset.now c.args.rrsig.now key) c.key.ensures
    (good_is (table_answer table) table.moment c.args.rrset.now c.args.rrsig.now c.key.result.now said.Good (subst Is c.in-Good.is c.answer_under.ensures))

pub returns-in-Bad : goal.returns-in-Bad
returns-in-Bad c =
    let table = c.args.table.now in
    let Is : KeyAnswer → Type 0 = λ answer. IsKeyAnswer (table_answer table) table.moment c.args.rrset.now c.args.rrsig.now c.key.result.now answer in
    subst (λ (key : DnskeyRecord). IsTrue (is_good_answer said.Bad) ↔ IsGood (table_answer table) table.moment c.args.rrset.now c.args.rrsig.now key) c.key.ensures
    (good_is (table_answer table) table.moment c.args.rrset.now c.args.rrsig.now c.key.result.now said.Bad (subst Is c.in-Bad.is c.answer_under.ensures))

pub returns-in-Unanswered : goal.returns-in-Unanswered
returns-in-Unanswered c =
    let table = c.args.table.now in
    let Is : KeyAnswer → Type 0 = λ answer. IsKeyAnswer (table_answer table) table.moment c.args.rrset.now c.args.rrsig.now c.key.result.now answer in
    subst (λ (key : DnskeyRecord). IsTrue (is_good_answer said.Unanswered) ↔ IsGood (table_answer table) table.moment c.args.rrset.now c.args.rrsig.now key) c.key.ensures
    (good_is (table_answer table) table.moment c.args.rrset.now c.args.rrsig.now c.key.result.now said.Unanswered (subst Is c.in-Unanswered.is c.answer_under.ensures))
