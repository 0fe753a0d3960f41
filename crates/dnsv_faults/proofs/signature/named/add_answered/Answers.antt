use Rattle.std.proofs.Common.{List, sym, subst}
use Rattle.dnsv_mending.specs.declared.facts.signature.NamedKey.{NamedKey}
use Rattle.dnsv_verifier.specs.Admissible.{DnskeyRecord}
use Rattle.dnsv_verifier.specs.Asking.{GivesMore}
use Rattle.dnsv_verifier.specs.Table.{table_answer}
use Rattle.dnsv_verifier.proofs.NumberedLemmas.{gives_pushed}
use Rattle.dnsv_zone_keys.specs.Answers.AnswerSearch.{IsSaidOf}
use Rattle.dnsv_zone_keys.specs.Answers.{IsKeyAnswer}
use Rattle.dnsv_zone_keys.specs.Keys.Index.{Placed}
use Rattle.dnsv_zone_keys.specs.Keys.{IsZoneKey}
use Rattle.dnsv_faults.proofs.signature.named.add_answered.Goals as goal

pub returns : goal.returns
returns c =
    let table = c.args.table.now in
    let Said : Placed → NamedKey → Type 0 = IsSaidOf (table_answer table) table.moment c.args.rrset.now c.args.rrsig.now in
    let Signs : Placed → Type 0 = λ placed. IsZoneKey placed.key in
    let named : NamedKey = record { key = c.place.result; answer = c.answer_under.result } in
    let it : Said c.args.placed.now named = record {
      place = c.place.ensures;
      zone_key = subst IsZoneKey c.key.ensures (c.is_zone_key.ensures.0 c.if-not-is_zone_key.false);
      answered = subst (λ (key : DnskeyRecord). IsKeyAnswer (table_answer table) table.moment c.args.rrset.now c.args.rrsig.now key c.answer_under.result)
          c.key-2.ensures c.answer_under.ensures;
    } in
    subst (λ (new : List NamedKey). GivesMore Said Signs c.args.placed.now c.args.named.now.items new) (sym c.in_ok-push.ensures.items)
    (gives_pushed Said Signs c.args.placed.now c.args.named.now.items named it)
