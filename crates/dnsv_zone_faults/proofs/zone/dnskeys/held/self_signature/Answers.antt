use Rattle.std.proofs.Common.{ℕ, refl, ap, ◌∙◌, subst}
use Rattle.dnsv_verifier.specs.Admissible.{DnskeyRecord}
use Rattle.dnsv_verifier.specs.Table.{TableContents, table_answer}
use Rattle.dnsv_zone_keys.specs.Answers.{IsKeyAnswer}
use Rattle.dnsv_faults.specs.Signatures.{AreSignatureFaults}
use Rattle.dnsv_zone_faults.proofs.zone.dnskeys.held.self_signature.Goals as goal

pub returns : goal.returns
returns c =
    let set = c.args.set.now in
    let own = c.args.own.now in
    let kept = c.requires.set.own.each own c.requires.own in
    let Faults : ℕ → Type 0 = λ moment. AreSignatureFaults moment set.rrset.now own.rrsig.now c.signature_faults.result in
    let Says : TableContents → Type 0 = λ table. IsKeyAnswer (table_answer table) table.moment set.rrset.now own.rrsig.now c.args.placed.now.key c.answer_under.result in
    let SaysUnder : DnskeyRecord → Type 0 =
    λ key. IsKeyAnswer (table_answer c.table-table.result.now) c.table-table.result.now.moment set.rrset.now own.rrsig.now key c.answer_under.result in record {
      number = refl;
      is = record {
        rrsig = own.rrsig.now;
        its = kept.its;
        rrset = refl;
        may = c.requires.may;
        faults = subst Faults (c.moment.ensures ∙ ap (λ (t : TableContents). t.moment) c.table-table.ensures) c.signature_faults.ensures;
        answered = subst Says c.table-table.ensures (subst SaysUnder c.key.ensures c.answer_under.ensures);
      };
    }
