use Rattle.std.proofs.Common.{◌≡◌, ℕ, List, sym, ap, ◌∙◌, subst}
use Rattle.std.specs.List.{Contains, zip}
use Rattle.dnsv_records.specs.declared.dnskey.Dnskey.{Dnskey}
use Rattle.dnsv_canonical.specs.declared.number.SignatureNumber.{SignatureNumber}
use Rattle.dnsv_verifier.specs.Numbers.{IsPlaceOf, answers_of, key_of, listed_answer}
use Rattle.dnsv_verifier.specs.Table.{IsAnswerAt, TableContents}
use Rattle.dnsv_verifier.specs.declared.answer.Answer.{Answer}
use Rattle.dnsv_verifier.specs.declared.answer.Answer.TheVariants.{Unknown}
use Rattle.dnsv_verifier.specs.declared.entry.parts.EntryNumbers.{EntryNumbers}
use Rattle.dnsv_verifier.proofs.ListedLemmas.{says_at, says_none}
use Rattle.dnsv_verifier.proofs.table.Table.known_at.Goals as goal

pub returns-in_default-find_key : goal.returns-in_default-find_key
returns-in_default-find_key c =
    let inside = c.self.inside in
    let place = c.in-Some.place in
    let key = c.args.key.now in
    let is : IsPlaceOf inside.capture.now.rrsets inside.parts place = c.self.invariant.2 place c.in-Some.ensures.0 in
    let field : c.as_slice-field.result.now ≡ key.dnskey.key = c.as_slice-field.ensures ∙ ap (λ (dnskey : Dnskey). dnskey.key) c.dnskey.ensures in
    let missing : Contains inside.parts.keys (record { algorithm = place.algorithm; key = key.dnskey.key }) → ⊥ = λ has.
    c.in_default-find_key.ensures (subst (λ (octets : List ℕ). Contains inside.parts.keys (record { algorithm = place.algorithm; key = octets })) (sym field) has) in
    subst (λ (table : TableContents). IsAnswerAt table c.args.number key Unknown) c.self.view_is
    (subst (λ (number : SignatureNumber). IsAnswerAt (record {
      moment = inside.moment;
      rrsets = inside.capture.now.rrsets;
      answers = answers_of inside.parts (zip inside.numbers.value.items inside.answers.items);
    }) number key Unknown) c.in-Some.ensures.1
    (says_none inside.moment inside.capture.now.rrsets inside.parts inside.numbers.value.items inside.answers.items c.self.invariant.1 c.self.invariant.0 place is key missing))

pub returns : goal.returns
returns c =
    let inside = c.self.inside in
    let place = c.in-Some.place in
    let key = c.args.key.now in
    let number = c.in-Some-find_key.key_number in
    let wanted : EntryNumbers = record { key = number; signature = place.part } in
    let is : IsPlaceOf inside.capture.now.rrsets inside.parts place = c.self.invariant.2 place c.in-Some.ensures.0 in
    let field : c.as_slice-field.result.now ≡ key.dnskey.key = c.as_slice-field.ensures ∙ ap (λ (dnskey : Dnskey). dnskey.key) c.dnskey.ensures in
    let its : key_of inside.parts number ≡ record { algorithm = place.algorithm; key = key.dnskey.key } =
    c.in-Some-find_key.ensures.1 ∙ (λ i. record { algorithm = place.algorithm; key = field i }) in
    let numbers : c.deref-2.result.now ≡ inside.numbers.value.items = c.deref-2.ensures.value ∙ ap (λ v. v.items) c.deref.ensures in
    let said : c.listed.result ≡ listed_answer (zip inside.numbers.value.items inside.answers.items) wanted =
    c.listed.ensures ∙ (λ i. listed_answer (zip (numbers i) (c.deref-3.ensures.value i)) wanted) in
    subst (λ (table : TableContents). IsAnswerAt table c.args.number key c.listed.result) c.self.view_is
    (subst (λ (number : SignatureNumber). IsAnswerAt (record {
      moment = inside.moment;
      rrsets = inside.capture.now.rrsets;
      answers = answers_of inside.parts (zip inside.numbers.value.items inside.answers.items);
    }) number key c.listed.result) c.in-Some.ensures.1
    (subst (λ (answer : Answer). IsAnswerAt (record {
      moment = inside.moment;
      rrsets = inside.capture.now.rrsets;
      answers = answers_of inside.parts (zip inside.numbers.value.items inside.answers.items);
    }) place.number key answer) (sym said)
    (says_at inside.moment inside.capture.now.rrsets inside.parts inside.numbers.value.items inside.answers.items c.self.invariant.1 c.self.invariant.0 place is key number c.in-Some-find_key.ensures.0 its)))
