use Rattle.std.proofs.Common.{◌≡◌, ℕ, ◌≤◌, List, length, map, refl, sym, ap, ◌∙◌, arith, rules}
use Rattle.std.proofs.lemmas.List.{length-map, take_all}
use Rattle.std.specs.List.{zip}
use Rattle.dnsv_names.specs.Count.{counted, count_limit}
use Rattle.dnsv_verifier.specs.Numbers.{answers_of, entry_of}
use Rattle.dnsv_verifier.specs.Table.{TableContents}
use Rattle.dnsv_verifier.specs.declared.answer.Answer.{Answer}
use Rattle.dnsv_verifier.specs.declared.entry.parts.EntryNumbers.{EntryNumbers}
use Rattle.dnsv_verifier.proofs.ListedLemmas.{length_listed, zip_answered}
use Rattle.dnsv_verifier.proofs.NumberLemmas.{answered_numbers, rising_entries}
use Rattle.dnsv_verifier.proofs.ask.ask_within.Goals as goal

counted-nothing : (before : ℕ) → before ≤ count_limit → before ≡ counted before 0
counted-nothing before within = omega arith

-- the capacity is that of all entries
fits : (asked items : List EntryNumbers) (number capacity : ℕ) → asked ≡ items → number ≡ length items → capacity ≡ number
    → length asked ≤ capacity
fits asked items number capacity same count room =
    let counts : length asked ≡ length items = ap length same in omega arith

pub loop-each-init : goal.loop-each-init
loop-each-init g c =
    let items : c.deref-each-items.result.now ≡ c.in_ok-asked.asked.numbers.items = search rules in
    record {
      said = c.in_ok-answers.ensures.items;
      number = c.in_ok-answers.ensures.len;
      ticks = counted-nothing c.args.count.now c.value.ensures.at_most;
      room = fits _ _ _ _ items c.in_ok-asked.asked.numbers.ok.0 (c.in_ok-answers.ensures.exact ∙ c.len.ensures);
    }

pub returns-clause-table : goal.returns-clause-table
returns-clause-table g c =
    let parts = c.in_ok-asked.asked.parts in
    let all = c.in_ok-asked.asked.numbers.items in
    let says : EntryNumbers → Answer = λ each. g.V.Verifier.meaning c.args.verifier.now (entry_of parts each) in
    let same : c.in_ok-numbers.numbers.value.items ≡ c.in_ok-asked.asked.numbers.items = search rules in
    let items : c.deref-each-items.result.now ≡ c.in_ok-asked.asked.numbers.items = search rules in
    let said = c.loop-each.invariant.said ∙ ap (map says) (take_all _ _ c.loop-each-test.false ∙ items) in
    let listed = (λ i. answers_of parts (zip (same i) (said i)))
    ∙ ap (answers_of parts) (zip_answered (g.V.Verifier.meaning c.args.verifier.now) parts all) ∙ answered_numbers (g.V.Verifier.meaning c.args.verifier.now) parts all in
    let rising = c.in_ok-asked.ensures.rising in
    rw (c.new-2.ensures, ← c.rrsets.ensures.value)
    record {
      of_rrsets = refl;
      entries = map (entry_of parts) all;
      asked = record {
        rising = rising_entries parts rising.keys rising.signatures all rising.within rising.rising;
        members = c.in_ok-asked.ensures.asked;
      };
      answers = listed;
    }

pub returns-clause-count : goal.returns-clause-count
returns-clause-count g c =
    let parts = c.in_ok-asked.asked.parts in
    let all = c.in_ok-asked.asked.numbers.items in
    let says : EntryNumbers → Answer = λ each. g.V.Verifier.meaning c.args.verifier.now (entry_of parts each) in
    let same : c.in_ok-numbers.numbers.value.items ≡ c.in_ok-asked.asked.numbers.items = search rules in
    let items : c.deref-each-items.result.now ≡ c.in_ok-asked.asked.numbers.items = search rules in
    let said = c.loop-each.invariant.said ∙ ap (map says) (take_all _ _ c.loop-each-test.false ∙ items) in
    let each = ap length said ∙ length-map all says ∙ sym (ap length same) in
    let asked : c.loop-each.each-index ≡ length c.loop-each.answers.items = sym c.loop-each.invariant.number ∙ c.loop-each.answers.ok.0 in
    c.loop-each.invariant.ticks
    ∙ ap (λ n. counted c.args.count.now n) (asked ∙ length_listed parts c.in_ok-numbers.numbers.value.items c.loop-each.answers.items each
    ∙ ap (λ (contents : TableContents). length contents.answers) (sym c.new-2.ensures))
