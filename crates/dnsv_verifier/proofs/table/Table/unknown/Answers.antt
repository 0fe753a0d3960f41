use Rattle.std.proofs.Common.{◌≡◌, List, map, sym, ap, ◌∙◌, subst, rules}
use Rattle.std.specs.List.{filter, zip}
use Rattle.std.specs.List.Sorted.{IsStrictlySortedBy}
use Rattle.dnsv_verifier.specs.Entry.{entry_cmp}
use Rattle.dnsv_verifier.specs.Numbers.{answers_of, entry_of}
use Rattle.dnsv_verifier.specs.Table.{is_unknown, unknown_entries}
use Rattle.dnsv_verifier.specs.declared.entry.Entry.{Entry}
use Rattle.dnsv_verifier.proofs.ListedLemmas.{rising_table}
use Rattle.dnsv_verifier.proofs.NumberLemmas.{unknown_listed}
use Rattle.dnsv_verifier.proofs.TableLemmas.{rising_filtered}
use Rattle.dnsv_verifier.proofs.table.Table.unknown.Goals as goal

pub returns-clause-value : goal.returns-clause-value
returns-clause-value c =
    let same : c.copied.result ≡ c.self.inside.parts = search rules in
    let pairs = zip c.self.inside.numbers.value.items c.self.inside.answers.items in
    let numbers : c.in_ok-unknown.unknown.items ≡ map (λ each. each.0) (filter (λ each. is_unknown each.1) pairs) = search rules in
    c.new.ensures ∙ (λ i. map (entry_of (same i)) (numbers i)) ∙ unknown_listed c.self.inside.parts pairs ∙ ap unknown_entries c.self.view_is

pub returns-clause-rising : goal.returns-clause-rising
returns-clause-rising c =
    let same : c.copied.result ≡ c.self.inside.parts = search rules in
    let pairs = zip c.self.inside.numbers.value.items c.self.inside.answers.items in
    let numbers : c.in_ok-unknown.unknown.items ≡ map (λ each. each.0) (filter (λ each. is_unknown each.1) pairs) = search rules in
    let all = c.new.ensures ∙ (λ i. map (entry_of (same i)) (numbers i)) ∙ unknown_listed c.self.inside.parts pairs in
    subst (λ (entries : List Entry). IsStrictlySortedBy entry_cmp entries) (sym all)
    (rising_filtered (λ each. is_unknown each.1) (answers_of c.self.inside.parts pairs) (rising_table c.self.inside.parts c.self.inside.numbers.value.items c.self.inside.answers.items c.self.invariant.1 c.self.invariant.0))
