use Rattle.std.proofs.Common.{◌≡◌, List, length, map, sym, ap, ◌∙◌, subst, rules}
use Rattle.std.specs.List.{filter, zip}
use Rattle.std.specs.List.Sorted.{IsStrictlySortedBy}
use Rattle.dnsv_verifier.specs.Entry.{entry_cmp}
use Rattle.dnsv_verifier.specs.Numbers.{ArePlaces, AreRising, PartLists, is_timely_in}
use Rattle.dnsv_verifier.specs.Table.{IsTableOf, TableContents}
use Rattle.dnsv_verifier.specs.Within.{IsTableAt}
use Rattle.dnsv_verifier.specs.declared.entry.parts.EntryNumbers.{EntryNumbers}
use Rattle.dnsv_verifier.proofs.ListedLemmas.{rising_table}
use Rattle.dnsv_verifier.proofs.TimelyLemmas.{left_at, left_by, left_each, left_rising, table_left, table_within}
use Rattle.dnsv_verifier.proofs.table.Table.at.Goals as goal

pub new-requires-2-clause-rising : goal.new-requires-2-clause-rising
new-requires-2-clause-rising c =
    let same : c.copied-parts.result ≡ c.self.inside.parts = search rules in
    let pairs = filter (is_timely_in c.args.moment c.self.inside.parts) (zip c.self.inside.numbers.value.items c.self.inside.answers.items) in
    let kept : c.in_ok-numbers.numbers.items ≡ map (λ each. each.0) pairs = search rules in
    let shared : c.in_ok-numbers-2.numbers.value.items ≡ c.in_ok-numbers.numbers.items = search rules in
    subst (λ (parts : PartLists). AreRising parts c.in_ok-numbers-2.numbers.value.items) (sym same)
    (subst (λ (ns : List EntryNumbers). AreRising c.self.inside.parts ns) (sym (shared ∙ kept))
    (left_rising c.self.inside.parts c.self.inside.numbers.value.items c.self.inside.answers.items c.self.invariant.1 c.args.moment c.self.invariant.0))

pub new-requires-2-clause-each : goal.new-requires-2-clause-each
new-requires-2-clause-each c =
    let pairs = filter (is_timely_in c.args.moment c.self.inside.parts) (zip c.self.inside.numbers.value.items c.self.inside.answers.items) in
    let kept : c.in_ok-numbers.numbers.items ≡ map (λ each. each.0) pairs = search rules in
    let shared : c.in_ok-numbers-2.numbers.value.items ≡ c.in_ok-numbers.numbers.items = search rules in
    let said : c.in_ok-numbers.field-0.answers.items ≡ map (λ each. each.1) pairs = search rules in
    ap length said
    ∙ left_each c.self.inside.parts c.self.inside.numbers.value.items c.self.inside.answers.items c.self.invariant.1 c.args.moment
    ∙ sym (ap length (shared ∙ kept))

pub new-requires-2-clause-places : goal.new-requires-2-clause-places
new-requires-2-clause-places c =
    let same : c.copied-parts.result ≡ c.self.inside.parts = search rules in
    subst (λ (parts : PartLists). ArePlaces c.self.inside.capture.now.rrsets parts c.self.inside.places.now) (sym same) c.self.invariant.2

pub returns-clause-value : goal.returns-clause-value
returns-clause-value c =
    let same : c.copied-parts.result ≡ c.self.inside.parts = search rules in
    let pairs = filter (is_timely_in c.args.moment c.self.inside.parts) (zip c.self.inside.numbers.value.items c.self.inside.answers.items) in
    let kept : c.in_ok-numbers.numbers.items ≡ map (λ each. each.0) pairs = search rules in
    let shared : c.in_ok-numbers-2.numbers.value.items ≡ c.in_ok-numbers.numbers.items = search rules in
    let said : c.in_ok-numbers.field-0.answers.items ≡ map (λ each. each.1) pairs = search rules in
    let rising : IsStrictlySortedBy entry_cmp (map (λ each. each.0) c.args.self.now.answers) =
    subst (λ (contents : TableContents). IsStrictlySortedBy entry_cmp (map (λ each. each.0) contents.answers)) c.self.view_is
    (rising_table c.self.inside.parts c.self.inside.numbers.value.items c.self.inside.answers.items c.self.invariant.1 c.self.invariant.0) in
    let is : c.new-2.result ≡ left_at c.args.self.now c.args.moment =
    left_by c.self.inside.parts c.self.inside.numbers.value.items c.self.inside.answers.items c.self.invariant.1 c.args.moment c.self.inside.moment c.self.inside.capture.now.rrsets c.copied-parts.result c.in_ok-numbers-2.numbers.value.items c.in_ok-numbers.field-0.answers.items c.args.self.now c.new-2.result same (shared ∙ kept) said c.self.view_is c.new-2.ensures in
    subst (λ (table : TableContents). IsTableAt c.args.self.now c.args.moment table) (sym is) (table_left c.args.self.now c.args.moment rising)

pub returns-clause-within : goal.returns-clause-within
returns-clause-within c =
    let same : c.copied-parts.result ≡ c.self.inside.parts = search rules in
    let pairs = filter (is_timely_in c.args.moment c.self.inside.parts) (zip c.self.inside.numbers.value.items c.self.inside.answers.items) in
    let kept : c.in_ok-numbers.numbers.items ≡ map (λ each. each.0) pairs = search rules in
    let shared : c.in_ok-numbers-2.numbers.value.items ≡ c.in_ok-numbers.numbers.items = search rules in
    let said : c.in_ok-numbers.field-0.answers.items ≡ map (λ each. each.1) pairs = search rules in
    let is : c.new-2.result ≡ left_at c.args.self.now c.args.moment =
    left_by c.self.inside.parts c.self.inside.numbers.value.items c.self.inside.answers.items c.self.invariant.1 c.args.moment c.self.inside.moment c.self.inside.capture.now.rrsets c.copied-parts.result c.in_ok-numbers-2.numbers.value.items c.in_ok-numbers.field-0.answers.items c.args.self.now c.new-2.result same (shared ∙ kept) said c.self.view_is c.new-2.ensures in
    λ meaning from to rrsets table begins ends.
    subst (λ (contents : TableContents). IsTableOf meaning c.args.moment rrsets contents) (sym is) (table_within meaning from to rrsets c.args.self.now c.args.moment table begins ends)
