use Rattle.std.proofs.Common.{◌≡◌, List, length, map, sym, ap, ◌∙◌, rules, subst}
use Rattle.std.proofs.lemmas.List.{length-map}
use Rattle.std.specs.List.{zip}
use Rattle.dnsv_verifier.specs.Numbers.{ArePlaces, AreRising, PartLists, answers_of}
use Rattle.dnsv_verifier.specs.Table.{hoped_answer, hopeful}
use Rattle.dnsv_verifier.specs.declared.entry.parts.EntryNumbers.{EntryNumbers}
use Rattle.dnsv_verifier.proofs.ListedLemmas.{hoped_table}
use Rattle.dnsv_verifier.proofs.table.Table.hopeful.Goals as goal

pub new-requires-clause-rising : goal.new-requires-clause-rising
new-requires-clause-rising c =
    let same : c.copied-parts.result ≡ c.self.inside.parts = search rules in
    let numbers : c.in_ok-numbers.numbers.value.items ≡ c.self.inside.numbers.value.items = search rules in
    subst (λ (parts : PartLists). AreRising parts c.in_ok-numbers.numbers.value.items) (sym same)
    (subst (λ (ns : List EntryNumbers). AreRising c.self.inside.parts ns) (sym numbers) c.self.invariant.0)

pub new-requires-clause-each : goal.new-requires-clause-each
new-requires-clause-each c =
    let numbers : c.in_ok-numbers.numbers.value.items ≡ c.self.inside.numbers.value.items = search rules in
    let hoped : c.in_ok-answers.answers.items ≡ map hoped_answer c.self.inside.answers.items = search rules in
    ap length hoped ∙ length-map c.self.inside.answers.items hoped_answer ∙ c.self.invariant.1 ∙ sym (ap length numbers)

pub new-requires-clause-places : goal.new-requires-clause-places
new-requires-clause-places c =
    let same : c.copied-parts.result ≡ c.self.inside.parts = search rules in
    subst (λ (parts : PartLists). ArePlaces c.self.inside.capture.now.rrsets parts c.self.inside.places.now) (sym same) c.self.invariant.2

pub returns : goal.returns
returns c =
    let same : c.copied-parts.result ≡ c.self.inside.parts = search rules in
    let numbers : c.in_ok-numbers.numbers.value.items ≡ c.self.inside.numbers.value.items = search rules in
    let hoped : c.in_ok-answers.answers.items ≡ map hoped_answer c.self.inside.answers.items = search rules in
    c.new.ensures ∙ (λ i. record { moment = c.self.inside.moment; rrsets = c.self.inside.capture.now.rrsets; answers = answers_of (same i) (zip (numbers i) (hoped i)) })
    ∙ hoped_table c.self.inside.moment c.self.inside.capture.now.rrsets c.self.inside.parts c.self.inside.numbers.value.items c.self.inside.answers.items ∙ ap hopeful c.self.view_is
