use Rattle.std.proofs.Common.{length, map, ap, ◌∙◌, subst}
use Rattle.std.specs.List.Sorted.{IsStrictlySortedBy}
use Rattle.dnsv_verifier.specs.Entry.{entry_cmp}
use Rattle.dnsv_verifier.specs.Table.{TableContents}
use Rattle.dnsv_verifier.proofs.ListedLemmas.{length_listed, rising_table}
use Rattle.dnsv_verifier.proofs.table.Table.len.Goals as goal

pub returns-clause-count : goal.returns-clause-count
returns-clause-count c =
    c.len.ensures ∙ c.self.inside.answers.ok.0 ∙ length_listed c.self.inside.parts c.self.inside.numbers.value.items c.self.inside.answers.items c.self.invariant.1
    ∙ ap (λ (contents : TableContents). length contents.answers) c.self.view_is

pub returns-clause-rising : goal.returns-clause-rising
returns-clause-rising c =
    subst (λ (contents : TableContents). IsStrictlySortedBy entry_cmp (map (λ each. each.0) contents.answers)) c.self.view_is
    (rising_table c.self.inside.parts c.self.inside.numbers.value.items c.self.inside.answers.items c.self.invariant.1 c.self.invariant.0)
