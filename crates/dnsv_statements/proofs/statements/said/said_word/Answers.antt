use Rattle.std.proofs.Common.{List, get_or, ap, sym, ◌∙◌, rules}
use Rattle.std.proofs.lemmas.Fn.{always_returns_same}
use Rattle.dnsv_verifier.specs.Entry.{entry_cmp}
use Rattle.dnsv_verifier.specs.EntryLaws.{entry_cmp_total, entry_Equal}
use Rattle.dnsv_statements.specs.StatementsReading.{said_in}
use Rattle.dnsv_verifier.specs.declared.entry.Entry.{Entry}
use Rattle.dnsv_statements.specs.declared.statements.statement.Word.{Word}
use Rattle.dnsv_verifier.proofs.SearchLemmas.{found_at, absent_from, pairs_again}
use Rattle.dnsv_statements.proofs.statements.said.said_word.Goals as goal

pub returns-in-Ok : goal.returns-in-Ok
returns-in-Ok c =
    let asked : Entry = c.args.entry.now in
    let by_entry = c.in-Ok.ensures.position (λ each. entry_cmp each.0 asked) (always_returns_same _ _ _ (λ a r f called. search rules)) in
    let at : Entry × Word → Entry × Word = λ item. get_or c.args.listed.now c.in-Ok.place item in
    let found = ap (λ (all : List (Entry × Word)). said_in all asked) (sym (pairs_again _)) ∙ found_at entry_cmp entry_cmp_total entry_Equal (λ (each : Entry × Word). each.0) (λ (each : Entry × Word). each.1) _ c.requires asked c.in-Ok.place (at c.index-listed-place.result) c.in-Ok.ensures.bound (ap at c.index-listed-place.is) by_entry in
    sym found

pub returns-in-Err : goal.returns-in-Err
returns-in-Err c =
    let asked : Entry = c.args.entry.now in
    let by_entry = c.in-Err.ensures.position (λ each. entry_cmp each.0 asked) (always_returns_same _ _ _ (λ a r f called. search rules)) in
    sym (ap (λ (all : List (Entry × Word)). said_in all asked) (sym (pairs_again _))
    ∙ absent_from entry_cmp entry_cmp_total entry_Equal (λ (each : Entry × Word). each.0) (λ (each : Entry × Word). each.1) _ c.requires asked c.in-Err.field-0 by_entry)
