use Rattle.std.proofs.Common.{◌≡◌, ◌++◌, ◌∷◌, [], List, length, sym, subst, arith, rules}
use Rattle.std.proofs.lemmas.Result.{err_from_is_err_and}
use Rattle.std.specs.List.Sorted.{IsStrictlySortedBy}
use Rattle.dnsv_verifier.specs.Entry.{entry_cmp}
use Rattle.dnsv_statements.specs.StatementsReading.{IsBehind, Lists}
use Rattle.dnsv_verifier.specs.declared.entry.Entry.{Entry}
use Rattle.dnsv_statements.specs.declared.statements.statement.Word.{Word}
use Rattle.dnsv_statements.proofs.SaidLemmas.{entries_of, fresh_behind, lists_behind, rising_behind}
use Rattle.dnsv_statements.proofs.statements.said.list.Goals as goal

pub returns-in_err-push-clause-refuses : goal.returns-in_err-push-clause-refuses
returns-in_err-push-clause-refuses c =
    let p = err_from_is_err_and c.from_residual.result c.from_residual.ensures.1 in
    let empty : length c.args.tree.now.entries ≡ 0 = omega (arith, c.len.ensures.len, c.if-len-eq0.true) in
    let behind : IsBehind (entries_of c.args.rising.now.items) c.args.entry = subst (λ (all : List (Entry × Word)). IsBehind (entries_of all) c.args.entry) c.deref.ensures.value (c.is_behind.ensures c.if-is_behind.true) in
    rw (p.1, p.2) (fresh_behind c.args.rising.now.items c.args.tree.now.entries c.args.entry c.args.word empty c.requires behind)

pub returns-then-is_behind-clause-lists : goal.returns-then-is_behind-clause-lists
returns-then-is_behind-clause-lists c =
    let empty : length c.args.tree.now.entries ≡ 0 = omega (arith, c.len.ensures.len, c.if-len-eq0.true) in
    let behind : IsBehind (entries_of c.args.rising.now.items) c.args.entry = subst (λ (all : List (Entry × Word)). IsBehind (entries_of all) c.args.entry) c.deref.ensures.value (c.is_behind.ensures c.if-is_behind.true) in
    let pushed : c.push.new.self.items ≡ c.args.rising.now.items ++ (c.args.entry, c.args.word) ∷ [] = search rules in
    subst (λ (all : List (Entry × Word)). Lists c.args.entry c.args.word (c.args.rising.now.items ++ c.args.tree.now.entries) (all ++ c.args.tree.now.entries)) (sym pushed)
    (lists_behind c.args.rising.now.items c.args.tree.now.entries c.args.entry c.args.word empty c.requires behind)

pub returns-then-is_behind-clause-rising : goal.returns-then-is_behind-clause-rising
returns-then-is_behind-clause-rising c =
    let behind : IsBehind (entries_of c.args.rising.now.items) c.args.entry = subst (λ (all : List (Entry × Word)). IsBehind (entries_of all) c.args.entry) c.deref.ensures.value (c.is_behind.ensures c.if-is_behind.true) in
    let pushed : c.push.new.self.items ≡ c.args.rising.now.items ++ (c.args.entry, c.args.word) ∷ [] = search rules in
    subst (λ (all : List (Entry × Word)). IsStrictlySortedBy entry_cmp (entries_of all)) (sym pushed)
    (rising_behind c.args.rising.now.items c.args.entry c.args.word c.requires behind)
