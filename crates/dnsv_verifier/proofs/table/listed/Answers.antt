use Rattle.std.proofs.Common.{List, sym, subst, rules}
use Rattle.std.proofs.lemmas.Fn.{always_returns_same}
use Rattle.std.proofs.lemmas.List.{map-id}
use Rattle.std.specs.List.{Contains}
use Rattle.std.specs.List.Sorted.{IsStrictlySortedBy}
use Rattle.dnsv_verifier.specs.Numbers.{numbers_cmp}
use Rattle.dnsv_verifier.specs.declared.entry.parts.EntryNumbers.{EntryNumbers}
use Rattle.dnsv_verifier.proofs.ListedLemmas.{answer_absent, answer_found}
use Rattle.dnsv_verifier.proofs.NumberLemmas.{numbers_cmp_total}
use Rattle.dnsv_verifier.proofs.SearchLemmas.{not_missed}
use Rattle.dnsv_verifier.proofs.table.listed.Goals as goal

pub returns-in-Ok : goal.returns-in-Ok
returns-in-Ok c =
    let tied = c.in-Ok.ensures.position (λ each. numbers_cmp each c.args.wanted) (always_returns_same _ _ _ (λ a r f called. search rules)) in
    answer_found c.args.numbers.now c.args.answers.now c.requires.each c.requires.rising c.args.wanted c.in-Ok.place _ c.in-Ok.ensures.bound tied

pub returns-in-Err : goal.returns-in-Err
returns-in-Err c =
    let numbers = c.args.numbers.now in
    let parted = c.in-Err.ensures.position (λ each. numbers_cmp each c.args.wanted) (always_returns_same _ _ _ (λ a r f called. search rules)) in
    answer_absent numbers c.args.answers.now c.requires.each c.requires.rising c.args.wanted
    (λ listed. not_missed numbers_cmp numbers_cmp_total (λ each. each) numbers (subst (IsStrictlySortedBy numbers_cmp) (sym (map-id numbers)) c.requires.rising) c.args.wanted
    (subst (λ (ns : List EntryNumbers). Contains ns c.args.wanted) (sym (map-id numbers)) listed) c.in-Err.field-0 parted)
