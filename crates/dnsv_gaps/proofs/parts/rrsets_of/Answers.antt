use Rattle.std.proofs.Common.{◌≡◌, ◌+◌, ℕ, List, [], ◌∷◌, ◌++◌, get_or, map, take, sym, ap, ◌∙◌, subst}
use Rattle.std.proofs.lemmas.Cmp.{nat_cmp_total}
use Rattle.std.proofs.lemmas.List.{map-append, take_all, take_more}
use Rattle.std.proofs.lemmas.List.Filters.{dedup_is}
use Rattle.std.proofs.lemmas.List.Kept.{Contains-dedup_nat, Contains-from_dedup, IsStrictlySortedBy-dedup}
use Rattle.std.specs.Cmp.{unsigned_ties}
use Rattle.std.specs.Prelude.{Contains}
use Rattle.dnsv_canonical.specs.declared.number.RecordNumber.{RecordNumber}
use Rattle.dnsv_gaps.proofs.PartLemmas.{moved_members, rrset_of, such_members}
use Rattle.dnsv_gaps.proofs.parts.rrsets_of.Goals as goal

pub loop-number-preserved : goal.loop-number-preserved
loop-number-preserved c =
    let numbers = c.args.numbers.now in
    let i = c.loop-number.number-index in
    let item : RecordNumber = get_or numbers i (record { rrset = 0; place = 0 }) in
    let front : take (i + 1) numbers ≡ take i numbers ++ item ∷ [] = take_more numbers i (record { rrset = 0; place = 0 }) c.loop-number-test.true in
    c.in_ok-push.ensures.items ∙ ap (λ (ks : List ℕ). ks ++ item.rrset ∷ []) c.loop-number.invariant
    ∙ sym (ap (map rrset_of) front ∙ map-append rrset_of (take i numbers) (item ∷ []))

pub returns-clause-order : goal.returns-clause-order
returns-clause-order c =
    rw (dedup_is _ _ _ c.dedup.ensures.filtered) (IsStrictlySortedBy-dedup nat_cmp_total unsigned_ties c.sort_unstable.new.self.items c.sort_unstable.ensures.sorted)

pub returns-clause-members : goal.returns-clause-members
returns-clause-members c = λ k.
    let sorted = c.sort_unstable.new.self.items in
    let ks = c.loop-number.rrsets.items in
    let is = c.loop-number.invariant ∙ ap (map rrset_of) (take_all c.loop-number.number-index c.args.numbers.now c.loop-number-test.false) in
    let moved = moved_members ks sorted c.sort_unstable.ensures.permutation k in
    let such = such_members c.args.numbers.now k in
    rw (dedup_is _ _ _ c.dedup.ensures.filtered) (
      λ there. such.0 (subst (λ (ns : List ℕ). Contains ns k) is (moved.0 (Contains-from_dedup _ sorted k there))),
      λ has. Contains-dedup_nat sorted k (moved.1 (subst (λ (ns : List ℕ). Contains ns k) (sym is) (such.1 has))),
    )
