-- The search by halves, and what it finds.
use Rattle.std.proofs.Common.{◌≡◌, ◌≢◌, ℕ, zero, suc, ◌+◌, ◌-◌, ◌*◌, ◌/◌, ◌<◌, ◌≤◌, ◌^◌, List, [], ◌∷◌, length, get_or, map, take, drop, sym, ap, ◌∙◌, subst, arith}
use Rattle.std.proofs.lemmas.Option.{slice_get_within}
use Rattle.std.proofs.lemmas.List.{drop_all}
use Rattle.std.specs.Prelude.{Some, slice_get, Err}
use Rattle.std.specs.List.{AllByRecursion, enumerate_from}
use Rattle.std.specs.declared.cmp.Ordering.TheVariants.{Less, Equal, Greater}
use Rattle.dnsv_names.specs.Name.{Labels}
use Rattle.dnsv_canonical.specs.Rrsets.{IsNumbered, ReceivedRrset}
use Rattle.dnsv_canonical.specs.Index.{numbers_at}
use Rattle.dnsv_canonical.specs.Index.Grouping.{AreRising, IsFirstAt, IsFound, IsIndexOf, Key, Numbered, group_of, key_cmp, key_of, stands}
use Rattle.dnsv_canonical.proofs.IndexLemmas.InOrder.{each_get, group_at-same, no_group, none_by_place, numbers_at-group, rises_before, rises_behind}
use Rattle.dnsv_canonical.proofs.IndexLemmas.Layout.{IsHead, length-firsts}

pub within_rrsets : (rrsets : List ReceivedRrset) (number : ℕ) (rrset : ReceivedRrset) → IsNumbered rrsets number rrset → number ≤ length rrsets
within_rrsets rrsets number rrset is = omega (arith, is.0, slice_get_within rrsets (number - 1) rrset is.1)

pub first_is : (rrsets : List ReceivedRrset) (numbers : List ℕ) (firsts : List Numbered) (place start number : ℕ) (rrset : ReceivedRrset) → IsHead rrsets numbers firsts place start → number ≡ get_or numbers start number → slice_get rrsets (number - 1) ≡ Some rrset → IsFirstAt firsts place rrset
first_is rrsets numbers firsts place start number rrset h is at =
    let same : number ≡ h.first.0 = is ∙ h.head.is number in
    let both : Some h.first.1 ≡ Some rrset = sym h.numbered.1 ∙ ap (λ n. slice_get rrsets (n - 1)) (sym same) ∙ at in
    let found : h.first.1 ≡ rrset = cc in
    (h.first.0, h.at ∙ ap (λ (r : ReceivedRrset). Some (h.first.0, r)) found)

pub none_behind : {X : Type 0} (P : X → Type 0) (xs : List X) (n : ℕ) → length xs ≤ n → AllByRecursion P (drop n xs)
none_behind P xs n past = subst (AllByRecursion P) (sym (drop_all n xs past)) tt

pub less_up_to : (key : Key) (firsts : List Numbered) (i : ℕ) (rrset : ReceivedRrset) → AreRising firsts → IsFirstAt firsts i rrset → key_cmp (key_of rrset) key ≡ Less → AllByRecursion (λ (f : Numbered). stands f key ≡ Less) (take (i + 1) firsts)
less_up_to key firsts i rrset rising at less =
    let next : suc i ≡ i + 1 = omega arith in
    subst (λ n. AllByRecursion (λ (f : Numbered). stands f key ≡ Less) (take n firsts)) next (rises_before key firsts i (at.0, rrset) rising at.1 less)

pub greater_from : (key : Key) (firsts : List Numbered) (i : ℕ) (rrset : ReceivedRrset) → AreRising firsts → IsFirstAt firsts i rrset → key_cmp (key_of rrset) key ≡ Greater → AllByRecursion (λ (f : Numbered). stands f key ≡ Greater) (drop i firsts)
greater_from key firsts i rrset rising at greater = rises_behind key firsts i (at.0, rrset) rising at.1 greater

pub found_numbers : (rrsets : List ReceivedRrset) (name : Labels) (rtype : ℕ) (first : Numbered) → stands first (name, rtype) ≡ Equal → map (λ (x : Numbered). x.0) (group_of (enumerate_from 1 rrsets) first) ≡ numbers_at rrsets name rtype
found_numbers rrsets name rtype first equal =
    ap (map (λ (x : Numbered). x.0)) (group_at-same (enumerate_from 1 rrsets) (key_of first.1) (name, rtype) equal) ∙ sym (numbers_at-group rrsets name rtype)

pub no_numbers : (rrsets : List ReceivedRrset) (numbers starts : List ℕ) (index : IsIndexOf rrsets numbers starts) (name : Labels) (rtype place : ℕ) → IsFound index.firsts (name, rtype) (Err place) → numbers_at rrsets name rtype ≡ []
no_numbers rrsets numbers starts index name rtype place found =
    numbers_at-group rrsets name rtype
    ∙ ap (map (λ (x : Numbered). x.0)) (no_group (name, rtype) index.firsts (enumerate_from 1 rrsets) (none_by_place (name, rtype) index.firsts place found.1 found.2) index.are.every)
