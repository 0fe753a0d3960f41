-- Groups one behind the other, and where each begins.
use Rattle.std.proofs.Common.{◌≡◌, ℕ, zero, suc, ◌+◌, ◌-◌, ◌<◌, ◌≤◌, List, [], ◌∷◌, ◌++◌, length, map, take, drop, get_or, refl, sym, ap, ◌∙◌, subst, arith, length-append}
use Rattle.std.proofs.lemmas.List.{append-nil, drop_at, get_or-drop, length-drop, length-map, take-append-drop, take_all, take_at}
use Rattle.std.proofs.lemmas.List.Concat.{flat_map-append}
use Rattle.std.proofs.Math.Seq.{take-add}
use Rattle.std.proofs.lemmas.Option.{slice_get_read}
use Rattle.std.specs.Prelude.{Some, slice_get}
use Rattle.std.specs.List.{AllByRecursion, enumerate_from}
use Rattle.std.specs.Ordering.{is_eq}
use Rattle.dnsv_canonical.specs.Rrsets.{IsNumbered, ReceivedRrset}
use Rattle.dnsv_canonical.specs.Index.Grouping.{AreLaid, IsIndexOf, Numbered, group_of, key_of, numbers_of, stands, starts_from}
use Rattle.dnsv_canonical.proofs.ListLemmas.{each_chosen}
use Rattle.dnsv_canonical.proofs.OrderLemmas.{each_kept}
use Rattle.dnsv_canonical.proofs.IndexLemmas.InOrder.{each_get, there_is}

abbrev number : Numbered → ℕ
number x = x.0

-- the numbers of a group
abbrev pub own : List Numbered → List ℕ
own group = map (λ (x : Numbered). x.0) group

pub numbers-append : (gs hs : List (List Numbered)) → numbers_of (gs ++ hs) ≡ numbers_of gs ++ numbers_of hs
numbers-append gs hs = flat_map-append (λ (g : List Numbered). map (λ (x : Numbered). x.0) g) gs hs

pub length-starts : (p : ℕ) (gs : List (List Numbered)) → length (starts_from p gs) ≡ length gs
length-starts p [] = refl
length-starts p (g ∷ gs) = ap suc (length-starts (p + length g) gs)

pub start_at : (p : ℕ) (gs : List (List Numbered)) (i : ℕ) (s : ℕ) → slice_get (starts_from p gs) i ≡ Some s → s ≡ p + length (numbers_of (take i gs))
start_at p [] i s at = cc
start_at p (g ∷ gs) zero s at = let is : p ≡ s = cc in omega (arith, is)
start_at p (g ∷ gs) (suc i) s at =
    omega (arith, start_at (p + length g) gs i s at, length-append (own g) (numbers_of (take i gs)), length-map g number)

pub starts-append : (p : ℕ) (gs hs : List (List Numbered)) → starts_from p (gs ++ hs) ≡ starts_from p gs ++ starts_from (p + length (numbers_of gs)) hs
starts-append p [] hs = ap (λ q. starts_from q hs) (omega arith)
starts-append p (g ∷ gs) hs =
    let same : p + length g + length (numbers_of gs) ≡ p + length (own g ++ numbers_of gs) = omega (arith, length-append (own g) (numbers_of gs), length-map g number) in
    ap (λ rest. p ∷ rest) (starts-append (p + length g) gs hs ∙ ap (λ q. starts_from (p + length g) gs ++ starts_from q hs) same)

pub take_starts : (p n : ℕ) (gs : List (List Numbered)) → take n (starts_from p gs) ≡ starts_from p (take n gs)
take_starts p zero gs = refl
take_starts p (suc n) [] = refl
take_starts p (suc n) (g ∷ gs) = ap (λ rest. p ∷ rest) (take_starts (p + length g) n gs)

pub drop_starts : (p n : ℕ) (gs : List (List Numbered)) → drop n (starts_from p gs) ≡ starts_from (p + length (numbers_of (take n gs))) (drop n gs)
drop_starts p zero gs = ap (λ q. starts_from q gs) (omega arith)
drop_starts p (suc n) [] = refl
drop_starts p (suc n) (g ∷ gs) =
    let same : p + length g + length (numbers_of (take n gs)) ≡ p + length (own g ++ numbers_of (take n gs)) = omega (arith, length-append (own g) (numbers_of (take n gs)), length-map g number) in
    drop_starts (p + length g) n gs ∙ ap (λ q. starts_from q (drop n gs)) same

pub starts_within : (p : ℕ) (gs : List (List Numbered)) → AllByRecursion (λ s. (p ≤ s) × (s ≤ p + length (numbers_of gs))) (starts_from p gs)
starts_within p [] = tt
starts_within p (g ∷ gs) = (
  (omega arith, omega arith),
  each_kept (λ s. (p + length g ≤ s) × (s ≤ p + length g + length (numbers_of gs))) (λ s. (p ≤ s) × (s ≤ p + length (own g ++ numbers_of gs))) (starts_from (p + length g) gs)
      (λ s within. (omega (arith, within.0), omega (arith, within.1, length-append (own g) (numbers_of gs), length-map g number)))
      (starts_within (p + length g) gs),
)

moved_from : (from to k : ℕ) (gs : List (List Numbered)) → map (λ s. to + (s - from)) (starts_from (from + k) gs) ≡ starts_from (to + k) gs
moved_from from to k [] = refl
moved_from from to k (g ∷ gs) =
    let here : to + (from + k - from) ≡ to + k = omega arith in
    let there : from + k + length g ≡ from + (k + length g) = omega arith in
    let after : to + (k + length g) ≡ to + k + length g = omega arith in
    λ i. here i ∷ (ap (λ q. map (λ s. to + (s - from)) (starts_from q gs)) there ∙ moved_from from to (k + length g) gs ∙ ap (λ q. starts_from q gs) after) i

pub starts_moved : (from to : ℕ) (gs : List (List Numbered)) → map (λ s. to + (s - from)) (starts_from from gs) ≡ starts_from to gs
starts_moved from to gs =
    let here : from ≡ from + 0 = omega arith in
    let there : to + 0 ≡ to = omega arith in
    ap (λ q. map (λ s. to + (s - from)) (starts_from q gs)) here ∙ moved_from from to 0 gs ∙ ap (λ q. starts_from q gs) there

-- ---- parts of the numbers

numbers_parted : (a : ℕ) (gs : List (List Numbered)) → numbers_of gs ≡ numbers_of (take a gs) ++ numbers_of (drop a gs)
numbers_parted a gs = ap numbers_of (sym (take-append-drop a gs)) ∙ numbers-append (take a gs) (drop a gs)

pub drop_numbers : (a : ℕ) (gs : List (List Numbered)) → drop (length (numbers_of (take a gs))) (numbers_of gs) ≡ numbers_of (drop a gs)
drop_numbers a gs = ap (drop (length (numbers_of (take a gs)))) (numbers_parted a gs) ∙ drop_at (numbers_of (take a gs)) (numbers_of (drop a gs)) _ refl

-- how far m groups behind a reach
pub reach : (a m : ℕ) (gs : List (List Numbered)) → length (numbers_of (take (a + m) gs)) ≡ length (numbers_of (take a gs)) + length (numbers_of (take m (drop a gs)))
reach a m gs =
    ap (λ front. length (numbers_of front)) (take-add a m gs) ∙ ap length (numbers-append (take a gs) (take m (drop a gs))) ∙ length-append (numbers_of (take a gs)) (numbers_of (take m (drop a gs)))

pub reach_all : (a : ℕ) (gs : List (List Numbered)) → length (numbers_of (take a gs)) ≤ length (numbers_of gs)
reach_all a gs = omega (arith, ap length (numbers_parted a gs), length-append (numbers_of (take a gs)) (numbers_of (drop a gs)))

pub part_numbers : (a m k : ℕ) (gs : List (List Numbered)) → k ≡ length (numbers_of (take m (drop a gs))) → take k (drop (length (numbers_of (take a gs))) (numbers_of gs)) ≡ numbers_of (take m (drop a gs))
part_numbers a m k gs counted =
    ap (take k) (drop_numbers a gs ∙ numbers_parted m (drop a gs)) ∙ take_at (numbers_of (take m (drop a gs))) (numbers_of (drop m (drop a gs))) k (sym counted)

one_group : (i : ℕ) (gs : List (List Numbered)) (g : List Numbered) → slice_get gs i ≡ Some g → take 1 (drop i gs) ≡ g ∷ []
one_group i [] g at = cc
one_group zero (h ∷ gs) g at = let is : h ≡ g = cc in ap (λ x. x ∷ []) is
one_group (suc i) (h ∷ gs) g at = one_group i gs g at

pub group_numbers : (numbers starts : List ℕ) (gs : List (List Numbered)) (i start end : ℕ) (g : List Numbered) → AreLaid gs numbers starts → start ≡ length (numbers_of (take i gs)) → end ≡ length (numbers_of (take (i + 1) gs))
    → slice_get gs i ≡ Some g → take (end - start) (drop start numbers) ≡ map (λ (x : Numbered). x.0) g
group_numbers numbers starts gs i start end g laid from to at =
    let one : numbers_of (take 1 (drop i gs)) ≡ own g = ap numbers_of (one_group i gs g at) ∙ append-nil (own g) in
    let count : end - start ≡ length (numbers_of (take 1 (drop i gs))) = omega (arith, from, to, reach i 1 gs) in
    ap (λ s. take (end - start) (drop s numbers)) from ∙ ap (λ ns. take (end - start) (drop (length (numbers_of (take i gs))) ns)) laid.numbers_are
    ∙ part_numbers i 1 (end - start) gs count ∙ one

-- ---- the first of a group

first_group : (i : ℕ) (gs : List (List Numbered)) (x : Numbered) (xs : List Numbered) → slice_get gs i ≡ Some (x ∷ xs) → (more : List ℕ) × (numbers_of (drop i gs) ≡ x.0 ∷ more)
first_group i [] x xs at = cc
first_group zero (g ∷ gs) x xs at = let is : g ≡ x ∷ xs = cc in (own xs ++ numbers_of gs, ap (λ h. own h ++ numbers_of gs) is)
first_group (suc i) (g ∷ gs) x xs at = first_group i gs x xs at

pub record HasHead (numbers : List ℕ) (start number : ℕ) : Type 0 where
  pub within : start < length numbers
  pub is : (d : ℕ) → get_or numbers start d ≡ number

pub first_number : (numbers starts : List ℕ) (gs : List (List Numbered)) (i start : ℕ) (x : Numbered) (xs : List Numbered) → AreLaid gs numbers starts → slice_get starts i ≡ Some start → slice_get gs i ≡ Some (x ∷ xs)
    → HasHead numbers start x.0
first_number numbers starts gs i start x xs laid from at =
    let placed : start ≡ length (numbers_of (take i gs)) = omega (arith, start_at 0 gs i start (subst (λ ss. slice_get ss i ≡ Some start) laid.starts_are from)) in
    let there = first_group i gs x xs at in
    let rest : drop start numbers ≡ x.0 ∷ there.0 = (λ j. drop (placed j) (laid.numbers_are j)) ∙ drop_numbers i gs ∙ there.1 in
    let plus : start ≡ start + 0 = omega arith in
    record {
      within = omega (arith, length-drop start numbers, ap length rest);
      is = λ d. ap (λ k. get_or numbers k d) plus ∙ sym (get_or-drop start numbers 0 d) ∙ ap (λ ns. get_or ns 0 d) rest;
    }

-- ---- the RRset of a number

here : (k : ℕ) (r : ReceivedRrset) (rs : List ReceivedRrset) → slice_get (r ∷ rs) (k - k) ≡ Some r
here k r rs = let none : k - k ≡ 0 = omega arith in ap (slice_get (r ∷ rs)) none

behind : (k n : ℕ) (x r : ReceivedRrset) (rs : List ReceivedRrset) → k + 1 ≤ n → slice_get rs (n - (k + 1)) ≡ Some x → slice_get (r ∷ rs) (n - k) ≡ Some x
behind k n x r rs above at = let one : n - k ≡ suc (n - (k + 1)) = omega (arith, above) in ap (slice_get (r ∷ rs)) one ∙ at

from_number : (k : ℕ) (rrsets : List ReceivedRrset) → AllByRecursion (λ (x : Numbered). (k ≤ x.0) × (slice_get rrsets (x.0 - k) ≡ Some x.1)) (enumerate_from k rrsets)
from_number k [] = tt
from_number k (r ∷ rs) = (
  (omega arith, here k r rs),
  each_kept (λ (x : Numbered). (k + 1 ≤ x.0) × (slice_get rs (x.0 - (k + 1)) ≡ Some x.1)) (λ (x : Numbered). (k ≤ x.0) × (slice_get (r ∷ rs) (x.0 - k) ≡ Some x.1)) (enumerate_from (k + 1) rs)
      (λ x has. (omega (arith, has.0), behind k x.0 x.1 r rs has.0 has.1)) (from_number (k + 1) rs),
)

pub each_numbered : (rrsets : List ReceivedRrset) → AllByRecursion (λ (x : Numbered). IsNumbered rrsets x.0 x.1) (enumerate_from 1 rrsets)
each_numbered rrsets = from_number 1 rrsets

-- the first of the group with the place
pub record IsHead (rrsets : List ReceivedRrset) (numbers : List ℕ) (firsts : List Numbered) (place start : ℕ) : Type 0 where
  pub first : Numbered
  pub at : slice_get firsts place ≡ Some first
  pub head : HasHead numbers start first.0
  pub numbered : IsNumbered rrsets first.0 first.1

get_mapped : {X Y : Type 0} (f : X → Y) (xs : List X) (i : ℕ) (x : X) → slice_get xs i ≡ Some x → slice_get (map f xs) i ≡ Some (f x)
get_mapped f [] i x at = cc
get_mapped f (y ∷ ys) zero x at = let is : y ≡ x = cc in ap (λ z. Some (f z)) is
get_mapped f (y ∷ ys) (suc i) x at = get_mapped f ys i x at

pub mapped_group : (all firsts : List Numbered) (i : ℕ) (x : Numbered) → slice_get firsts i ≡ Some x → slice_get (map (group_of all) firsts) i ≡ Some (group_of all x)
mapped_group all firsts i x at = get_mapped (group_of all) firsts i x at

pub length-firsts : (rrsets : List ReceivedRrset) (numbers starts : List ℕ) (index : IsIndexOf rrsets numbers starts) → length starts ≡ length index.firsts
length-firsts rrsets numbers starts index =
    ap length index.laid.starts_are ∙ length-starts 0 (map (group_of (enumerate_from 1 rrsets)) index.firsts) ∙ length-map index.firsts (group_of (enumerate_from 1 rrsets))

pub head_of : (rrsets : List ReceivedRrset) (numbers starts : List ℕ) (index : IsIndexOf rrsets numbers starts) (place start : ℕ) → slice_get starts place ≡ Some start → place < length starts → IsHead rrsets numbers index.firsts place start
head_of rrsets numbers starts index place start from within =
    let there = there_is index.firsts place (omega (arith, within, length-firsts rrsets numbers starts index)) in
    let group = each_get (λ (f : Numbered). (others : List Numbered) × (group_of (enumerate_from 1 rrsets) f ≡ f ∷ others)) index.firsts place there.0 index.are.each there.1 in
    let among = each_chosen (λ (x : Numbered). is_eq (stands x (key_of there.0.1))) (λ (x : Numbered). IsNumbered rrsets x.0 x.1) (λ (x : Numbered). IsNumbered rrsets x.0 x.1) (λ x has passes. has) (enumerate_from 1 rrsets) (each_numbered rrsets) in
    record {
      first = there.0;
      at = there.1;
      head = first_number numbers starts (map (group_of (enumerate_from 1 rrsets)) index.firsts) place start there.0 group.0 index.laid from
          (mapped_group (enumerate_from 1 rrsets) index.firsts place there.0 there.1 ∙ ap Some group.1);
      numbered = (subst (AllByRecursion (λ (x : Numbered). IsNumbered rrsets x.0 x.1)) group.1 among).0;
    }

pub head_read : (rrsets : List ReceivedRrset) (numbers starts : List ℕ) (index : IsIndexOf rrsets numbers starts) (place start : ℕ) → place < length starts → start ≡ get_or starts place start → IsHead rrsets numbers index.firsts place start
head_read rrsets numbers starts index place start within is =
    head_of rrsets numbers starts index place start (slice_get_read starts (length starts) place start refl within is) within

pub start_read : (numbers starts : List ℕ) (gs : List (List Numbered)) (place start : ℕ) → AreLaid gs numbers starts → place < length starts → start ≡ get_or starts place start → start ≡ length (numbers_of (take place gs))
start_read numbers starts gs place start laid within is =
    omega (arith, start_at 0 gs place start (subst (λ ss. slice_get ss place ≡ Some start) laid.starts_are (slice_get_read starts (length starts) place start refl within is)))

pub start_past : (numbers starts : List ℕ) (gs : List (List Numbered)) (place : ℕ) → AreLaid gs numbers starts → length starts ≤ place → length numbers ≡ length (numbers_of (take place gs))
start_past numbers starts gs place laid past =
    ap length laid.numbers_are ∙ ap (λ front. length (numbers_of front)) (sym (take_all place gs (omega (arith, past, ap length laid.starts_are, length-starts 0 gs))))
