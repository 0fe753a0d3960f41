-- An index that grows: by groups of another, and by an RRset.
use Rattle.std.proofs.Common.{◌≡◌, ◌≢◌, ◌⊎◌, inl, inr, ⊎_elim, ℕ, zero, suc, ◌+◌, ◌-◌, ◌<◌, ◌≤◌, cond, List, [], ◌∷◌, ◌++◌, length, map, take, drop, refl, sym, ap, ◌∙◌, subst, arith, append_assoc, length-append}
use Rattle.std.proofs.lemmas.List.{append-nil, drop-drop, drop-map, length_push, map-append, take-append-drop, take-map}
use Rattle.std.proofs.lemmas.List.Elements.{filter-append}
use Rattle.std.proofs.lemmas.Cmp.{tied_back, tied_itself}
use Rattle.std.specs.Prelude.{Option, Some, None, slice_get}
use denote.Ref.{Bor}
use Rattle.std.specs.List.{AllByRecursion}
use Rattle.std.specs.Ordering.{is_eq}
use Rattle.std.specs.declared.cmp.Ordering.TheVariants.{Less, Equal, Greater}
use Rattle.dnsv_names.specs.PartLaws.{recursion-append}
use Rattle.dnsv_canonical.specs.Rrsets.{ReceivedRrset}
use Rattle.dnsv_canonical.specs.Index.Grouping.{AreFirsts, AreLaid, AreRising, HasTie, IsFirstAt, Numbered, group_of, key_of, numbers_of, stands, starts_from}
use Rattle.dnsv_canonical.specs.Index.Merging.{EndsWith, IsLast}
use Rattle.dnsv_canonical.proofs.ListLemmas.{each_front, each_behind}
use Rattle.dnsv_canonical.proofs.OrderLemmas.{each_kept, take_next}
use Rattle.dnsv_canonical.proofs.IndexLemmas.InOrder.{each_drop, each_take, greater_not_equal, is_eq_false, key_total, less_equal, less_not_equal, less_or_equal, no_group, turned_back}
use Rattle.dnsv_canonical.proofs.IndexLemmas.Layout.{drop_starts, numbers-append, own, part_numbers, reach, starts-append, starts_moved, starts_within, take_starts}

-- what an index in the making has, and what is left of the other
pub record Built (held kept all firsts : List Numbered) (copied : ℕ) (numbers starts : List ℕ) : Type 0 where
  pub are : AreFirsts all (firsts ++ drop copied kept)
  pub laid : AreLaid (map (group_of all) firsts) numbers starts
  pub left : AllByRecursion (λ first. group_of all first ≡ group_of held first) (drop copied kept)

-- ---- layouts

pub laid_more : (gs hs : List (List Numbered)) (numbers starts more places : List ℕ) → AreLaid gs numbers starts → more ≡ numbers_of hs → places ≡ starts_from (length numbers) hs → AreLaid (gs ++ hs) (numbers ++ more) (starts ++ places)
laid_more gs hs numbers starts more places laid is from = record {
  numbers_are = (λ i. laid.numbers_are i ++ is i) ∙ sym (numbers-append gs hs);
  starts_are =
      let reached : length numbers ≡ 0 + length (numbers_of gs) = omega (arith, ap length laid.numbers_are) in
      (λ i. laid.starts_are i ++ (from ∙ ap (λ p. starts_from p hs) reached) i) ∙ sym (starts-append 0 gs hs);
}

laid_joined : (gs : List (List Numbered)) (g : List Numbered) (x : Numbered) (numbers starts : List ℕ) → AreLaid (gs ++ g ∷ []) numbers starts → AreLaid (gs ++ (g ++ x ∷ []) ∷ []) (numbers ++ x.0 ∷ []) starts
laid_joined gs g x numbers starts laid = record {
  numbers_are =
      ap (λ ns. ns ++ x.0 ∷ []) (laid.numbers_are ∙ numbers-append gs (g ∷ []) ∙ ap (λ ns. numbers_of gs ++ ns) (append-nil (own g)))
      ∙ append_assoc (numbers_of gs) (own g) (x.0 ∷ [])
      ∙ ap (λ ns. numbers_of gs ++ ns) (sym (map-append (λ (y : Numbered). y.0) g (x ∷ [])) ∙ sym (append-nil (own (g ++ x ∷ []))))
      ∙ sym (numbers-append gs ((g ++ x ∷ []) ∷ []));
  starts_are = laid.starts_are ∙ starts-append 0 gs (g ∷ []) ∙ sym (starts-append 0 gs ((g ++ x ∷ []) ∷ []));
}

-- ---- groups of one RRset more

module _ (all : List Numbered) (x : Numbered) where
  not_tied : (f : Numbered) → stands f (key_of x.1) ≢ Equal → group_of (x ∷ []) f ≡ []
  not_tied f apart =
      ap (λ tied. cond tied (x ∷ []) []) (is_eq_false (stands x (key_of f.1)) (λ equal. apart (tied_back key_total (key_of x.1) (key_of f.1) equal)))

  pub stays : (f : Numbered) → stands f (key_of x.1) ≢ Equal → group_of (all ++ x ∷ []) f ≡ group_of all f
  stays f apart =
      filter-append (λ y. is_eq (stands y (key_of f.1))) all (x ∷ []) ∙ ap (λ more. group_of all f ++ more) (not_tied f apart) ∙ append-nil (group_of all f)

  pub joins : (f : Numbered) → stands f (key_of x.1) ≡ Equal → group_of (all ++ x ∷ []) f ≡ group_of all f ++ x ∷ []
  joins f equal =
      filter-append (λ y. is_eq (stands y (key_of f.1))) all (x ∷ [])
      ∙ ap (λ o. group_of all f ++ cond (is_eq o) (x ∷ []) []) (tied_back key_total (key_of f.1) (key_of x.1) equal)

  begins : (f : Numbered) → (others : List Numbered) × (group_of all f ≡ f ∷ others) → (others : List Numbered) × (group_of (all ++ x ∷ []) f ≡ f ∷ others)
  begins f has = (has.0 ++ group_of (x ∷ []) f, filter-append (λ y. is_eq (stands y (key_of f.1))) all (x ∷ []) ∙ ap (λ front. front ++ group_of (x ∷ []) f) has.1)

  all_begin : (fs : List Numbered) → AllByRecursion (λ f. (others : List Numbered) × (group_of all f ≡ f ∷ others)) fs → AllByRecursion (λ f. (others : List Numbered) × (group_of (all ++ x ∷ []) f ≡ f ∷ others)) fs
  all_begin [] each = tt
  all_begin (f ∷ fs) each = (begins f each.0, all_begin fs each.1)

  map_stays : (fs : List Numbered) → AllByRecursion (λ f. stands f (key_of x.1) ≡ Less) fs → map (group_of (all ++ x ∷ [])) fs ≡ map (group_of all) fs
  map_stays [] less = refl
  map_stays (f ∷ fs) less = λ i. stays f (less_not_equal (stands f (key_of x.1)) less.0) i ∷ map_stays fs less.1 i

  left_stays : (held fs : List Numbered) → AllByRecursion (λ f. stands f (key_of x.1) ≡ Greater) fs → AllByRecursion (λ f. group_of all f ≡ group_of held f) fs → AllByRecursion (λ f. group_of (all ++ x ∷ []) f ≡ group_of held f) fs
  left_stays held [] greater left = tt
  left_stays held (f ∷ fs) greater left = (stays f (greater_not_equal (stands f (key_of x.1)) greater.0) ∙ left.0, left_stays held fs greater.1 left.1)

-- ---- ties

tie_left : (xs ys : List Numbered) (x : Numbered) → HasTie xs x → HasTie (xs ++ ys) x
tie_left [] ys x tie = absurd tie
tie_left (f ∷ fs) ys x (inl equal) = inl equal
tie_left (f ∷ fs) ys x (inr tie) = inr (tie_left fs ys x tie)

tie_last : (front : List Numbered) (l x : Numbered) → stands l (key_of x.1) ≡ Equal → HasTie (front ++ l ∷ []) x
tie_last [] l x equal = inl equal
tie_last (f ∷ fs) l x equal = inr (tie_last fs l x equal)

tie_between : (front behind : List Numbered) (x y : Numbered) → HasTie (front ++ behind) y → HasTie (front ++ x ∷ behind) y
tie_between [] behind x y tie = inr tie
tie_between (f ∷ fs) behind x y (inl equal) = inl equal
tie_between (f ∷ fs) behind x y (inr tie) = inr (tie_between fs behind x y tie)

tie_itself : (front behind : List Numbered) (x : Numbered) → HasTie (front ++ x ∷ behind) x
tie_itself [] behind x = inl (tied_itself key_total (key_of x.1))
tie_itself (f ∷ fs) behind x = inr (tie_itself fs behind x)

-- ---- firsts with one RRset more

firsts_joined : (all fs : List Numbered) (x : Numbered) → AreFirsts all fs → HasTie fs x → AreFirsts (all ++ x ∷ []) fs
firsts_joined all fs x are tie = record {
  rising = are.rising;
  each = all_begin all x fs are.each;
  every = recursion-append (HasTie fs) all (x ∷ []) are.every (tie, tt);
  few = omega (arith, are.few, length_push all x);
}

rising_between : (front behind : List Numbered) (x : Numbered) → AreRising (front ++ behind) → AllByRecursion (λ f. stands f (key_of x.1) ≡ Less) front → AllByRecursion (λ f. stands f (key_of x.1) ≡ Greater) behind → AreRising (front ++ x ∷ behind)
rising_between [] behind x rising less greater =
    (each_kept (λ (f : Numbered). stands f (key_of x.1) ≡ Greater) (λ (f : Numbered). stands x (key_of f.1) ≡ Less) behind (λ f above. turned_back key_total (key_of f.1) (key_of x.1) above) greater, rising)
rising_between (f ∷ fs) behind x rising less greater = (
  recursion-append (λ (y : Numbered). stands f (key_of y.1) ≡ Less) fs (x ∷ behind) (each_front (λ (y : Numbered). stands f (key_of y.1) ≡ Less) fs behind rising.0) (less.0, each_behind (λ (y : Numbered). stands f (key_of y.1) ≡ Less) fs behind rising.0),
  rising_between fs behind x rising.1 less.1 greater,
)

firsts_between : (all front behind : List Numbered) (x : Numbered) → AreFirsts all (front ++ behind) → AllByRecursion (λ f. stands f (key_of x.1) ≡ Less) front → AllByRecursion (λ f. stands f (key_of x.1) ≡ Greater) behind → group_of all x ≡ [] → AreFirsts (all ++ x ∷ []) (front ++ x ∷ behind)
firsts_between all front behind x are less greater none =
    let Begins : Numbered → Type 0 = λ f. (others : List Numbered) × (group_of (all ++ x ∷ []) f ≡ f ∷ others) in
    let each = all_begin all x (front ++ behind) are.each in
    record {
      rising = rising_between front behind x are.rising less greater;
      each = recursion-append Begins front (x ∷ behind) (each_front Begins front behind each)
          (([], joins all x x (tied_itself key_total (key_of x.1)) ∙ ap (λ g. g ++ x ∷ []) none), each_behind Begins front behind each);
      every = recursion-append (HasTie (front ++ x ∷ behind)) all (x ∷ []) (each_kept (HasTie (front ++ behind)) (HasTie (front ++ x ∷ behind)) all (λ y tie. tie_between front behind x y tie) are.every) (tie_itself front behind x, tt);
      few = omega (arith, are.few, length_push all x, length-append front behind, length-append front (x ∷ behind));
    }

-- ---- an RRset more in the last group

before_last : (front : List Numbered) (l : Numbered) (behind : List Numbered) → AreRising ((front ++ l ∷ []) ++ behind) → AllByRecursion (λ f. stands f (key_of l.1) ≡ Less) front
before_last [] l behind rising = tt
before_last (f ∷ fs) l behind rising =
    ((each_behind (λ (y : Numbered). stands f (key_of y.1) ≡ Less) fs (l ∷ []) (each_front (λ (y : Numbered). stands f (key_of y.1) ≡ Less) (fs ++ l ∷ []) behind rising.0)).0, before_last fs l behind rising.1)

joined_last : (held kept all front : List Numbered) (copied : ℕ) (numbers starts : List ℕ) (l x : Numbered) → Built held kept all (front ++ l ∷ []) copied numbers starts → stands l (key_of x.1) ≡ Equal → AllByRecursion (λ f. stands f (key_of x.1) ≡ Greater) (drop copied kept)
    → Built held kept (all ++ x ∷ []) (front ++ l ∷ []) copied (numbers ++ x.0 ∷ []) starts
joined_last held kept all front copied numbers starts l x built equal greater =
    let less = each_kept (λ (f : Numbered). stands f (key_of l.1) ≡ Less) (λ (f : Numbered). stands f (key_of x.1) ≡ Less) front (λ f lt. less_equal key_total (key_of f.1) (key_of l.1) (key_of x.1) lt equal) (before_last front l (drop copied kept) built.are.rising) in
    let groups : map (group_of (all ++ x ∷ [])) (front ++ l ∷ []) ≡ map (group_of all) front ++ (group_of all l ++ x ∷ []) ∷ [] =
    map-append (group_of (all ++ x ∷ [])) front (l ∷ []) ∙ (λ i. map_stays all x front less i ++ joins all x l equal i ∷ []) in
    record {
      are = firsts_joined all ((front ++ l ∷ []) ++ drop copied kept) x built.are (tie_left (front ++ l ∷ []) (drop copied kept) x (tie_last front l x equal));
      laid = subst (λ gs. AreLaid gs (numbers ++ x.0 ∷ []) starts) (sym groups)
          (laid_joined (map (group_of all) front) (group_of all l) x numbers starts (subst (λ gs. AreLaid gs numbers starts) (map-append (group_of all) front (l ∷ [])) built.laid));
      left = left_stays all x held (drop copied kept) greater built.left;
    }

pub joined : (held kept all firsts : List Numbered) (copied : ℕ) (numbers starts : List ℕ) (last : Option (Bor ReceivedRrset)) (x : Numbered) → Built held kept all firsts copied numbers starts → IsLast firsts last → EndsWith last (key_of x.1) → AllByRecursion (λ f. stands f (key_of x.1) ≡ Greater) (drop copied kept)
    → Built held kept (all ++ x ∷ []) firsts copied (numbers ++ x.0 ∷ []) starts
joined held kept all firsts copied numbers starts None x built is ends greater = absurd ends
joined held kept all firsts copied numbers starts (Some r) x built is ends greater =
    subst (λ fs. Built held kept (all ++ x ∷ []) fs copied (numbers ++ x.0 ∷ []) starts) (sym is.2)
    (joined_last held kept all is.0 copied numbers starts (is.1, r.now) x (subst (λ fs. Built held kept all fs copied numbers starts) is.2 built) ends greater)

-- ---- an RRset that begins a group

all_less : (firsts behind : List Numbered) (last : Option (Bor ReceivedRrset)) (x : Numbered) → IsLast firsts last → ¬ EndsWith last (key_of x.1) → AreRising (firsts ++ behind) → AllByRecursion (λ f. stands f (key_of x.1) ≢ Greater) firsts → AllByRecursion (λ f. stands f (key_of x.1) ≡ Less) firsts
all_less firsts behind None x is ends rising up_to = subst (AllByRecursion (λ (f : Numbered). stands f (key_of x.1) ≡ Less)) (sym is) tt
all_less firsts behind (Some r) x is ends rising up_to =
    let l : Numbered = (is.1, r.now) in
    let at_most = (each_behind (λ (f : Numbered). stands f (key_of x.1) ≢ Greater) is.0 (l ∷ []) (subst (AllByRecursion (λ (f : Numbered). stands f (key_of x.1) ≢ Greater)) is.2 up_to)).0 in
    let less : stands l (key_of x.1) ≡ Less = ⊎_elim (λ (lt : stands l (key_of x.1) ≡ Less). lt) (λ (equal : stands l (key_of x.1) ≡ Equal). absurd (ends equal)) (less_or_equal (stands l (key_of x.1)) at_most) in
    let front = each_kept (λ (f : Numbered). stands f (key_of l.1) ≡ Less) (λ (f : Numbered). stands f (key_of x.1) ≡ Less) is.0 (λ f lt. key_total.trans (key_of f.1) (key_of l.1) (key_of x.1) lt less)
    (before_last is.0 l behind (subst (λ fs. AreRising (fs ++ behind)) is.2 rising)) in
    subst (AllByRecursion (λ (f : Numbered). stands f (key_of x.1) ≡ Less)) (sym is.2) (recursion-append (λ (f : Numbered). stands f (key_of x.1) ≡ Less) is.0 (l ∷ []) front (less, tt))

pub added : (held kept all firsts : List Numbered) (copied : ℕ) (numbers starts : List ℕ) (last : Option (Bor ReceivedRrset)) (x : Numbered) → Built held kept all firsts copied numbers starts → IsLast firsts last → ¬ EndsWith last (key_of x.1)
    → AllByRecursion (λ f. stands f (key_of x.1) ≢ Greater) firsts → AllByRecursion (λ f. stands f (key_of x.1) ≡ Greater) (drop copied kept)
    → Built held kept (all ++ x ∷ []) (firsts ++ x ∷ []) copied (numbers ++ x.0 ∷ []) (starts ++ length numbers ∷ [])
added held kept all firsts copied numbers starts last x built is ends up_to greater =
    let less = all_less firsts (drop copied kept) last x is ends built.are.rising up_to in
    let IsApart : Numbered → Type 0 = λ f. stands f (key_of x.1) ≢ Equal in
    let apart = recursion-append IsApart firsts (drop copied kept)
    (each_kept (λ (f : Numbered). stands f (key_of x.1) ≡ Less) IsApart firsts (λ f lt. less_not_equal (stands f (key_of x.1)) lt) less)
    (each_kept (λ (f : Numbered). stands f (key_of x.1) ≡ Greater) IsApart (drop copied kept) (λ f gt. greater_not_equal (stands f (key_of x.1)) gt) greater) in
    let none : group_of all x ≡ [] = no_group (key_of x.1) (firsts ++ drop copied kept) all apart built.are.every in
    let own_group : group_of (all ++ x ∷ []) x ≡ x ∷ [] = joins all x x (tied_itself key_total (key_of x.1)) ∙ ap (λ g. g ++ x ∷ []) none in
    let groups : map (group_of (all ++ x ∷ [])) (firsts ++ x ∷ []) ≡ map (group_of all) firsts ++ (x ∷ []) ∷ [] =
    map-append (group_of (all ++ x ∷ [])) firsts (x ∷ []) ∙ (λ i. map_stays all x firsts less i ++ own_group i ∷ []) in
    record {
      are = subst (AreFirsts (all ++ x ∷ [])) (sym (append_assoc firsts (x ∷ []) (drop copied kept))) (firsts_between all firsts (drop copied kept) x built.are less greater none);
      laid = subst (λ gs. AreLaid gs (numbers ++ x.0 ∷ []) (starts ++ length numbers ∷ [])) (sym groups) (laid_more (map (group_of all) firsts) ((x ∷ []) ∷ []) numbers starts (x.0 ∷ []) (length numbers ∷ []) built.laid refl refl);
      left = left_stays all x held (drop copied kept) greater built.left;
    }

-- ---- groups that are copied

map_held : (all held fs : List Numbered) → AllByRecursion (λ f. group_of all f ≡ group_of held f) fs → map (group_of all) fs ≡ map (group_of held) fs
map_held all held [] left = refl
map_held all held (f ∷ fs) left = λ i. left.0 i ∷ map_held all held fs left.1 i

copied_by : (held kept all firsts : List Numbered) (c m start before : ℕ) (numbers starts more places : List ℕ) → Built held kept all firsts c numbers starts
    → more ≡ numbers_of (take m (drop c (map (group_of held) kept))) → map (λ s. before + (s - start)) places ≡ starts_from (length numbers) (take m (drop c (map (group_of held) kept)))
    → Built held kept all (firsts ++ take m (drop c kept)) (c + m) (numbers ++ more) (starts ++ map (λ s. before + (s - start)) places)
copied_by held kept all firsts c m start before numbers starts more places built is from =
    let part : take m (drop c (map (group_of held) kept)) ≡ map (group_of held) (take m (drop c kept)) =
    ap (take m) (drop-map (group_of held) c kept) ∙ take-map (group_of held) m (drop c kept) in
    let groups : map (group_of all) (firsts ++ take m (drop c kept)) ≡ map (group_of all) firsts ++ take m (drop c (map (group_of held) kept)) =
    map-append (group_of all) firsts (take m (drop c kept))
    ∙ ap (λ gs. map (group_of all) firsts ++ gs) (map_held all held (take m (drop c kept)) (each_take (λ (f : Numbered). group_of all f ≡ group_of held f) m (drop c kept) built.left) ∙ sym part) in
    let rest : drop m (drop c kept) ≡ drop (c + m) kept = drop-drop m c kept in
    record {
      are = subst (AreFirsts all)
          (ap (λ fs. firsts ++ fs) (sym (take-append-drop m (drop c kept))) ∙ sym (append_assoc firsts (take m (drop c kept)) (drop m (drop c kept))) ∙ ap (λ fs. (firsts ++ take m (drop c kept)) ++ fs) rest)
          built.are;
      laid = subst (λ gs. AreLaid gs (numbers ++ more) (starts ++ map (λ s. before + (s - start)) places)) (sym groups)
          (laid_more (map (group_of all) firsts) (take m (drop c (map (group_of held) kept))) numbers starts more (map (λ s. before + (s - start)) places) built.laid is from);
      left = subst (AllByRecursion (λ (f : Numbered). group_of all f ≡ group_of held f)) rest (each_drop (λ (f : Numbered). group_of all f ≡ group_of held f) m (drop c kept) built.left);
    }

-- where the groups from one place up to another begin
pub part_starts : (gs : List (List Numbered)) (numbers starts : List ℕ) (c m start : ℕ) → AreLaid gs numbers starts → start ≡ length (numbers_of (take c gs)) → take m (drop c starts) ≡ starts_from start (take m (drop c gs))
part_starts gs numbers starts c m start laid from =
    let same : 0 + length (numbers_of (take c gs)) ≡ start = omega (arith, from) in
    ap (λ ss. take m (drop c ss)) laid.starts_are ∙ ap (take m) (drop_starts 0 c gs) ∙ take_starts (0 + length (numbers_of (take c gs))) m (drop c gs)
    ∙ ap (λ p. starts_from p (take m (drop c gs))) same

pub copied_more : (held kept all firsts : List Numbered) (c p start end before : ℕ) (old olds numbers starts more places : List ℕ) → c < p → Built held kept all firsts c numbers starts → AreLaid (map (group_of held) kept) old olds
    → start ≡ length (numbers_of (take c (map (group_of held) kept))) → end ≡ length (numbers_of (take p (map (group_of held) kept))) → before ≡ length numbers
    → more ≡ take (end - start) (drop start old) → places ≡ take (p - c) (drop c olds)
    → Built held kept all (firsts ++ take (p - c) (drop c kept)) p (numbers ++ more) (starts ++ map (λ s. before + (s - start)) places)
copied_more held kept all firsts c p start end before old olds numbers starts more places less built laid from to now is at =
    let gs = map (group_of held) kept in
    let sum : c + (p - c) ≡ p = omega (arith, less) in
    let count : end - start ≡ length (numbers_of (take (p - c) (drop c (map (group_of held) kept)))) =
    omega (arith, from, to, reach c (p - c) gs, ap (λ n. length (numbers_of (take n (map (group_of held) kept)))) sum) in
    let numbers_is : more ≡ numbers_of (take (p - c) (drop c (map (group_of held) kept))) =
    is ∙ ap (λ s. take (end - start) (drop s old)) from ∙ ap (λ ns. take (end - start) (drop (length (numbers_of (take c (map (group_of held) kept)))) ns)) laid.numbers_are ∙ part_numbers c (p - c) (end - start) gs count in
    let starts_is : map (λ s. before + (s - start)) places ≡ starts_from (length numbers) (take (p - c) (drop c (map (group_of held) kept))) =
    ap (map (λ s. before + (s - start))) (at ∙ part_starts gs old olds c (p - c) start laid from) ∙ starts_moved start before (take (p - c) (drop c gs)) ∙ ap (λ n. starts_from n (take (p - c) (drop c gs))) now in
    subst (λ n. Built held kept all (firsts ++ take (p - c) (drop c kept)) n (numbers ++ more) (starts ++ map (λ s. before + (s - start)) places)) sum
    (copied_by held kept all firsts c (p - c) start before numbers starts more places built numbers_is starts_is)

get_dropped : {X : Type 0} (c i : ℕ) (xs : List X) (x : X) → slice_get xs (c + i) ≡ Some x → slice_get (drop c xs) i ≡ Some x
get_dropped zero i xs x at = let same : i ≡ 0 + i = omega arith in ap (slice_get xs) same ∙ at
get_dropped (suc c) i [] x at = cc
get_dropped (suc c) i (y ∷ ys) x at = let next : suc (c + i) ≡ suc c + i = omega arith in get_dropped c i ys x (ap (slice_get (y ∷ ys)) next ∙ at)

pub copied_last : (kept firsts : List Numbered) (c p : ℕ) (rrset : Bor ReceivedRrset) → c < p → IsFirstAt kept (p - 1) rrset.now → IsLast (firsts ++ take (p - c) (drop c kept)) (Some rrset)
copied_last kept firsts c p rrset less at =
    let l : Numbered = (at.0, rrset.now) in
    let place : p - 1 ≡ c + (p - 1 - c) = omega (arith, less) in
    let count : p - 1 - c + 1 ≡ p - c = omega (arith, less) in
    let there = get_dropped c (p - 1 - c) kept l (ap (slice_get kept) (sym place) ∙ at.1) in
    let last : take (p - c) (drop c kept) ≡ take (p - 1 - c) (drop c kept) ++ l ∷ [] = ap (λ n. take n (drop c kept)) (sym count) ∙ take_next (drop c kept) (p - 1 - c) l there in
    (firsts ++ take (p - 1 - c) (drop c kept), at.0, ap (λ fs. firsts ++ fs) last ∙ sym (append_assoc firsts (take (p - 1 - c) (drop c kept)) (l ∷ [])))

pub part_places : (gs : List (List Numbered)) (numbers starts : List ℕ) (c p start end : ℕ) → AreLaid gs numbers starts → c < p → start ≡ length (numbers_of (take c gs)) → end ≡ length (numbers_of (take p gs))
    → AllByRecursion (λ s. (start ≤ s) × (s ≤ end)) (take (p - c) (drop c starts))
part_places gs numbers starts c p start end laid less from to =
    let sum : c + (p - c) ≡ p = omega (arith, less) in
    let reached : start + length (numbers_of (take (p - c) (drop c gs))) ≡ end = omega (arith, from, to, reach c (p - c) gs, ap (λ n. length (numbers_of (take n gs))) sum) in
    subst (AllByRecursion (λ s. (start ≤ s) × (s ≤ end))) (sym (part_starts gs numbers starts c (p - c) start laid from))
    (subst (λ n. AllByRecursion (λ s. (start ≤ s) × (s ≤ n)) (starts_from start (take (p - c) (drop c gs)))) reached (starts_within start (take (p - c) (drop c gs))))
