-- Lists of ways, and loops over them.
use Rattle.std.proofs.Common.{◌≡◌, ℕ, ◌+◌, ◌<◌, ◌==◌, ◌++◌, ◌||◌, Bool, if◌then◌else◌, List, [], ◌∷◌, Option, Some, drop, take, map, length, get_or, refl, sym, ap, ◌∙◌, arith, add-one, flat_map}
use Rattle.std.proofs.Math.Seq.{drop-cons}
use Rattle.std.proofs.lemmas.Bool.Decides.{nat_tests}
use Rattle.std.proofs.lemmas.List.{map-append, take_more}
use Rattle.std.specs.List.{list_any}
use Rattle.std.specs.Option.{option_map}
use Rattle.dnsv_mending.specs.Keys.{Signing, group_ways}
use Rattle.dnsv_mending.specs.Level.{Leveled, above_from, seen_level}
use Rattle.dnsv_mending.specs.Mend.{Mended, better, cheapest_from, is_none, seen}
use Rattle.dnsv_mending.specs.Zone.{ds_ways, level_over, levels_from, mend_at}
use Rattle.dnsv_mending.specs.declared.facts.zone.DsFacts.{DsFacts}
use Rattle.dnsv_mending.specs.declared.facts.zone.ZoneFacts.{ZoneFacts}
use Rattle.dnsv_mending.specs.declared.level.Level.{Level}

pub none_by_length : {X : Type 0} (xs : List X) → (length xs == 0) ≡ is_none xs
none_by_length [] = refl
none_by_length (x ∷ xs) = grind (arith, nat_tests)

pub any_mapped : {A B : Type 0} (s : A → B) (test : B → Bool) (xs : List A) → list_any test (map s xs) ≡ list_any (λ x. test (s x)) xs
any_mapped s test [] = refl
any_mapped s test (x ∷ xs) = ap (λ b. test (s x) || b) (any_mapped s test xs)

-- one list of ways after the other
pub cheapest-append : (xs ys : List Mended) (best : Option Mended) → cheapest_from best (xs ++ ys) ≡ cheapest_from (cheapest_from best xs) ys
cheapest-append [] ys best = refl
cheapest-append (x ∷ xs) ys best = cheapest-append xs ys (Some (better best x))

pub offered_both : (xs ys : List Mended) (old between new : Option Mended) → between ≡ cheapest_from old xs → new ≡ cheapest_from between ys
    → new ≡ cheapest_from old (xs ++ ys)
offered_both xs ys old between new first second = second ∙ ap (λ b. cheapest_from b ys) first ∙ sym (cheapest-append xs ys old)

next : {X : Type 0} (xs : List X) (i : ℕ) (d : X) → i < length xs → drop i xs ≡ get_or xs i d ∷ drop (i + 1) xs
next xs i d below = rw (add-one, drop-cons xs i d)

-- what a loop adds by its next element
pub offered_next : {X : Type 0} (f : X → List Mended) (xs : List X) (i : ℕ) (x d : X) (old new whole : Option Mended)
    → i < length xs → x ≡ get_or xs i d → new ≡ cheapest_from old (f x) → cheapest_from old (flat_map f (drop i xs)) ≡ whole
    → cheapest_from new (flat_map f (drop (i + 1) xs)) ≡ whole
offered_next f xs i x d old new whole below is offers before =
    let rest = drop (i + 1) xs in
    ap (λ b. cheapest_from b (flat_map f rest)) offers ∙ sym (cheapest-append (f x) (flat_map f rest) old)
    ∙ ap (λ y. cheapest_from old (f y ++ flat_map f rest)) is ∙ sym (ap (λ ys. cheapest_from old (flat_map f ys)) (next xs i d below)) ∙ before

-- what a loop makes of its next element
pub made_next : {A B C : Type 0} (s : A → C) (f : B → C) (made : List A) (xs : List B) (i : ℕ) (a : A) (x d : B)
    → i < length xs → x ≡ get_or xs i d → s a ≡ f x → map s made ≡ map f (take i xs)
    → map s (made ++ a ∷ []) ≡ map f (take (i + 1) xs)
made_next s f made xs i a x d below is same before =
    map-append s made (a ∷ []) ∙ ap (λ ys. ys ++ s a ∷ []) before ∙ ap (λ y. map f (take i xs) ++ y ∷ []) (same ∙ ap f is)
    ∙ sym (map-append f (take i xs) (get_or xs i d ∷ [])) ∙ sym (ap (map f) (take_more xs i d below))

-- the same over what the elements are seen as
pub offered_mapped : {A B : Type 0} (s : A → B) (f : B → List Mended) (xs : List A) (i : ℕ) (x d : A) (old new whole : Option Mended)
    → i < length xs → x ≡ get_or xs i d → new ≡ cheapest_from old (f (s x)) → cheapest_from old (flat_map f (map s (drop i xs))) ≡ whole
    → cheapest_from new (flat_map f (map s (drop (i + 1) xs))) ≡ whole
offered_mapped s f xs i x d old new whole below is offers before =
    let rest = map s (drop (i + 1) xs) in
    ap (λ b. cheapest_from b (flat_map f rest)) offers ∙ sym (cheapest-append (f (s x)) (flat_map f rest) old)
    ∙ ap (λ y. cheapest_from old (f (s y) ++ flat_map f rest)) is ∙ sym (ap (λ ys. cheapest_from old (flat_map f (map s ys))) (next xs i d below)) ∙ before

-- by the next DS RRset
pub ds_next : (keys : List Signing) (chains : List (Option Mended)) (dss : List DsFacts) (i : ℕ) (ds d : DsFacts) (old new whole : Option Mended)
    → i < length dss → ds ≡ get_or dss i d → new ≡ cheapest_from old (group_ways (mend_at chains i) keys ds.records.items)
    → cheapest_from old (ds_ways keys chains i (drop i dss)) ≡ whole → cheapest_from new (ds_ways keys chains (i + 1) (drop (i + 1) dss)) ≡ whole
ds_next keys chains dss i ds d old new whole below is offers before =
    let rest = ds_ways keys chains (i + 1) (drop (i + 1) dss) in
    let W : DsFacts → List Mended = λ each. group_ways (mend_at chains i) keys each.records.items in
    ap (λ b. cheapest_from b rest) offers ∙ sym (cheapest-append (W ds) rest old)
    ∙ ap (λ each. cheapest_from old (W each ++ rest)) is ∙ sym (ap (λ each. cheapest_from old (ds_ways keys chains i each)) (next dss i d below)) ∙ before

-- over the next zone
pub levels_next : (is_anchored : Bool) (zones : List ZoneFacts) (i : ℕ) (z d : ZoneFacts) (made : List Level) (level : Level) (whole : List Leveled)
    → i < length zones → z ≡ get_or zones i d → seen_level level ≡ level_over is_anchored (map seen_level made) z
    → levels_from is_anchored (map seen_level made) (drop i zones) ≡ whole
    → levels_from is_anchored (map seen_level (made ++ level ∷ [])) (drop (i + 1) zones) ≡ whole
levels_next is_anchored zones i z d made level whole below is same before =
    let rest = drop (i + 1) zones in
    let L = map seen_level made in
    ap (λ ls. levels_from is_anchored ls rest) (map-append seen_level made (level ∷ []) ∙ ap (λ l. L ++ l ∷ []) (same ∙ ap (level_over is_anchored L) is))
    ∙ sym (ap (levels_from is_anchored L) (next zones i d below)) ∙ before

-- the zone above, by the next one
pub above_next : (levels : List Level) (i : ℕ) (level d : Level) (above new whole : Option Mended)
    → i < length levels → level ≡ get_or levels i d → new ≡ (if level.leads then option_map seen level.zone else above)
    → above_from above (map seen_level (drop i levels)) ≡ whole → above_from new (map seen_level (drop (i + 1) levels)) ≡ whole
above_next levels i level d above new whole below is same before =
    let rest = map seen_level (drop (i + 1) levels) in
    ap (λ a. above_from a rest) (same ∙ ap (λ (l : Level). if l.leads then option_map seen l.zone else above) is)
    ∙ sym (ap (λ ls. above_from above (map seen_level ls)) (next levels i d below)) ∙ before
