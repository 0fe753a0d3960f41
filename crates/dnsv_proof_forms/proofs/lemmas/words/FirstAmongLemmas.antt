-- The first record that says a word, of those at some places.
use Rattle.dnsv_proof_forms.specs.records.HashIndex.{IsListed}
use Rattle.dnsv_proof_forms.specs.words.SaidAt.{IsSaidAt, IsFirstPlace}
use Rattle.dnsv_proof_forms.specs.declared.records.entry.Nsec3Entry.{Nsec3Entry}
use Rattle.dnsv_proof_forms.specs.declared.records.hash_places.HashPlace.{HashPlace}
use Rattle.std.proofs.Common.{◌≡◌, ◌≢◌, ◌⊎◌, ℕ, ◌+◌, ◌<◌, ◌≤◌, List, Option, Some, None, length, refl, sym, ap, ◌∙◌, subst, inl, inr, ⊎_elim, arith}
use Rattle.std.proofs.lemmas.Bool.{cases_lt}
use Rattle.std.proofs.lemmas.Cmp.{ranked}
use Rattle.std.proofs.lemmas.Option.{slice_get-get_or, slice_get_within, get_or_from_slice_get}
use Rattle.std.specs.Cmp.{nat_cmp_is}
use Rattle.std.specs.Ordering.{nat_cmp}
use Rattle.std.specs.Prelude.{slice_get}
use Rattle.std.specs.declared.cmp.Ordering.TheVariants.{Less}

-- what comes to the same has the same first
pub first_alike : (P Q : ℕ → Type 0) (found : Option ℕ) → ((place : ℕ) → P place → Q place) → ((place : ℕ) → Q place → P place)
    → IsFirstPlace P found → IsFirstPlace Q found
first_alike P Q None to from none = λ place says. none place (from place says)
first_alike P Q (Some place) to from first = record {
  says = to place first.says;
  earliest = λ other says. first.earliest other (from other says);
}

found_says : (P : ℕ → Type 0) (found : Option ℕ) (place : ℕ) → IsFirstPlace P found → found ≡ Some place → P place
found_says P None place none is = cc
found_says P (Some first) place is_first is = let same : first ≡ place = cc in subst P same is_first.says

no_more : (P : ℕ → Type 0) (found : Option ℕ) → IsFirstPlace P found → (place : ℕ) → P place
    → (first : ℕ) × (found ≡ Some first) × (nat_cmp place first ≢ Less)
no_more P None none place says = absurd (none place says)
no_more P (Some first) is_first place says = (first, refl, is_first.earliest place says)

-- what isn't behind one before the first is before it too
least : (place it first : ℕ) → nat_cmp place it ≢ Less → nat_cmp place first ≡ Less → nat_cmp it first ≡ Less
least place it first behind less =
    let before : place < first = ranked place first Less (sym less) in
    let from : it ≤ place = ⊎_elim
    (λ (early : place < it). absurd (behind (sym (nat_cmp_is place it Less early)))) (λ (late : it ≤ place). late) (cases_lt place it) in
    sym (nat_cmp_is it first Less (omega (arith, from, before)))

-- what stands between the least that are found and all that are such
module _ (P Q : ℕ → Type 0) (one other : Option ℕ) (is_one : IsFirstPlace P one) (is_other : IsFirstPlace Q other) where
  abbrev Found : ℕ → Type 0
  Found place = (one ≡ Some place) ⊎ (other ≡ Some place)

  is_such : (place : ℕ) → Found place → P place ⊎ Q place
  is_such place = ⊎_elim (λ (is : one ≡ Some place). inl (found_says P one place is_one is)) (λ (is : other ≡ Some place). inr (found_says Q other place is_other is))

  is_behind : (place : ℕ) → P place ⊎ Q place → (first : ℕ) × Found first × (nat_cmp place first ≢ Less)
  is_behind place = ⊎_elim
      (λ (says : P place). let it = no_more P one is_one place says in (it.0, inl it.1, it.2))
      (λ (says : Q place). let it = no_more Q other is_other place says in (it.0, inr it.1, it.2))

  pub first_of_both : (found : Option ℕ) → IsFirstPlace Found found → IsFirstPlace (λ place. P place ⊎ Q place) found
  first_of_both None none = λ place says. let it = is_behind place says in none it.0 it.1
  first_of_both (Some first) is_first = record {
    says = is_such first is_first.says;
    earliest = λ place says less.
        let it = is_behind place says in
        is_first.earliest it.0 it.1 (least place it.0 first it.2 less);
  }

-- ---- the loop over the places

-- those at the first n of the places
pub record IsListedTo (places : List HashPlace) (n place : ℕ) : Type 0 where
  pub k : ℕ
  pub before : k < n
  pub item : HashPlace
  pub there : slice_get places k ≡ Some item
  pub same : item.place ≡ place

module _ {Entry : Type 0} (Says : Entry → Type 0) (entries : List Entry) (places : List HashPlace) where
  abbrev pub FirstTo : ℕ → Option ℕ → Type 0
  FirstTo n = IsFirstPlace (λ place. IsListedTo places n place × IsSaidAt Says entries place)

  pub none_yet : FirstTo 0 None
  none_yet = λ place said. omega (arith, said.0.before)

  more_listed : (n : ℕ) (item : HashPlace) → slice_get places n ≡ Some item → (place : ℕ)
      → (IsListedTo places n place × IsSaidAt Says entries place) ⊎ ((place ≡ item.place) × IsSaidAt Says entries place)
      → IsListedTo places (n + 1) place × IsSaidAt Says entries place
  more_listed n item there place = ⊎_elim
      (λ (said : IsListedTo places n place × IsSaidAt Says entries place).
      (record { k = said.0.k; before = omega (arith, said.0.before); item = said.0.item; there = said.0.there; same = said.0.same }, said.1))
      (λ (said : (place ≡ item.place) × IsSaidAt Says entries place).
      (record { k = n; before = omega arith; item = item; there = there; same = sym said.0 }, said.1))

  less_listed : (n : ℕ) (item : HashPlace) → slice_get places n ≡ Some item → (place : ℕ)
      → IsListedTo places (n + 1) place × IsSaidAt Says entries place
      → (IsListedTo places n place × IsSaidAt Says entries place) ⊎ ((place ≡ item.place) × IsSaidAt Says entries place)
  less_listed n item there place said = ⊎_elim
      (λ (early : said.0.k < n). inl (record { k = said.0.k; before = early; item = said.0.item; there = said.0.there; same = said.0.same }, said.1))
      (λ (late : n ≤ said.0.k).
      let last : said.0.k ≡ n = omega (arith, late, said.0.before) in
      let here : slice_get places n ≡ Some said.0.item = subst (λ (k : ℕ). slice_get places k ≡ Some said.0.item) last said.0.there in
      let is : said.0.item ≡ item = cc in
      inr (sym said.0.same ∙ ap (λ (each : HashPlace). each.place) is, said.1))
      (cases_lt said.0.k n)

  pub first_more : (n : ℕ) (item : HashPlace) (found here next : Option ℕ) → slice_get places n ≡ Some item → FirstTo n found
      → IsFirstPlace (λ place. (place ≡ item.place) × IsSaidAt Says entries place) here
      → IsFirstPlace (λ place. (found ≡ Some place) ⊎ (here ≡ Some place)) next → FirstTo (n + 1) next
  first_more n item found here next there is_found is_here is_next =
      first_alike (λ place. (IsListedTo places n place × IsSaidAt Says entries place) ⊎ ((place ≡ item.place) × IsSaidAt Says entries place))
      (λ place. IsListedTo places (n + 1) place × IsSaidAt Says entries place) next (more_listed n item there) (less_listed n item there)
      (first_of_both (λ place. IsListedTo places n place × IsSaidAt Says entries place) (λ place. (place ≡ item.place) × IsSaidAt Says entries place)
      found here is_found is_here next is_next)

  pub first_of_all : (n : ℕ) (found : Option ℕ) → length places ≤ n → FirstTo n found
      → IsFirstPlace (λ place. IsListed places place × IsSaidAt Says entries place) found
  first_of_all n found whole =
      first_alike (λ place. IsListedTo places n place × IsSaidAt Says entries place) (λ place. IsListed places place × IsSaidAt Says entries place) found
      (λ place said. let listed = said.0 in (
        record {
          item = listed.item;
          among = (listed.k, slice_get_within places listed.k listed.item listed.there, get_or_from_slice_get places listed.k listed.item listed.item listed.there);
          same = listed.same;
        },
        said.1,
      ))
      (λ place said. let (k, within, at) = said.0.among in
      (record { k = k; before = omega (arith, within, whole); item = said.0.item; there = slice_get-get_or places k said.0.item within ∙ ap Some at; same = said.0.same }, said.1))

  -- where all that say it are listed, the first of those is the first
  pub first_listed : (found : Option ℕ) → ((place : ℕ) → IsSaidAt Says entries place → IsListed places place)
      → IsFirstPlace (λ place. IsListed places place × IsSaidAt Says entries place) found → IsFirstPlace (IsSaidAt Says entries) found
  first_listed found all =
      first_alike (λ place. IsListed places place × IsSaidAt Says entries place) (IsSaidAt Says entries) found
      (λ place said. said.1) (λ place said. (all place said, said))

-- where all that say it are listed in one of two parts, the lesser of the firsts of both is the first
pub first_of_parts : (Says : Nsec3Entry → Type 0) (entries : List Nsec3Entry) (one other : List HashPlace) (first second found : Option ℕ)
    → ((place : ℕ) → IsSaidAt Says entries place → IsListed one place ⊎ IsListed other place)
    → IsFirstPlace (λ place. IsListed one place × IsSaidAt Says entries place) first
    → IsFirstPlace (λ place. IsListed other place × IsSaidAt Says entries place) second
    → IsFirstPlace (λ place. (first ≡ Some place) ⊎ (second ≡ Some place)) found
    → IsFirstPlace (IsSaidAt Says entries) found
first_of_parts Says entries one other first second found all is_first is_second is_found =
    first_alike (λ place. (IsListed one place × IsSaidAt Says entries place) ⊎ (IsListed other place × IsSaidAt Says entries place)) (IsSaidAt Says entries) found
    (λ place. ⊎_elim (λ (said : IsListed one place × IsSaidAt Says entries place). said.1) (λ (said : IsListed other place × IsSaidAt Says entries place). said.1))
    (λ place said. ⊎_elim (λ (listed : IsListed one place). inl (listed, said)) (λ (listed : IsListed other place). inr (listed, said)) (all place said))
    (first_of_both (λ place. IsListed one place × IsSaidAt Says entries place) (λ place. IsListed other place × IsSaidAt Says entries place)
    first second is_first is_second found is_found)
