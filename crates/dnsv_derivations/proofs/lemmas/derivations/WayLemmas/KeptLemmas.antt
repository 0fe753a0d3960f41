-- The first ways that are kept.
use Rattle.std.proofs.Common.{◌≡◌, ◌<◌, ◌≤◌, ◌+◌, ◌-◌, ◌++◌, ◌∷◌, [], ℕ, List, Some, length, get_or, sym, ap, ◌∙◌, subst, ⊎_elim, arith}
use Rattle.std.proofs.lemmas.Bool.{cases_lt}
use Rattle.std.proofs.lemmas.List.{get_or_append_left, length-append}
use Rattle.std.proofs.Math.Seq.{get_or-append_seam}
use Rattle.std.proofs.lemmas.Option.{get_or_from_slice_get, slice_get-get_or, slice_get_within}
use Rattle.dnsv_derivations.specs.Explained.{Setting}
use Rattle.dnsv_derivations.specs.derivations.WaySearch.{AreFirstWays, IsKeptWay}
use Rattle.dnsv_derivations.specs.declared.derivations.ways.kept.KeptWay.{KeptWay}

pub none_kept : (setting : Setting) → AreFirstWays setting []
none_kept setting = λ k way numbered.
    let within = slice_get_within [] (k - 1) way numbered.1 in absurd (omega (arith, within))

pub one_more_kept : (setting : Setting) (ways : List KeptWay) (kept : KeptWay) → AreFirstWays setting ways
    → IsKeptWay setting (length ways + 1) kept → AreFirstWays setting (ways ++ kept ∷ [])
one_more_kept setting ways kept are is = λ k each numbered.
    let from_one = numbered.0 in
    let within = slice_get_within (ways ++ kept ∷ []) (k - 1) each numbered.1 in
    let long = length-append ways (kept ∷ []) in
    let at : get_or (ways ++ kept ∷ []) (k - 1) each ≡ each = get_or_from_slice_get (ways ++ kept ∷ []) (k - 1) each each numbered.1 in
    ⊎_elim
    (λ (earlier : k - 1 < length ways).
    let there : get_or ways (k - 1) each ≡ each = sym (get_or_append_left ways (kept ∷ []) each (k - 1) earlier) ∙ at in
    are k each (from_one, slice_get-get_or ways (k - 1) each earlier ∙ ap (λ x. Some x) there))
    (λ (last : length ways ≤ k - 1).
    let place : k - 1 ≡ length ways = omega (arith, last, within, long) in
    let number : length ways + 1 ≡ k = omega (arith, place, from_one) in
    let same : kept ≡ each =
    sym (get_or-append_seam ways kept [] each) ∙ ap (λ (p : ℕ). get_or (ways ++ kept ∷ []) p each) (sym place) ∙ at in
    let Of : ℕ → Type 0 = λ j. IsKeptWay setting j kept in
    let Is : KeptWay → Type 0 = λ x. IsKeptWay setting k x in
    subst Is same (subst Of number is))
    (cases_lt (k - 1) (length ways))
