-- Records beside their RDATA, and the canonical order of both.
use Rattle.std.proofs.Common.{◌≡◌, ℕ, ◌+◌, ap, map, take, ◌++◌, slice_index_or, ◌<◌, length, List, [], ◌∷◌, refl, sym, ◌∙◌, subst}
use Rattle.std.proofs.lemmas.List.{map-append}
use Rattle.std.proofs.lemmas.Option.{get_or_from_slice_get, slice_get_read}
use Rattle.std.specs.Prelude.{Some, slice_get}
use Rattle.std.specs.List.{AllByRecursion, AllZip}
use Rattle.dnsv_records.specs.OctetLaws.{recursion-append}
use Rattle.dnsv_canonical.specs.Canonical.{IsCanonical}
use Rattle.dnsv_canonical.proofs.OrderLemmas.{take_next, zip_at}

-- records and their RDATA, one more
pub record GoTogether {X T : Type 0} (R : List ℕ → T → Type 0) (octets : X → List ℕ) (value : X → T) (rdata : List (List ℕ)) (place : ℕ) (records : List X) : Type 0 where
  pub same_rdata : map octets records ≡ take place rdata
  pub read : AllByRecursion (λ x. R (octets x) (value x)) records

pub together_more : {X T : Type 0} (R : List ℕ → T → Type 0) (octets : X → List ℕ) (value : X → T) (rdata : List (List ℕ)) (values : List T) (place : ℕ) (records more : List X) (x : X)
    → AllZip R rdata values → place < length values → value x ≡ slice_index_or values place (value x) → slice_index_or rdata place (octets x) ≡ octets x
    → more ≡ records ++ x ∷ [] → GoTogether R octets value rdata place records → GoTogether R octets value rdata (place + 1) more
together_more R octets value rdata values place records more x all within is_value is_rdata pushed so_far =
    let found = zip_at R rdata values place (value x) all (slice_get_read values (length values) place (value x) refl within is_value) in
    let same : found.0 ≡ octets x = sym (get_or_from_slice_get rdata place found.0 (octets x) found.1) ∙ is_rdata in
    let at : slice_get rdata place ≡ Some (octets x) = found.1 ∙ ap Some same in
    record {
      same_rdata = ap (map octets) pushed ∙ map-append octets records (x ∷ []) ∙ ap (λ front. front ++ octets x ∷ []) so_far.same_rdata ∙ sym (take_next rdata place (octets x) at);
      read = rw pushed (recursion-append (λ y. R (octets y) (value y)) records (x ∷ []) so_far.read (subst (λ o. R o (value x)) same found.2, tt));
    }

pub reordered : (a b c : List (List ℕ)) → a ≡ b → IsCanonical a c → IsCanonical b c
reordered a b c same is = subst (λ received. IsCanonical received c) same is
