-- The laws of the order of entries, for proofs.
use Rattle.std.proofs.Common.{◌≡◌, ℕ, List, [], ◌∷◌, refl, ap, ◌∙◌, arith}
use Rattle.std.proofs.lemmas.Bool.Decides.{nat_tests}
use Rattle.std.proofs.lemmas.Cmp.{nat_cmp_total, nat_list_cmp_total, on_total, then_total}
use Rattle.std.specs.Cmp.{IsTotalOrder}
use Rattle.std.specs.Cmp.Lexicographic.{slice_cmp}
use Rattle.std.specs.Ordering.{nat_cmp, ordering_then}
use Rattle.std.specs.declared.cmp.Ordering.{Ordering}
use Rattle.std.specs.declared.cmp.Ordering.TheVariants.{Less, Equal, Greater}
use Rattle.dnsv_verifier.specs.declared.entry.Entry.{Entry}
use Rattle.dnsv_verifier.specs.Entry.{entry_cmp}

pub entry_cmp_total : IsTotalOrder entry_cmp
entry_cmp_total =
    then_total (then_total (then_total (on_total (λ (e : Entry). e.algorithm.0) nat_cmp_total) (on_total (λ (e : Entry). e.key) nat_list_cmp_total)) (on_total (λ (e : Entry). e.signed_data) nat_list_cmp_total)) (on_total (λ (e : Entry). e.signature) nat_list_cmp_total)

pub then_Equal : (a b : Ordering) → ordering_then a b ≡ Equal → (a ≡ Equal) × (b ≡ Equal)
then_Equal Equal b e = (refl, e)
then_Equal Less b e = cc
then_Equal Greater b e = cc

pub octet_Equal : (x y : ℕ) → nat_cmp x y ≡ Equal → x ≡ y
octet_Equal x y e = grind (arith, nat_tests)

pub octets_Equal : (xs ys : List ℕ) → slice_cmp nat_cmp xs ys ≡ Equal → xs ≡ ys
octets_Equal [] [] e = refl
octets_Equal [] (y ∷ ys) e = cc
octets_Equal (x ∷ xs) [] e = cc
octets_Equal (x ∷ xs) (y ∷ ys) e =
    let both = then_Equal (nat_cmp x y) (slice_cmp nat_cmp xs ys) e in
    ap (λ z. z ∷ xs) (octet_Equal x y both.0) ∙ ap (λ zs. y ∷ zs) (octets_Equal xs ys both.1)

-- entries that the order ties are equal
pub entry_Equal : (a b : Entry) → entry_cmp a b ≡ Equal → a ≡ b
entry_Equal a b e =
    let all = then_Equal _ (slice_cmp nat_cmp a.signature b.signature) e in
    let three = then_Equal _ (slice_cmp nat_cmp a.signed_data b.signed_data) all.0 in
    let two = then_Equal (nat_cmp a.algorithm.0 b.algorithm.0) (slice_cmp nat_cmp a.key b.key) three.0 in
    λ i. record {
      algorithm = record { 0 = octet_Equal a.algorithm.0 b.algorithm.0 two.0 i };
      key = octets_Equal a.key b.key two.1 i;
      signed_data = octets_Equal a.signed_data b.signed_data three.1 i;
      signature = octets_Equal a.signature b.signature all.1 i;
    }
