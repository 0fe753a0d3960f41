-- The names above that own DNAME RRsets, one after another.
use Rattle.std.proofs.Common.{◌≡◌, ◌+◌, ◌==◌, ℕ, Bool, true, false, zero, suc, List, [], ◌∷◌, ◌++◌, length, get_or, refl, sym, ap, ◌∙◌, arith, append-nil}
use Rattle.std.proofs.lemmas.Grind.{flat_map-append}
use Rattle.std.specs.List.{flat_map, range_with_len}
use Rattle.dnsv_names.specs.Name.{Labels, rightmost}
use Rattle.dnsv_canonical.specs.Index.{numbers_at}
use Rattle.dnsv_canonical.specs.Rrsets.{ReceivedRrset}
use Rattle.dnsv_gaps.specs.questions.Dnames.{dname_at, lowest}
use Rattle.dnsv_gaps.proofs.AnswerLemmas.{none_in}

-- one number more
pub range_more : (a n b : ℕ) → b ≡ a + n → range_with_len a (n + 1) ≡ range_with_len a n ++ b ∷ []
range_more a zero b is = ap (λ (k : ℕ). k ∷ []) (let at : a ≡ b = omega (arith, is) in at)
range_more a (suc n) b is =
    let next : suc n + 1 ≡ suc (n + 1) = omega arith in
    ap (range_with_len a) next ∙ ap (λ ns. a ∷ ns) (range_more (a + 1) n b (omega (arith, is)))

pub one_name_more : (rrsets : List ReceivedRrset) (name : Labels) (n : ℕ)
    → flat_map (dname_at rrsets name) (range_with_len 0 n) ++ dname_at rrsets name n ≡ flat_map (dname_at rrsets name) (range_with_len 0 (n + 1))
one_name_more rrsets name n =
    ap (λ ds. flat_map (dname_at rrsets name) (range_with_len 0 n) ++ ds) (sym (append-nil (dname_at rrsets name n)))
    ∙ sym (flat_map-append (dname_at rrsets name) (range_with_len 0 n) (n ∷ []))
    ∙ ap (flat_map (dname_at rrsets name)) (sym (range_more 0 n n (omega arith)))

-- none is at the name
pub none_at : (rrsets : List ReceivedRrset) (name : Labels) (labels : ℕ) (numbers : List ℕ) (b : Bool)
    → numbers ≡ numbers_at rrsets (rightmost name labels) 39 → b ≡ (length numbers == 0) → b ≡ true → dname_at rrsets name labels ≡ []
unfolding dname_at
none_at rrsets name labels numbers b are test none = ap (lowest labels) (sym are ∙ none_in numbers b test none)

-- the first of them is the lowest
pub one_at : (rrsets : List ReceivedRrset) (name : Labels) (labels : ℕ) (numbers : List ℕ) (b : Bool)
    → numbers ≡ numbers_at rrsets (rightmost name labels) 39 → b ≡ (length numbers == 0) → b ≡ false
    → dname_at rrsets name labels ≡ record { labels = labels; rrset = get_or numbers 0 0 } ∷ []
unfolding dname_at
one_at rrsets name labels numbers b are test some = ap (lowest labels) (sym are) ∙ first_of numbers b test some where
  first_of : (numbers : List ℕ) (b : Bool) → b ≡ (length numbers == 0) → b ≡ false → lowest labels numbers ≡ record { labels = labels; rrset = get_or numbers 0 0 } ∷ []
  first_of [] b test some = let turned : true ≡ false = sym test ∙ some in absurd (cc turned)
  first_of (first ∷ numbers) b test some = refl
