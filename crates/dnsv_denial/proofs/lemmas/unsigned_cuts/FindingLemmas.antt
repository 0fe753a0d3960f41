-- Numbers of labels that are found one after another.
use Rattle.std.proofs.Common.{◌≡◌, ℕ, ◌+◌, ◌-◌, ◌<◌, ◌≤◌, ◌⊎◌, Option, List, length, refl, sym, subst, inl, inr, ⊎_elim, arith}
use Rattle.std.specs.Prelude.{Some, None}
use Rattle.std.proofs.lemmas.Bool.{cases_lt}
use Rattle.std.proofs.lemmas.Option.{slice_get_within}
use Rattle.dnsv_names.specs.Name.{Labels, IsAtOrBelow, rightmost}
use Rattle.dnsv_names.specs.Tree.TreeLaws.{at_or_below_length, same_labels, at_or_below_respects}
use Rattle.dnsv_names.specs.Tree.AncestorLaws.{rightmost_above, rightmost_length, rightmost_same}
use Rattle.dnsv_canonical.specs.Rrsets.{IsNumbered, ReceivedRrset}
use Rattle.dnsv_denial.specs.unsigned_cuts.Cuts.{no_ds, no_usable_ds, opt_out, IsFewest, IsMost, IsUnsignedDelegationCut, IsUnusableDsCut, IsOptOutCut, IsUnsignedCut, HasUnsignedCut}
use Rattle.dnsv_chain.specs.UnusableDs.{IsUnusableDs}
use Rattle.dnsv_denial.specs.unsigned_cuts.Findings.{IsFewestFound, IsMostFound, IsLesser, IsGreater, AreFindings}
use Rattle.dnsv_canonical.proofs.NumberLemmas.{one_numbered}

-- ---- the lesser and the greater of two findings

module _ (P Q : ℕ → Type 0) (to : (n : ℕ) → P n → Q n) (from : (n : ℕ) → Q n → P n) where
  pub fewest_as : (found : Option ℕ) → IsFewestFound P found → IsFewestFound Q found
  fewest_as None none = λ n holds. none n (from n holds)
  fewest_as (Some n) is = record { holds = to n is.holds; fewest = λ fewer less holds. is.fewest fewer less (from fewer holds) }

  pub most_as : (found : Option ℕ) → IsMostFound P found → IsMostFound Q found
  most_as None none = λ n holds. none n (from n holds)
  most_as (Some n) is = record { holds = to n is.holds; most = λ more less holds. is.most more less (from more holds) }

module _ (P Q R : ℕ → Type 0) (to_first : (n : ℕ) → P n → R n) (to_second : (n : ℕ) → Q n → R n) (from : (n : ℕ) → R n → P n ⊎ Q n) where
  neither : (n : ℕ) → ¬ P n → ¬ Q n → ¬ R n
  neither n not_p not_q r = ⊎_elim (λ (p : P n). not_p p) (λ (q : Q n). not_q q) (from n r)

  pub fewest_of_both : (a b c : Option ℕ) → IsFewestFound P a → IsFewestFound Q b → IsLesser a b c → IsFewestFound R c
  fewest_of_both None None c p q is = subst (IsFewestFound R) (sym is) (λ n. neither n (p n) (q n))
  fewest_of_both None (Some m) c p q is = subst (IsFewestFound R) (sym is)
      (record { holds = to_second m q.holds; fewest = λ k less. neither k (p k) (q.fewest k less) })
  fewest_of_both (Some n) None c p q is = subst (IsFewestFound R) (sym is)
      (record { holds = to_first n p.holds; fewest = λ k less. neither k (p.fewest k less) (q k) })
  fewest_of_both (Some n) (Some m) c p q is =
      ⊎_elim
      (λ (second : m < n). subst (IsFewestFound R) (sym (is.1 (omega (arith, second))))
      (record { holds = to_second m q.holds; fewest = λ k less. neither k (p.fewest k (omega (arith, less, second))) (q.fewest k less) }))
      (λ (first : n ≤ m). subst (IsFewestFound R) (sym (is.0 first))
      (record { holds = to_first n p.holds; fewest = λ k less. neither k (p.fewest k less) (q.fewest k (omega (arith, less, first))) }))
      (cases_lt m n)

  pub most_of_both : (a b c : Option ℕ) → IsMostFound P a → IsMostFound Q b → IsGreater a b c → IsMostFound R c
  most_of_both None None c p q is = subst (IsMostFound R) (sym is) (λ n. neither n (p n) (q n))
  most_of_both None (Some m) c p q is = subst (IsMostFound R) (sym is)
      (record { holds = to_second m q.holds; most = λ k less. neither k (p k) (q.most k less) })
  most_of_both (Some n) None c p q is = subst (IsMostFound R) (sym is)
      (record { holds = to_first n p.holds; most = λ k less. neither k (p.most k less) (q k) })
  most_of_both (Some n) (Some m) c p q is =
      ⊎_elim
      (λ (second : n < m). subst (IsMostFound R) (sym (is.1 (omega (arith, second))))
      (record { holds = to_second m q.holds; most = λ k less. neither k (p.most k (omega (arith, less, second))) (q.most k less) }))
      (λ (first : m ≤ n). subst (IsMostFound R) (sym (is.0 first))
      (record { holds = to_first n p.holds; most = λ k less. neither k (p.most k less) (q.most k (omega (arith, less, first))) }))
      (cases_lt n m)

-- ---- DS RRsets, one by one

module _ (Secured : ℕ → ℕ → Type 0) (rrsets : List ReceivedRrset) (name : Labels) where
  -- it is shown by one of so many RRsets
  pub record IsCutUpTo (place : ℕ) (labels : ℕ) : Type 0 where
    pub cut : IsUnusableDsCut Secured rrsets name labels
    pub up_to : cut.k ≤ place

  cut_at : (place : ℕ) (rrset : ReceivedRrset) → IsNumbered rrsets (place + 1) rrset → IsUnusableDs (Secured (place + 1)) rrset name
      → IsCutUpTo (place + 1) (length rrset.owner)
  cut_at place rrset is_rrset is = record {
    cut = record {
      at_or_above = at_or_below_length name rrset.owner is.above;
      k = place + 1;
      rrset = rrset;
      is_rrset = is_rrset;
      rtype = is.rtype;
      owner = sym (rightmost_same name rrset.owner is.above);
      signature = is.signature;
      secured = is.secured;
      records = is.records;
      read = is.read;
      none = is.none;
    };
    up_to = omega arith;
  }

  its_cut : (k labels : ℕ) (rrset : ReceivedRrset) → IsNumbered rrsets k rrset → (cut : IsUnusableDsCut Secured rrsets name labels) → cut.k ≡ k
      → IsUnusableDs (Secured k) rrset name × (labels ≡ length rrset.owner)
  its_cut k labels rrset is_rrset cut same =
      let one : cut.rrset ≡ rrset = one_numbered rrsets k cut.rrset rrset (subst (λ m. IsNumbered rrsets m cut.rrset) same cut.is_rrset) is_rrset in
      let above : IsAtOrBelow name cut.rrset.owner = at_or_below_respects name name (rightmost name labels) cut.rrset.owner refl (sym cut.owner) (rightmost_above name labels) in
      subst (λ (each : ReceivedRrset). IsUnusableDs (Secured k) each name × (labels ≡ length each.owner)) one (
        record {
          above = above;
          rtype = cut.rtype;
          signature = cut.signature;
          secured = subst (λ m. Secured m cut.signature) same cut.secured;
          records = cut.records;
          read = cut.read;
          none = cut.none;
        },
        omega (arith, same_labels cut.rrset.owner (rightmost name labels) cut.owner, rightmost_length name labels cut.at_or_above),
      )

  later : (place n : ℕ) → IsCutUpTo place n → IsCutUpTo (place + 1) n
  later place n upto = record { cut = upto.cut; up_to = omega (arith, upto.up_to) }

  earlier_or_here : (place n : ℕ) (rrset : ReceivedRrset) → IsNumbered rrsets (place + 1) rrset → IsCutUpTo (place + 1) n
      → IsCutUpTo place n ⊎ (IsUnusableDs (Secured (place + 1)) rrset name × (n ≡ length rrset.owner))
  earlier_or_here place n rrset is_rrset upto =
      ⊎_elim (λ (below : upto.cut.k < place + 1). inl (record { cut = upto.cut; up_to = omega (arith, below) }))
      (λ (here : place + 1 ≤ upto.cut.k). inr (its_cut (place + 1) n rrset is_rrset upto.cut (omega (arith, here, upto.up_to))))
      (cases_lt upto.cut.k (place + 1))

  pub none_here : (place : ℕ) (rrset : ReceivedRrset) (found : Option ℕ) → IsNumbered rrsets (place + 1) rrset → ¬ IsUnusableDs (Secured (place + 1)) rrset name
      → IsFewestFound (IsCutUpTo place) found → IsFewestFound (IsCutUpTo (place + 1)) found
  none_here place rrset found is_rrset isnt so_far =
      fewest_as (IsCutUpTo place) (IsCutUpTo (place + 1)) (later place)
      (λ n upto. ⊎_elim (λ (before : IsCutUpTo place n). before)
      (λ (here : IsUnusableDs (Secured (place + 1)) rrset name × (n ≡ length rrset.owner)). absurd (isnt here.0)) (earlier_or_here place n rrset is_rrset upto))
      found so_far

  pub one_here : (place : ℕ) (rrset : ReceivedRrset) (found next : Option ℕ) → IsNumbered rrsets (place + 1) rrset → IsUnusableDs (Secured (place + 1)) rrset name
      → IsLesser found (Some (length rrset.owner)) next → IsFewestFound (IsCutUpTo place) found → IsFewestFound (IsCutUpTo (place + 1)) next
  one_here place rrset found next is_rrset is lesser so_far =
      fewest_of_both (IsCutUpTo place) (λ n. n ≡ length rrset.owner) (IsCutUpTo (place + 1)) (later place)
      (λ n same. subst (IsCutUpTo (place + 1)) (sym same) (cut_at place rrset is_rrset is))
      (λ n upto. ⊎_elim (λ (before : IsCutUpTo place n). inl before)
      (λ (here : IsUnusableDs (Secured (place + 1)) rrset name × (n ≡ length rrset.owner)). inr here.1) (earlier_or_here place n rrset is_rrset upto))
      found (Some (length rrset.owner)) next so_far (record { holds = refl; fewest = λ fewer less same. omega (arith, less, same) }) lesser

  pub all_of_them : (place : ℕ) (found : Option ℕ) → length rrsets ≤ place → IsFewestFound (IsCutUpTo place) found → IsFewestFound (IsUnusableDsCut Secured rrsets name) found
  all_of_them place found past so_far =
      fewest_as (IsCutUpTo place) (IsUnusableDsCut Secured rrsets name) (λ n upto. upto.cut)
      (λ n cut. record { cut = cut; up_to = omega (arith, past, slice_get_within rrsets (cut.k - 1) cut.rrset cut.is_rrset.1) })
      found so_far

-- a list that isn't empty has a member
-- ---- the first of the three kinds

pub fewest_at : (Holds : ℕ → Type 0) (found : Option ℕ) (n : ℕ) → found ≡ Some n → IsFewestFound Holds found → IsFewest Holds n
fewest_at Holds found n is so = subst (IsFewestFound Holds) is so

pub none_at : (Holds : ℕ → Type 0) (found : Option ℕ) → found ≡ None → IsFewestFound Holds found → (n : ℕ) → ¬ Holds n
none_at Holds found is so = subst (IsFewestFound Holds) is so

pub most_at : (Holds : ℕ → Type 0) (found : Option ℕ) (n : ℕ) → found ≡ Some n → IsMostFound Holds found → IsMost Holds n
most_at Holds found n is so = subst (IsMostFound Holds) is so

no_most_at : (Holds : ℕ → Type 0) (found : Option ℕ) → found ≡ None → IsMostFound Holds found → (n : ℕ) → ¬ Holds n
no_most_at Holds found is so = subst (IsMostFound Holds) is so

module _ (Secured : ℕ → ℕ → Type 0) (rrsets : List ReceivedRrset) (name : Labels) (one two three : Option ℕ) (found : AreFindings Secured rrsets name one two three) where
  pub cut_without_ds : (n : ℕ) (cut : Labels) → one ≡ Some n → cut ≡ rightmost name n → IsUnsignedCut Secured rrsets name cut
  cut_without_ds n cut is same = subst (IsUnsignedCut Secured rrsets name) (sym same)
      (no_ds n (fewest_at (IsUnsignedDelegationCut Secured rrsets name) one n is found.unsigned_delegation))

  pub cut_unusable : (n : ℕ) (cut : Labels) → one ≡ None → two ≡ Some n → cut ≡ rightmost name n → IsUnsignedCut Secured rrsets name cut
  cut_unusable n cut no_first is same = subst (IsUnsignedCut Secured rrsets name) (sym same)
      (no_usable_ds n (none_at (IsUnsignedDelegationCut Secured rrsets name) one no_first found.unsigned_delegation)
      (fewest_at (IsUnusableDsCut Secured rrsets name) two n is found.unusable_ds))

  pub cut_left_out : (n : ℕ) (cut : Labels) → one ≡ None → two ≡ None → three ≡ Some n → (n < length name → cut ≡ rightmost name (n + 1))
      → IsUnsignedCut Secured rrsets name cut
  cut_left_out n cut no_first no_second is same =
      let most = most_at (IsOptOutCut Secured rrsets name) three n is found.left_out in
      subst (IsUnsignedCut Secured rrsets name) (sym (same most.holds.3.above.proper))
      (opt_out n (none_at (IsUnsignedDelegationCut Secured rrsets name) one no_first found.unsigned_delegation)
      (none_at (IsUnusableDsCut Secured rrsets name) two no_second found.unusable_ds) most)

  pub no_cut : one ≡ None → two ≡ None → three ≡ None → ¬ HasUnsignedCut Secured rrsets name
  no_cut no_first no_second no_third has =
      ⊎_elim (λ (cut : IsUnsignedDelegationCut Secured rrsets name has.0). none_at (IsUnsignedDelegationCut Secured rrsets name) one no_first found.unsigned_delegation has.0 cut)
      (λ (others : IsUnusableDsCut Secured rrsets name has.0 ⊎ IsOptOutCut Secured rrsets name has.0).
      ⊎_elim (λ (cut : IsUnusableDsCut Secured rrsets name has.0). none_at (IsUnusableDsCut Secured rrsets name) two no_second found.unusable_ds has.0 cut)
      (λ (cut : IsOptOutCut Secured rrsets name has.0). no_most_at (IsOptOutCut Secured rrsets name) three no_third found.left_out has.0 cut) others) has.1
