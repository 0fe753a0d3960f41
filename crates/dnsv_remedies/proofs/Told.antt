-- Remedies that fail, and what is told of them.
use Rattle.std.proofs.Common.{◌≡◌, inl, inr, ⊎_elim, ◌++◌, ◌||◌, Bool, true, false, if◌then◌else◌, List, [], ◌∷◌, Option, Some, None, map, refl, sym, ap, ◌∙◌, subst}
use Rattle.std.proofs.lemmas.Bool.{false≢true}
use Rattle.std.proofs.lemmas.Option.{same_Some}
use Rattle.std.proofs.lemmas.List.Folds.{list_any-append}
use Rattle.std.specs.List.{AllByRecursion, list_any}
use Rattle.dnsv_mending.specs.Mend.{Mended}
use Rattle.dnsv_mending.specs.Price as price
use Rattle.dnsv_mending.specs.Price.{is_cheaper}
use Rattle.dnsv_mending.specs.Reasons as trust
use Rattle.dnsv_mending.specs.declared.price.Class.{Class}
use Rattle.dnsv_mending.specs.declared.told.Told.{Told}
use Rattle.dnsv_mending.proofs.AllWays.{none_some}
use Rattle.dnsv_mending.proofs.Cheapest.{none_first, none_second}
use Rattle.dnsv_mending.proofs.DearLines.{IsTold, one_dear, or_true, or_true_second}
use Rattle.dnsv_mending.proofs.Lists.{any_mapped}
use Rattle.dnsv_remedies.specs.Reasons.{HasReason}
use Rattle.dnsv_remedies.specs.Remedy.{Remedied, after, beside, both, ended, fails_alone, fault, following, gap, least, least_from, missing, or_gap, unusable_lines, with_unusable, whole}
use Rattle.dnsv_remedies.specs.Said.{is_reason}
use Rattle.dnsv_remedies.specs.declared.facts.name.UnusableFacts.{UnusableFacts}
use Rattle.dnsv_remedies.specs.declared.said.Said.{Said}
use Rattle.dnsv_remedies.specs.declared.said.Said.TheVariants as said

-- it fails by itself, and costs something
pub record Fails (m : Remedied) : Type 0 where
  pub alone : fails_alone m ≡ true
  pub costs : m.price ≡ price.none → ⊥

-- a reason is told, and it costs something
pub record Tells (m : Remedied) : Type 0 where
  pub reason : HasReason m
  pub costs : m.price ≡ price.none → ⊥

-- the same of what has to be mended of an RRset alone
pub record Owns (m : Mended) : Type 0 where
  pub reason : list_any trust.is_reason m.own ≡ true
  pub costs : m.price ≡ price.none → ⊥

-- ---- lines

pub any_first : (xs ys : List Said) → list_any is_reason xs ≡ true → list_any is_reason (xs ++ ys) ≡ true
any_first xs ys h = list_any-append is_reason xs ys ∙ or_true (list_any is_reason xs) (list_any is_reason ys) h

pub any_second : (xs ys : List Said) → list_any is_reason ys ≡ true → list_any is_reason (xs ++ ys) ≡ true
any_second xs ys h = list_any-append is_reason xs ys ∙ or_true_second (list_any is_reason xs) (list_any is_reason ys) h

any_trust : (xs : List Told) → list_any trust.is_reason xs ≡ true → list_any is_reason (map said.Trust xs) ≡ true
any_trust xs h = any_mapped said.Trust is_reason xs ∙ h

-- ---- one remedy

pub own_of : (m : Mended) → m.chain ≡ [] → IsTold m → Owns m
own_of m none t = record {
  reason = ⊎_elim
      (λ (h : list_any trust.is_reason m.chain ≡ true). absurd (false≢true (sym (ap (list_any trust.is_reason) none) ∙ h)))
      (λ (h : list_any trust.is_reason m.own ≡ true). h) t.reason;
  costs = t.costs;
}

pub whole_fails : (m : Mended) → Owns m → Fails (whole m)
whole_fails m o = record { alone = any_trust m.own o.reason; costs = o.costs }

pub whole_tells : (m : Mended) → IsTold m → Tells (whole m)
whole_tells m t = record {
  reason = ⊎_elim (λ (h : list_any trust.is_reason m.chain ≡ true). inl (any_trust m.chain h))
      (λ (h : list_any trust.is_reason m.own ≡ true). inr (any_trust m.own h)) t.reason;
  costs = t.costs;
}

pub missing_fails : (c : Class) (lines : List Said) → Fails (missing c lines)
missing_fails c lines = record { alone = refl; costs = one_dear c }

or_swap : (a b c d : Bool) → (a || b) ≡ true → ((a || c) || (b || d)) ≡ true
or_swap true b c d h = refl
or_swap false true c d h = or_true_second c true refl
or_swap false false c d h = absurd (false≢true h)

or_swap_second : (a b c d : Bool) → (c || d) ≡ true → ((a || c) || (b || d)) ≡ true
or_swap_second true b c d h = refl
or_swap_second false b true d h = refl
or_swap_second false b false d h = or_true_second b d h

either_fails : (m n : Remedied) → ((m.lacks || n.lacks) || (list_any is_reason m.own || list_any is_reason n.own)) ≡ true → fails_alone (both m n) ≡ true
either_fails m n h = ap (λ b. (m.lacks || n.lacks) || b) (list_any-append is_reason m.own n.own) ∙ h

pub first_fails : (m n : Remedied) → Fails m → Fails (both m n)
first_fails m n f = record {
  alone = either_fails m n (or_swap m.lacks (list_any is_reason m.own) n.lacks (list_any is_reason n.own) f.alone);
  costs = λ h. f.costs (none_first m.price n.price h);
}

pub second_fails : (m n : Remedied) → Fails n → Fails (both m n)
second_fails m n f = record {
  alone = either_fails m n (or_swap_second m.lacks (list_any is_reason m.own) n.lacks (list_any is_reason n.own) f.alone);
  costs = λ h. f.costs (none_second m.price n.price h);
}

unusable_case : (unusable : List UnusableFacts) (m : Remedied) (t : Bool) → m.lacks ≡ t → Fails m
    → Fails (if t then record m { own = unusable_lines unusable ++ m.own } else m)
unusable_case unusable m true e f = record { alone = or_true m.lacks (list_any is_reason (unusable_lines unusable ++ m.own)) e; costs = f.costs }
unusable_case unusable m false e f = f

pub unusable_fails : (unusable : List UnusableFacts) (m : Remedied) → Fails m → Fails (with_unusable unusable m)
unusable_fails unusable m f = unusable_case unusable m m.lacks refl f

ended_case : (line : Said) (m : Remedied) (t : Bool) → t ≡ true → is_reason line ≡ true → (m.price ≡ price.none → ⊥)
    → Tells (if t then record m { own = m.own ++ line ∷ [] } else m)
ended_case line m true e is costs = record { reason = inr (any_second m.own (line ∷ []) (or_true (is_reason line) false is)); costs = costs }
ended_case line m false e is costs = absurd (false≢true e)

pub ended_tells : (line : Said) (m : Remedied) → is_reason line ≡ true → Fails m → Tells (ended line m)
ended_tells line m is f = ended_case line m (fails_alone m) f.alone is f.costs

pub fault_tells : (c : Class) (line : Said) → is_reason line ≡ true → Tells (fault c line)
fault_tells c line is = record { reason = inr (or_true (is_reason line) false is); costs = one_dear c }

-- ---- M, then N; M and N

pub above_tells : (m n : Remedied) → Tells m → Tells (following m n)
above_tells m n t = record {
  reason = ⊎_elim
      (λ (h : list_any is_reason m.chain ≡ true). inl (any_first (m.chain ++ m.own) n.chain (any_first m.chain m.own h)))
      (λ (h : list_any is_reason m.own ≡ true). inl (any_first (m.chain ++ m.own) n.chain (any_second m.chain m.own h))) t.reason;
  costs = λ h. t.costs (none_first m.price n.price h);
}

pub below_tells : (m n : Remedied) → Tells n → Tells (following m n)
below_tells m n t = record {
  reason = ⊎_elim
      (λ (h : list_any is_reason n.chain ≡ true). inl (any_second (m.chain ++ m.own) n.chain h))
      (λ (h : list_any is_reason n.own ≡ true). inr h) t.reason;
  costs = λ h. t.costs (none_second m.price n.price h);
}

pub first_tells : (m n : Remedied) → Tells m → Tells (both m n)
first_tells m n t = record {
  reason = ⊎_elim
      (λ (h : list_any is_reason m.chain ≡ true). inl (any_first m.chain n.chain h))
      (λ (h : list_any is_reason m.own ≡ true). inr (any_first m.own n.own h)) t.reason;
  costs = λ h. t.costs (none_first m.price n.price h);
}

pub second_tells : (m n : Remedied) → Tells n → Tells (both m n)
second_tells m n t = record {
  reason = ⊎_elim
      (λ (h : list_any is_reason n.chain ≡ true). inl (any_second m.chain n.chain h))
      (λ (h : list_any is_reason n.own ≡ true). inr (any_second m.own n.own h)) t.reason;
  costs = λ h. t.costs (none_second m.price n.price h);
}

-- ---- lists of ways

pub all_after : (P : Remedied → Type 0) (o : Option Mended) (n : Remedied) → ((m : Mended) → o ≡ Some m → P (following (whole m) n))
    → AllByRecursion P (after o n)
all_after P None n each = tt
all_after P (Some m) n each = (each m refl, tt)

pub all_beside : (P : Remedied → Type 0) (o : Option Mended) (n : Remedied) → ((m : Mended) → o ≡ Some m → P (both (whole m) n))
    → AllByRecursion P (beside o n)
all_beside P None n each = tt
all_beside P (Some m) n each = (each m refl, tt)

either : (P : Remedied → Type 0) (t : Bool) (x y : Remedied) → P x → P y → P (if t then x else y)
either P true x y a b = a
either P false x y a b = b

of_least_from : (P : Remedied → Type 0) (ms : List Remedied) (best m : Remedied) → P best → AllByRecursion P ms → least_from (Some best) ms ≡ Some m → P m
of_least_from P [] best m holds all h = subst P (same_Some best m h) holds
of_least_from P (x ∷ xs) best m holds all h =
    of_least_from P xs (if is_cheaper x.price best.price then x else best) m (either P (is_cheaper x.price best.price) x best all.0 holds) all.1 h

-- what holds of each way holds of the least
pub of_least : (P : Remedied → Type 0) (ms : List Remedied) (m : Remedied) → AllByRecursion P ms → least ms ≡ Some m → P m
of_least P [] m all h = absurd (none_some m h)
of_least P (x ∷ xs) m all h = of_least_from P xs x m all.0 all.1 h

gap_case : (P : Remedied → Type 0) (o : Option Remedied) → P gap → ((m : Remedied) → o ≡ Some m → P m) → P (or_gap o)
gap_case P None missed each = missed
gap_case P (Some m) missed each = each m refl

pub of_least_or_gap : (P : Remedied → Type 0) (ms : List Remedied) → P gap → AllByRecursion P ms → P (or_gap (least ms))
of_least_or_gap P ms missed all = gap_case P (least ms) missed (λ m h. of_least P ms m all h)
