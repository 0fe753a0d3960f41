-- Mends each of whose lines is such.
use Rattle.std.proofs.Common.{◌≡◌, ◌++◌, Bool, true, false, List, [], ◌∷◌, Option, Some, None, refl}
use Rattle.std.specs.List.{AllByRecursion}
use Rattle.dnsv_mending.specs.Faults.{or_else, when}
use Rattle.dnsv_mending.specs.Mend.{Mended, both, cheapest, fault, following, nothing, telling, untold, with_fault}
use Rattle.dnsv_mending.specs.declared.price.Class.{Class}
use Rattle.dnsv_mending.specs.declared.told.Told.{Told}
use Rattle.dnsv_mending.proofs.AllWays.{all_append, of_cheapest}

-- ---- lists

pub all_or_else : (P : Told → Type 0) (xs ys : List Told) → AllByRecursion P xs → (xs ≡ [] → AllByRecursion P ys)
    → AllByRecursion P (or_else xs ys)
all_or_else P [] ys all others = others refl
all_or_else P (x ∷ xs) ys all others = all

pub all_when : (P : Told → Type 0) (b : Bool) (t : Told) → (b ≡ true → P t) → AllByRecursion P (when b t)
all_when P true t holds = (holds refl, tt)
all_when P false t holds = tt

-- ---- mends

pub record Lines (P : Told → Type 0) (m : Mended) : Type 0 where
  pub chain : AllByRecursion P m.chain
  pub own : AllByRecursion P m.own

-- of a way that may not be there
abbrev pub Kept : (Told → Type 0) → Option Mended → Type 0
Kept P o = (m : Mended) → o ≡ Some m → Lines P m

module _ (P : Told → Type 0) where
  pub no_lines : Lines P nothing
  no_lines = record { chain = tt; own = tt }

  pub of_fault : (t : Told) → P t → Lines P (fault t)
  of_fault t holds = record { chain = tt; own = (holds, tt) }

  pub of_telling : (ts : List Told) → AllByRecursion P ts → Lines P (telling ts)
  of_telling ts all = record { chain = tt; own = all }

  pub of_untold : (c : Class) → Lines P (untold c)
  of_untold c = record { chain = tt; own = tt }

  pub of_both : (m n : Mended) → Lines P m → Lines P n → Lines P (both m n)
  of_both m n first second =
      record { chain = all_append P m.chain n.chain first.chain second.chain; own = all_append P m.own n.own first.own second.own }

  pub of_following : (m n : Mended) → Lines P m → Lines P n → Lines P (following m n)
  of_following m n first second = record {
    chain = all_append P (m.chain ++ m.own) n.chain (all_append P m.chain m.own first.chain first.own) second.chain;
    own = second.own;
  }

  pub of_with_fault : (o : Option Told) (m : Mended) → ((t : Told) → o ≡ Some t → P t) → Lines P m → Lines P (with_fault o m)
  of_with_fault None m each lines = lines
  of_with_fault (Some t) m each lines = of_both (fault t) m (of_fault t (each t refl)) lines

  pub of_least : (ms : List Mended) → AllByRecursion (Lines P) ms → Kept P (cheapest ms)
  of_least ms all m is = of_cheapest (Lines P) ms m all is
