-- What is found of the numbers of labels of cuts. No public clause cites this module.
use Rattle.std.specs.Prelude.{◌≡◌, ◌≤◌, ℕ, List, Option, Some, None, MatchOption}
use Rattle.dnsv_names.specs.Name.{Labels}
use Rattle.dnsv_canonical.specs.Rrsets.{ReceivedRrset}
use Rattle.dnsv_denial.specs.unsigned_cuts.Cuts.{IsFewest, IsMost, IsUnsignedDelegationCut, IsUnusableDsCut, IsOptOutCut}

-- ---- numbers of labels

-- the fewest of which it holds, or nothing where it holds of none
abbrev pub IsFewestFound : (ℕ → Type 0) → Option ℕ → Type 0
IsFewestFound Holds found = MatchOption found ((labels : ℕ) → ¬ Holds labels) (IsFewest Holds)

-- the most of which it holds, or nothing where it holds of none
abbrev pub IsMostFound : (ℕ → Type 0) → Option ℕ → Type 0
IsMostFound Holds found = MatchOption found ((labels : ℕ) → ¬ Holds labels) (IsMost Holds)

-- the lesser of the numbers that there are
abbrev pub IsLesser : Option ℕ → Option ℕ → Option ℕ → Type 0
IsLesser None other found = found ≡ other
IsLesser (Some n) None found = found ≡ Some n
IsLesser (Some n) (Some m) found = (n ≤ m → found ≡ Some n) × (m ≤ n → found ≡ Some m)

-- the greater of the numbers that there are
abbrev pub IsGreater : Option ℕ → Option ℕ → Option ℕ → Type 0
IsGreater None other found = found ≡ other
IsGreater (Some n) None found = found ≡ Some n
IsGreater (Some n) (Some m) found = (m ≤ n → found ≡ Some n) × (n ≤ m → found ≡ Some m)

-- ---- what is found for a name

-- these are found for the three kinds of cuts
pub record AreFindings
    (Secured : ℕ → ℕ → Type 0) (rrsets : List ReceivedRrset) (name : Labels) (no_ds no_usable_ds opt_out : Option ℕ)
    : Type 0 where
  pub unsigned_delegation : IsFewestFound (IsUnsignedDelegationCut Secured rrsets name) no_ds
  pub unusable_ds : IsFewestFound (IsUnusableDsCut Secured rrsets name) no_usable_ds
  pub left_out : IsMostFound (IsOptOutCut Secured rrsets name) opt_out
