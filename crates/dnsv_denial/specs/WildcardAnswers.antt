-- What is kept of answers from wildcards. No public clause cites this module.
use Rattle.std.specs.Prelude.{◌≡◌, ℕ, List, Some, false}
use Rattle.std.specs.BTreeMap.{BTreeMap, get}
use Rattle.std.specs.Ordering.{nat_cmp, ordering_then}
use Rattle.std.specs.declared.cmp.Ordering.{Ordering}
use Rattle.dnsv_names.specs.Name.{Labels, rightmost}
use Rattle.dnsv_canonical.specs.Rrsets.{ReceivedRrset}
use Rattle.dnsv_denial.specs.proving.FirstProof.{CanProveNoCloser}
use Rattle.dnsv_denial.specs.unsigned_cuts.Cuts.{HasOptedOutNextCloser}
use Rattle.dnsv_denial.specs.declared.wildcard_answers.Shown.{Shown}

-- by two numbers of labels
abbrev pub asked_cmp : ℕ × ℕ → ℕ × ℕ → Ordering
asked_cmp a b = ordering_then (nat_cmp a.0 b.0) (nat_cmp a.1 b.1)

-- what isn't shown isn't so
pub record IsShown
    (Secured : ℕ → ℕ → Type 0) (rrsets : List ReceivedRrset) (name : Labels) (labels : ℕ) (zone : Labels)
    (shown : Shown) : Type 0 where
  pub closer : shown.no_closer ≡ false → ¬ CanProveNoCloser Secured rrsets name labels zone
  pub not_opted_out : shown.opted_out ≡ false → ¬ HasOptedOutNextCloser Secured rrsets name labels zone

-- so it is with all that is kept, by how many labels the zone has, and how many the wildcard's parent has
pub record AreAnswers
    (Secured : ℕ → ℕ → Type 0) (rrsets : List ReceivedRrset) (name : Labels) (answers : BTreeMap (ℕ × ℕ) Shown)
    : Type 0 where
  pub each : (asked : ℕ × ℕ) (shown : Shown) → get asked_cmp answers asked ≡ Some shown
      → IsShown Secured rrsets name asked.1 (rightmost name asked.0) shown
