-- The verdict on a question: the first of eight cases that holds.
use Rattle.std.specs.Prelude.{◌≡◌, ◌↔◌, ℕ, List, Contains}
use Rattle.std.specs.List.Sorted.{IsStrictlySortedBy}
use Rattle.dnsv_names.specs.Name.{Labels}
use Rattle.dnsv_verifier.specs.Admissible.{IsAsked}
use Rattle.dnsv_verifier.specs.Entry.{entry_cmp}
use Rattle.dnsv_verifier.specs.declared.answer.Answer.TheVariants.{Unknown}
use Rattle.dnsv_verifier.specs.declared.entry.Entry.{Entry}
use Rattle.dnsv_chain.specs.Basis.{Basis, HasAnchor, hopeful}
use Rattle.dnsv_chain.specs.Trusted.{IsSecured}
use Rattle.dnsv_verdict.specs.Settled.{IsSettled, IsSettledAs}
use Rattle.dnsv_verdict.specs.declared.verdict.Verdict.{Verdict}
use Rattle.dnsv_verdict.specs.declared.verdict.Verdict.TheVariants.{Pending, Bogus, Indeterminate}

-- ---- the cases, in their order

-- 1 to 5: the evidence settles it, as `IsSettled` says
abbrev pub IsSettledBy : Basis → Labels → ℕ → Type 0
IsSettledBy basis name t = IsSettled (IsSecured basis.meaning basis.moment basis.rrsets basis.anchors) basis.rrsets name
    t

-- and so
abbrev pub IsSettledAsBy : Basis → Labels → ℕ → Verdict → Type 0
IsSettledAsBy basis name t verdict =
    IsSettledAs (IsSecured basis.meaning basis.moment basis.rrsets basis.anchors) basis.rrsets name t verdict

-- 6: it would settle it if what isn't known were valid
abbrev pub MayBeSettledBy : Basis → Labels → ℕ → Type 0
MayBeSettledBy basis name t = IsSettledBy (hopeful basis) name t

-- what the verifier is asked and doesn't know, in order
pub record AreUnknown (basis : Basis) (entries : List Entry) : Type 0 where
  pub rising : IsStrictlySortedBy entry_cmp entries
  pub members : (entry : Entry) → Contains entries entry
      ↔ (IsAsked basis.moment basis.rrsets entry × (basis.meaning entry ≡ Unknown))

-- 7: there is a trust anchor at or above the name, as `HasAnchor` says (RFC 4033 5). 8: there is none.

-- ---- the verdict

-- the verdict at a name, for a type: that of the first case which holds
abbrev pub IsVerdictAt : Basis → Labels → ℕ → Verdict → Type 0
IsVerdictAt basis name t (Pending entries) =
    (¬ IsSettledBy basis name t) × MayBeSettledBy basis name t × AreUnknown basis entries
IsVerdictAt basis name t Bogus = (¬ IsSettledBy basis name t) × (¬ MayBeSettledBy basis name t) × HasAnchor
    basis.anchors name
IsVerdictAt basis name t Indeterminate =
    (¬ IsSettledBy basis name t) × (¬ MayBeSettledBy basis name t) × (¬ HasAnchor basis.anchors name)
IsVerdictAt basis name t verdict = IsSettledAsBy basis name t verdict

-- the verdict is one of the first five, which need no more answers
abbrev pub IsSettledVerdict : Verdict → Type 0
IsSettledVerdict (Pending entries) = ⊥
IsSettledVerdict Bogus = ⊥
IsSettledVerdict Indeterminate = ⊥
IsSettledVerdict verdict = Unit {0}
