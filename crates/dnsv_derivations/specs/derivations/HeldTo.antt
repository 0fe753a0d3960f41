-- How far trust holds on the way to a name: what is derived at each ancestor of it, where nothing is proved of it.
use Rattle.std.specs.Prelude.{◌≡◌, ◌⊎◌, ◌+◌, ℕ, zero, suc, List, [], ◌∷◌, length}
use Rattle.dnsv_names.specs.Name.{Labels, rightmost}
use Rattle.dnsv_canonical.specs.Index.{numbers_at}
use Rattle.dnsv_derivations.specs.Explained.{Setting}
use Rattle.dnsv_derivations.specs.Saying.{AreBoth, AreEach}
use Rattle.dnsv_derivations.specs.derivations.Derivations.{IsDerivation, IsLowestSecured}
use Rattle.dnsv_derivations.specs.derivations.Derivations.Subject.{keys, signature}
use Rattle.dnsv_derivations.specs.derivations.Ways.{HasSecured, IsTrustedSet}
use Rattle.dnsv_lines.specs.declared.line.Line.{Line}

-- the lowest signature of RRset k that is good under a trusted key is derived, if it has one
pub data IsLowestDerived (setting : Setting) (k : ℕ) (before lines : List Line) : Type 0 where
  unsigned : ¬ HasSecured setting k → lines ≡ [] → IsLowestDerived setting k before lines
  signed : (s : ℕ) → IsLowestSecured setting k s
      → IsDerivation setting before (signature (record { rrset = k; signature = s })) lines
      → IsLowestDerived setting k before lines

-- the first of the DNSKEY RRsets with these numbers that is trusted is derived, if one is
abbrev pub IsFirstDerived : Setting → List ℕ → List Line → List Line → Type 0
IsFirstDerived setting [] before lines = lines ≡ []
IsFirstDerived setting (k ∷ rest) before lines =
    (IsTrustedSet setting k × IsDerivation setting before (keys k) lines)
    ⊎ ((¬ IsTrustedSet setting k) × IsFirstDerived setting rest before lines)

-- each DS RRset of the name, numbers rising, and then the first trusted DNSKEY RRset of it
abbrev pub IsHeldAt : Setting → Labels → List Line → List Line → Type 0
IsHeldAt setting name =
    AreBoth (AreEach (IsLowestDerived setting) (numbers_at setting.rrsets name 43))
    (IsFirstDerived setting (numbers_at setting.rrsets name 48))

-- for the ancestors of the name with fewer than so many labels, from the root down
abbrev pub IsHeldBelow : Setting → Labels → ℕ → List Line → List Line → Type 0
IsHeldBelow setting name zero before lines = lines ≡ []
IsHeldBelow setting name (suc count) before lines =
    AreBoth (IsHeldBelow setting name count) (IsHeldAt setting (rightmost name count)) before lines

-- for each ancestor of the name, the root first and the name itself last
abbrev pub IsHeldTo : Setting → Labels → List Line → List Line → Type 0
IsHeldTo setting name = IsHeldBelow setting name (length name + 1)
