-- Lines of derivations, and of how far trust holds, say nothing of the question.
use Rattle.std.proofs.Common.{◌+◌, ℕ, zero, suc, List, [], ◌∷◌, ◌++◌, inl, inr, length, refl}
use Rattle.dnsv_names.specs.Name.{Labels, rightmost}
use Rattle.dnsv_canonical.specs.Index.{numbers_at}
use Rattle.dnsv_canonical.specs.declared.number.RecordNumber.{RecordNumber}
use Rattle.dnsv_canonical.specs.declared.number.SignatureNumber.{SignatureNumber}
use Rattle.dnsv_derivations.specs.Explained.{Setting}
use Rattle.dnsv_derivations.specs.Saying.{AreEach}
use Rattle.dnsv_derivations.specs.derivations.Derivations.{IsDerivation, Subject}
use Rattle.dnsv_derivations.specs.derivations.Derivations.IsDerivation.{said_trusted, anchored, delegated, said_signed, signed}
use Rattle.dnsv_derivations.specs.derivations.Derivations.Subject.{keys, signature}
use Rattle.dnsv_derivations.specs.derivations.HeldTo.{IsFirstDerived, IsHeldAt, IsHeldBelow, IsHeldTo, IsLowestDerived}
use Rattle.dnsv_derivations.specs.derivations.HeldTo.IsLowestDerived.{unsigned as none_signed, signed as lowest_signed}
use Rattle.dnsv_derivations.specs.derivations.OwnDerivations.{AreRecordsDerived, IsOwnDerivation, IsSignatureTold}
use Rattle.dnsv_lines.specs.declared.line.Line.{Line}
use Rattle.dnsv_lines.specs.declared.line.Line.TheVariants as line
use Rattle.dnsv_explain_laws.proofs.holding.EachLemmas.{Each, both_each, none_each, one_each}
use Rattle.dnsv_rules.specs.Checked.{Asked, IsSoFor}

module _ (setting : Setting) (asked : Asked) (all : List Line) where
  abbrev So : Line → Type 0
  So each = IsSoFor setting.rrsets asked all each

  -- a step for each, of which no line says anything of the question
  each_alone : {X : Type 0} (Says : X → List Line → List Line → Type 0) → ((x : X) (old new : List Line) → Says x old new → Each So new)
      → (xs : List X) (before lines : List Line) → AreEach Says xs before lines → Each So lines
  each_alone Says one [] before lines told = none_each So lines told
  each_alone Says one (x ∷ xs) before lines told =
      both_each So told.first told.second lines told.parts (one x before told.first told.says_first)
      (each_alone Says one xs (before ++ told.first) told.second told.says_second)

  pub derivation_so : (before : List Line) (subject : Subject) (lines : List Line) → IsDerivation setting before subject lines → Each So lines
  derivation_so before subject _ (said_trusted said) = none_each So [] refl
  derivation_so before subject _ (said_signed said) = none_each So [] refl
  derivation_so before subject _ (anchored {k = k} {trusted = trusted} unsaid is anchor) =
      one_each So (line.Trusted trusted) (line.Trusted trusted ∷ []) refl tt
  derivation_so before subject _ (delegated {k = k} {s = s} {trusted = trusted} {number = number} {lines = above} unsaid is ds lowest derivation) =
      both_each So above (line.Trusted trusted ∷ []) (above ++ line.Trusted trusted ∷ []) refl
      (derivation_so before (signature (record { rrset = number.rrset; signature = s })) above derivation)
      (one_each So (line.Trusted trusted) (line.Trusted trusted ∷ []) refl tt)
  derivation_so before subject _ (signed {number = number} {signed = this} {lines = above} unsaid is derivation) =
      both_each So above (line.Signed this ∷ []) (above ++ line.Signed this ∷ []) refl (derivation_so before (keys this.keys) above derivation)
      (one_each So (line.Signed this) (line.Signed this ∷ []) refl tt)

  pub signature_so : (number : SignatureNumber) (before lines : List Line) → IsSignatureTold setting number before lines → Each So lines
  signature_so number before lines told = derivation_so before (signature number) lines told

  pub records_so : (zone : Labels) (records : List RecordNumber) (before lines : List Line) → AreRecordsDerived setting zone records before lines
      → Each So lines
  records_so zone records before lines told =
      each_alone (λ (number : RecordNumber). IsOwnDerivation setting zone number.rrset)
      (λ number old new own. derivation_so old (signature (record { rrset = number.rrset; signature = own.s })) new own.derivation)
      records before lines told

  -- ---- how far trust holds

  lowest_so : (k : ℕ) (before lines : List Line) → IsLowestDerived setting k before lines → Each So lines
  lowest_so k before lines (none_signed never none) = none_each So lines none
  lowest_so k before lines (lowest_signed s lowest told) = derivation_so before (signature (record { rrset = k; signature = s })) lines told

  first_so : (numbers : List ℕ) (before lines : List Line) → IsFirstDerived setting numbers before lines → Each So lines
  first_so [] before lines none = none_each So lines none
  first_so (k ∷ rest) before lines (inl told) = derivation_so before (keys k) lines told.1
  first_so (k ∷ rest) before lines (inr later) = first_so rest before lines later.1

  held_at_so : (name : Labels) (before lines : List Line) → IsHeldAt setting name before lines → Each So lines
  held_at_so name before lines told =
      both_each So told.first told.second lines told.parts
      (each_alone (IsLowestDerived setting) lowest_so (numbers_at setting.rrsets name 43) before told.first told.says_first)
      (first_so (numbers_at setting.rrsets name 48) (before ++ told.first) told.second told.says_second)

  held_below_so : (name : Labels) (count : ℕ) (before lines : List Line) → IsHeldBelow setting name count before lines → Each So lines
  held_below_so name zero before lines none = none_each So lines none
  held_below_so name (suc count) before lines told =
      both_each So told.first told.second lines told.parts (held_below_so name count before told.first told.says_first)
      (held_at_so (rightmost name count) (before ++ told.first) told.second told.says_second)

  pub held_so : (name : Labels) (before lines : List Line) → IsHeldTo setting name before lines → Each So lines
  held_so name before lines told = held_below_so name (length name + 1) before lines told
