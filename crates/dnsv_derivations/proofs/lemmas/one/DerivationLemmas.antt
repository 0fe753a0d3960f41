-- A derivation has one text.
use Rattle.std.proofs.Common.{◌≡◌, ◌∙◌, ◌+◌, ℕ, zero, suc, List, [], ◌∷◌, ◌++◌, inl, inr, length, refl, sym, ap, subst}
use Rattle.dnsv_names.specs.Name.{Labels, rightmost}
use Rattle.dnsv_canonical.specs.declared.number.RecordNumber.{RecordNumber}
use Rattle.dnsv_records.specs.declared.number.DigestType.{DigestType}
use Rattle.dnsv_canonical.specs.Index.{numbers_at}
use Rattle.dnsv_derivations.specs.Explained.{Setting}
use Rattle.dnsv_derivations.specs.Saying.{AreEach}
use Rattle.dnsv_derivations.specs.derivations.Derivations.{IsByAnchor, IsDerivation, IsLowestSecured, Subject}
use Rattle.dnsv_derivations.specs.derivations.Derivations.IsDerivation.{said_trusted, anchored, delegated, said_signed, signed}
use Rattle.dnsv_derivations.specs.derivations.Derivations.Subject.{keys, signature}
use Rattle.dnsv_derivations.specs.derivations.HeldTo.{IsFirstDerived, IsHeldAt, IsHeldBelow, IsHeldTo, IsLowestDerived}
use Rattle.dnsv_derivations.specs.derivations.HeldTo.IsLowestDerived.{unsigned as none_signed, signed as lowest_signed}
use Rattle.dnsv_derivations.specs.derivations.OwnDerivations.{AreRecordsDerived, IsOwnDerivation, IsSignatureTold}
use Rattle.dnsv_lines.specs.declared.line.Line.{Line}
use Rattle.dnsv_lines.specs.declared.line.Line.TheVariants as line
use Rattle.dnsv_canonical.specs.declared.number.SignatureNumber.{SignatureNumber}
use Rattle.dnsv_lines.specs.declared.line.derivation.SignedRrset.{SignedRrset}
use Rattle.dnsv_lines.specs.declared.line.derivation.TrustedKeys.{TrustedKeys}
use Rattle.dnsv_lines.specs.declared.line.derivation.Voucher.{Voucher}
use Rattle.dnsv_lines.specs.declared.line.derivation.Voucher.TheVariants as voucher
use Rattle.dnsv_derivations.proofs.lemmas.one.SignedLemmas.{one_lowest, one_own, one_signed}
use Rattle.dnsv_derivations.proofs.lemmas.one.StepLemmas.{IsOne, one_both, one_each}
use Rattle.dnsv_derivations.proofs.lemmas.one.TrustedLemmas.{AreApart, one_trusted}

-- what an anchor matches no DS record leads to
pub never_both : (a b : Voucher) (number : RecordNumber) (digest_type : DigestType) → a ≡ b → IsByAnchor a → b ≡ voucher.Ds number digest_type → ⊥
never_both a b number digest_type same anchor is = subst IsByAnchor (same ∙ is) anchor

abbrev pub number_of : ℕ → ℕ → SignatureNumber
number_of k s = record { rrset = k; signature = s }

module _ (setting : Setting) where
  -- two that a DS record leads to are led to by the same signature
  pub same_above : (m n : RecordNumber) (d e : DigestType) (s t : ℕ) (a b : Voucher) → a ≡ b → a ≡ voucher.Ds m d → b ≡ voucher.Ds n e
      → IsLowestSecured setting m.rrset s → IsLowestSecured setting n.rrset t → number_of m.rrset s ≡ number_of n.rrset t
  same_above m n d e s t a b same first second x y =
      let whole : voucher.Ds m d ≡ voucher.Ds n e = sym first ∙ same ∙ second in
      let number : m ≡ n = cc in
      let rrset : m.rrset ≡ n.rrset = ap (λ (each : RecordNumber). each.rrset) number in
      let Of : ℕ → Type 0 = λ k. IsLowestSecured setting k s in
      let lowest : s ≡ t = one_lowest setting n.rrset s t (subst Of rrset x) y in
      λ i. number_of (rrset i) (lowest i)

module _ (setting : Setting) (apart : AreApart setting.todo) (before : List Line) where
  vouchers : (k : ℕ) (a b : TrustedKeys) → a ≡ b → a.voucher ≡ b.voucher
  vouchers k a b same = ap (λ (each : TrustedKeys). each.voucher) same

  pub one_derivation : (subject : Subject) (a b : List Line) → IsDerivation setting before subject a → IsDerivation setting before subject b
      → a ≡ b
  one_derivation subject _ _ (said_trusted said) (said_trusted other) = refl
  one_derivation subject _ _ (said_trusted said) (anchored unsaid is anchor) = absurd (unsaid said)
  one_derivation subject _ _ (said_trusted said) (delegated unsaid is ds lowest above) = absurd (unsaid said)
  one_derivation subject _ _ (anchored unsaid is anchor) (said_trusted said) = absurd (unsaid said)
  one_derivation subject _ _ (anchored {k = k} {trusted = a} unsaid is anchor) (anchored {trusted = b} other its there) =
      ap (λ each. line.Trusted each ∷ []) (one_trusted setting k apart a b is its)
  one_derivation subject _ _ (anchored {k = k} {trusted = a} unsaid is anchor) (delegated {trusted = b} {number = n} {digest_type = d} other its ds lowest above) =
      absurd (never_both a.voucher b.voucher n d (vouchers k a b (one_trusted setting k apart a b is its)) anchor ds)
  one_derivation subject _ _ (delegated unsaid is ds lowest above) (said_trusted said) = absurd (unsaid said)
  one_derivation subject _ _ (delegated {k = k} {trusted = a} {number = n} {digest_type = d} unsaid is ds lowest above) (anchored {trusted = b} other its anchor) =
      absurd (never_both b.voucher a.voucher n d (vouchers k b a (one_trusted setting k apart b a its is)) anchor ds)
  one_derivation subject _ _ (delegated {k = k} {s = s} {trusted = a} {number = m} {digest_type = d} {lines = xs} unsaid is ds lowest above)
      (delegated {s = t} {trusted = b} {number = n} {digest_type = e} {lines = ys} other its there least behind) =
      let same : a ≡ b = one_trusted setting k apart a b is its in
      let number = same_above setting m n d e s t a.voucher b.voucher (vouchers k a b same) ds there lowest least in
      let Above : SignatureNumber → Type 0 = λ each. IsDerivation setting before (signature each) ys in
      let front : xs ≡ ys = one_derivation (signature (number_of m.rrset s)) xs ys above (subst Above (sym number) behind) in
      λ i. front i ++ line.Trusted (same i) ∷ []
  one_derivation subject _ _ (said_signed said) (said_signed other) = refl
  one_derivation subject _ _ (said_signed said) (signed unsaid is above) = absurd (unsaid said)
  one_derivation subject _ _ (signed unsaid is above) (said_signed said) = absurd (unsaid said)
  one_derivation subject _ _ (signed {number = number} {signed = a} {lines = xs} unsaid is above) (signed {signed = b} {lines = ys} other its behind) =
      let same : a ≡ b = one_signed setting apart number a b is its in
      let Above : SignedRrset → Type 0 = λ each. IsDerivation setting before (keys each.keys) ys in
      let front : xs ≡ ys = one_derivation (keys a.keys) xs ys above (subst Above (sym same) behind) in
      λ i. front i ++ line.Signed (same i) ∷ []

module _ (setting : Setting) (apart : AreApart setting.todo) where
  pub one_signature : (number : SignatureNumber) → IsOne (IsSignatureTold setting number)
  one_signature number before a b x y = one_derivation setting apart before (signature number) a b x y

  -- ---- a zone's own

  one_of : (zone : Labels) (k : ℕ) → IsOne (IsOwnDerivation setting zone k)
  one_of zone k before a b x y =
      let s : x.s ≡ y.s = one_own setting zone k x.s y.s x.lowest y.lowest in
      let Of : ℕ → Type 0 = λ each. IsDerivation setting before (signature (record { rrset = k; signature = each })) a in
      one_derivation setting apart before (signature (record { rrset = k; signature = y.s })) a b (subst Of s x.derivation) y.derivation

  pub one_records : (zone : Labels) (records : List RecordNumber) → IsOne (AreRecordsDerived setting zone records)
  one_records zone records =
      one_each (λ (number : RecordNumber). IsOwnDerivation setting zone number.rrset) (λ number. one_of zone number.rrset) records

  -- ---- how far trust holds

  one_lowest_derived : (k : ℕ) → IsOne (IsLowestDerived setting k)
  one_lowest_derived k before a b (none_signed none x) (none_signed other y) = x ∙ sym y
  one_lowest_derived k before a b (none_signed none x) (lowest_signed t least y) = absurd (none (t, least.secured))
  one_lowest_derived k before a b (lowest_signed s least x) (none_signed none y) = absurd (none (s, least.secured))
  one_lowest_derived k before a b (lowest_signed s first x) (lowest_signed t second y) =
      let same : s ≡ t = one_lowest setting k s t first second in
      let Of : ℕ → Type 0 = λ each. IsDerivation setting before (signature (record { rrset = k; signature = each })) a in
      one_derivation setting apart before (signature (record { rrset = k; signature = t })) a b (subst Of same x) y

  one_first_derived : (numbers : List ℕ) → IsOne (IsFirstDerived setting numbers)
  one_first_derived [] before a b x y = x ∙ sym y
  one_first_derived (k ∷ rest) before a b (inl x) (inl y) = one_derivation setting apart before (keys k) a b x.1 y.1
  one_first_derived (k ∷ rest) before a b (inl x) (inr y) = absurd (y.0 x.0)
  one_first_derived (k ∷ rest) before a b (inr x) (inl y) = absurd (x.0 y.0)
  one_first_derived (k ∷ rest) before a b (inr x) (inr y) = one_first_derived rest before a b x.1 y.1

  one_held_at : (name : Labels) → IsOne (IsHeldAt setting name)
  one_held_at name =
      one_both (AreEach (IsLowestDerived setting) (numbers_at setting.rrsets name 43)) (IsFirstDerived setting (numbers_at setting.rrsets name 48))
      (one_each (IsLowestDerived setting) one_lowest_derived (numbers_at setting.rrsets name 43))
      (one_first_derived (numbers_at setting.rrsets name 48))

  one_held_below : (name : Labels) (count : ℕ) → IsOne (IsHeldBelow setting name count)
  one_held_below name zero before a b x y = x ∙ sym y
  one_held_below name (suc count) before a b x y =
      one_both (IsHeldBelow setting name count) (IsHeldAt setting (rightmost name count)) (one_held_below name count) (one_held_at (rightmost name count))
      before a b x y

  pub one_held : (name : Labels) → IsOne (IsHeldTo setting name)
  one_held name = one_held_below name (length name + 1)
