-- A derivation says no line twice.
use Rattle.std.proofs.Common.{◌≡◌, ◌≤◌, ◌+◌, ◌++◌, ◌∙◌, ℕ, List, [], ◌∷◌, length, refl, sym, ap, subst, ⊎_elim, arith}
use Rattle.std.proofs.lemmas.List.{length_push}
use Rattle.std.proofs.lemmas.List.Elements.{Contains-append_cases}
use Rattle.std.specs.List.{Contains}
use Rattle.dnsv_derivations.specs.Explained.{Setting}
use Rattle.dnsv_derivations.specs.Following.{IsSaidTrusted, IsSignatureSaid}
use Rattle.dnsv_derivations.specs.derivations.Derivations.{IsDerivation, Subject}
use Rattle.dnsv_derivations.specs.derivations.Derivations.IsDerivation.{said_trusted, anchored, delegated, said_signed, signed}
use Rattle.dnsv_derivations.specs.derivations.Derivations.Subject.{keys, signature}
use Rattle.dnsv_derivations.specs.derivations.Ways.{IsSignedLine, IsTrustedLine, Way}
use Rattle.dnsv_lines.specs.declared.line.Line.{Line}
use Rattle.dnsv_lines.specs.declared.line.Line.TheVariants as line
use Rattle.dnsv_canonical.specs.declared.number.SignatureNumber.{SignatureNumber}
use Rattle.dnsv_lines.specs.declared.line.derivation.SignedRrset.{SignedRrset}
use Rattle.dnsv_lines.specs.declared.line.derivation.TrustedKeys.{TrustedKeys}
use Rattle.dnsv_explain_laws.proofs.holding.MemberLemmas.{first_or_rest, none_in}
use Rattle.dnsv_derivations.proofs.lemmas.one.DerivationLemmas.{never_both, number_of, same_above}
use Rattle.dnsv_derivations.proofs.lemmas.one.SignedLemmas.{one_keys}
use Rattle.dnsv_derivations.proofs.lemmas.one.TrustedLemmas.{one_way}
use Rattle.dnsv_explain_laws.proofs.lemmas.whole.FreshLemmas.{IsFresh, append_fresh, kind, none_fresh, one_fresh}

-- it is derived or shown
abbrev pub IsBasic : ℕ → Type 0
IsBasic n = n ≡ 0

-- the line says that the subject is trusted or good
abbrev Says : Subject → Line → Type 0
Says (keys k) (line.Trusted told) = told.signature.rrset ≡ k
Says (signature number) (line.Signed told) = told.signature ≡ number
Says subject this = ⊥

module _ (setting : Setting) (before : List Line) where
  -- ---- derivations of one subject have one length

  vouchers : (k : ℕ) (a b : TrustedKeys) → IsTrustedLine setting k a → IsTrustedLine setting k b → a.voucher ≡ b.voucher
  vouchers k a b x y =
      let way : x.way ≡ y.way = one_way setting k x.way y.way x.first y.first in
      x.voucher ∙ ap (λ (each : Way). each.voucher) way ∙ sym y.voucher

  one_length : (subject : Subject) (a b : List Line) → IsDerivation setting before subject a → IsDerivation setting before subject b
      → length a ≡ length b
  one_length subject _ _ (said_trusted said) (said_trusted other) = refl
  one_length subject _ _ (said_trusted said) (anchored unsaid is anchor) = absurd (unsaid said)
  one_length subject _ _ (said_trusted said) (delegated unsaid is ds lowest above) = absurd (unsaid said)
  one_length subject _ _ (anchored unsaid is anchor) (said_trusted said) = absurd (unsaid said)
  one_length subject _ _ (anchored unsaid is anchor) (anchored other its there) = refl
  one_length subject _ _ (anchored {k = k} {trusted = a} unsaid is anchor) (delegated {trusted = b} {number = n} {digest_type = d} other its ds lowest above) =
      absurd (never_both a.voucher b.voucher n d (vouchers k a b is its) anchor ds)
  one_length subject _ _ (delegated unsaid is ds lowest above) (said_trusted said) = absurd (unsaid said)
  one_length subject _ _ (delegated {k = k} {trusted = a} {number = n} {digest_type = d} unsaid is ds lowest above) (anchored {trusted = b} other its anchor) =
      absurd (never_both b.voucher a.voucher n d (vouchers k b a its is) anchor ds)
  one_length subject _ _ (delegated {k = k} {s = s} {trusted = a} {number = m} {digest_type = d} {lines = xs} unsaid is ds lowest above)
      (delegated {s = t} {trusted = b} {number = n} {digest_type = e} {lines = ys} other its there least behind) =
      let number = same_above setting m n d e s t a.voucher b.voucher (vouchers k a b is its) ds there lowest least in
      let Above : SignatureNumber → Type 0 = λ each. IsDerivation setting before (signature each) ys in
      let front : length xs ≡ length ys = one_length (signature (number_of m.rrset s)) xs ys above (subst Above (sym number) behind) in
      length_push xs (line.Trusted a) ∙ ap (λ n. n + 1) front ∙ sym (length_push ys (line.Trusted b))
  one_length subject _ _ (said_signed said) (said_signed other) = refl
  one_length subject _ _ (said_signed said) (signed unsaid is above) = absurd (unsaid said)
  one_length subject _ _ (signed unsaid is above) (said_signed said) = absurd (unsaid said)
  one_length subject _ _ (signed {number = number} {signed = a} {lines = xs} unsaid is above) (signed {signed = b} {lines = ys} other its behind) =
      let same : a.keys ≡ b.keys = one_keys setting number a b is its in
      let Above : ℕ → Type 0 = λ k. IsDerivation setting before (keys k) ys in
      let front : length xs ≡ length ys = one_length (keys a.keys) xs ys above (subst Above (sym same) behind) in
      length_push xs (line.Signed a) ∙ ap (λ n. n + 1) front ∙ sym (length_push ys (line.Signed b))

  -- ---- each line of a derivation ends one that is no longer

  record Ends (this : Line) (n : ℕ) : Type 0 where
    pub subject : Subject
    pub lines : List Line
    pub derivation : IsDerivation setting before subject lines
    pub short : length lines ≤ n
    pub says : Says subject this

  longer : (this : Line) (m n : ℕ) → m ≤ n → Ends this m → Ends this n
  longer this m n within ends =
      let short = ends.short in
      let found : Ends this n =
      record { subject = ends.subject; lines = ends.lines; derivation = ends.derivation; short = omega (arith, short, within); says = ends.says } in
      found

  module _ (subject : Subject) (xs : List Line) (last : Line) (whole : IsDerivation setting before subject (xs ++ last ∷ []))
      (says : Says subject last) (each_before : (this : Line) → Contains xs this → Ends this (length xs)) where
    ends_push : (this : Line) → Contains (xs ++ last ∷ []) this → Ends this (length (xs ++ last ∷ []))
    ends_push this there =
        let size = length_push xs last in
        ⊎_elim
        (λ (early : Contains xs this). longer this (length xs) (length (xs ++ last ∷ [])) (omega (arith, size)) (each_before this early))
        (λ (late : Contains (last ∷ []) this). ⊎_elim
        (λ (same : this ≡ last).
        let Say : Line → Type 0 = λ one. Says subject one in
        let found : Ends this (length (xs ++ last ∷ [])) = record {
          subject = subject;
          lines = xs ++ last ∷ [];
          derivation = whole;
          short = omega arith;
          says = subst Say (sym same) says;
        } in found)
        (λ (none : Contains [] this). absurd (none_in [] this refl none))
        (first_or_rest last [] this late))
        (Contains-append_cases xs (last ∷ []) this there)

    -- so the last isn't one of those before
    same_length : (other : Subject) (lines : List Line) → IsDerivation setting before other lines → other ≡ subject
        → length lines ≡ length (xs ++ last ∷ [])
    same_length other lines derivation same =
        let Of : Subject → Type 0 = λ each. IsDerivation setting before each lines in
        one_length subject lines (xs ++ last ∷ []) (subst Of same derivation) whole

    last_new : ((other : Subject) → Says other last → other ≡ subject) → ¬ Contains xs last
    last_new only there =
        let ends = each_before last there in
        let size = length_push xs last in
        let same = same_length ends.subject ends.lines ends.derivation (only ends.subject ends.says) in
        let short = ends.short in
        omega (arith, size, same, short)

  -- what says that keys are trusted, or that a signature is good, says it of one subject
  only_keys : (k : ℕ) (told : TrustedKeys) → told.signature.rrset ≡ k → (other : Subject) → Says other (line.Trusted told) → other ≡ keys k
  only_keys k told is (keys j) says = ap (λ n. keys n) (sym says ∙ is)
  only_keys k told is (signature number) says = absurd says

  only_signature : (number : SignatureNumber) (told : SignedRrset) → told.signature ≡ number → (other : Subject)
      → Says other (line.Signed told) → other ≡ signature number
  only_signature number told is (keys j) says = absurd says
  only_signature number told is (signature n) says = ap (λ each. signature each) (sym says ∙ is)

  its_rrset : (k : ℕ) (told : TrustedKeys) → IsTrustedLine setting k told → told.signature.rrset ≡ k
  its_rrset k told is = ap (λ (number : SignatureNumber). number.rrset) is.signature

  each_ends : (subject : Subject) (lines : List Line) → IsDerivation setting before subject lines → (this : Line) → Contains lines this
      → Ends this (length lines)
  each_ends subject _ (said_trusted said) this there = absurd (none_in [] this refl there)
  each_ends subject _ (said_signed said) this there = absurd (none_in [] this refl there)
  each_ends subject _ (anchored {k = k} {trusted = told} unsaid is anchor) this there =
      ends_push (keys k) [] (line.Trusted told) (anchored unsaid is anchor) (its_rrset k told is)
      (λ other none. absurd (none_in [] other refl none)) this there
  each_ends subject _ (delegated {k = k} {s = s} {trusted = told} {number = number} {lines = xs} unsaid is ds lowest above) this there =
      ends_push (keys k) xs (line.Trusted told) (delegated unsaid is ds lowest above) (its_rrset k told is)
      (each_ends (signature (number_of number.rrset s)) xs above) this there
  each_ends subject _ (signed {number = number} {signed = told} {lines = xs} unsaid is above) this there =
      ends_push (signature number) xs (line.Signed told) (signed unsaid is above) is.signature (each_ends (keys told.keys) xs above) this there

  -- ---- no line twice

  unsaid_keys : (k : ℕ) (told : TrustedKeys) → IsTrustedLine setting k told → ¬ IsSaidTrusted before k → ¬ Contains before (line.Trusted told)
  unsaid_keys k told is unsaid there = unsaid (record { keys = told; among = there; rrset = its_rrset k told is })

  unsaid_signature : (number : SignatureNumber) (told : SignedRrset) → IsSignedLine setting number told → ¬ IsSignatureSaid before number
      → ¬ Contains before (line.Signed told)
  unsaid_signature number told is unsaid there = unsaid (record { signed = told; among = there; is = is.signature })

  push_fresh : (xs : List Line) (last : Line) → IsFresh IsBasic before xs → ¬ Contains xs last → ¬ Contains before last → IsBasic (kind last)
      → IsFresh IsBasic before (xs ++ last ∷ [])
  push_fresh xs last fresh new unsaid basic =
      append_fresh IsBasic before xs (last ∷ []) fresh
      (one_fresh IsBasic (before ++ xs) (last ∷ []) last refl
      (λ there. ⊎_elim unsaid new (Contains-append_cases before xs last there)) basic)

  pub derivation_fresh : (subject : Subject) (lines : List Line) → IsDerivation setting before subject lines → IsFresh IsBasic before lines
  derivation_fresh subject _ (said_trusted said) = none_fresh IsBasic before [] refl
  derivation_fresh subject _ (said_signed said) = none_fresh IsBasic before [] refl
  derivation_fresh subject _ (anchored {k = k} {trusted = told} unsaid is anchor) =
      one_fresh IsBasic before (line.Trusted told ∷ []) (line.Trusted told) refl (unsaid_keys k told is unsaid) refl
  derivation_fresh subject _ (delegated {k = k} {s = s} {trusted = told} {number = number} {lines = xs} unsaid is ds lowest above) =
      push_fresh xs (line.Trusted told) (derivation_fresh (signature (number_of number.rrset s)) xs above)
      (last_new (keys k) xs (line.Trusted told) (delegated unsaid is ds lowest above) (its_rrset k told is)
      (each_ends (signature (number_of number.rrset s)) xs above) (only_keys k told (its_rrset k told is)))
      (unsaid_keys k told is unsaid) refl
  derivation_fresh subject _ (signed {number = number} {signed = told} {lines = xs} unsaid is above) =
      push_fresh xs (line.Signed told) (derivation_fresh (keys told.keys) xs above)
      (last_new (signature number) xs (line.Signed told) (signed unsaid is above) is.signature (each_ends (keys told.keys) xs above)
      (only_signature number told is.signature))
      (unsaid_signature number told is unsaid) refl
