-- What is told behind a zone, or beside a signature, tells why a signer isn't trusted.
use Rattle.std.proofs.Common.{if◌then◌else◌, ◌≡◌, ◌⊎◌, inl, inr, ⊎_elim, ℕ, ◌++◌, ◌≤◌, ◌&&◌, Bool, true, false, not, List, [], ◌∷◌, Option, Some, None, map, flat_map, refl, sym, ap, ◌∙◌, subst, slice_get, nat_eq}
use Rattle.std.proofs.lemmas.Bool.{eqb-true, false≢true}
use Rattle.std.proofs.lemmas.Option.{same_Some}
use Rattle.std.specs.List.{AllByRecursion, list_any}
use Rattle.std.specs.Option.{option_map}
use Rattle.dnsv_canonical.specs.declared.number.SignatureNumber.{SignatureNumber}
use Rattle.dnsv_lines.specs.declared.line.fault.signature.WhySignature.TheVariants as signature
use Rattle.dnsv_mending.specs.Faults.{answer_lines, signature_lines}
use Rattle.dnsv_mending.specs.Level.{Leveled}
use Rattle.dnsv_mending.specs.Mend.{Mended, is_none}
use Rattle.dnsv_mending.specs.Mend as mending
use Rattle.dnsv_mending.specs.Reasons as trust
use Rattle.dnsv_mending.specs.Ways.{IsAmong}
use Rattle.dnsv_mending.specs.Within.{is_by, is_signer_trusted, mildest, own_lines, own_way, own_ways, unfounded, within_ways, zone_signature_ways}
use Rattle.dnsv_mending.specs.Zone.{is_zone_trusted, levels_of}
use Rattle.dnsv_mending.specs.declared.facts.signature.RrsetFacts.{RrsetFacts}
use Rattle.dnsv_mending.specs.declared.facts.signature.SignatureFacts.{SignatureFacts}
use Rattle.dnsv_mending.specs.declared.facts.zone.ZoneFacts.{ZoneFacts}
use Rattle.dnsv_mending.specs.declared.price.Class.TheVariants as class
use Rattle.dnsv_mending.specs.declared.told.Told.{Told}
use Rattle.dnsv_mending.specs.declared.told.Told.TheVariants as told
use Rattle.dnsv_mending.proofs.AllWays.{all_flat, all_if}
use Rattle.dnsv_mending.proofs.DearLines.{no_lines}
use Rattle.dnsv_mending.proofs.Reasons.{both_true, signer_first}
use Rattle.dnsv_remedies.specs.Reasons.{IsOf, IsTrusted}
use Rattle.dnsv_remedies.specs.Remedy.{Remedied, after, beside, both, following, whole}
use Rattle.dnsv_remedies.specs.declared.said.Said.{Said}
use Rattle.dnsv_remedies.specs.declared.said.Said.TheVariants as said
use Rattle.dnsv_remedies.proofs.Told.{all_after, all_beside}
use Rattle.dnsv_remedies.proofs.Within.{dear_own, trusted_at}
use Rattle.dnsv_true_reasons.proofs.untrusted.Ending.{Ends, IsReason, IsUntrusted, Reasoned, SignatureEnds, ZoneEnds, reasons_of}
use Rattle.dnsv_true_reasons.proofs.Members.{among_left, among_parts, among_right, mapped_among}
use Rattle.dnsv_true_reasons.proofs.telling.Says.{Says, all_among, says_both, says_fault, says_nothing, says_telling, says_untold}
use Rattle.dnsv_true_reasons.proofs.telling.SaysParts.{Tells, TrustOf}

-- ---- lines of a way

-- the line is one of it
abbrev pub In : Told → Remedied → Type 0
In t m = IsAmong (said.Trust t) m.chain ⊎ IsAmong (said.Trust t) m.own

unmapped : (t : Told) (xs : List Told) → IsAmong (said.Trust t) (map said.Trust xs) → IsAmong t xs
unmapped t [] among = absurd among
unmapped t (x ∷ xs) among = ⊎_elim
    (λ (e : said.Trust t ≡ said.Trust x). let same : t ≡ x = cc e in inl same)
    (λ (e : IsAmong (said.Trust t) (map said.Trust xs)). inr (unmapped t xs e)) among

-- none of the lines is that a signer isn't trusted
abbrev pub IsOther : Said → Type 0
IsOther line = (k : SignatureNumber) → line ≡ said.Trust (told.Follows k) → ⊥

pub trust_other : (t : Told) → trust.is_reason t ≡ true → IsOther (said.Trust t)
trust_other t is k e =
    let same : t ≡ told.Follows k = cc e in
    false≢true (sym (ap trust.is_reason same) ∙ is)

module _ (zones : List ZoneFacts) (SaidOf : ℕ → Told → Type 0) (By : SignatureNumber → ℕ → Type 0) where
  -- a reason is one of its lines, which is said of the zone with so many labels or of one above
  pub record Reason (n : ℕ) (m : Remedied) : Type 0 where
    pub c : ℕ
    pub within : c ≤ n
    pub t : Told
    pub there : In t m
    pub is : trust.is_reason t ≡ true
    pub said : SaidOf c t

  pub record Ending (k : SignatureNumber) (m : Remedied) : Type 0 where
    pub c : ℕ
    pub by : By k c
    pub untrusted : IsUntrusted zones c
    pub reason : Reason c m

  abbrev pub End : Remedied → Type 0
  End m = (k : SignatureNumber) → In (told.Follows k) m → Ending k m

  -- ---- ways

  reason_in : (n : ℕ) (m : Mended) (w : Remedied) → ((t : Told) → IsAmong t m.chain ⊎ IsAmong t m.own → In t w) → Reasoned SaidOf n m → Reason n w
  reason_in n m w to r = record { c = r.c; within = r.within; t = r.t; there = to r.t r.there; is = r.is; said = r.said }

  first_of_following : (m : Mended) (n : Remedied) (t : Told) → IsAmong t m.chain ⊎ IsAmong t m.own → In t (following (whole m) n)
  first_of_following m n t (inl h) =
      inl (among_left (said.Trust t) (map said.Trust m.chain ++ map said.Trust m.own) n.chain
      (among_left (said.Trust t) (map said.Trust m.chain) (map said.Trust m.own) (mapped_among said.Trust m.chain t h)))
  first_of_following m n t (inr h) =
      inl (among_left (said.Trust t) (map said.Trust m.chain ++ map said.Trust m.own) n.chain
      (among_right (said.Trust t) (map said.Trust m.chain) (map said.Trust m.own) (mapped_among said.Trust m.own t h)))

  first_of_both : (m : Mended) (n : Remedied) (t : Told) → IsAmong t m.chain ⊎ IsAmong t m.own → In t (both (whole m) n)
  first_of_both m n t (inl h) = inl (among_left (said.Trust t) (map said.Trust m.chain) n.chain (mapped_among said.Trust m.chain t h))
  first_of_both m n t (inr h) = inr (among_left (said.Trust t) (map said.Trust m.own) n.own (mapped_among said.Trust m.own t h))

  -- a line is one of M, or of N
  of_following : (m : Mended) (n : Remedied) (t : Told) → In t (following (whole m) n) → (IsAmong t m.chain ⊎ IsAmong t m.own) ⊎ In t n
  of_following m n t (inl there) = ⊎_elim
      (λ (h : IsAmong (said.Trust t) (map said.Trust m.chain ++ map said.Trust m.own)). ⊎_elim
      (λ (a : IsAmong (said.Trust t) (map said.Trust m.chain)). inl (inl (unmapped t m.chain a)))
      (λ (b : IsAmong (said.Trust t) (map said.Trust m.own)). inl (inr (unmapped t m.own b)))
      (among_parts (said.Trust t) (map said.Trust m.chain) (map said.Trust m.own) h))
      (λ (h : IsAmong (said.Trust t) n.chain). inr (inl h))
      (among_parts (said.Trust t) (map said.Trust m.chain ++ map said.Trust m.own) n.chain there)
  of_following m n t (inr there) = inr (inr there)

  of_both : (m : Mended) (n : Remedied) (t : Told) → In t (both (whole m) n) → (IsAmong t m.chain ⊎ IsAmong t m.own) ⊎ In t n
  of_both m n t (inl there) = ⊎_elim
      (λ (a : IsAmong (said.Trust t) (map said.Trust m.chain)). inl (inl (unmapped t m.chain a)))
      (λ (h : IsAmong (said.Trust t) n.chain). inr (inl h)) (among_parts (said.Trust t) (map said.Trust m.chain) n.chain there)
  of_both m n t (inr there) = ⊎_elim
      (λ (b : IsAmong (said.Trust t) (map said.Trust m.own)). inl (inr (unmapped t m.own b)))
      (λ (h : IsAmong (said.Trust t) n.own). inr (inr h)) (among_parts (said.Trust t) (map said.Trust m.own) n.own there)

  -- a signature of which only that is told is by the zone, which isn't trusted
  abbrev pub IsOwnBy : ℕ → Said → Type 0
  IsOwnBy z line = (k : SignatureNumber) → line ≡ said.Trust (told.Follows k) → By k z × IsUntrusted zones z

  own_line : (z : ℕ) (n : Remedied) → Tells (IsOwnBy z) n → (k : SignatureNumber) → In (told.Follows k) n → By k z × IsUntrusted zones z
  own_line z n tells k (inl h) = all_among (IsOwnBy z) n.chain (said.Trust (told.Follows k)) tells.chain h k refl
  own_line z n tells k (inr h) = all_among (IsOwnBy z) n.own (said.Trust (told.Follows k)) tells.own h k refl

  other_line : (n : Remedied) → Tells IsOther n → (k : SignatureNumber) → In (told.Follows k) n → ⊥
  other_line n tells k (inl h) = all_among IsOther n.chain (said.Trust (told.Follows k)) tells.chain h k refl
  other_line n tells k (inr h) = all_among IsOther n.own (said.Trust (told.Follows k)) tells.own h k refl

  kept_ending : (k : SignatureNumber) (m : Mended) (w : Remedied) → ((t : Told) → IsAmong t m.chain ⊎ IsAmong t m.own → In t w) → Ends zones SaidOf By m
      → IsAmong (told.Follows k) m.chain ⊎ IsAmong (told.Follows k) m.own → Ending k w
  kept_ending k m w to ends there =
      let e = ends k there in
      record { c = e.c; by = e.by; untrusted = e.untrusted; reason = reason_in e.c m w to e.reason }

  -- behind a zone: what a record of it lacks
  pub after_zone : (z : ℕ) (o : Option Mended) (n : Remedied) → ((m : Mended) → o ≡ Some m → ZoneEnds zones SaidOf By z m) → Tells (IsOwnBy z) n
      → AllByRecursion End (after o n)
  after_zone z o n leads tells = all_after End o n (λ m is k there.
      let lead = leads m is in
      let w = following (whole m) n in
      ⊎_elim
      (λ (h : IsAmong (told.Follows k) m.chain ⊎ IsAmong (told.Follows k) m.own). kept_ending k m w (first_of_following m n) lead.ends h)
      (λ (h : In (told.Follows k) n).
      let own = own_line z n tells k h in
      record { c = z; by = own.0; untrusted = own.1; reason = reason_in z m w (first_of_following m n) (lead.reason own.1) })
      (of_following m n (told.Follows k) there))

  pub after_other : (o : Option Mended) (n : Remedied) → ((m : Mended) → o ≡ Some m → Ends zones SaidOf By m) → Tells IsOther n → AllByRecursion End (after o n)
  after_other o n leads tells = all_after End o n (λ m is k there. ⊎_elim
      (λ (h : IsAmong (told.Follows k) m.chain ⊎ IsAmong (told.Follows k) m.own). kept_ending k m (following (whole m) n) (first_of_following m n) (leads m is) h)
      (λ (h : In (told.Follows k) n). absurd (other_line n tells k h)) (of_following m n (told.Follows k) there))

  -- beside a signature: what it asks for of its signer
  pub beside_signature : (s : SignatureFacts) (o : Option Mended) (n : Remedied) → ((m : Mended) → o ≡ Some m → SignatureEnds zones SaidOf By s m)
      → (s.is_signed ≡ true → IsTrusted zones s.signer) → (s.faults.signer ≡ true → Tells IsOther n) → Tells (IsOwnBy s.signer) n → AllByRecursion End (beside o n)
  beside_signature s o n leads sound other tells = all_beside End o n (λ m is k there.
      let lead = leads m is in
      let w = both (whole m) n in
      ⊎_elim
      (λ (h : IsAmong (told.Follows k) m.chain ⊎ IsAmong (told.Follows k) m.own). kept_ending k m w (first_of_both m n) lead.ends h)
      (λ (h : In (told.Follows k) n).
      let own = own_line s.signer n tells k h in
      ⊎_elim
      (λ (signed : s.is_signed ≡ true).
      let t = sound signed in
      let same : own.1.0 ≡ t.z = same_Some own.1.0 t.z (sym own.1.1 ∙ t.is) in
      absurd (false≢true (sym (subst (λ (z : ZoneFacts). is_zone_trusted z ≡ false) same own.1.2) ∙ t.trusted)))
      (λ (rest : (s.faults.signer ≡ true) ⊎ (IsUntrusted zones s.signer → Reasoned SaidOf s.signer m)). ⊎_elim
      (λ (off : s.faults.signer ≡ true). absurd (other_line n (other off) k h))
      (λ (led : IsUntrusted zones s.signer → Reasoned SaidOf s.signer m).
      record { c = s.signer; by = own.0; untrusted = own.1; reason = reason_in s.signer m w (first_of_both m n) (led own.1) }) rest) lead.led)
      (of_both m n (told.Follows k) there))

  -- ---- RRsets within a zone

  -- a signature by the zone is, or none may be by any
  pub record IsRrsetBy (z : ℕ) (r : RrsetFacts) : Type 0 where
    pub of : IsOf z r
    pub by : (s : SignatureFacts) → IsAmong s r.signatures.items → is_by z s ≡ true → By s.number z

  own_reason : (z : ℕ) (t : Told) → trust.is_reason t ≡ true → IsOwnBy z (said.Trust t)
  own_reason z t is k e = absurd (trust_other t is k e)

  all_reasons : (z : ℕ) (lines : List Told) → AllByRecursion IsReason lines → AllByRecursion (TrustOf (IsOwnBy z)) lines
  all_reasons z [] all = tt
  all_reasons z (t ∷ ts) all = (own_reason z t all.0, all_reasons z ts all.1)

  module _ (z : ℕ) (facts : ZoneFacts) (at : slice_get zones z ≡ Some facts) where
    trusted_by_level : (o : Option Leveled) (t : Bool) → (z_is : Option Bool) → z_is ≡ Some t → option_map (λ (l : Leveled). l.is_trusted) o ≡ z_is → is_signer_trusted o ≡ t
    trusted_by_level None t z_is is same = let none : None ≡ Some t = same ∙ is in absurd (cc none)
    trusted_by_level (Some level) t z_is is same = let both : Some level.is_trusted ≡ Some t = same ∙ is in cc both

    untrusted_by : is_signer_trusted (slice_get (levels_of true zones) z) ≡ false → IsUntrusted zones z
    untrusted_by off =
        let trust_is = trusted_by_level (slice_get (levels_of true zones) z) (is_zone_trusted facts) (option_map is_zone_trusted (slice_get zones z))
        (ap (option_map is_zone_trusted) at) (trusted_at zones z) in
        (facts, at, sym trust_is ∙ off)

    unfounded_by : (s : SignatureFacts) (t : Bool) → By s.number z → (t ≡ false → IsUntrusted zones z) → Says (TrustOf (IsOwnBy z)) (unfounded t s)
    unfounded_by s true by off = says_both (TrustOf (IsOwnBy z)) (mending.fault (told.Signature signature.KeyUntrusted s.number)) (mending.untold class.NotFitting)
        (says_fault (TrustOf (IsOwnBy z)) (told.Signature signature.KeyUntrusted s.number) (own_reason z (told.Signature signature.KeyUntrusted s.number) refl))
        (says_untold (TrustOf (IsOwnBy z)) class.NotFitting)
    unfounded_by s false by off = says_fault (TrustOf (IsOwnBy z)) (told.Follows s.number) (λ k e.
        let same : s.number ≡ k = cc e in
        (subst (λ (n : SignatureNumber). By n z) same by, off refl))

    own_case : (s : SignatureFacts) (t trusted : Bool) → By s.number z → (trusted ≡ false → IsUntrusted zones z)
        → Says (TrustOf (IsOwnBy z)) (if t then unfounded trusted s else mending.telling (own_lines s))
    own_case s true trusted by off = unfounded_by s trusted by off
    own_case s false trusted by off = says_telling (TrustOf (IsOwnBy z)) (own_lines s) (all_reasons z (own_lines s) (reasons_of (own_lines s) (dear_own s)))

    zone_way : (s : SignatureFacts) (t : Bool) → is_by z s ≡ t → (is_by z s ≡ true → By s.number z)
        → AllByRecursion (Says (TrustOf (IsOwnBy z))) (if t then own_way (levels_of true zones) s ∷ [] else [])
    zone_way s false e by = tt
    zone_way s true e by =
        let same : s.signer ≡ z = eqb-true s.signer z ((both_true (not s.faults.signer) (nat_eq s.signer z) e).1) in (
          own_case s (is_none (own_lines s)) (is_signer_trusted (slice_get (levels_of true zones) s.signer)) (by e)
              (λ off. untrusted_by (ap (λ (n : ℕ). is_signer_trusted (slice_get (levels_of true zones) n)) (sym same) ∙ off)),
          tt,
        )

    zone_each : (s : SignatureFacts) → (is_by z s ≡ true → By s.number z) → AllByRecursion (Says (TrustOf (IsOwnBy z))) (zone_signature_ways (levels_of true zones) z s)
    unfolding zone_signature_ways
    zone_each s by = zone_way s (is_by z s) refl by

    other_case : (s : SignatureFacts) (t : Bool) → is_none (own_lines s) ≡ t → s.faults.signer ≡ true
        → Says (TrustOf (IsOwnBy z)) (if t then unfounded (is_signer_trusted (slice_get (levels_of true zones) s.signer)) s else mending.telling (own_lines s))
    other_case s true e off = absurd (signer_first s off ((no_lines (signature_lines s) (answer_lines s.number (mildest s)) (empty (own_lines s) e)).0))
      where
        empty : (lines : List Told) → is_none lines ≡ true → lines ≡ []
        empty [] h = refl
        empty (x ∷ xs) h = absurd (false≢true h)
    other_case s false e off = says_telling (TrustOf (IsOwnBy z)) (own_lines s) (all_reasons z (own_lines s) (reasons_of (own_lines s) (dear_own s)))

    other_each : (s : SignatureFacts) → s.faults.signer ≡ true → AllByRecursion (Says (TrustOf (IsOwnBy z))) (own_ways (levels_of true zones) s)
    unfolding own_ways
    other_each s off = (other_case s (is_none (own_lines s)) refl off, tt)

    -- an RRset of the zone
    pub fits_by : (r : RrsetFacts) → IsRrsetBy z r → AllByRecursion (Says (TrustOf (IsOwnBy z))) (within_ways (levels_of true zones) z r)
    fits_by r its =
        let S = Says (TrustOf (IsOwnBy z)) in
        let levels = levels_of true zones in
        let signatures = r.signatures.items in
        all_if S (list_any (λ (s : SignatureFacts). is_by z s && s.is_signed) signatures) (mending.nothing ∷ []) _
        (λ e. (says_nothing (TrustOf (IsOwnBy z)), tt))
        (λ e. all_if S (is_none signatures) (mending.fault (told.Unsigned r.number) ∷ []) _
        (λ none. (says_fault (TrustOf (IsOwnBy z)) (told.Unsigned r.number) (own_reason z (told.Unsigned r.number) refl), tt))
        (λ some. all_if S (list_any (is_by z) signatures) (flat_map (zone_signature_ways levels z) signatures) (flat_map (own_ways levels) signatures)
        (λ is. all_flat S (zone_signature_ways levels z) signatures (λ s among. zone_each s (its.by s among)))
        (λ none. ⊎_elim
        (λ (is : list_any (is_by z) signatures ≡ true). absurd (false≢true (sym none ∙ is)))
        (λ (each : (s : SignatureFacts) → IsAmong s signatures → s.faults.signer ≡ true). all_flat S (own_ways levels) signatures (λ s among. other_each s (each s among)))
        its.of)))
