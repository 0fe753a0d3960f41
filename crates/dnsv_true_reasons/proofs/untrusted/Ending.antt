-- What follows only from an untrusted signer has a reason beside it, said of the signer or of a zone above.
use Rattle.std.proofs.Common.{◌≡◌, ◌⊎◌, inl, inr, ⊎_elim, ℕ, ◌++◌, ◌≤◌, Bool, true, false, List, [], ◌∷◌, Option, Some, None, refl, sym, subst, slice_get, arith}
use Rattle.std.proofs.lemmas.Bool.{false≢true}
use Rattle.std.specs.List.{AllByRecursion}
use Rattle.dnsv_canonical.specs.declared.number.SignatureNumber.{SignatureNumber}
use Rattle.dnsv_lines.specs.declared.line.fault.signature.WhySignature.TheVariants as why
use Rattle.dnsv_mending.specs.Faults.{answer_lines, consequence, lines_under, or_else, signature_lines, unnamed_lines}
use Rattle.dnsv_mending.specs.Mend.{Mended, both, fault, following, nothing, telling, with_fault}
use Rattle.dnsv_mending.specs.Reasons.{is_reason}
use Rattle.dnsv_mending.specs.Ways.{IsAmong}
use Rattle.dnsv_mending.specs.Zone.{is_zone_trusted}
use Rattle.dnsv_mending.specs.declared.facts.signature.NamedKey.{NamedKey}
use Rattle.dnsv_mending.specs.declared.facts.signature.SignatureFacts.{SignatureFacts}
use Rattle.dnsv_mending.specs.declared.facts.zone.ZoneFacts.{ZoneFacts}
use Rattle.dnsv_mending.specs.declared.told.Told.{Told}
use Rattle.dnsv_mending.specs.declared.told.Told.TheVariants as told
use Rattle.dnsv_mending.proofs.DearLines.{Dear, dear_answer, dear_else, dear_signature, no_lines}
use Rattle.dnsv_mending.proofs.Reasons.{signer_first}
use Rattle.dnsv_true_reasons.proofs.Members.{among_left, among_parts, among_right}
use Rattle.dnsv_true_reasons.proofs.telling.Says.{SaysSignature, all_among, all_answers, all_else, all_wrong}

-- ---- lines of a way

-- the line is one of it
abbrev pub In : Told → Mended → Type 0
In t m = IsAmong t m.chain ⊎ IsAmong t m.own

pub in_following : (t : Told) (m n : Mended) → In t (following m n) → In t m ⊎ In t n
in_following t m n (inl there) = ⊎_elim
    (λ (h : IsAmong t (m.chain ++ m.own)). inl (among_parts t m.chain m.own h))
    (λ (h : IsAmong t n.chain). inr (inl h)) (among_parts t (m.chain ++ m.own) n.chain there)
in_following t m n (inr there) = inr (inr there)

pub in_first : (t : Told) (m n : Mended) → In t m → In t (following m n)
in_first t m n (inl h) = inl (among_left t (m.chain ++ m.own) n.chain (among_left t m.chain m.own h))
in_first t m n (inr h) = inl (among_left t (m.chain ++ m.own) n.chain (among_right t m.chain m.own h))

pub in_second : (t : Told) (m n : Mended) → In t n → In t (following m n)
in_second t m n (inl h) = inl (among_right t (m.chain ++ m.own) n.chain h)
in_second t m n (inr h) = inr h

pub in_both : (t : Told) (m n : Mended) → In t (both m n) → In t m ⊎ In t n
in_both t m n (inl there) = ⊎_elim (λ (h : IsAmong t m.chain). inl (inl h)) (λ (h : IsAmong t n.chain). inr (inl h)) (among_parts t m.chain n.chain there)
in_both t m n (inr there) = ⊎_elim (λ (h : IsAmong t m.own). inl (inr h)) (λ (h : IsAmong t n.own). inr (inr h)) (among_parts t m.own n.own there)

pub in_left : (t : Told) (m n : Mended) → In t m → In t (both m n)
in_left t m n (inl h) = inl (among_left t m.chain n.chain h)
in_left t m n (inr h) = inr (among_left t m.own n.own h)

pub in_right : (t : Told) (m n : Mended) → In t n → In t (both m n)
in_right t m n (inl h) = inl (among_right t m.chain n.chain h)
in_right t m n (inr h) = inr (among_right t m.own n.own h)

-- ---- reasons

-- a reason is one of its lines, which is said of the zone with so many labels or of one above: `Said c t` says that the line t is
-- said of the zone with c labels
pub record Reasoned (Said : ℕ → Told → Type 0) (n : ℕ) (m : Mended) : Type 0 where
  pub c : ℕ
  pub within : c ≤ n
  pub t : Told
  pub there : In t m
  pub is : is_reason t ≡ true
  pub said : Said c t

-- the zone with so many labels isn't trusted
abbrev pub IsUntrusted : List ZoneFacts → ℕ → Type 0
IsUntrusted zones c = (z : ZoneFacts) × (slice_get zones c ≡ Some z) × (is_zone_trusted z ≡ false)

-- the signature is by an untrusted zone, and a reason of that is one of the lines: `By k c` says that signature k is by the zone with
-- c labels
pub record Ending (zones : List ZoneFacts) (Said : ℕ → Told → Type 0) (By : SignatureNumber → ℕ → Type 0) (k : SignatureNumber) (m : Mended)
    : Type 0 where
  pub c : ℕ
  pub by : By k c
  pub untrusted : IsUntrusted zones c
  pub reason : Reasoned Said c m

-- so it is of each signature of which only that is told
abbrev pub Ends : List ZoneFacts → (ℕ → Told → Type 0) → (SignatureNumber → ℕ → Type 0) → Mended → Type 0
Ends zones Said By m = (k : SignatureNumber) → In (told.Follows k) m → Ending zones Said By k m

-- what leads into a zone, or to a key of it
pub record ZoneEnds (zones : List ZoneFacts) (Said : ℕ → Told → Type 0) (By : SignatureNumber → ℕ → Type 0) (n : ℕ) (m : Mended) : Type 0 where
  pub ends : Ends zones Said By m
  pub reason : IsUntrusted zones n → Reasoned Said n m

abbrev pub IsReason : Told → Type 0
IsReason t = is_reason t ≡ true

-- where it is a reason, it is said of the zone
abbrev pub SaidIf : (ℕ → Told → Type 0) → ℕ → Told → Type 0
SaidIf Said n t = is_reason t ≡ true → Said n t

pub no_follows : (k : SignatureNumber) (lines : List Told) → AllByRecursion IsReason lines → IsAmong (told.Follows k) lines → ⊥
no_follows k lines all among = false≢true (all_among IsReason lines (told.Follows k) all among)

pub reasons_of : (lines : List Told) → AllByRecursion Dear lines → AllByRecursion IsReason lines
reasons_of [] all = tt
reasons_of (x ∷ xs) all = (all.0.reason, reasons_of xs all.1)

pub off_if : (b : Bool) → (b ≡ true → ⊥) → b ≡ false
off_if true never = absurd (never refl)
off_if false never = refl

module _ (zones : List ZoneFacts) (Said : ℕ → Told → Type 0) (By : SignatureNumber → ℕ → Type 0) where
  -- ---- ways

  pub reasoned_in : (n : ℕ) (m w : Mended) → ((t : Told) → In t m → In t w) → Reasoned Said n m → Reasoned Said n w
  reasoned_in n m w to r = record { c = r.c; within = r.within; t = r.t; there = to r.t r.there; is = r.is; said = r.said }

  pub reasoned_up : (c n : ℕ) (m : Mended) → c ≤ n → Reasoned Said c m → Reasoned Said n m
  reasoned_up c n m up r =
      let low = r.within in
      record { c = r.c; within = omega (arith, low, up); t = r.t; there = r.there; is = r.is; said = r.said }

  ending_in : (k : SignatureNumber) (m w : Mended) → ((t : Told) → In t m → In t w) → Ending zones Said By k m → Ending zones Said By k w
  ending_in k m w to e = record { c = e.c; by = e.by; untrusted = e.untrusted; reason = reasoned_in e.c m w to e.reason }

  pub ends_nothing : Ends zones Said By nothing
  ends_nothing k (inl there) = absurd there
  ends_nothing k (inr there) = absurd there

  pub ends_reasons : (lines : List Told) → AllByRecursion IsReason lines → Ends zones Said By (telling lines)
  ends_reasons lines all k (inl there) = absurd there
  ends_reasons lines all k (inr there) = absurd (no_follows k lines all there)

  pub ends_fault : (t : Told) → is_reason t ≡ true → Ends zones Said By (fault t)
  ends_fault t is k (inl there) = absurd there
  ends_fault t is k (inr there) = absurd (no_follows k (t ∷ []) (is, tt) there)

  pub ends_following : (m n : Mended) → Ends zones Said By m → Ends zones Said By n → Ends zones Said By (following m n)
  ends_following m n a b k there = ⊎_elim
      (λ (h : In (told.Follows k) m). ending_in k m (following m n) (λ t. in_first t m n) (a k h))
      (λ (h : In (told.Follows k) n). ending_in k n (following m n) (λ t. in_second t m n) (b k h)) (in_following (told.Follows k) m n there)

  pub ends_both : (m n : Mended) → Ends zones Said By m → Ends zones Said By n → Ends zones Said By (both m n)
  ends_both m n a b k there = ⊎_elim
      (λ (h : In (told.Follows k) m). ending_in k m (both m n) (λ t. in_left t m n) (a k h))
      (λ (h : In (told.Follows k) n). ending_in k n (both m n) (λ t. in_right t m n) (b k h)) (in_both (told.Follows k) m n there)

  pub ends_with : (o : Option Told) (m : Mended) → ((t : Told) → o ≡ Some t → is_reason t ≡ true) → Ends zones Said By m → Ends zones Said By (with_fault o m)
  ends_with None m is b = b
  ends_with (Some t) m is b = ends_both (fault t) m (ends_fault t (is t refl)) b

  -- the first line of some is a reason of the zone
  pub first_reason : (n : ℕ) (x : Told) (lines : List Told) → AllByRecursion IsReason (x ∷ lines) → AllByRecursion (SaidIf Said n) (x ∷ lines)
      → (m : Mended) → (In x (telling (x ∷ lines)) → In x m) → Reasoned Said n m
  first_reason n x lines reasons said m to = record { c = n; within = omega arith; t = x; there = to (inr (inl refl)); is = reasons.0; said = said.0 reasons.0 }

  -- ---- signatures

  -- what leads to a signature
  pub record SignatureEnds (s : SignatureFacts) (m : Mended) : Type 0 where
    pub ends : Ends zones Said By m
    -- it is good, or its signer isn't a zone that it may be by, or that this one isn't trusted has a reason
    pub led : (s.is_signed ≡ true) ⊎ ((s.faults.signer ≡ true) ⊎ (IsUntrusted zones s.signer → Reasoned Said s.signer m))
    -- it is good, or a reason is said of a zone that it leads to
    pub told : (n : ℕ) → (s.faults.signer ≡ false → s.signer ≤ n) → SaysSignature (SaidIf Said n) s.number → (s.is_signed ≡ true) ⊎ Reasoned Said n m

  module _ (s : SignatureFacts) (its : s.faults.signer ≡ false → By s.number s.signer) where
    -- nothing is wrong with it: the signer may be its zone
    may_be : signature_lines s ≡ [] → s.faults.signer ≡ false
    may_be none = off_if s.faults.signer (λ on. signer_first s on none)

    -- only that it follows is told, behind what leads to its signer
    module _ (way own : Mended) (z : ZoneFacts) (at : slice_get zones s.signer ≡ Some z) (leads : ZoneEnds zones Said By s.signer way) where
      follows_case : (from : (t : Told) → In t own → IsAmong t (told.Follows s.number ∷ [])) → signature_lines s ≡ [] → is_zone_trusted z ≡ false
          → SignatureEnds s (following way own)
      follows_case from none off =
          let untrusted : IsUntrusted zones s.signer = (z, at, off) in
          let reason = reasoned_in s.signer way (following way own) (λ t. in_first t way own) (leads.reason untrusted) in
          record {
            ends = λ k there. ⊎_elim
                (λ (h : In (told.Follows k) way). ending_in k way (following way own) (λ t. in_first t way own) (leads.ends k h))
                (λ (h : In (told.Follows k) own). ⊎_elim
                (λ (same : told.Follows k ≡ told.Follows s.number).
                let number : k ≡ s.number = cc same in
                record { c = s.signer; by = subst (λ (n : SignatureNumber). By n s.signer) (sym number) (its (may_be none)); untrusted = untrusted; reason = reason })
                (λ (empty : ⊥). absurd empty) (from (told.Follows k) h))
                (in_following (told.Follows k) way own there);
            led = inr (inr (λ u. reason));
            told = λ n up says. inr (reasoned_up s.signer n (following way own) (up (may_be none)) reason);
          }

      -- reasons are told of it
      reasons_case : (x : Told) (lines : List Told) → ((t : Told) → In t own → IsAmong t (x ∷ lines)) → ((t : Told) → IsAmong t (x ∷ lines) → In t own)
          → AllByRecursion IsReason (x ∷ lines) → ((n : ℕ) → SaysSignature (SaidIf Said n) s.number → AllByRecursion (SaidIf Said n) (x ∷ lines))
          → SignatureEnds s (following way own)
      reasons_case x lines from to reasons said = record {
        ends = λ k there. ⊎_elim
            (λ (h : In (told.Follows k) way). ending_in k way (following way own) (λ t. in_first t way own) (leads.ends k h))
            (λ (h : In (told.Follows k) own). absurd (no_follows k (x ∷ lines) reasons (from (told.Follows k) h)))
            (in_following (told.Follows k) way own there);
        led = inr (inr (λ u. reasoned_in s.signer way (following way own) (λ t. in_first t way own) (leads.reason u)));
        told = λ n up says. inr (first_reason n x lines reasons (said n says) (following way own) (λ h. in_second x way own (to x (inl refl))));
      }

    in_telling : (lines : List Told) (t : Told) → In t (telling lines) → IsAmong t lines
    in_telling lines t (inl there) = absurd there
    in_telling lines t (inr there) = there

    -- where it names no zone key
    unnamed_case : (lines : List Told) → signature_lines s ≡ lines → (way : Mended) (z : ZoneFacts) → slice_get zones s.signer ≡ Some z
        → ZoneEnds zones Said By s.signer way → (signature_lines s ≡ [] → is_zone_trusted z ≡ false)
        → SignatureEnds s (following way (telling (or_else lines (told.Follows s.number ∷ []))))
    unnamed_case [] is way z at leads off =
        follows_case way (telling (told.Follows s.number ∷ [])) z at leads (in_telling (told.Follows s.number ∷ [])) is (off is)
    unnamed_case (x ∷ xs) is way z at leads off =
        reasons_case way (telling (x ∷ xs)) z at leads x xs (in_telling (x ∷ xs)) (λ t among. inr among)
        (subst (λ (ls : List Told). AllByRecursion IsReason ls) is (reasons_of (signature_lines s) (dear_signature s)))
        (λ n says. subst (λ (ls : List Told). AllByRecursion (SaidIf Said n) ls) is (all_wrong (SaidIf Said n) s says))

    pub unnamed_ends : (way : Mended) (z : ZoneFacts) → slice_get zones s.signer ≡ Some z → ZoneEnds zones Said By s.signer way
        → (signature_lines s ≡ [] → is_zone_trusted z ≡ false) → SignatureEnds s (following way (telling (unnamed_lines s)))
    unnamed_ends way z at leads off = unnamed_case (signature_lines s) refl way z at leads off

    -- under a key that it names
    consequence_case : (t : Bool) (way own : Mended) (z : ZoneFacts) → slice_get zones s.signer ≡ Some z → ZoneEnds zones Said By s.signer way
        → ((line : Told) → In line own → IsAmong line (consequence t s.number ∷ [])) → ((line : Told) → IsAmong line (consequence t s.number ∷ []) → In line own)
        → t ≡ is_zone_trusted z → signature_lines s ≡ [] → SignatureEnds s (following way own)
    consequence_case true way own z at leads from to is none =
        reasons_case way own z at leads (told.Signature why.KeyUntrusted s.number) [] from to (refl, tt) (λ n says. (says.faults why.KeyUntrusted, tt))
    consequence_case false way own z at leads from to is none = follows_case way own z at leads from none (sym is)

    under_case : (t : Bool) (k : NamedKey) (lines : List Told) → or_else (signature_lines s) (answer_lines s.number k.answer) ≡ lines
        → (way own : Mended) (z : ZoneFacts) → slice_get zones s.signer ≡ Some z → ZoneEnds zones Said By s.signer way
        → ((line : Told) → In line own → IsAmong line (or_else lines (consequence t s.number ∷ [])))
        → ((line : Told) → IsAmong line (or_else lines (consequence t s.number ∷ [])) → In line own) → t ≡ is_zone_trusted z
        → SignatureEnds s (following way own)
    under_case t k [] is way own z at leads from to same =
        consequence_case t way own z at leads from to same ((no_lines (signature_lines s) (answer_lines s.number k.answer) is).0)
    under_case t k (x ∷ xs) is way own z at leads from to same =
        reasons_case way own z at leads x xs from to
        (subst (λ (ls : List Told). AllByRecursion IsReason ls) is (reasons_of (or_else (signature_lines s) (answer_lines s.number k.answer))
        (dear_else (signature_lines s) (answer_lines s.number k.answer) (dear_signature s) (dear_answer s.number k.answer))))
        (λ n says. subst (λ (ls : List Told). AllByRecursion (SaidIf Said n) ls) is
        (all_else (SaidIf Said n) (signature_lines s) (answer_lines s.number k.answer) (all_wrong (SaidIf Said n) s says) (all_answers (SaidIf Said n) s.number k.answer says)))

    pub under_ends : (t : Bool) (k : NamedKey) (way own : Mended) (z : ZoneFacts) → slice_get zones s.signer ≡ Some z → ZoneEnds zones Said By s.signer way
        → ((line : Told) → In line own → IsAmong line (lines_under t s k)) → ((line : Told) → IsAmong line (lines_under t s k) → In line own)
        → t ≡ is_zone_trusted z → SignatureEnds s (following way own)
    under_ends t k way own z at leads from to same =
        under_case t k (or_else (signature_lines s) (answer_lines s.number k.answer)) refl way own z at leads from to same
