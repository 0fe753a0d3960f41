-- Lines that are reasons and cost something, and mends that have such.
use Rattle.std.proofs.Common.{◌≡◌, ◌⊎◌, inl, inr, ⊎_elim, ◌++◌, ◌||◌, Bool, true, false, List, [], ◌∷◌, Option, Some, None, refl, sym, ap, ◌∙◌, arith}
use Rattle.std.proofs.lemmas.Bool.{false≢true}
use Rattle.std.proofs.lemmas.List.Folds.{list_any-append}
use Rattle.std.specs.List.{AllByRecursion, list_any}
use Rattle.dnsv_canonical.specs.declared.number.SignatureNumber.{SignatureNumber}
use Rattle.dnsv_lines.specs.declared.line.fault.signature.SignatureTimes.{SignatureTimes}
use Rattle.dnsv_lines.specs.declared.line.fault.signature.WhySignature.TheVariants as signature_why
use Rattle.dnsv_lines.specs.declared.line.fault.zone.EntryNumber.{EntryNumber}
use Rattle.dnsv_lines.specs.declared.line.fault.zone.EntryNumber.TheVariants as number
use Rattle.dnsv_lines.specs.declared.line.fault.zone.WhyEntry.{WhyEntry}
use Rattle.dnsv_lines.specs.declared.line.fault.zone.WhyEntry.TheVariants as entry_why
use Rattle.dnsv_mending.specs.Faults.{answer_lines, expired_lines, fault_lines, not_yet_lines, or_else, signature_lines, when}
use Rattle.dnsv_mending.specs.Mend.{Mended, both, cost_from, fault, following, telling}
use Rattle.dnsv_mending.specs.Price as price
use Rattle.dnsv_mending.specs.Price.{add, one}
use Rattle.dnsv_mending.specs.Reasons.{HasReason, is_reason}
use Rattle.dnsv_mending.specs.Told.{cost}
use Rattle.dnsv_mending.specs.declared.facts.signature.KeyAnswer.{KeyAnswer}
use Rattle.dnsv_mending.specs.declared.facts.signature.KeyAnswer.TheVariants as answer
use Rattle.dnsv_mending.specs.declared.facts.signature.SignatureFacts.{SignatureFacts}
use Rattle.dnsv_mending.specs.declared.facts.signature.SignatureFaults.{SignatureFaults}
use Rattle.dnsv_mending.specs.declared.price.Class.{Class}
use Rattle.dnsv_mending.specs.declared.price.Class.TheVariants as class
use Rattle.dnsv_mending.specs.declared.price.Price.{Price}
use Rattle.dnsv_mending.specs.declared.told.Told.{Told}
use Rattle.dnsv_mending.specs.declared.told.Told.TheVariants as told
use Rattle.dnsv_mending.proofs.Cheapest.{none_first, none_second}
use Rattle.dnsv_mending.proofs.AllWays.{all_append}

-- ---- prices and lines

pub one_dear : (c : Class) → one c ≡ price.none → ⊥
one_dear class.Missing h = omega (arith, ap (λ (p : Price). p.missing) h)
one_dear class.Stripped h = omega (arith, ap (λ (p : Price). p.stripped) h)
one_dear class.NotSigning h = omega (arith, ap (λ (p : Price). p.not_signing) h)
one_dear class.Unfit h = omega (arith, ap (λ (p : Price). p.unfit) h)
one_dear class.Lacking h = omega (arith, ap (λ (p : Price). p.lacking) h)
one_dear class.Time h = omega (arith, ap (λ (p : Price). p.time) h)
one_dear class.NotFitting h = omega (arith, ap (λ (p : Price). p.not_fitting) h)
one_dear class.Bad h = omega (arith, ap (λ (p : Price). p.bad) h)
one_dear class.Unanswered h = omega (arith, ap (λ (p : Price). p.unanswered) h)

-- a line that is a reason and costs something
pub record Dear (line : Told) : Type 0 where
  pub reason : is_reason line ≡ true
  pub costs : cost line ≡ price.none → ⊥

-- a mend that has a reason and costs something
pub record IsTold (m : Mended) : Type 0 where
  pub reason : HasReason m
  pub costs : m.price ≡ price.none → ⊥

pub cost_none : (lines : List Told) (p : Price) → cost_from p lines ≡ price.none → p ≡ price.none
cost_none [] p h = h
cost_none (line ∷ lines) p h = none_first p (cost line) (cost_none lines (add p (cost line)) h)

pub or_true : (a b : Bool) → a ≡ true → (a || b) ≡ true
or_true true b h = refl
or_true false b h = absurd (false≢true h)

pub or_true_second : (a b : Bool) → b ≡ true → (a || b) ≡ true
or_true_second true b h = refl
or_true_second false b h = h

pub any_first : (xs ys : List Told) → list_any is_reason xs ≡ true → list_any is_reason (xs ++ ys) ≡ true
any_first xs ys h = list_any-append is_reason xs ys ∙ or_true (list_any is_reason xs) (list_any is_reason ys) h

pub any_second : (xs ys : List Told) → list_any is_reason ys ≡ true → list_any is_reason (xs ++ ys) ≡ true
any_second xs ys h = list_any-append is_reason xs ys ∙ or_true_second (list_any is_reason xs) (list_any is_reason ys) h

pub told_above : (m n : Mended) → IsTold m → IsTold (following m n)
told_above m n t = record {
  reason = ⊎_elim
      (λ (h : list_any is_reason m.chain ≡ true). inl (any_first (m.chain ++ m.own) n.chain (any_first m.chain m.own h)))
      (λ (h : list_any is_reason m.own ≡ true). inl (any_first (m.chain ++ m.own) n.chain (any_second m.chain m.own h))) t.reason;
  costs = λ h. t.costs (none_first m.price n.price h);
}

pub told_below : (m n : Mended) → IsTold n → IsTold (following m n)
told_below m n t = record {
  reason = ⊎_elim
      (λ (h : list_any is_reason n.chain ≡ true). inl (any_second (m.chain ++ m.own) n.chain h))
      (λ (h : list_any is_reason n.own ≡ true). inr h) t.reason;
  costs = λ h. t.costs (none_second m.price n.price h);
}

pub told_first : (m n : Mended) → IsTold m → IsTold (both m n)
told_first m n t = record {
  reason = ⊎_elim
      (λ (h : list_any is_reason m.chain ≡ true). inl (any_first m.chain n.chain h))
      (λ (h : list_any is_reason m.own ≡ true). inr (any_first m.own n.own h)) t.reason;
  costs = λ h. t.costs (none_first m.price n.price h);
}

pub told_fault : (line : Told) → Dear line → IsTold (fault line)
told_fault line d = record { reason = inr (or_true (is_reason line) false d.reason); costs = d.costs }

pub told_telling : (line : Told) (lines : List Told) → Dear line → IsTold (telling (line ∷ lines))
told_telling line lines d = record {
  reason = inr (or_true (is_reason line) (list_any is_reason lines) d.reason);
  costs = λ h. d.costs (none_second price.none (cost line) (cost_none lines (add price.none (cost line)) h));
}

-- ---- the lines of a signature

pub dear_fault : (c : Class) (line : Told) → is_reason line ≡ true → cost line ≡ one c → Dear line
dear_fault c line is same = record { reason = is; costs = λ h. one_dear c (sym same ∙ h) }

pub dear_when : (b : Bool) (line : Told) → Dear line → AllByRecursion Dear (when b line)
dear_when true line d = (d, tt)
dear_when false line d = tt

pub dear_not_yet : (n : SignatureNumber) (times : Option SignatureTimes) → AllByRecursion Dear (not_yet_lines n times)
dear_not_yet n None = tt
dear_not_yet n (Some times) = (dear_fault class.Time (told.Signature (signature_why.NotYet times) n) refl refl, tt)

pub dear_expired : (n : SignatureNumber) (times : Option SignatureTimes) → AllByRecursion Dear (expired_lines n times)
dear_expired n None = tt
dear_expired n (Some times) = (dear_fault class.Time (told.Signature (signature_why.Expired times) n) refl refl, tt)

pub dear_faults : (n : SignatureNumber) (f : SignatureFaults) → AllByRecursion Dear (fault_lines n f)
dear_faults n f =
    let one_line : (b : Bool) (line : Told) → Dear line → AllByRecursion Dear (when b line) = dear_when in
    let a = when f.labels (told.Signature signature_why.Labels n) in
    let b = when f.signer (told.Signature signature_why.Signer n) in
    let c = when f.expanded (told.Signature signature_why.Expanded n) in
    let d = when f.algorithm (told.Signature signature_why.Algorithm n) in
    let e = not_yet_lines n f.not_yet in
    all_append Dear (a ++ b ++ c ++ d ++ e) (expired_lines n f.expired)
    (all_append Dear (a ++ b ++ c ++ d) e
    (all_append Dear (a ++ b ++ c) d
    (all_append Dear (a ++ b) c
    (all_append Dear a b
    (dear_when f.labels (told.Signature signature_why.Labels n) (dear_fault class.Unfit (told.Signature signature_why.Labels n) refl refl))
    (dear_when f.signer (told.Signature signature_why.Signer n) (dear_fault class.Unfit (told.Signature signature_why.Signer n) refl refl)))
    (dear_when f.expanded (told.Signature signature_why.Expanded n) (dear_fault class.Unfit (told.Signature signature_why.Expanded n) refl refl)))
    (dear_when f.algorithm (told.Signature signature_why.Algorithm n) (dear_fault class.Lacking (told.Signature signature_why.Algorithm n) refl refl)))
    (dear_not_yet n f.not_yet))
    (dear_expired n f.expired)

pub dear_signature : (s : SignatureFacts) → AllByRecursion Dear (signature_lines s)
dear_signature s =
    let a = when s.key_missing (told.Signature signature_why.KeyMissing s.number) in
    all_append Dear (fault_lines s.number s.faults ++ a) (when s.not_zone_key (told.Signature signature_why.NotZoneKey s.number))
    (all_append Dear (fault_lines s.number s.faults) a (dear_faults s.number s.faults)
    (dear_when s.key_missing (told.Signature signature_why.KeyMissing s.number) (dear_fault class.Lacking (told.Signature signature_why.KeyMissing s.number) refl refl)))
    (dear_when s.not_zone_key (told.Signature signature_why.NotZoneKey s.number) (dear_fault class.NotFitting (told.Signature signature_why.NotZoneKey s.number) refl refl))

pub dear_answer : (n : SignatureNumber) (a : KeyAnswer) → AllByRecursion Dear (answer_lines n a)
dear_answer n answer.Good = tt
dear_answer n answer.Bad = (dear_fault class.Bad (told.Signature signature_why.Bad n) refl refl, tt)
dear_answer n answer.Unanswered = (dear_fault class.Unanswered (told.Signature signature_why.Unanswered n) refl refl, tt)

-- lines that are there and dear, or there are none
pub told_lines : (lines others : List Told) → AllByRecursion Dear lines → (lines ≡ []) ⊎ IsTold (telling (or_else lines others))
told_lines [] others all = inl refl
told_lines (line ∷ lines) others all = inr (told_telling line lines all.0)

pub dear_else : (lines others : List Told) → AllByRecursion Dear lines → AllByRecursion Dear others → AllByRecursion Dear (or_else lines others)
dear_else [] others first second = second
dear_else (line ∷ lines) others first second = first

pub no_lines : (lines others : List Told) → or_else lines others ≡ [] → (lines ≡ []) × (others ≡ [])
no_lines [] others h = (refl, h)
no_lines (line ∷ lines) others h = cc

pub some_lines : (lines : List Told) → AllByRecursion Dear lines → (lines ≡ []) ⊎ IsTold (telling lines)
some_lines [] all = inl refl
some_lines (line ∷ lines) all = inr (told_telling line lines all.0)

pub entry_dear : (w : WhyEntry) (n : EntryNumber) → Dear (told.Entry w n)
entry_dear entry_why.Algorithm n = dear_fault class.Stripped (told.Entry entry_why.Algorithm n) refl refl
entry_dear entry_why.DigestType n = dear_fault class.Stripped (told.Entry entry_why.DigestType n) refl refl
entry_dear entry_why.DigestIgnored n = dear_fault class.Stripped (told.Entry entry_why.DigestIgnored n) refl refl
entry_dear w (number.Anchor a) = dear_fault class.Lacking (told.Entry w (number.Anchor a)) refl refl
entry_dear w (number.Ds r) = dear_fault class.NotFitting (told.Entry w (number.Ds r)) refl refl
