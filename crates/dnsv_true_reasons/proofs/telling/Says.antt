-- What holds of each line that may be told of zones, RRsets and signatures holds of each that is kept of a way.
use Rattle.std.proofs.Common.{◌≡◌, ◌⊎◌, inl, inr, ⊎_elim, ℕ, zero, suc, ◌+◌, ◌++◌, Bool, true, false, not, List, [], ◌∷◌, Option, Some, None, map, refl, sym, subst, slice_get}
use Rattle.std.proofs.lemmas.Option.{same_Some}
use Rattle.std.specs.List.{AllByRecursion}
use Rattle.dnsv_canonical.specs.declared.number.SignatureNumber.{SignatureNumber}
use Rattle.dnsv_lines.specs.declared.line.fault.signature.SignatureTimes.{SignatureTimes}
use Rattle.dnsv_lines.specs.declared.line.fault.signature.WhySignature.{WhySignature}
use Rattle.dnsv_lines.specs.declared.line.fault.signature.WhySignature.TheVariants as why
use Rattle.dnsv_mending.specs.Faults.{answer_lines, consequence, expired_lines, fault_lines, lines_under, not_yet_lines, or_else, self_lines, signature_lines, unnamed_lines, when}
use Rattle.dnsv_mending.specs.Mend.{Mended, after, both, fault, following, joined, nothing, telling, untold, with_fault}
use Rattle.dnsv_mending.specs.Ways.{IsAmong}
use Rattle.dnsv_mending.specs.declared.facts.keys.HeldKey.{HeldKey}
use Rattle.dnsv_mending.specs.declared.facts.keys.SelfSignature.{SelfSignature}
use Rattle.dnsv_mending.specs.declared.facts.signature.KeyAnswer.{KeyAnswer}
use Rattle.dnsv_mending.specs.declared.facts.signature.KeyAnswer.TheVariants as answer
use Rattle.dnsv_mending.specs.declared.facts.signature.NamedKey.{NamedKey}
use Rattle.dnsv_mending.specs.declared.facts.signature.RrsetFacts.{RrsetFacts}
use Rattle.dnsv_mending.specs.declared.facts.signature.SignatureFacts.{SignatureFacts}
use Rattle.dnsv_mending.specs.declared.facts.signature.SignatureFaults.{SignatureFaults}
use Rattle.dnsv_mending.specs.declared.price.Class.{Class}
use Rattle.dnsv_mending.specs.declared.told.Told.{Told}
use Rattle.dnsv_mending.specs.declared.told.Told.TheVariants as told
use Rattle.dnsv_mending.proofs.AllWays.{all_after, all_append, all_joined, none_some}

-- ---- lists

pub all_at : {X : Type 0} (P : X → Type 0) (xs : List X) (i : ℕ) (x : X) → AllByRecursion P xs → slice_get xs i ≡ Some x → P x
all_at P [] i x all h = absurd (none_some x h)
all_at P (y ∷ ys) zero x all h = subst P (same_Some y x h) all.0
all_at P (y ∷ ys) (suc i) x all h = all_at P ys i x all.1 h

pub all_among : {X : Type 0} (P : X → Type 0) (xs : List X) (x : X) → AllByRecursion P xs → IsAmong x xs → P x
all_among P [] x all among = absurd among
all_among P (y ∷ ys) x all among =
    ⊎_elim (λ (e : x ≡ y). subst P (sym e) all.0) (λ (e : IsAmong x ys). all_among P ys x all.1 e) among

pub all_of_map : {X Y : Type 0} (P : Y → Type 0) (f : X → Y) (xs : List X) → ((x : X) → IsAmong x xs → P (f x)) → AllByRecursion P (map f xs)
all_of_map P f [] each = tt
all_of_map P f (x ∷ xs) each = (each x (inl refl), all_of_map P f xs (λ y among. each y (inr among)))

-- ---- what may be told

-- of a signature
pub record SaysSignature (P : Told → Type 0) (n : SignatureNumber) : Type 0 where
  pub faults : (w : WhySignature) → P (told.Signature w n)
  pub follows : P (told.Follows n)

-- of an RRset
pub record SaysRrset (P : Told → Type 0) (r : RrsetFacts) : Type 0 where
  pub unsigned : P (told.Unsigned r.number)
  pub signatures : (s : SignatureFacts) → IsAmong s r.signatures.items → SaysSignature P s.number

-- so it is of all lines of a way
pub record Says (P : Told → Type 0) (m : Mended) : Type 0 where
  pub chain : AllByRecursion P m.chain
  pub own : AllByRecursion P m.own

-- of a way that may not be there
abbrev pub SaysIf : (Told → Type 0) → Option Mended → Type 0
SaysIf P o = (m : Mended) → o ≡ Some m → Says P m

module _ (P : Told → Type 0) where
  -- ---- ways

  pub says_nothing : Says P nothing
  says_nothing = record { chain = tt; own = tt }

  pub says_kept : SaysIf P (Some nothing)
  says_kept m is = subst (Says P) (same_Some nothing m is) says_nothing

  pub says_untold : (c : Class) → Says P (untold c)
  says_untold c = record { chain = tt; own = tt }

  pub says_fault : (t : Told) → P t → Says P (fault t)
  says_fault t h = record { chain = tt; own = (h, tt) }

  pub says_telling : (lines : List Told) → AllByRecursion P lines → Says P (telling lines)
  says_telling lines h = record { chain = tt; own = h }

  pub says_both : (m n : Mended) → Says P m → Says P n → Says P (both m n)
  says_both m n a b = record { chain = all_append P m.chain n.chain a.chain b.chain; own = all_append P m.own n.own a.own b.own }

  pub says_following : (m n : Mended) → Says P m → Says P n → Says P (following m n)
  says_following m n a b = record {
    chain = all_append P (m.chain ++ m.own) n.chain (all_append P m.chain m.own a.chain a.own) b.chain;
    own = b.own;
  }

  pub says_with : (o : Option Told) (n : Mended) → ((t : Told) → o ≡ Some t → P t) → Says P n → Says P (with_fault o n)
  says_with None n h b = b
  says_with (Some t) n h b = says_both (fault t) n (says_fault t (h t refl)) b

  pub says_after : (o : Option Mended) (n : Mended) → SaysIf P o → Says P n → AllByRecursion (Says P) (after o n)
  says_after o n a b = all_after (Says P) o n (λ m is. says_following m n (a m is) b)

  pub says_joined : (a : Option Mended) (t : Option Told) (b : Option Mended) → SaysIf P a → ((line : Told) → t ≡ Some line → P line) → SaysIf P b
      → AllByRecursion (Says P) (joined a t b)
  says_joined a t b first line second = all_joined (Says P) a t b (λ m n ea eb. says_following m (with_fault t n) (first m ea) (says_with t n line (second n eb)))

  -- ---- the lines of a signature

  all_when : (t : Bool) (line : Told) → P line → AllByRecursion P (when t line)
  all_when true line h = (h, tt)
  all_when false line h = tt

  all_not_yet : (n : SignatureNumber) (t : Option SignatureTimes) → SaysSignature P n → AllByRecursion P (not_yet_lines n t)
  all_not_yet n None s = tt
  all_not_yet n (Some times) s = (s.faults (why.NotYet times), tt)

  all_expired : (n : SignatureNumber) (t : Option SignatureTimes) → SaysSignature P n → AllByRecursion P (expired_lines n t)
  all_expired n None s = tt
  all_expired n (Some times) s = (s.faults (why.Expired times), tt)

  all_faults : (n : SignatureNumber) (f : SignatureFaults) → SaysSignature P n → AllByRecursion P (fault_lines n f)
  all_faults n f s =
      all_append P _ (expired_lines n f.expired)
      (all_append P _ (not_yet_lines n f.not_yet)
      (all_append P _ (when f.algorithm _)
      (all_append P _ (when f.expanded _)
      (all_append P (when f.labels _) (when f.signer _)
      (all_when f.labels (told.Signature why.Labels n) (s.faults why.Labels))
      (all_when f.signer (told.Signature why.Signer n) (s.faults why.Signer)))
      (all_when f.expanded (told.Signature why.Expanded n) (s.faults why.Expanded)))
      (all_when f.algorithm (told.Signature why.Algorithm n) (s.faults why.Algorithm)))
      (all_not_yet n f.not_yet s))
      (all_expired n f.expired s)

  pub all_answers : (n : SignatureNumber) (a : KeyAnswer) → SaysSignature P n → AllByRecursion P (answer_lines n a)
  all_answers n answer.Good s = tt
  all_answers n answer.Bad s = (s.faults why.Bad, tt)
  all_answers n answer.Unanswered s = (s.faults why.Unanswered, tt)

  pub all_wrong : (s : SignatureFacts) → SaysSignature P s.number → AllByRecursion P (signature_lines s)
  all_wrong s says =
      all_append P _ (when s.not_zone_key _)
      (all_append P (fault_lines s.number s.faults) (when s.key_missing _) (all_faults s.number s.faults says)
      (all_when s.key_missing (told.Signature why.KeyMissing s.number) (says.faults why.KeyMissing)))
      (all_when s.not_zone_key (told.Signature why.NotZoneKey s.number) (says.faults why.NotZoneKey))

  pub all_else : (xs ys : List Told) → AllByRecursion P xs → AllByRecursion P ys → AllByRecursion P (or_else xs ys)
  all_else [] ys a b = b
  all_else (x ∷ xs) ys a b = a

  pub all_unnamed : (s : SignatureFacts) → SaysSignature P s.number → AllByRecursion P (unnamed_lines s)
  all_unnamed s says = all_else (signature_lines s) (told.Follows s.number ∷ []) (all_wrong s says) (says.follows, tt)

  all_consequence : (t : Bool) (n : SignatureNumber) → SaysSignature P n → P (consequence t n)
  all_consequence true n s = s.faults why.KeyUntrusted
  all_consequence false n s = s.follows

  pub all_under : (t : Bool) (s : SignatureFacts) (k : NamedKey) → SaysSignature P s.number → AllByRecursion P (lines_under t s k)
  all_under t s k says = all_else (or_else (signature_lines s) (answer_lines s.number k.answer)) (consequence t s.number ∷ [])
      (all_else (signature_lines s) (answer_lines s.number k.answer) (all_wrong s says) (all_answers s.number k.answer says))
      (all_consequence t s.number says, tt)

  pub all_self : (k : HeldKey) (s : SelfSignature) → SaysSignature P s.number → AllByRecursion P (self_lines k s)
  all_self k s says = all_else (fault_lines s.number s.faults ++ when (not k.is_zone_key) _) (answer_lines s.number s.answer)
      (all_append P (fault_lines s.number s.faults) (when (not k.is_zone_key) _) (all_faults s.number s.faults says)
      (all_when (not k.is_zone_key) (told.Signature why.NotZoneKey s.number) (says.faults why.NotZoneKey)))
      (all_answers s.number s.answer says)
