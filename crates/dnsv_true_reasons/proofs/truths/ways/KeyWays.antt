-- What is told on the ways on which a DNSKEY RRset is trusted.
use Rattle.std.proofs.Common.{◌≡◌, inl, inr, ◌+◌, ◌++◌, ◌&&◌, ℕ, Bool, true, false, not, if◌then◌else◌, List, [], ◌∷◌, Option, Some, map, flat_map, refl, sym, subst}
use Rattle.std.specs.List.{AllByRecursion}
use Rattle.dnsv_lines.specs.declared.line.fault.signature.WhySignature.TheVariants as signature_why
use Rattle.dnsv_lines.specs.declared.line.fault.zone.WhyEntry.{WhyEntry}
use Rattle.dnsv_mending.specs.Faults.{answer_lines, fault_lines, self_lines, when}
use Rattle.dnsv_mending.specs.Keys.{Signing, fits, fitting_way, group_ways, is_missing_by, is_served, self_way, self_ways, signing, signings, unsigned_way, voucher_fault, voucher_ways}
use Rattle.dnsv_mending.specs.Mend.{Mended, fault, is_none, joined, with_fault}
use Rattle.dnsv_mending.specs.Ways.{IsAmong}
use Rattle.dnsv_mending.specs.Zone.{ds_ways, mend_at}
use Rattle.dnsv_mending.specs.declared.facts.keys.DnskeyFacts.{DnskeyFacts}
use Rattle.dnsv_mending.specs.declared.facts.keys.HeldKey.{HeldKey}
use Rattle.dnsv_mending.specs.declared.facts.keys.SelfSignature.{SelfSignature}
use Rattle.dnsv_mending.specs.declared.facts.keys.VoucherFacts.{VoucherFacts}
use Rattle.dnsv_mending.specs.declared.facts.zone.DsFacts.{DsFacts}
use Rattle.dnsv_mending.specs.declared.told.Told.{Told}
use Rattle.dnsv_mending.specs.declared.told.Told.TheVariants as told
use Rattle.dnsv_mending.proofs.AllWays.{all_append, all_flat, all_if, all_joined, mapped_some}
use Rattle.dnsv_true_reasons.proofs.truths.ways.MendLines.{Kept, Lines, all_or_else, all_when, of_fault, of_following, of_least, of_telling, of_with_fault}
use Rattle.dnsv_true_reasons.proofs.truths.ways.Told.{IsOfKey}
use Rattle.dnsv_true_reasons.proofs.truths.ways.Told.IsOfKey.{not_self_signed, self_answered, self_no_zone_key, self_wrong, unsigned_set}
use Rattle.dnsv_true_reasons.proofs.Told.{all_from}
use Rattle.dnsv_true_reasons.proofs.truths.ways.PartWays.{off_by_not}

-- ---- that a key signs its RRset

pub empty_left : (xs ys : List Told) → xs ++ ys ≡ [] → xs ≡ []
empty_left [] ys none = refl
empty_left (x ∷ xs) ys none = absurd (cc none)

pub empty_right : (xs ys : List Told) → xs ++ ys ≡ [] → ys ≡ []
empty_right [] ys none = none
empty_right (x ∷ xs) ys none = absurd (cc none)

on_by_none : (b : Bool) (t : Told) → when (not b) t ≡ [] → b ≡ true
on_by_none true t none = refl
on_by_none false t none = absurd (cc none)

module _ (P : Told → Type 0) (r : DnskeyFacts) (k : HeldKey) (each : (t : Told) → IsOfKey r k t → P t) where
  unsigned_case : (t : Bool) → r.has_signatures ≡ t → is_none k.signatures.items ≡ true
      → Lines P (if t then fault (told.NotSelfSigned k.number) else fault (told.Unsigned r.number))
  unsigned_case true has none = of_fault P (told.NotSelfSigned k.number) (each _ (not_self_signed none has))
  unsigned_case false has none = of_fault P (told.Unsigned r.number) (each _ (unsigned_set has))

  self_all : (s : SelfSignature) → IsAmong s k.signatures.items → AllByRecursion P (self_lines k s)
  self_all s among =
      let no_zone_key = told.Signature signature_why.NotZoneKey s.number in
      let wrong = fault_lines s.number s.faults in
      let other = when (not k.is_zone_key) no_zone_key in
      all_or_else P (wrong ++ other) (answer_lines s.number s.answer)
      (all_append P wrong other (all_from P wrong (λ t there. each t (self_wrong s t among there)))
      (all_when P (not k.is_zone_key) no_zone_key (λ e. each _ (self_no_zone_key s among (off_by_not k.is_zone_key e)))))
      (λ none. all_from P (answer_lines s.number s.answer) (λ t there. each t
      (self_answered s t among (empty_left wrong other none) (on_by_none k.is_zone_key no_zone_key (empty_right wrong other none)) there)))

  self_each : AllByRecursion (Lines P) (self_ways r k)
  unfolding self_way
  self_each =
      all_if (Lines P) (is_none k.signatures.items) (unsigned_way r k ∷ []) (flat_map (self_way k) k.signatures.items)
      (λ none. (unsigned_case r.has_signatures refl none, tt))
      (λ some. all_flat (Lines P) (self_way k) k.signatures.items (λ s among. (of_telling P (self_lines k s) (self_all s among), tt)))

  pub signing_kept : Kept P (signing r k).mend
  unfolding signing
  signing_kept = of_least P (self_ways r k) self_each

pub among_mapped : {X Y : Type 0} (f : X → Y) (xs : List X) (y : Y) → IsAmong y (map f xs) → (x : X) × IsAmong x xs × (y ≡ f x)
among_mapped f [] y among = absurd among
among_mapped f (x ∷ xs) y (inl same) = (x, inl refl, same)
among_mapped f (x ∷ xs) y (inr later) = let rest = among_mapped f xs y later in (rest.0, inr rest.1, rest.2)

-- each key signs its RRset
abbrev pub AreKept : (Told → Type 0) → List Signing → Type 0
AreKept P keys = (k : Signing) → IsAmong k keys → Kept P k.mend

pub signings_kept : (P : Told → Type 0) (r : DnskeyFacts) → ((k : HeldKey) (t : Told) → IsAmong k r.keys.items → IsOfKey r k t → P t)
    → AreKept P (signings r)
signings_kept P r each k among =
    let from = among_mapped (signing r) r.keys.items k among in
    subst (λ (s : Signing). Kept P s.mend) (sym from.2) (signing_kept P r from.0 (λ t of. each from.0 t from.1 of))

-- ---- by what vouches for it

module _ (P : Told → Type 0) (keys : List Signing) (signs : AreKept P keys) where
  entry_told : (v : VoucherFacts) → ((w : WhyEntry) → v.why ≡ Some w → P (told.Entry w v.number)) → (t : Told) → voucher_fault v ≡ Some t
      → P t
  entry_told v each t is =
      let from = mapped_some (λ (w : WhyEntry). told.Entry w v.number) v.why t is in
      subst P from.same (each from.from from.is)

  fitting_each : (chain : Option Mended) → Kept P chain → (v : VoucherFacts) → ((w : WhyEntry) → v.why ≡ Some w → P (told.Entry w v.number))
      → (k : Signing) → IsAmong k keys → AllByRecursion (Lines P) (fitting_way chain v k)
  unfolding fitting_way
  fitting_each chain kept v each k among =
      all_if (Lines P) (fits v k) (joined chain (voucher_fault v) k.mend) []
      (λ e. all_joined (Lines P) chain (voucher_fault v) k.mend (λ c m first second.
      of_following P c (with_fault (voucher_fault v) m) (kept c first)
      (of_with_fault P (voucher_fault v) m (entry_told v each) (signs k among m second))))
      (λ other. tt)

  voucher_each : (chain : Option Mended) → Kept P chain → (served : Bool) (v : VoucherFacts)
      → ((w : WhyEntry) → v.why ≡ Some w → P (told.Entry w v.number)) → AllByRecursion (Lines P) (voucher_ways chain served keys v)
  unfolding voucher_ways
  voucher_each chain kept served v each =
      all_if (Lines P) (is_missing_by v.why && served) [] (flat_map (fitting_way chain v) keys) (λ e. tt)
      (λ other. all_flat (Lines P) (fitting_way chain v) keys (fitting_each chain kept v each))

  pub group_each : (chain : Option Mended) → Kept P chain → (group : List VoucherFacts)
      → ((v : VoucherFacts) (w : WhyEntry) → IsAmong v group → v.why ≡ Some w → P (told.Entry w v.number))
      → AllByRecursion (Lines P) (group_ways chain keys group)
  group_each chain kept group each =
      all_flat (Lines P) (voucher_ways chain (is_served group keys) keys) group
      (λ v among. voucher_each chain kept (is_served group keys) v (λ w. each v w among))

  pub ds_each : (chains : List (Option Mended)) (place : ℕ) (dss : List DsFacts) → ((i : ℕ) → Kept P (mend_at chains i))
      → ((ds : DsFacts) (v : VoucherFacts) (w : WhyEntry) → IsAmong ds dss → IsAmong v ds.records.items → v.why ≡ Some w
      → P (told.Entry w v.number))
      → AllByRecursion (Lines P) (ds_ways keys chains place dss)
  ds_each chains place [] kept each = tt
  ds_each chains place (ds ∷ dss) kept each =
      all_append (Lines P) (group_ways (mend_at chains place) keys ds.records.items) (ds_ways keys chains (place + 1) dss)
      (group_each (mend_at chains place) (kept place) ds.records.items (λ v w. each ds v w (inl refl)))
      (ds_each chains (place + 1) dss kept (λ other v w among. each other v w (inr among)))
