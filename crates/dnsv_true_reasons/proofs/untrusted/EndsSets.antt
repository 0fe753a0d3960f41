-- What leads to a DNSKEY RRset tells why a signer isn't trusted.
use Rattle.std.proofs.Common.{if◌then◌else◌, ◌≡◌, ◌⊎◌, inl, inr, ⊎_elim, ℕ, ◌+◌, ◌&&◌, Bool, true, false, List, [], ◌∷◌, Option, Some, None, flat_map, refl, subst, slice_get, arith}
use Rattle.std.proofs.lemmas.Option.{same_Some}
use Rattle.std.specs.List.{AllByRecursion}
use Rattle.std.specs.Option.{option_map}
use Rattle.dnsv_canonical.specs.declared.number.SignatureNumber.{SignatureNumber}
use Rattle.dnsv_lines.specs.declared.line.fault.zone.EntryNumber.{EntryNumber}
use Rattle.dnsv_lines.specs.declared.line.fault.zone.WhyEntry.{WhyEntry}
use Rattle.dnsv_mending.specs.Faults.{self_lines}
use Rattle.dnsv_mending.specs.Keys.{fits, fitting_way, group_ways, is_missing_by, is_served, self_way, self_ways, signing, signings, unsigned_way, voucher_fault, voucher_ways}
use Rattle.dnsv_mending.specs.Mend.{Mended, fault, following, is_none, joined, nothing, telling, with_fault}
use Rattle.dnsv_mending.specs.Reasons.{IsClosed, IsSelfSigned, IsSignedRrset, is_reason}
use Rattle.dnsv_mending.specs.Ways.{IsAmong}
use Rattle.dnsv_mending.specs.Zone.{ds_ways, mend_at}
use Rattle.dnsv_mending.specs.declared.facts.keys.DnskeyFacts.{DnskeyFacts}
use Rattle.dnsv_mending.specs.declared.facts.keys.HeldKey.{HeldKey}
use Rattle.dnsv_mending.specs.declared.facts.keys.SelfSignature.{SelfSignature}
use Rattle.dnsv_mending.specs.declared.facts.keys.VoucherFacts.{VoucherFacts}
use Rattle.dnsv_mending.specs.declared.facts.zone.DsFacts.{DsFacts}
use Rattle.dnsv_mending.specs.declared.facts.zone.ZoneFacts.{ZoneFacts}
use Rattle.dnsv_mending.specs.declared.told.Told.{Told}
use Rattle.dnsv_mending.specs.declared.told.Told.TheVariants as told
use Rattle.dnsv_mending.proofs.AllWays.{all_append, all_flat, all_if, all_joined, all_mapped, mapped_some, of_cheapest}
use Rattle.dnsv_mending.proofs.Reasons.{dear_self}
use Rattle.dnsv_true_reasons.proofs.untrusted.Ending.{Ends, In, IsReason, Reasoned, SaidIf, ends_following, ends_fault, ends_nothing, ends_reasons, ends_with, first_reason, in_first, in_left, in_second, reasoned_in, reasons_of}
use Rattle.dnsv_true_reasons.proofs.untrusted.EndsRrsets.{RrsetEnds}
use Rattle.dnsv_true_reasons.proofs.telling.Says.{SaysSignature, all_self}
use Rattle.dnsv_true_reasons.proofs.telling.SaysZones.{SaysEntry, SaysKeys, SaysZone}

-- each DS RRset from the place on has its chain there
abbrev pub AreChains : (DsFacts → Mended → Type 0) → List (Option Mended) → ℕ → List DsFacts → Type 0
AreChains Leads chains place [] = Unit {0}
AreChains Leads chains place (ds ∷ dss) = ((c : Mended) → mend_at chains place ≡ Some c → Leads ds c) × AreChains Leads chains (place + 1) dss

module _ (zones : List ZoneFacts) (closed : IsClosed zones) (Said : ℕ → Told → Type 0) (By : SignatureNumber → ℕ → Type 0) where
  -- ---- a zone with n labels, whose lines are said of it

  module _ (n : ℕ) (z : ZoneFacts) (at : slice_get zones n ≡ Some z) (says : SaysZone (SaidIf Said n) n z) where
    pub one_reason : (t : Told) → is_reason t ≡ true → SaidIf Said n t → (m : Mended) → In t m → Reasoned Said n m
    one_reason t is said m there = record { c = n; within = omega arith; t = t; there = there; is = is; said = said is }

    -- that a key signs its RRset
    pub record SelfEnds (k : HeldKey) (m : Mended) : Type 0 where
      pub ends : Ends zones Said By m
      pub told : IsSelfSigned k ⊎ Reasoned Said n m

    unsigned_case : (r : DnskeyFacts) (k : HeldKey) (t : Bool) → SaysKeys (SaidIf Said n) r → IsAmong k r.keys.items
        → SelfEnds k (if t then fault (told.NotSelfSigned k.number) else fault (told.Unsigned r.number))
    unsigned_case r k true of among = record {
      ends = ends_fault zones Said By (told.NotSelfSigned k.number) refl;
      told = inr (one_reason (told.NotSelfSigned k.number) refl (of.keys k among) (fault (told.NotSelfSigned k.number)) (inr (inl refl)));
    }
    unsigned_case r k false of among = record {
      ends = ends_fault zones Said By (told.Unsigned r.number) refl;
      told = inr (one_reason (told.Unsigned r.number) refl of.unsigned (fault (told.Unsigned r.number)) (inr (inl refl)));
    }

    self_case : (k : HeldKey) (s : SelfSignature) (lines : List Told) → self_lines k s ≡ lines → IsAmong s k.signatures.items → SaysSignature (SaidIf Said n) s.number
        → SelfEnds k (telling lines)
    self_case k s [] is among of = record { ends = ends_reasons zones Said By [] tt; told = inl (s, among, is) }
    self_case k s (x ∷ xs) is among of =
        let reasons = subst (λ (ls : List Told). AllByRecursion IsReason ls) is (reasons_of (self_lines k s) (dear_self k s)) in
        record {
          ends = ends_reasons zones Said By (x ∷ xs) reasons;
          told = inr (first_reason zones Said By n x xs reasons (subst (λ (ls : List Told). AllByRecursion (SaidIf Said n) ls) is (all_self (SaidIf Said n) k s of))
              (telling (x ∷ xs)) (λ h. h));
        }

    self_ends : (r : DnskeyFacts) (k : HeldKey) → SaysKeys (SaidIf Said n) r → IsAmong k r.keys.items → AllByRecursion (SelfEnds k) (self_ways r k)
    unfolding self_way
    self_ends r k of among =
        all_if (SelfEnds k) (is_none k.signatures.items) (unsigned_way r k ∷ []) (flat_map (self_way k) k.signatures.items)
        (λ none. (unsigned_case r k r.has_signatures of among, tt))
        (λ some. all_flat (SelfEnds k) (self_way k) k.signatures.items (λ s by. (self_case k s (self_lines k s) refl by (of.signatures k s among by), tt)))

    pub signing_ends : (r : DnskeyFacts) (k : HeldKey) (m : Mended) → SaysKeys (SaidIf Said n) r → IsAmong k r.keys.items → (signing r k).mend ≡ Some m → SelfEnds k m
    unfolding signing
    signing_ends r k m of among is = of_cheapest (SelfEnds k) (self_ways r k) m (self_ends r k of among) is

    -- ---- by an anchor or a DS record

    fault_reason : (v : VoucherFacts) (t : Told) → voucher_fault v ≡ Some t → is_reason t ≡ true
    fault_reason v t is =
        let found = mapped_some (λ (w : WhyEntry). told.Entry w v.number) v.why t is in
        subst (λ (line : Told). is_reason line ≡ true) found.same refl

    -- without a fault, or that has a reason
    fault_case : (o : Option WhyEntry) (number : EntryNumber) (m : Mended) → ((w : WhyEntry) → SaidIf Said n (told.Entry w number))
        → ((o ≡ None) × ((t : Told) → In t m → In t (with_fault (option_map (λ (w : WhyEntry). told.Entry w number) o) m)))
        ⊎ Reasoned Said n (with_fault (option_map (λ (w : WhyEntry). told.Entry w number) o) m)
    fault_case None number m of = inl (refl, λ t h. h)
    fault_case (Some w) number m of = inr (one_reason (told.Entry w number) refl (of w) (with_fault (Some (told.Entry w number)) m)
        (in_left (told.Entry w number) (fault (told.Entry w number)) m (inr (inl refl))))

    voucher_case : (v : VoucherFacts) (k : HeldKey) (c m : Mended) → SaysEntry (SaidIf Said n) v → SelfEnds k m
        → ((v.why ≡ None) × IsSelfSigned k) ⊎ Reasoned Said n (following c (with_fault (voucher_fault v) m))
    voucher_case v k c m of self =
        let own = with_fault (voucher_fault v) m in
        ⊎_elim
        (λ (free : (v.why ≡ None) × ((t : Told) → In t m → In t own)). ⊎_elim
        (λ (h : IsSelfSigned k). inl (free.0, h))
        (λ (h : Reasoned Said n m). inr (reasoned_in zones Said By n m (following c own) (λ t there. in_second t c own (free.1 t there)) h)) self.told)
        (λ (h : Reasoned Said n own). inr (reasoned_in zones Said By n own (following c own) (λ t there. in_second t c own there) h))
        (fault_case v.why v.number m of)

    -- a DNSKEY RRset is trusted, or a reason is said of the zone
    pub record SetEnds (r : DnskeyFacts) (m : Mended) : Type 0 where
      pub ends : Ends zones Said By m
      pub told : (r.is_trusted ≡ true) ⊎ Reasoned Said n m

    module _ (r : DnskeyFacts) (in_zone : IsAmong r z.dnskeys.items) where
      of_keys : SaysKeys (SaidIf Said n) r
      of_keys = says.dnskeys r in_zone

      -- by those of a group, each of which makes the RRset trusted, or has a reason
      abbrev EachOf : Option Mended → List VoucherFacts → Type 0
      EachOf chain group = (v : VoucherFacts) (k : HeldKey) (c m : Mended) → IsAmong v group → IsAmong k r.keys.items → chain ≡ Some c
          → fits v (signing r k) ≡ true → SelfEnds k m → SetEnds r (following c (with_fault (voucher_fault v) m))

      fitting_each : (chain : Option Mended) (group : List VoucherFacts) → EachOf chain group → (v : VoucherFacts) → IsAmong v group → (k : HeldKey)
          → IsAmong k r.keys.items → AllByRecursion (SetEnds r) (fitting_way chain v (signing r k))
      unfolding fitting_way
      fitting_each chain group each v among k by =
          all_if (SetEnds r) (fits v (signing r k)) (joined chain (voucher_fault v) (signing r k).mend) []
          (λ e. all_joined (SetEnds r) chain (voucher_fault v) (signing r k).mend (λ c m first second. each v k c m among by first e (signing_ends r k m of_keys by second)))
          (λ other. tt)

      voucher_each : (chain : Option Mended) (group : List VoucherFacts) → EachOf chain group → (v : VoucherFacts) → IsAmong v group → (served : Bool)
          → AllByRecursion (SetEnds r) (voucher_ways chain served (signings r) v)
      unfolding voucher_ways
      voucher_each chain group each v among served =
          all_if (SetEnds r) (is_missing_by v.why && served) [] (flat_map (fitting_way chain v) (signings r)) (λ e. tt)
          (λ other. all_mapped (SetEnds r) (signing r) (fitting_way chain v) r.keys.items (λ k by. fitting_each chain group each v among k by))

      pub group_ends : (chain : Option Mended) (group : List VoucherFacts) → EachOf chain group → AllByRecursion (SetEnds r) (group_ways chain (signings r) group)
      group_ends chain group each =
          all_flat (SetEnds r) (voucher_ways chain (is_served group (signings r)) (signings r)) group
          (λ v among. voucher_each chain group each v among (is_served group (signings r)))

      -- an anchor
      pub anchor_case : (v : VoucherFacts) (k : HeldKey) (c m : Mended) → IsAmong v z.anchors.items → IsAmong k r.keys.items → Some nothing ≡ Some c
          → fits v (signing r k) ≡ true → SelfEnds k m → SetEnds r (following c (with_fault (voucher_fault v) m))
      anchor_case v k c m among by is fit self = record {
        ends = ends_following zones Said By c (with_fault (voucher_fault v) m)
            (subst (Ends zones Said By) (same_Some nothing c is) (ends_nothing zones Said By)) (ends_with zones Said By (voucher_fault v) m (fault_reason v) self.ends);
        told = ⊎_elim
            (λ (p : (v.why ≡ None) × IsSelfSigned k). inl (closed.anchored n z r v k at in_zone among p.0 by fit p.1))
            (λ (h : Reasoned Said n (following c (with_fault (voucher_fault v) m))). inr h)
            (voucher_case v k c m (says.anchors v among) self);
      }

      -- a DS record
      record_case : (ds : DsFacts) (v : VoucherFacts) (k : HeldKey) (c m : Mended) → IsAmong ds z.ds.items → RrsetEnds zones Said By n ds.rrset c → IsAmong v ds.records.items
          → IsAmong k r.keys.items → fits v (signing r k) ≡ true → SelfEnds k m → SetEnds r (following c (with_fault (voucher_fault v) m))
      record_case ds v k c m in_ds chain among by fit self =
          let own = with_fault (voucher_fault v) m in
          record {
            ends = ends_following zones Said By c own chain.ends (ends_with zones Said By (voucher_fault v) m (fault_reason v) self.ends);
            told = ⊎_elim
                (λ (signed : IsSignedRrset ds.rrset). ⊎_elim
                (λ (p : (v.why ≡ None) × IsSelfSigned k). inl (closed.delegated n z r ds v k at in_zone in_ds signed among p.0 by fit p.1))
                (λ (h : Reasoned Said n (following c own)). inr h) (voucher_case v k c m (says.records ds v in_ds among) self))
                (λ (h : Reasoned Said n c). inr (reasoned_in zones Said By n c (following c own) (λ t there. in_first t c own there) h)) chain.told;
          }

      pub ds_ends : (chains : List (Option Mended)) (place : ℕ) (dss : List DsFacts) → ((ds : DsFacts) → IsAmong ds dss → IsAmong ds z.ds.items)
          → AreChains (λ ds c. RrsetEnds zones Said By n ds.rrset c) chains place dss → AllByRecursion (SetEnds r) (ds_ways (signings r) chains place dss)
      ds_ends chains place [] those are = tt
      ds_ends chains place (ds ∷ dss) those are =
          all_append (SetEnds r) (group_ways (mend_at chains place) (signings r) ds.records.items) (ds_ways (signings r) chains (place + 1) dss)
          (group_ends (mend_at chains place) ds.records.items (λ v k c m among by first fit self. record_case ds v k c m (those ds (inl refl)) (are.0 c first) among by fit self))
          (ds_ends chains (place + 1) dss (λ other among. those other (inr among)) are.1)
