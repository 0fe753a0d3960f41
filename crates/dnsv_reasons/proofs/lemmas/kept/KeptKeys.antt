-- What is told of DNSKEY RRsets: of one key of each at most that it doesn't sign it.
use Rattle.std.proofs.Common.{◌≡◌, ℕ, ◌+◌, ◌++◌, ◌&&◌, Bool, true, false, if◌then◌else◌, List, [], ◌∷◌, Option, Some, None, flat_map, refl, subst, slice_get}
use Rattle.std.specs.List.{AllByRecursion}
use Rattle.std.specs.Option.{option_map}
use Rattle.std.specs.Prelude.{⊤}
use Rattle.dnsv_canonical.specs.declared.number.RecordNumber.{RecordNumber}
use Rattle.dnsv_lines.specs.declared.line.fault.zone.EntryNumber.{EntryNumber}
use Rattle.dnsv_lines.specs.declared.line.fault.zone.WhyEntry.{WhyEntry}
use Rattle.dnsv_lines.specs.declared.line.fault.zone.WhyZone.TheVariants as why
use Rattle.dnsv_mending.specs.Faults.{self_lines}
use Rattle.dnsv_mending.specs.Keys.{fits, fitting_way, group_ways, is_missing_by, is_served, self_way, self_ways, signing, signings, unsigned_way, voucher_fault, voucher_ways}
use Rattle.dnsv_mending.specs.Mend.{Mended, fault, following, is_none, joined, nothing, telling, with_fault}
use Rattle.dnsv_mending.specs.Ways.{IsAmong}
use Rattle.dnsv_mending.specs.Zone.{Standing, anchored_ways, dnskey_mend, dnskey_ways, ds_ways, has_none, is_vouched, mend_at, not_vouched, unanchored, unvouched_ways}
use Rattle.dnsv_mending.specs.declared.facts.keys.DnskeyFacts.{DnskeyFacts}
use Rattle.dnsv_mending.specs.declared.facts.keys.HeldKey.{HeldKey}
use Rattle.dnsv_mending.specs.declared.facts.keys.SelfSignature.{SelfSignature}
use Rattle.dnsv_mending.specs.declared.facts.keys.VoucherFacts.{VoucherFacts}
use Rattle.dnsv_mending.specs.declared.facts.zone.DsFacts.{DsFacts}
use Rattle.dnsv_mending.specs.declared.facts.zone.ZoneFacts.{ZoneFacts}
use Rattle.dnsv_mending.specs.declared.told.Told.{Told}
use Rattle.dnsv_mending.specs.declared.told.Told.TheVariants as told
use Rattle.dnsv_mending.proofs.AllWays.{all_append, all_flat, all_if, all_joined, all_map, all_mapped, of_cheapest}
use Rattle.dnsv_reasons.proofs.lemmas.kept.KeptLines.{AreHere, Here, MayBeHere, here_fault, here_nothing, here_self}

-- a key of the RRset that doesn't sign it is the one with the number
abbrev pub KeyOf : DnskeyFacts → RecordNumber → Told → Type 0
KeyOf r number (told.NotSelfSigned n) = (n ≡ number) × (k : HeldKey) × IsAmong k r.keys.items × (k.number ≡ n)
KeyOf r number other = ⊤

-- whichever key it is
abbrev pub Any : RecordNumber → Type 0
Any n = ⊤

abbrev NoKey : RecordNumber → Type 0
NoKey n = ⊥

not_a_key : (zones : List ZoneFacts) (r : DnskeyFacts) (number : RecordNumber) (line : Told) → Here zones NoKey line → KeyOf r number line
not_a_key zones r number (told.NotSelfSigned n) is = absurd is
not_a_key zones r number line is = tt

-- that the key signs the RRset
pub record IsSigning (zones : List ZoneFacts) (Chosen : RecordNumber → Type 0) (r : DnskeyFacts) (k : HeldKey) (m : Mended) : Type 0 where
  pub chain : AllByRecursion (Here zones Chosen) m.chain
  pub own : AllByRecursion (Here zones Any) m.own
  pub only : AllByRecursion (KeyOf r k.number) m.own

-- that the RRset is trusted
pub record IsSetWay (zones : List ZoneFacts) (Chosen : RecordNumber → Type 0) (r : DnskeyFacts) (m : Mended) : Type 0 where
  pub chain : AllByRecursion (Here zones Chosen) m.chain
  pub own : AllByRecursion (Here zones Any) m.own
  pub number : RecordNumber
  pub only : AllByRecursion (KeyOf r number) m.own

-- a fault that may not be there
abbrev ForFault : List ZoneFacts → DnskeyFacts → RecordNumber → Option Told → Type 0
ForFault zones r number None = ⊤
ForFault zones r number (Some line) = Here zones Any line × KeyOf r number line

-- what a zone stands on
pub record StandsHere (zones : List ZoneFacts) (Chosen : RecordNumber → Type 0) (z : ZoneFacts) (s : Standing) : Type 0 where
  pub labels : slice_get zones s.labels ≡ Some z
  pub lead : MayBeHere zones Chosen s.lead
  pub chains : (place : ℕ) → MayBeHere zones Chosen (mend_at s.chains place)

module _ (zones : List ZoneFacts) (Chosen : RecordNumber → Type 0) where
  -- ---- by a key

  unsigned_here : (r : DnskeyFacts) (k : HeldKey) → IsAmong k r.keys.items → (t : Bool)
      → IsSigning zones Chosen r k (if t then fault (told.NotSelfSigned k.number) else fault (told.Unsigned r.number))
  unsigned_here r k among true = record { chain = tt; own = (tt, tt); only = ((refl, k, among, refl), tt) }
  unsigned_here r k among false = record { chain = tt; own = (tt, tt); only = (tt, tt) }

  self_here : (r : DnskeyFacts) (k : HeldKey) (s : SelfSignature) → IsSigning zones Chosen r k (telling (self_lines k s))
  self_here r k s = record {
    chain = tt;
    own = here_self zones Any k s;
    only = all_map (Here zones NoKey) (KeyOf r k.number) (not_a_key zones r k.number) (self_lines k s) (here_self zones NoKey k s);
  }

  self_each : (r : DnskeyFacts) (k : HeldKey) → IsAmong k r.keys.items → AllByRecursion (IsSigning zones Chosen r k) (self_ways r k)
  unfolding self_way
  self_each r k among =
      all_if (IsSigning zones Chosen r k) (is_none k.signatures.items) (unsigned_way r k ∷ []) (flat_map (self_way k) k.signatures.items)
      (λ none. (unsigned_here r k among r.has_signatures, tt))
      (λ some. all_flat (IsSigning zones Chosen r k) (self_way k) k.signatures.items (λ s its. (self_here r k s, tt)))

  signing_here : (r : DnskeyFacts) (k : HeldKey) (m : Mended) → IsAmong k r.keys.items → (signing r k).mend ≡ Some m
      → IsSigning zones Chosen r k m
  unfolding signing
  signing_here r k m among is = of_cheapest (IsSigning zones Chosen r k) (self_ways r k) m (self_each r k among) is

  -- ---- by what vouches for it

  set_way : (r : DnskeyFacts) (k : HeldKey) (c : Mended) (o : Option Told) (m : Mended) → AreHere zones Chosen c
      → ForFault zones r k.number o
      → IsSigning zones Chosen r k m → IsSetWay zones Chosen r (following c (with_fault o m))
  set_way r k c None m above its s = record {
    chain = all_append (Here zones Chosen) (c.chain ++ c.own) m.chain
        (all_append (Here zones Chosen) c.chain c.own above.chain above.own) s.chain;
    own = s.own;
    number = k.number;
    only = s.only;
  }
  set_way r k c (Some line) m above its s = record {
    chain = all_append (Here zones Chosen) (c.chain ++ c.own) m.chain
        (all_append (Here zones Chosen) c.chain c.own above.chain above.own) s.chain;
    own = (its.0, s.own);
    number = k.number;
    only = (its.1, s.only);
  }

  entry_for : (r : DnskeyFacts) (number : RecordNumber) (o : Option WhyEntry) (n : EntryNumber)
      → ForFault zones r number (option_map (λ w. told.Entry w n) o)
  entry_for r number None n = tt
  entry_for r number (Some w) n = (tt, tt)

  vouched_for : (r : DnskeyFacts) (number : RecordNumber) (t : Bool)
      → ForFault zones r number (if t then None else Some (told.NotVouched r.number))
  vouched_for r number true = tt
  vouched_for r number false = (tt, tt)

  fitting_here : (r : DnskeyFacts) (chain : Option Mended) (v : VoucherFacts) (k : HeldKey) → IsAmong k r.keys.items
      → MayBeHere zones Chosen chain
      → AllByRecursion (IsSetWay zones Chosen r) (fitting_way chain v (signing r k))
  unfolding fitting_way
  fitting_here r chain v k among above =
      all_if (IsSetWay zones Chosen r) (fits v (signing r k)) (joined chain (voucher_fault v) (signing r k).mend) []
      (λ e. all_joined (IsSetWay zones Chosen r) chain (voucher_fault v) (signing r k).mend
      (λ c m first second. set_way r k c (voucher_fault v) m (above c first) (entry_for r k.number v.why v.number)
      (signing_here r k m among second)))
      (λ e. tt)

  voucher_here : (r : DnskeyFacts) (chain : Option Mended) (served : Bool) (v : VoucherFacts) → MayBeHere zones Chosen chain
      → AllByRecursion (IsSetWay zones Chosen r) (voucher_ways chain served (signings r) v)
  unfolding voucher_ways
  voucher_here r chain served v above =
      all_if (IsSetWay zones Chosen r) (is_missing_by v.why && served) [] (flat_map (fitting_way chain v) (signings r)) (λ e. tt)
      (λ e. all_mapped (IsSetWay zones Chosen r) (signing r) (fitting_way chain v) r.keys.items
      (λ k among. fitting_here r chain v k among above))

  group_here : (r : DnskeyFacts) (chain : Option Mended) (group : List VoucherFacts) → MayBeHere zones Chosen chain
      → AllByRecursion (IsSetWay zones Chosen r) (group_ways chain (signings r) group)
  group_here r chain group above =
      all_flat (IsSetWay zones Chosen r) (voucher_ways chain (is_served group (signings r)) (signings r)) group
      (λ v among. voucher_here r chain (is_served group (signings r)) v above)

  ds_here : (r : DnskeyFacts) (chains : List (Option Mended)) → ((place : ℕ) → MayBeHere zones Chosen (mend_at chains place))
      → (place : ℕ) (dss : List DsFacts)
      → AllByRecursion (IsSetWay zones Chosen r) (ds_ways (signings r) chains place dss)
  ds_here r chains above place [] = tt
  ds_here r chains above place (ds ∷ dss) =
      all_append (IsSetWay zones Chosen r) (group_ways (mend_at chains place) (signings r) ds.records.items)
      (ds_ways (signings r) chains (place + 1) dss)
      (group_here r (mend_at chains place) ds.records.items (above place)) (ds_here r chains above (place + 1) dss)

  unvouched_here : (z : ZoneFacts) (s : Standing) → StandsHere zones Chosen z s → (r : DnskeyFacts) (k : HeldKey) → IsAmong k r.keys.items
      → AllByRecursion (IsSetWay zones Chosen r) (unvouched_ways s.lead (not_vouched z r) (signing r k))
  unfolding unvouched_ways
  unvouched_here z s st r k among =
      all_joined (IsSetWay zones Chosen r) s.lead (not_vouched z r) (signing r k).mend
      (λ c m first second. set_way r k c (not_vouched z r) m (st.lead c first) (vouched_for r k.number (has_none z))
      (signing_here r k m among second))

  -- ---- the RRset

  none_set : (r : DnskeyFacts) → IsSetWay zones Chosen r nothing
  none_set r = record { chain = tt; own = tt; number = record { rrset = 0; place = 0 }; only = tt }

  nothing_chain : MayBeHere zones Chosen (Some nothing)
  nothing_chain m is = let same : nothing ≡ m = cc in subst (AreHere zones Chosen) same (here_nothing zones Chosen)

  anchored_here : (z : ZoneFacts) (s : Standing) → StandsHere zones Chosen z s → (r : DnskeyFacts)
      → AllByRecursion (IsSetWay zones Chosen r) (anchored_ways s z r (signings r))
  anchored_here z s st r =
      let by_anchors = group_ways (Some nothing) (signings r) z.anchors.items in
      let by_ds = ds_ways (signings r) s.chains 0 z.ds.items in
      all_if (IsSetWay zones Chosen r) (is_vouched z (signings r)) (by_anchors ++ by_ds)
      (flat_map (unvouched_ways s.lead (not_vouched z r)) (signings r))
      (λ e. all_append (IsSetWay zones Chosen r) by_anchors by_ds (group_here r (Some nothing) z.anchors.items nothing_chain)
      (ds_here r s.chains st.chains 0 z.ds.items))
      (λ e. all_mapped (IsSetWay zones Chosen r) (signing r) (unvouched_ways s.lead (not_vouched z r)) r.keys.items
      (unvouched_here z s st r))

  pub unanchored_here : (z : ZoneFacts) (s : Standing) → StandsHere zones Chosen z s → z.is_anchored ≡ false → (t : Bool)
      → AreHere zones Chosen (if t then fault (told.Zone why.NoAnchor s.labels) else nothing)
  unanchored_here z s st e true = here_fault zones Chosen (told.Zone why.NoAnchor s.labels) (z, st.labels, e)
  unanchored_here z s st e false = here_nothing zones Chosen

  unanchored_set : (z : ZoneFacts) (s : Standing) → StandsHere zones Chosen z s → (r : DnskeyFacts) → z.is_anchored ≡ false → (t : Bool)
      → IsSetWay zones Chosen r (if t then fault (told.Zone why.NoAnchor s.labels) else nothing)
  unanchored_set z s st r e true =
      record { chain = tt; own = ((z, st.labels, e), tt); number = record { rrset = 0; place = 0 }; only = (tt, tt) }
  unanchored_set z s st r e false = none_set r

  dnskey_here : (z : ZoneFacts) (s : Standing) → StandsHere zones Chosen z s → (r : DnskeyFacts)
      → AllByRecursion (IsSetWay zones Chosen r) (dnskey_ways s z r)
  dnskey_here z s st r =
      all_if (IsSetWay zones Chosen r) r.is_trusted (nothing ∷ [])
      (if z.is_anchored then anchored_ways s z r (signings r) else unanchored s ∷ [])
      (λ e. (none_set r, tt))
      (λ e. all_if (IsSetWay zones Chosen r) z.is_anchored (anchored_ways s z r (signings r)) (unanchored s ∷ [])
      (λ is. anchored_here z s st r) (λ none. (unanchored_set z s st r none s.is_anchored, tt)))

  -- what is kept of it
  pub kept_set : (z : ZoneFacts) (s : Standing) → StandsHere zones Chosen z s → (r : DnskeyFacts) (m : Mended) → dnskey_mend s z r ≡ Some m
      → IsSetWay zones Chosen r m
  unfolding dnskey_mend
  kept_set z s st r m is = of_cheapest (IsSetWay zones Chosen r) (dnskey_ways s z r) m (dnskey_here z s st r) is
