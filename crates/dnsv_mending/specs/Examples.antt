-- Four zones with a break, as facts. In each the zone test. has a trust anchor and is trusted, or the root above it.
use Rattle.std.specs.Prelude.{ℕ, ◌-◌, ◌<◌, ◌^◌, ◌++◌, Bool, true, false, List, [], ◌∷◌, Option, Some, None, length, slice_get}
use Rattle.std.specs.Global.{Vec}
use Rattle.std.specs.declared.alloc.Global.{Global}
use Rattle.std.proofs.Common.{refl}
use Rattle.std.proofs.Math.Nat.{le_refl}
use Rattle.std.proofs.lemmas.Bool.{ltb-true}
use denote.RawPtr.{null_ptr}
use Rattle.dnsv_canonical.specs.declared.number.RecordNumber.{RecordNumber}
use Rattle.dnsv_canonical.specs.declared.number.SignatureNumber.{SignatureNumber}
use Rattle.dnsv_lines.specs.declared.line.derivation.KeyName.{KeyName}
use Rattle.dnsv_lines.specs.declared.line.fault.signature.SignatureTimes.{SignatureTimes}
use Rattle.dnsv_lines.specs.declared.line.fault.zone.EntryNumber.TheVariants as number
use Rattle.dnsv_lines.specs.declared.line.fault.zone.WhyEntry.{WhyEntry}
use Rattle.dnsv_lines.specs.declared.line.fault.zone.WhyEntry.TheVariants as why
use Rattle.dnsv_mending.specs.Level.{Leveled}
use Rattle.dnsv_mending.specs.Mend.{Mended, cheapest}
use Rattle.dnsv_mending.specs.Rrset.{rrset_ways}
use Rattle.dnsv_mending.specs.Zone.{levels_of}
use Rattle.dnsv_mending.specs.declared.facts.keys.HeldKey.{HeldKey}
use Rattle.dnsv_mending.specs.declared.facts.keys.SelfSignature.{SelfSignature}
use Rattle.dnsv_mending.specs.declared.facts.keys.VoucherFacts.{VoucherFacts}
use Rattle.dnsv_mending.specs.declared.facts.signature.KeyAnswer.TheVariants as answer
use Rattle.dnsv_mending.specs.declared.facts.signature.RrsetFacts.{RrsetFacts}
use Rattle.dnsv_mending.specs.declared.facts.signature.SignatureFaults.{SignatureFaults}
use Rattle.dnsv_mending.specs.declared.facts.zone.ZoneFacts.{ZoneFacts}
use Rattle.dnsv_mending.specs.declared.facts.zone.ZoneKey.{ZoneKey}
use Rattle.dnsv_mending.specs.declared.told.Told.{Told}

-- ---- what is told

abbrev pub lines_of : Option Mended → List Told
lines_of None = []
lines_of (Some m) = m.chain ++ m.own

abbrev pub level_lines : Option Leveled → List Told
level_lines None = []
level_lines (Some level) = lines_of level.zone

-- of the zone with so many labels
abbrev pub zone_lines : List ZoneFacts → ℕ → List Told
zone_lines zones n = level_lines (slice_get (levels_of true zones) n)

-- of an RRset of the name that is asked for
abbrev pub rrset_lines : List ZoneFacts → RrsetFacts → List Told
rrset_lines zones r = lines_of (cheapest (rrset_ways (levels_of true zones) None r))

-- ---- parts

abbrev pub name : ℕ → KeyName
name tag = record { tag = record { 0 = tag }; algorithm = record { 0 = 13 } }

abbrev pub clean : SignatureFaults
clean = record { labels = false; signer = false; expanded = false; algorithm = false; not_yet = None; expired = None }

-- a signature that is over for so many seconds
abbrev pub times : ℕ → SignatureTimes
times by = record { inception = record { 0 = 500 }; expiration = record { 0 = 1400 }; by = by }

abbrev pub over : ℕ → SignatureFaults
over by = record clean { expired = Some (times by) }

abbrev pub signature_at : ℕ → ℕ → SignatureNumber
signature_at rrset signature = record { rrset = rrset; signature = signature }

abbrev pub record_at : ℕ → ℕ → RecordNumber
record_at rrset place = record { rrset = rrset; place = place }

abbrev pub good_self : ℕ → ℕ → SelfSignature
good_self rrset signature = record { number = signature_at rrset signature; faults = clean; answer = answer.Good }

abbrev pub late_self : ℕ → ℕ → SelfSignature
late_self rrset signature = record { number = signature_at rrset signature; faults = over 100; answer = answer.Unanswered }

module _ (heap : Global) where
  -- the list in memory
  abbrev pub vec : {X : Type 0} (xs : List X) → length xs < 2 ^ 63 → Vec X
  vec xs small = record { ptr = null_ptr; len = length xs; cap = length xs; alloc = heap; items = xs; ok = (refl, le_refl (length xs)); small = small }

  abbrev pub none : {X : Type 0} → Vec X
  none = vec [] (ltb-true 0 (2 ^ 63) refl)

  abbrev pub one : {X : Type 0} → X → Vec X
  one x = vec (x ∷ []) (ltb-true 1 (2 ^ 63) refl)

  abbrev pub two : {X : Type 0} → X → X → Vec X
  two x y = vec (x ∷ y ∷ []) (ltb-true 2 (2 ^ 63) refl)

  abbrev pub three : {X : Type 0} → X → X → X → Vec X
  three x y z = vec (x ∷ y ∷ z ∷ []) (ltb-true 3 (2 ^ 63) refl)

  -- the root, of which nothing is known
  abbrev pub root : ZoneFacts
  root = record { is_known = false; is_anchored = false; keys = none; dnskeys = none; anchors = none; ds = none }

  abbrev pub trusted_key : HeldKey
  trusted_key = record { number = record_at 1 1; key = 0; name = name 17908; is_zone_key = true; is_named = true; signatures = one (good_self 1 1) }

  -- a zone with a trust anchor, one key and a trusted DNSKEY RRset
  abbrev pub trusted : ZoneFacts
  trusted = record {
    is_known = true;
    is_anchored = true;
    keys = one (record { is_trusted = true; holders = one 0 });
    dnskeys = one (record { number = 1; is_trusted = true; has_signatures = true; keys = one trusted_key });
    anchors = one (record { number = number.Anchor 1; why = None; name = name 17908; matches = one 0 });
    ds = none;
  }

  -- an RRset with one signature, which is kept as good under the key of the zone with so many labels
  abbrev pub signed_by : ℕ → ℕ → RrsetFacts
  signed_by number signer = record {
    number = number;
    signatures = one (record {
      number = signature_at number 1;
      signer = signer;
      is_signed = true;
      faults = clean;
      key_missing = false;
      not_zone_key = false;
      keys = one (record { key = 0; answer = answer.Good });
    });
  }

  abbrev pub key : ℕ → ℕ → ℕ → Bool → Vec SelfSignature → HeldKey
  key rrset place tag is_named signatures =
      record { number = record_at rrset place; key = place - 1; name = name tag; is_zone_key = true; is_named = is_named; signatures = signatures }

  abbrev pub ds_record : ℕ → ℕ → ℕ → Option WhyEntry → Vec ℕ → VoucherFacts
  ds_record rrset place tag why matches = record { number = number.Ds (record_at rrset place); why = why; name = name tag; matches = matches }

  abbrev pub untrusted_key : ZoneKey
  untrusted_key = record { is_trusted = false; holders = one 0 }

  -- a zone with one DNSKEY RRset, which isn't trusted, and one signed DS RRset
  abbrev pub delegated : Vec ZoneKey → ℕ → Vec HeldKey → RrsetFacts → Vec VoucherFacts → ZoneFacts
  delegated keys number held ds records = record {
    is_known = true;
    is_anchored = true;
    keys = keys;
    dnskeys = one (record { number = number; is_trusted = false; has_signatures = true; keys = held });
    anchors = none;
    ds = one (record { rrset = ds; records = records });
  }

  -- ---- the zones, from the root down

  -- a key is rolled over too early: the DS record is of a key that doesn't sign the DNSKEY RRset yet
  abbrev pub early : List ZoneFacts
  early = root ∷ root ∷ trusted ∷ delegated (three untrusted_key untrusted_key untrusted_key) 3
      (three (key 3 1 30850 true (one (good_self 3 1))) (key 3 2 44813 true (one (good_self 3 2))) (key 3 3 42592 false none))
      (signed_by 2 2) (one (ds_record 2 1 42592 None (one 2))) ∷ []

  -- and too late: the key of the DS record is gone
  abbrev pub late : List ZoneFacts
  late = root ∷ root ∷ trusted ∷ delegated (two untrusted_key untrusted_key) 3
      (two (key 3 1 45316 true (one (good_self 3 2))) (key 3 2 29000 true (one (good_self 3 1))))
      (signed_by 2 2) (one (ds_record 2 1 43646 (Some why.KeyMissing) none)) ∷ []

  -- a standby key beside the one whose signature is over
  abbrev pub standby : List ZoneFacts
  standby = root ∷ trusted ∷ delegated (three untrusted_key untrusted_key untrusted_key) 3
      (three (key 3 1 33627 false none) (key 3 2 18923 false none) (key 3 3 48048 true (one (late_self 3 1))))
      (signed_by 2 1) (two (ds_record 2 1 18923 None (one 1)) (ds_record 2 2 48048 None (one 2))) ∷ []

  -- all signatures of a zone are over
  abbrev pub expired : List ZoneFacts
  expired = trusted ∷ trusted ∷ delegated (one untrusted_key) 5 (one (key 5 1 53641 true (one (late_self 5 1))))
      (signed_by 4 1) (one (ds_record 4 1 53641 None (one 0))) ∷ root ∷ []

  abbrev pub expired_answer : RrsetFacts
  expired_answer = record {
    number = 6;
    signatures = one (record {
      number = signature_at 6 1;
      signer = 2;
      is_signed = false;
      faults = over 100;
      key_missing = false;
      not_zone_key = false;
      keys = one (record { key = 0; answer = answer.Unanswered });
    });
  }
