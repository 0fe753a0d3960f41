-- The trust anchors and the DS records of a zone, in the groups in which they vouch for its keys.
pub mod GroupSearch
use Rattle.std.specs.Prelude.{◌≡◌, ◌⊎◌, ◌+◌, ℕ, List, [], ◌∷◌}
use Rattle.std.specs.List.{AllZip}
use Rattle.dnsv_names.specs.Name.{Labels, SameName}
use Rattle.dnsv_records.specs.Ds.{IsDs}
use Rattle.dnsv_records.specs.declared.ds.Ds.{Ds}
use Rattle.dnsv_canonical.specs.Canonical.{IsCanonical}
use Rattle.dnsv_canonical.specs.Index.{numbers_at}
use Rattle.dnsv_canonical.specs.Rrsets.{IsNumbered, ReceivedRrset}
use Rattle.dnsv_anchors.specs.Anchor.{anchor_owner}
use Rattle.dnsv_anchors.specs.declared.anchor.Anchor.{Anchor}
use Rattle.dnsv_anchors.specs.declared.anchor.Anchor.TheVariants as given
use Rattle.dnsv_chain.specs.Basis.{Basis}
use Rattle.dnsv_lines.specs.declared.line.fault.zone.EntryNumber.{EntryNumber}
use Rattle.dnsv_lines.specs.declared.line.fault.zone.EntryNumber.TheVariants as number
use Rattle.dnsv_mending.specs.declared.facts.keys.VoucherFacts.{VoucherFacts}
use Rattle.dnsv_mending.specs.declared.facts.zone.DsFacts.{DsFacts}
use Rattle.dnsv_faults.specs.Rrsets.{AreRrsetFacts}
use Rattle.dnsv_zone_keys.specs.Vouchers.{AreVoucherFacts, Wanted}
use Rattle.dnsv_zone_keys.specs.Vouchers.Wanted.{by_digest, whole_key}

-- ---- trust anchors

-- what an anchor asks for: its DS record stands beside no other
abbrev pub anchor_wanted : Anchor → Wanted
anchor_wanted (given.Ds owner ds) = by_digest [] ds
anchor_wanted (given.Key owner rdata) = whole_key rdata

-- the facts are those of the anchors at just the zone, of which the first has the number
abbrev pub AreAnchorFactsFrom : List ReceivedRrset → Labels → ℕ → List Anchor → List VoucherFacts → Type 0
AreAnchorFactsFrom rrsets zone n [] facts = facts ≡ []
AreAnchorFactsFrom rrsets zone n (anchor ∷ anchors) facts =
    (SameName (anchor_owner anchor) zone × ((known : VoucherFacts) × (others : List VoucherFacts)
    × AreVoucherFacts rrsets zone (number.Anchor n) (anchor_wanted anchor) known
    × AreAnchorFactsFrom rrsets zone (n + 1) anchors others × (facts ≡ known ∷ others)))
    ⊎ ((¬ SameName (anchor_owner anchor) zone) × AreAnchorFactsFrom rrsets zone (n + 1) anchors facts)

-- those of the case, which are numbered from 1
abbrev pub AreAnchorFacts : Basis → Labels → List VoucherFacts → Type 0
AreAnchorFacts basis zone facts = AreAnchorFactsFrom basis.rrsets zone 1 basis.anchors facts

-- ---- DS RRsets

-- a record of DS RRset k, which has these records, by its RDATA and its place in canonical order
abbrev pub IsRecordFacts : List ReceivedRrset → Labels → ℕ → List Ds → ℕ → List ℕ → VoucherFacts → Type 0
IsRecordFacts rrsets zone k records place rdata known =
    (ds : Ds) × IsDs rdata ds × AreVoucherFacts rrsets zone (number.Ds (record { rrset = k; place = place })) (by_digest records ds) known

-- all of them, from the place on
abbrev pub AreRecordFacts : List ReceivedRrset → Labels → ℕ → List Ds → ℕ → List (List ℕ) → List VoucherFacts → Type 0
AreRecordFacts rrsets zone k records place [] [] = Unit {0}
AreRecordFacts rrsets zone k records place [] (known ∷ facts) = ⊥
AreRecordFacts rrsets zone k records place (rdata ∷ others) [] = ⊥
AreRecordFacts rrsets zone k records place (rdata ∷ others) (known ∷ facts) =
    IsRecordFacts rrsets zone k records place rdata known × AreRecordFacts rrsets zone k records (place + 1) others facts

-- the facts are those of DS RRset k, which is one of the zone
pub record AreDsFacts (basis : Basis) (zone : Labels) (k : ℕ) (facts : DsFacts) : Type 0 where
  pub rrset : AreRrsetFacts basis k facts.rrset
  pub set : ReceivedRrset
  pub numbered : IsNumbered basis.rrsets k set
  pub records : List Ds
  pub read : AllZip IsDs set.rdata records
  pub canonical : List (List ℕ)
  pub in_order : IsCanonical set.rdata canonical
  pub each : AreRecordFacts basis.rrsets zone k records 1 canonical facts.records.items

-- of each DS RRset of the zone, by their numbers
abbrev pub AreAllDsFacts : Basis → Labels → List DsFacts → Type 0
AreAllDsFacts basis zone facts = AllZip (AreDsFacts basis zone) (numbers_at basis.rrsets zone 43) facts
