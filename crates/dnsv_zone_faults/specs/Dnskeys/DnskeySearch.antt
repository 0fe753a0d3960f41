-- How the facts of DNSKEY RRsets are looked for. No public clause cites this module.
use Rattle.std.specs.Prelude.{◌≡◌, ◌⊎◌, ◌++◌, ◌∷◌, [], ℕ, IsSortedByKey, IsTrue, List, Contains, length, map}
use Rattle.std.specs.List.{AllByRecursion}
use Rattle.std.specs.Option.{option_map}
use Rattle.dnsv_names.specs.Name.{Labels, SameName}
use Rattle.dnsv_records.specs.Algorithm.{is_supported}
use Rattle.dnsv_records.specs.declared.rrsig.Rrsig.{Rrsig}
use Rattle.dnsv_canonical.specs.Canonical.{IsCanonical, rdata_cmp}
use Rattle.dnsv_canonical.specs.Rrsets.{IsNumbered, ReceivedRrset}
use Rattle.dnsv_chain.specs.Anchor.{HasAnchorMatch}
use Rattle.dnsv_chain.specs.Trusted.{DelegatesTo, IsKeyOf, IsSignedUnder, IsTrusted}
use Rattle.dnsv_verifier.specs.Admissible.{DnskeyRecord, IsGood}
use Rattle.dnsv_chain.specs.Basis.{CaseContents, basis_by, Basis}
use Rattle.dnsv_mending.specs.declared.facts.keys.DnskeyFacts.{DnskeyFacts}
use Rattle.dnsv_mending.specs.declared.facts.keys.SelfSignature.{SelfSignature}
use Rattle.dnsv_zone_keys.specs.Answers.AnswerSearch.{IsAskedOf}
use Rattle.dnsv_zone_faults.specs.Dnskeys.{AreDnskeyFacts, IsOwnSignature}
use Rattle.dnsv_zone_faults.specs.Dnskeys.OwnSearch.{IsSigning}
use Rattle.dnsv_zone_keys.specs.Keys.{AreZoneKeys, IsKeyPlaced}
use Rattle.dnsv_zone_keys.specs.Keys.Index.{Placed}
use Rattle.dnsv_faults.specs.Signatures.{IsSignatureAt}
use Rattle.dnsv_zone_keys.specs.Vouchers.VoucherSearch.{AreKeysOfZone, ArePlacesOf}
use Rattle.dnsv_zone_faults.specs.declared.zone.dnskeys.tagged.OwnSignature.{OwnSignature}
use Rattle.dnsv_zone_faults.specs.declared.zone.dnskeys.set.KeyedSet.{KeyedSet}
use Rattle.dnsv_zone_faults.specs.declared.zone.keyed.KeyedZone.{KeyedZone}

abbrev pub rdata_of : Placed → List ℕ
rdata_of placed = placed.key.rdata

-- ---- what vouches for a key

-- a DS RRset that is signed by a trusted key delegates to it
pub record IsDelegatedTo (basis : Basis) (key : DnskeyRecord) : Type 0 where
  pub parent : ReceivedRrset
  pub above : DnskeyRecord
  pub ds : ReceivedRrset
  pub trusted : IsTrusted basis.meaning basis.moment basis.rrsets basis.anchors parent
  pub stands : IsKeyOf parent above
  pub among : Contains basis.rrsets ds
  pub signed : IsSignedUnder basis.meaning basis.moment ds above
  pub to : DelegatesTo ds key

-- or an anchor matches it
abbrev pub IsVouchedFor : Basis → DnskeyRecord → Type 0
IsVouchedFor basis key = HasAnchorMatch basis.anchors key ⊎ IsDelegatedTo basis key

-- the places of such keys of the zone, as far as their algorithm is supported
pub record AreVouched (basis : Basis) (zone : Labels) (vouched : List ℕ) : Type 0 where
  pub only : (place : ℕ) (key : DnskeyRecord) → IsKeyPlaced basis.rrsets zone place key → Contains vouched place → IsVouchedFor basis key
  pub all : (place : ℕ) (key : DnskeyRecord) → IsKeyPlaced basis.rrsets zone place key → IsTrue (is_supported key.dnskey.algorithm.0)
      → IsVouchedFor basis key → Contains vouched place

-- what its facts are found by
abbrev pub basis_in : KeyedZone → Basis
basis_in keyed = basis_by keyed.facts.now

-- the zone has these keys, by their RDATA, and this vouches for them
pub record AreKeyed (keyed : KeyedZone) : Type 0 where
  pub keys : AreKeysOfZone keyed.facts.now.rrsets keyed.zone.now keyed.keys.items
  pub all : List (List ℕ)
  pub are : AreZoneKeys keyed.facts.now.rrsets keyed.zone.now all
  pub count : length keyed.keys.items ≡ length all
  pub sorted : IsSortedByKey rdata_of rdata_cmp keyed.keys.items
  pub vouched : AreVouched (basis_in keyed) keyed.zone.now keyed.vouched

-- it is this zone in this case
pub record IsKeyedFor (case : CaseContents) (name : Labels) (keyed : KeyedZone) : Type 0 where
  pub facts : keyed.facts.now ≡ case
  pub zone : keyed.zone.now ≡ name
  pub are : AreKeyed keyed

-- ---- the keys in a DNSKEY RRset

-- the RRset is DNSKEY RRset k of the zone
pub record IsSetOf (rrsets : List ReceivedRrset) (zone : Labels) (k : ℕ) (set : ReceivedRrset) : Type 0 where
  pub numbered : IsNumbered rrsets k set
  pub owner : SameName set.owner zone
  pub rtype : set.rtype ≡ 48

-- it is one with some number
abbrev pub IsSomeSet : List ReceivedRrset → Labels → ReceivedRrset → Type 0
IsSomeSet rrsets zone set = (k : ℕ) × IsSetOf rrsets zone k set

-- some RRset with the number is
abbrev pub IsSetNumber : List ReceivedRrset → Labels → ℕ → Type 0
IsSetNumber rrsets zone k = (set : ReceivedRrset) × IsSetOf rrsets zone k set

-- a key in it, with its place among those of the zone
pub record IsKeyIn (rrsets : List ReceivedRrset) (zone : Labels) (set : ReceivedRrset) (placed : Placed) : Type 0 where
  pub at : IsKeyPlaced rrsets zone placed.place placed.key
  pub stands : IsKeyOf set placed.key

-- all of them in canonical order
pub record AreKeysIn (rrsets : List ReceivedRrset) (zone : Labels) (set : ReceivedRrset) (keys : List Placed) : Type 0 where
  pub in_order : IsCanonical set.rdata (map rdata_of keys)
  pub sorted : IsSortedByKey rdata_of rdata_cmp keys
  pub each : AllByRecursion (IsKeyIn rrsets zone set) keys

-- keys of one RDATA are one
abbrev pub AreKeyRecords : List Placed → Type 0
AreKeyRecords keys = (a b : Placed) → Contains keys a → Contains keys b → a.key.rdata ≡ b.key.rdata → a ≡ b

-- ---- its signatures

-- the signature, what a verifier may be asked of, and the places of the keys in the RRset under which it is good
pub record IsOwn (basis : Basis) (set : ReceivedRrset) (keys : List Placed) (own : OwnSignature) : Type 0 where
  pub its : IsSignatureAt set own.number own.rrsig.now
  pub asked : IsAskedOf basis.moment set own.rrsig.now (option_map (λ each. each.items) own.octets)
  pub good : ArePlacesOf keys (IsGood basis.meaning basis.moment set own.rrsig.now) own.good

-- it is kept
pub record HasOwn (owns : List OwnSignature) (s : ℕ) (rrsig : Rrsig) : Type 0 where
  pub own : OwnSignature
  pub among : Contains owns own
  pub number : own.number ≡ s
  pub is : own.rrsig.now ≡ rrsig

-- all of them
pub record AreOwn (basis : Basis) (set : ReceivedRrset) (keys : List Placed) (owns : List OwnSignature) : Type 0 where
  pub each : (own : OwnSignature) → Contains owns own → IsOwn basis set keys own
  pub all : (s : ℕ) (rrsig : Rrsig) → IsSignatureAt set s rrsig → HasOwn owns s rrsig

-- the RRset is one of the zone, and these are its keys and its signatures
pub record IsKeyedSet (set : KeyedSet) : Type 0 where
  pub keyed : AreKeyed set.keyed.now
  pub is : IsSetOf set.keyed.now.facts.now.rrsets set.keyed.now.zone.now set.number set.rrset.now
  pub keys : AreKeysIn set.keyed.now.facts.now.rrsets set.keyed.now.zone.now set.rrset.now set.keys.items
  pub own : AreOwn (basis_in set.keyed.now) set.rrset.now set.keys.items set.own

-- it is that with the number
pub record IsKeyedSetFor (its : KeyedZone) (k : ℕ) (received : ReceivedRrset) (set : KeyedSet) : Type 0 where
  pub keyed : set.keyed.now ≡ its
  pub number : set.number ≡ k
  pub rrset : set.rrset.now ≡ received
  pub is : IsKeyedSet set

-- what its facts are found by
abbrev pub basis_of_set : KeyedSet → Basis
basis_of_set set = basis_in set.keyed.now

-- the key is vouched for, and signs the RRset
pub record IsTrusting (vouched : List ℕ) (owns : List OwnSignature) (placed : Placed) : Type 0 where
  pub vouched_for : Contains vouched placed.place
  pub signs : IsSigning owns placed

pub record HasTrusting (vouched : List ℕ) (owns : List OwnSignature) (keys : List Placed) : Type 0 where
  pub placed : Placed
  pub among : Contains keys placed
  pub is : IsTrusting vouched owns placed

-- the signature is that with the number
pub record IsOwnOf (basis : Basis) (set : ReceivedRrset) (keys : List Placed) (s : ℕ) (rrsig : Rrsig) (found : OwnSignature) : Type 0 where
  pub number : found.number ≡ s
  pub is : found.rrsig.now ≡ rrsig
  pub own : IsOwn basis set keys found

-- a place of a key in the RRset that is such, and has the RDATA of the one that is named
pub record IsFoundPlace (keys : List Placed) (Such : DnskeyRecord → Type 0) (named : Placed) (place : ℕ) : Type 0 where
  pub own : Placed
  pub among : Contains keys own
  pub rdata : own.key.rdata ≡ named.key.rdata
  pub such : Such own.key
  pub is : place ≡ own.place

-- there is such a key
pub record HasFound (keys : List Placed) (Such : DnskeyRecord → Type 0) (named : Placed) : Type 0 where
  pub own : Placed
  pub among : Contains keys own
  pub rdata : own.key.rdata ≡ named.key.rdata
  pub such : Such own.key

-- ---- what is found

-- what is so of a signature under the key
pub record IsSelfOf (basis : Basis) (k : ℕ) (set : ReceivedRrset) (key : DnskeyRecord) (own : OwnSignature) (found : SelfSignature) : Type 0 where
  pub number : found.number.signature ≡ own.number
  pub is : IsOwnSignature basis k set key found

-- what is so of a DNSKEY RRset is added
pub record AddsDnskey (basis : Basis) (zone : Labels) (k : ℕ) (old new : List DnskeyFacts) : Type 0 where
  pub known : DnskeyFacts
  pub is : AreDnskeyFacts basis zone k known
  pub added : new ≡ old ++ known ∷ []
