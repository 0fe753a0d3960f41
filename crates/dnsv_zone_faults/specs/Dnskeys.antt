-- What is so of a DNSKEY RRset and of the keys in it (RFC 4035 5.2, 5.3).
pub mod DnskeySearch
pub mod OwnSearch
pub mod PlaceSearch
use Rattle.std.specs.Prelude.{◌≡◌, ◌≢◌, ◌↔◌, ◌+◌, ℕ, IsTrue, List, [], ◌∷◌, Contains, map}
use Rattle.std.specs.List.{AllByRecursion, AllZip}
use Rattle.std.specs.List.Sorted.{IsStrictlyIncreasing}
use Rattle.dnsv_names.specs.Name.{Labels}
use Rattle.dnsv_records.specs.Dnskey.KeyTag.{key_tag_of}
use Rattle.dnsv_records.specs.declared.rrsig.Rrsig.{Rrsig}
use Rattle.dnsv_canonical.specs.Canonical.{IsCanonical}
use Rattle.dnsv_canonical.specs.Index.{numbers_at}
use Rattle.dnsv_canonical.specs.Rrsets.{IsNumbered, ReceivedRrset}
use Rattle.dnsv_verifier.specs.Admissible.{DnskeyRecord, IsGood}
use Rattle.dnsv_chain.specs.Trusted.{IsKeyOf, IsTrusted}
use Rattle.dnsv_chain.specs.Basis.{Basis}
use Rattle.dnsv_mending.specs.declared.facts.keys.DnskeyFacts.{DnskeyFacts}
use Rattle.dnsv_mending.specs.declared.facts.keys.HeldKey.{HeldKey}
use Rattle.dnsv_mending.specs.declared.facts.keys.SelfSignature.{SelfSignature}
use Rattle.dnsv_zone_keys.specs.Answers.{IsKeyAnswer}
use Rattle.dnsv_zone_keys.specs.Keys.{IsKeyPlaced, IsNamed, IsZoneKey}
use Rattle.dnsv_faults.specs.Signatures.{AreSignatureFaults, IsSignatureAt}

-- ---- the signatures of a key

-- the signature of the DNSKEY RRset is good under another key in it
pub record IsAnothers (basis : Basis) (set : ReceivedRrset) (rrsig : Rrsig) (key : DnskeyRecord) : Type 0 where
  pub other : DnskeyRecord
  pub stands : IsKeyOf set other
  pub another : other.rdata ≢ key.rdata
  pub good : IsGood basis.meaning basis.moment set rrsig other

-- it may be by the key in it: it has its tag and its algorithm, and isn't good under another
pub record MayBeBy (basis : Basis) (set : ReceivedRrset) (key : DnskeyRecord) (rrsig : Rrsig) : Type 0 where
  pub named : IsNamed rrsig key
  pub alone : ¬ IsAnothers basis set rrsig key

-- a signature of DNSKEY RRset k that may be by the key, with the answer under it
pub record IsOwnSignature (basis : Basis) (k : ℕ) (set : ReceivedRrset) (key : DnskeyRecord) (own : SelfSignature) : Type 0 where
  pub rrsig : Rrsig
  pub its : IsSignatureAt set own.number.signature rrsig
  pub rrset : own.number.rrset ≡ k
  pub may : MayBeBy basis set key rrsig
  pub faults : AreSignatureFaults basis.moment set rrsig own.faults
  pub answered : IsKeyAnswer basis.meaning basis.moment set rrsig key own.answer

abbrev pub signature_number : SelfSignature → ℕ
signature_number own = own.number.signature

-- just these, by their numbers
pub record AreOwnSignatures (basis : Basis) (k : ℕ) (set : ReceivedRrset) (key : DnskeyRecord) (own : List SelfSignature) : Type 0 where
  pub rising : IsStrictlyIncreasing (map signature_number own)
  pub each : AllByRecursion (IsOwnSignature basis k set key) own
  pub all : (s : ℕ) (rrsig : Rrsig) → IsSignatureAt set s rrsig → MayBeBy basis set key rrsig → Contains (map signature_number own) s

-- ---- the keys

-- a signature of the RRset names the key
pub record IsNamedIn (set : ReceivedRrset) (key : DnskeyRecord) : Type 0 where
  pub s : ℕ
  pub rrsig : Rrsig
  pub its : IsSignatureAt set s rrsig
  pub named : IsNamed rrsig key

-- the facts are those of the key in DNSKEY RRset k of the zone that has the RDATA, and the place in canonical order
pub record IsHeldKey (basis : Basis) (zone : Labels) (k : ℕ) (set : ReceivedRrset) (place : ℕ) (rdata : List ℕ) (held : HeldKey) : Type 0 where
  pub key : DnskeyRecord
  pub rdata_is : key.rdata ≡ rdata
  pub stands : IsKeyOf set key
  pub placed : IsKeyPlaced basis.rrsets zone held.key key
  pub number : held.number ≡ record { rrset = k; place = place }
  pub name : held.name ≡ record { tag = record { 0 = key_tag_of rdata }; algorithm = key.dnskey.algorithm }
  pub zone_key : IsTrue held.is_zone_key ↔ IsZoneKey key
  pub named : IsTrue held.is_named ↔ IsNamedIn set key
  pub signatures : AreOwnSignatures basis k set key held.signatures.items

-- those of all its keys, of which the first has the place
abbrev pub AreHeldKeys : Basis → Labels → ℕ → ReceivedRrset → ℕ → List (List ℕ) → List HeldKey → Type 0
AreHeldKeys basis zone k set place [] [] = Unit {0}
AreHeldKeys basis zone k set place [] (held ∷ others) = ⊥
AreHeldKeys basis zone k set place (rdata ∷ rest) [] = ⊥
AreHeldKeys basis zone k set place (rdata ∷ rest) (held ∷ others) =
    IsHeldKey basis zone k set place rdata held × AreHeldKeys basis zone k set (place + 1) rest others

-- ---- the RRset

-- the facts are those of DNSKEY RRset k, which is one of the zone
pub record AreDnskeyFacts (basis : Basis) (zone : Labels) (k : ℕ) (facts : DnskeyFacts) : Type 0 where
  pub set : ReceivedRrset
  pub numbered : IsNumbered basis.rrsets k set
  pub number : facts.number ≡ k
  pub trusted : IsTrue facts.is_trusted ↔ IsTrusted basis.meaning basis.moment basis.rrsets basis.anchors set
  pub signed : IsTrue facts.has_signatures ↔ (set.signatures ≢ [])
  pub canonical : List (List ℕ)
  pub in_order : IsCanonical set.rdata canonical
  pub keys : AreHeldKeys basis zone k set 1 canonical facts.keys.items

-- of each DNSKEY RRset of the zone, by their numbers
abbrev pub AreAllDnskeyFacts : Basis → Labels → List DnskeyFacts → Type 0
AreAllDnskeyFacts basis zone facts = AllZip (AreDnskeyFacts basis zone) (numbers_at basis.rrsets zone 48) facts
