-- How answers are looked for.
use Rattle.std.specs.Prelude.{◌≡◌, ℕ, Bool, true, false, List, Contains, Option, Some, None, map}
use Rattle.std.specs.List.Sorted.{IsStrictlyIncreasing}
use Rattle.dnsv_records.specs.declared.rrsig.Rrsig.{Rrsig}
use Rattle.dnsv_canonical.specs.Rrsets.{ReceivedRrset}
use Rattle.dnsv_canonical.specs.SignedData.{IsSignedData}
use Rattle.dnsv_verifier.specs.Admissible.{IsVerifiable}
use Rattle.dnsv_verifier.specs.declared.answer.Answer.{Answer}
use Rattle.dnsv_verifier.specs.declared.answer.Answer.TheVariants.{Valid, Invalid, Unknown}
use Rattle.dnsv_verifier.specs.declared.entry.Entry.{Entry}
use Rattle.dnsv_mending.specs.declared.facts.signature.KeyAnswer.{KeyAnswer}
use Rattle.dnsv_mending.specs.declared.facts.signature.KeyAnswer.TheVariants as said
use Rattle.dnsv_mending.specs.declared.facts.signature.NamedKey.{NamedKey}
use Rattle.dnsv_zone_keys.specs.Answers.{IsKeyAnswer}
use Rattle.dnsv_zone_keys.specs.Keys.Index.{Placed}
use Rattle.dnsv_zone_keys.specs.Keys.{IsZoneKey}

-- what a verifier may be asked of: what the signature signs, where it can be verified at the moment
abbrev pub IsAskedOf : ℕ → ReceivedRrset → Rrsig → Option (List ℕ) → Type 0
IsAskedOf moment rrset rrsig None = ¬ IsVerifiable moment rrset rrsig
IsAskedOf moment rrset rrsig (Some octets) =
    IsVerifiable moment rrset rrsig × IsSignedData rrset.owner rrset.rtype rrset.rdata rrsig (Some octets)

-- what an answer comes to
abbrev pub key_answer : Answer → KeyAnswer
key_answer Valid = said.Good
key_answer Invalid = said.Bad
key_answer Unknown = said.Unanswered

-- whether it is that the signature is good
abbrev pub is_good_answer : KeyAnswer → Bool
is_good_answer said.Good = true
is_good_answer said.Bad = false
is_good_answer said.Unanswered = false

-- a zone may sign with the key that is placed, and this is said of the signature under it
pub record IsSaidOf
    (meaning : Entry → Answer) (moment : ℕ) (rrset : ReceivedRrset) (rrsig : Rrsig) (placed : Placed) (named : NamedKey)
    : Type 0 where
  pub place : named.key ≡ placed.place
  pub zone_key : IsZoneKey placed.key
  pub answered : IsKeyAnswer meaning moment rrset rrsig placed.key named.answer

-- the new list has those of the old one by their numbers, of those with one number one
pub record ArePutInOrder {X : Type 0} (number : X → ℕ) (old new : List X) : Type 0 where
  pub rising : IsStrictlyIncreasing (map number new)
  pub kept : (x : X) → Contains new x → Contains old x
  pub all : (x : X) → Contains old x → Contains (map number new) (number x)
