-- Entries by the numbers of their parts. No public clause cites this module.
use Rattle.std.specs.Prelude.{◌≡◌, ◌<◌, ◌^◌, ◌&&◌, ℕ, Bool, nat_lt, List, [], Contains, length, map, unwrap_or}
use lib.ListN.{get_or}
use Rattle.std.specs.List.Sorted.{IsStrictlySortedBy}
use Rattle.std.specs.Map.{lookup}
use Rattle.std.specs.Ordering.{is_eq, nat_cmp, ordering_then}
use Rattle.std.specs.declared.cmp.Ordering.{Ordering}
use Rattle.std.specs.declared.cmp.Ordering.TheVariants.{Equal}
use Rattle.dnsv_names.specs.Octets.{number_at, octets_cmp}
use Rattle.dnsv_records.specs.Rrsig.Time.{seconds_on}
use Rattle.dnsv_records.specs.declared.rrsig.Rrsig.{Rrsig}
use Rattle.dnsv_canonical.specs.Rrsets.{ReceivedRrset}
use Rattle.dnsv_canonical.specs.declared.number.SignatureNumber.{SignatureNumber}
use Rattle.dnsv_verifier.specs.Admissible.{DnskeyRecord}
use Rattle.dnsv_verifier.specs.Asking.{CanSign, ComesOfSome, IsPartOf, MadeSignature, NumberedName, key_name_cmp, name_of_key, named_by}
use Rattle.dnsv_verifier.specs.Table.{HasNumber}
use Rattle.dnsv_verifier.specs.declared.answer.Answer.{Answer}
use Rattle.dnsv_verifier.specs.declared.answer.Answer.TheVariants.{Unknown}
use Rattle.dnsv_verifier.specs.declared.entry.Entry.{Entry}
use Rattle.dnsv_verifier.specs.declared.entry.parts.EntryNumbers.{EntryNumbers}
use Rattle.dnsv_verifier.specs.declared.entry.parts.KeyPart.{KeyPart}
use Rattle.dnsv_verifier.specs.declared.entry.parts.SignaturePart.{SignaturePart}
use Rattle.dnsv_verifier.specs.declared.table.place.SignaturePlace.{SignaturePlace}

-- by algorithm and key
abbrev pub key_cmp : KeyPart → KeyPart → Ordering
key_cmp a b = ordering_then (nat_cmp a.algorithm.0 b.algorithm.0) (octets_cmp a.key b.key)

-- by signed data and signature
abbrev pub signature_cmp : SignaturePart → SignaturePart → Ordering
signature_cmp a b = ordering_then (octets_cmp a.signed_data b.signed_data) (octets_cmp a.signature b.signature)

-- by the key's number and the signature's
abbrev pub numbers_cmp : EntryNumbers → EntryNumbers → Ordering
numbers_cmp a b = ordering_then (nat_cmp a.key b.key) (nat_cmp a.signature b.signature)

-- by the number of the RRset and the signature's
abbrev pub signature_number_cmp : SignatureNumber → SignatureNumber → Ordering
signature_number_cmp a b = ordering_then (nat_cmp a.rrset b.rrset) (nat_cmp a.signature b.signature)

-- the keys and the signatures that entries are made of
pub record PartLists : Type 0 where
  pub keys : List KeyPart
  pub signatures : List SignaturePart

-- the key at the place, and one without octets where none is
abbrev pub key_of : PartLists → ℕ → KeyPart
key_of parts place = get_or parts.keys place (record { algorithm = record { 0 = 0 }; key = [] })

-- the same of signatures
abbrev pub signature_of : PartLists → ℕ → SignaturePart
signature_of parts place = get_or parts.signatures place (record { signed_data = []; signature = [] })

-- the entry of the key and the signature with these numbers
abbrev pub entry_of : PartLists → EntryNumbers → Entry
entry_of parts numbers =
    let key = key_of parts numbers.key in
    let signature = signature_of parts numbers.signature in
    record {
      algorithm = key.algorithm;
      key = key.key;
      signed_data = signature.signed_data;
      signature = signature.signature;
    }

-- the numbers are of a key and a signature
pub record AreOfParts (parts : PartLists) (numbers : EntryNumbers) : Type 0 where
  pub key : numbers.key < length parts.keys
  pub signature : numbers.signature < length parts.signatures

-- each of the numbers is of parts
abbrev pub AllOfParts : PartLists → List EntryNumbers → Type 0
AllOfParts parts numbers = (each : EntryNumbers) → Contains numbers each → AreOfParts parts each

-- The numbers rise, each of parts, and so do the parts: then entries rise as their numbers do.
pub record AreRising (parts : PartLists) (numbers : List EntryNumbers) : Type 0 where
  pub keys : IsStrictlySortedBy key_cmp parts.keys
  pub signatures : IsStrictlySortedBy signature_cmp parts.signatures
  pub within : AllOfParts parts numbers
  pub rising : IsStrictlySortedBy numbers_cmp numbers

-- the numbers are those of the entry
pub record AreNumbersOf (parts : PartLists) (entry : Entry) (numbers : EntryNumbers) : Type 0 where
  pub within : AreOfParts parts numbers
  pub is : entry_of parts numbers ≡ entry

-- the entries with their answers
abbrev pub answers_of : PartLists → List (EntryNumbers × Answer) → List (Entry × Answer)
answers_of parts answers = map (λ each. (entry_of parts each.0, each.1)) answers

-- the answer that is listed for the numbers, Unknown where none is
abbrev pub listed_answer : List (EntryNumbers × Answer) → EntryNumbers → Answer
listed_answer answers numbers = unwrap_or (lookup (λ each. is_eq (numbers_cmp numbers each)) answers) Unknown

-- whether the signature of the entry is valid at the moment, by what its signed data begins with
abbrev pub is_timely : ℕ → Entry → Bool
is_timely moment entry =
    nat_lt 15 (length entry.signed_data)
    && nat_lt (seconds_on (number_at entry.signed_data 12 4) moment) (2 ^ 31)
    && nat_lt (seconds_on moment (number_at entry.signed_data 8 4)) (2 ^ 31)

-- the same of an entry by its numbers
abbrev pub is_timely_in : ℕ → PartLists → EntryNumbers × Answer → Bool
is_timely_in moment parts each = is_timely moment (entry_of parts each.0)

-- what a key gives to its entries
abbrev pub part_of_key : DnskeyRecord → KeyPart
part_of_key key = record { algorithm = key.dnskey.algorithm; key = key.dnskey.key }

-- the key can sign, and has this name and the number of its part
pub record IsNumberedKey (parts : PartLists) (key : DnskeyRecord) (each : NumberedName) : Type 0 where
  pub signs : CanSign key
  pub same : each.name ≡ name_of_key key
  pub value : key_of parts each.number ≡ part_of_key key
  pub within : each.number < length parts.keys

-- the signature names keys by this name, and has the number of its part
pub record IsNumberedSignature (parts : PartLists) (made : MadeSignature) (each : NumberedName) : Type 0 where
  pub same : each.name ≡ named_by made.rrsig
  pub value : signature_of parts each.number ≡ made.part
  pub within : each.number < length parts.signatures

-- the pair of the key with the number and the signature
abbrev pub IsPairOf : ℕ → NumberedName → EntryNumbers → Type 0
IsPairOf key signature pair = pair ≡ record { key = key; signature = signature.number }

-- the same, where the signature names the key
pub record IsPairBy (key signature : NumberedName) (pair : EntryNumbers) : Type 0 where
  pub named : key_name_cmp signature.name key.name ≡ Equal
  pub is : IsPairOf key.number signature pair

-- the pair is that of the key and one of the signatures that name it
abbrev pub IsPairIn : List NumberedName → NumberedName → EntryNumbers → Type 0
IsPairIn signatures key pair = ComesOfSome (IsPairBy key) signatures pair

-- the number is that of what the signature gives to its entries
pub record IsPartNumber (parts : PartLists) (made : MadeSignature) (number : ℕ) : Type 0 where
  pub value : signature_of parts number ≡ made.part
  pub within : number < length parts.signatures

-- the signature with its numbers in the evidence, and the number of what it gives to its entries
pub record IsPlaceOf (rrsets : List ReceivedRrset) (parts : PartLists) (place : SignaturePlace) : Type 0 where
  pub rrset : ReceivedRrset
  pub rrsig : Rrsig
  pub has_number : HasNumber rrsets place.number rrset rrsig
  pub algorithm : place.algorithm ≡ rrsig.algorithm
  pub part_of : IsPartOf rrset rrsig (signature_of parts place.part)
  pub within : place.part < length parts.signatures

-- so it is with each
abbrev pub ArePlaces : List ReceivedRrset → PartLists → List SignaturePlace → Type 0
ArePlaces rrsets parts places = (place : SignaturePlace) → Contains places place → IsPlaceOf rrsets parts place
