-- Signatures that are good under some keys. No public clause cites this module.
use Rattle.std.specs.Prelude.{◌≡◌, ◌≤◌, ◌↔◌, ℕ, List, Contains}
use Rattle.std.specs.List.Sorted.{IsStrictlyIncreasing}
use Rattle.dnsv_names.specs.Name.{Labels}
use Rattle.dnsv_records.specs.Rrsig.{IsRrsig}
use Rattle.dnsv_records.specs.declared.rrsig.Rrsig.{Rrsig}
use Rattle.dnsv_canonical.specs.Rrsets.{IsNumbered, ReceivedRrset}
use Rattle.dnsv_verifier.specs.Admissible.{DnskeyRecord, IsGood, MayHaveMade, entry_over}
use Rattle.dnsv_verifier.specs.declared.answer.Answer.{Answer}
use Rattle.dnsv_verifier.specs.declared.answer.Answer.TheVariants.{Valid}
use Rattle.dnsv_verifier.specs.declared.entry.Entry.{Entry}
use Rattle.dnsv_chain.specs.Trusted.{IsSignedUnder}
use Rattle.dnsv_chain.specs.declared.signing.answered.AnsweredRrset.{AnsweredRrset}

-- the RRset is the one with its number in the table's evidence
abbrev pub IsOfTable : AnsweredRrset → Type 0
IsOfTable answered = IsNumbered answered.table.now.rrsets answered.number answered.rrset.now

-- the signature has the number in the RRset
abbrev pub IsSignatureAt : ReceivedRrset → ℕ → Rrsig → Type 0
IsSignatureAt rrset number rrsig = (rdata : List ℕ) × IsNumbered rrset.signatures number rdata × IsRrsig rdata rrsig

-- one of the keys may have made the signature
pub record MayHaveMadeOne (keys : List DnskeyRecord) (rrsig : Rrsig) : Type 0 where
  pub key : DnskeyRecord
  pub among : Contains keys key
  pub made : MayHaveMade key rrsig

-- the key may have made the signature, and the verifier says Valid of it over the octets
pub record IsValidBy (meaning : Entry → Answer) (rrsig : Rrsig) (octets : List ℕ) (key : DnskeyRecord) : Type 0 where
  pub made : MayHaveMade key rrsig
  pub valid : meaning (entry_over rrsig octets key) ≡ Valid

-- the signature is good under one of the keys
pub record IsGoodUnderSome
    (meaning : Entry → Answer) (moment : ℕ) (rrset : ReceivedRrset) (rrsig : Rrsig) (keys : List DnskeyRecord)
    : Type 0 where
  pub key : DnskeyRecord
  pub among : Contains keys key
  pub good : IsGood meaning moment rrset rrsig key

-- the RRset has a signature that is good under one of the keys
pub record IsSignedUnderSome
    (meaning : Entry → Answer) (moment : ℕ) (rrset : ReceivedRrset) (keys : List DnskeyRecord) : Type 0 where
  pub key : DnskeyRecord
  pub among : Contains keys key
  pub signed : IsSignedUnder meaning moment rrset key

-- the signature with the number is good under one of its signer's keys
pub record IsGoodNumber
    (meaning : Entry → Answer) (moment : ℕ) (rrset : ReceivedRrset) (keys : Labels → List DnskeyRecord) (s : ℕ)
    : Type 0 where
  pub rdata : List ℕ
  pub signature : IsNumbered rrset.signatures s rdata
  pub rrsig : Rrsig
  pub is : IsRrsig rdata rrsig
  pub good : IsGoodUnderSome meaning moment rrset rrsig (keys rrsig.signer)

-- just those numbers, rising
pub record AreGoodNumbers
    (meaning : Entry → Answer) (moment : ℕ) (rrset : ReceivedRrset) (keys : Labels → List DnskeyRecord)
    (numbers : List ℕ) : Type 0 where
  pub rising : IsStrictlyIncreasing numbers
  pub members : (s : ℕ) → Contains numbers s ↔ IsGoodNumber meaning moment rrset keys s

-- of the first so many signatures
pub record AreGoodNumbersTo
    (meaning : Entry → Answer) (moment : ℕ) (rrset : ReceivedRrset) (keys : Labels → List DnskeyRecord) (count : ℕ)
    (numbers : List ℕ) : Type 0 where
  pub rising : IsStrictlyIncreasing numbers
  pub members : (s : ℕ) → Contains numbers s ↔ (IsGoodNumber meaning moment rrset keys s × (s ≤ count))
