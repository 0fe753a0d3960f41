-- How the first key of a signature is looked for. No public clause cites this module.
use Rattle.std.specs.Prelude.{◌≡◌, ◌≢◌, ◌<◌, ◌≤◌, ◌⊎◌, ℕ, List, Option, Some, None}
use Rattle.std.specs.declared.cmp.Ordering.TheVariants.{Less}
use Rattle.dnsv_records.specs.Rrsig.{IsRrsig}
use Rattle.dnsv_records.specs.declared.rrsig.Rrsig.{Rrsig}
use Rattle.dnsv_canonical.specs.Canonical.{rdata_cmp}
use Rattle.dnsv_canonical.specs.Rrsets.{IsNumbered, ReceivedRrset}
use Rattle.dnsv_canonical.specs.SignedData.{IsSignedData}
use Rattle.dnsv_verifier.specs.Admissible.{DnskeyRecord, IsGood, IsVerifiable}
use Rattle.dnsv_verifier.specs.declared.answer.Answer.{Answer}
use Rattle.dnsv_verifier.specs.declared.entry.Entry.{Entry}
use Rattle.dnsv_chain.specs.Signing.{IsValidBy}
use Rattle.dnsv_chain.specs.Trusted.{IsKeyOf}
use Rattle.dnsv_derivations.specs.Explained.{IsTodo, Setting}
use Rattle.dnsv_derivations.specs.Following.{IsNamed}
use Rattle.dnsv_derivations.specs.derivations.NewKeys.{IsNewKey}
use Rattle.dnsv_derivations.specs.derivations.Ways.{IsSigner}
use Rattle.dnsv_canonical.specs.declared.number.SignatureNumber.{SignatureNumber}
use Rattle.dnsv_derivations.specs.declared.derivations.signers.Signer.{Signer}
use Rattle.dnsv_derivations.specs.declared.derivations.ways.kept.NewKey.{NewKey}

-- the signature with the number is this one
pub record IsSignatureAt (rrset : ReceivedRrset) (s : ℕ) (rrsig : Rrsig) : Type 0 where
  pub rdata : List ℕ
  pub is_signature : IsNumbered rrset.signatures s rdata
  pub read : IsRrsig rdata rrsig

-- some key might verify the signature of the RRset at the moment, and what it signs are the octets
pub record IsSignedOver (moment : ℕ) (rrset : ReceivedRrset) (rrsig : Rrsig) (octets : List ℕ) : Type 0 where
  pub verifiable : IsVerifiable moment rrset rrsig
  pub signs : IsSignedData rrset.owner rrset.rtype rrset.rdata rrsig (Some octets)

-- ---- keys by their places

-- the key stands in the RRset, and is this one
pub record IsKeyAt (set : ReceivedRrset) (new : NewKey) (key : DnskeyRecord) : Type 0 where
  pub stands : IsKeyOf set key
  pub is : IsNewKey set key.rdata new

-- it is this one, and the verifier calls the signature over the octets valid under it, or it doesn't
abbrev pub IsValidKey : (Entry → Answer) → Rrsig → List ℕ → ReceivedRrset → NewKey → Option DnskeyRecord → Type 0
IsValidKey meaning rrsig octets set new None = (key : DnskeyRecord) → IsKeyAt set new key → ¬ IsValidBy meaning rrsig octets key
IsValidKey meaning rrsig octets set new (Some found) =
    IsKeyOf set found × IsValidBy meaning rrsig octets found
    × ((key : DnskeyRecord) → IsKeyAt set new key → key.rdata ≡ found.rdata)

-- it is the lowest of those under the first n of the keys, or there is none
abbrev pub IsLowestValid : (Entry → Answer) → Rrsig → List ℕ → ReceivedRrset → List NewKey → ℕ → Option DnskeyRecord → Type 0
IsLowestValid meaning rrsig octets set keys n None =
    (i : ℕ) (new : NewKey) (key : DnskeyRecord) → i ≤ n → IsNumbered keys i new → IsKeyAt set new key
    → ¬ IsValidBy meaning rrsig octets key
IsLowestValid meaning rrsig octets set keys n (Some lowest) =
    IsKeyOf set lowest × IsValidBy meaning rrsig octets lowest
    × ((i : ℕ) (new : NewKey) (key : DnskeyRecord) → i ≤ n → IsNumbered keys i new → IsKeyAt set new key
    → IsValidBy meaning rrsig octets key → rdata_cmp key.rdata lowest.rdata ≢ Less)

-- ---- keys by their RRsets

-- it is this key of DNSKEY RRset k
pub record IsOfKey (k : ℕ) (key : DnskeyRecord) (signer : Signer) : Type 0 where
  pub set : signer.set ≡ k
  pub rdata : signer.rdata.now ≡ key.rdata
  pub named : IsNamed key signer.key

-- it is the lowest key of DNSKEY RRset k under which the signature of the RRset is good
pub record IsLowestGoodKey
    (setting : Setting) (rrset : ReceivedRrset) (rrsig : Rrsig) (k : ℕ) (set : ReceivedRrset) (signer : Signer) : Type 0 where
  pub key : DnskeyRecord
  pub of : IsOfKey k key signer
  pub stands : IsKeyOf set key
  pub good : IsGood setting.meaning setting.moment rrset rrsig key
  pub todo : IsTodo setting.todo good.entry signer.todo.0
  pub lowest : (other : DnskeyRecord) → IsKeyOf set other → IsGood setting.meaning setting.moment rrset rrsig other
      → rdata_cmp other.rdata key.rdata ≢ Less

-- it is good under a key of the same RDATA in an earlier trusted RRset
pub record IsKnownSigner (setting : Setting) (number : SignatureNumber) (k : ℕ) (key : DnskeyRecord) : Type 0 where
  pub set : ℕ
  pub other : DnskeyRecord
  pub earlier : set < k
  pub is : IsSigner setting number set other
  pub rdata : other.rdata ≡ key.rdata

-- it is the lowest of those that stand in DNSKEY RRset k, but for those that are known
pub record IsLowestIn (setting : Setting) (number : SignatureNumber) (k : ℕ) (signer : Signer) : Type 0 where
  pub key : DnskeyRecord
  pub of : IsOfKey k key signer
  pub is : IsSigner setting number k key
  pub todo : IsTodo setting.todo is.good.good.entry signer.todo.0
  pub lowest : (other : DnskeyRecord) → IsSigner setting number k other
      → (rdata_cmp other.rdata key.rdata ≢ Less) ⊎ IsKnownSigner setting number k other

-- or there is none in it
abbrev pub IsLowestOf : Setting → SignatureNumber → ℕ → Option Signer → Type 0
IsLowestOf setting number k None = (other : DnskeyRecord) → IsSigner setting number k other → IsKnownSigner setting number k other
IsLowestOf setting number k (Some signer) = IsLowestIn setting number k signer

-- it is the first of those of the RRsets up to the number
pub record IsFirstAmong (setting : Setting) (number : SignatureNumber) (n : ℕ) (signer : Signer) : Type 0 where
  pub key : DnskeyRecord
  pub of : IsOfKey signer.set key signer
  pub is : IsSigner setting number signer.set key
  pub todo : IsTodo setting.todo is.good.good.entry signer.todo.0
  pub within : signer.set ≤ n
  pub lowest : (k : ℕ) (other : DnskeyRecord) → k ≤ n → IsSigner setting number k other
      → rdata_cmp other.rdata key.rdata ≢ Less
  pub earliest : (k : ℕ) (other : DnskeyRecord) → k ≤ n → IsSigner setting number k other
      → other.rdata ≡ key.rdata → signer.set ≤ k

-- or there is none
abbrev pub IsFirstTo : Setting → SignatureNumber → ℕ → Option Signer → Type 0
IsFirstTo setting number n None = (k : ℕ) (other : DnskeyRecord) → k ≤ n → ¬ IsSigner setting number k other
IsFirstTo setting number n (Some signer) = IsFirstAmong setting number n signer
