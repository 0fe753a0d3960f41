-- What is kept of trust: the trusted keys of each zone, and the signatures of each RRset that they make good.
use Rattle.std.specs.Prelude.{◌↔◌, ℕ, ◌-◌, ◌==◌, if◌then◌else◌, List, [], Contains, slice_index_or}
use Rattle.std.specs.List.{AllZip}
use Rattle.std.specs.List.Sorted.{IsStrictlyIncreasing, IsStrictlySortedBy}
use Rattle.std.specs.Map.{lookup}
use Rattle.std.specs.Option.{option_map_or}
use Rattle.dnsv_names.specs.Name.{Labels, same_name}
use Rattle.dnsv_records.specs.Dnskey.{IsDnskey}
use Rattle.dnsv_records.specs.declared.dnskey.Dnskey.{Dnskey}
use Rattle.dnsv_canonical.specs.Canonical.{rdata_cmp}
use Rattle.dnsv_canonical.specs.Rrsets.{ReceivedRrset}
use Rattle.dnsv_verifier.specs.declared.answer.Answer.{Answer}
use Rattle.dnsv_verifier.specs.declared.entry.Entry.{Entry}
use Rattle.dnsv_chain.specs.Trusted.{IsTrustedKey, IsSecured}
use Rattle.dnsv_anchors.specs.declared.anchor.Anchor.{Anchor}

-- the keys of each zone that has any, and for each RRset, in order, the numbers of signatures
pub record KeptTrust : Type 0 where
  pub zones : List (Labels × List Dnskey)
  pub signed : List (List ℕ)

-- the keys that are listed for the zone with the name: none where it isn't listed
abbrev pub keys_among : List (Labels × List Dnskey) → Labels → List Dnskey
keys_among zones name = option_map_or (λ keys. keys) (lookup (λ zone. same_name name zone) zones) []

-- the keys that are kept for the zone
abbrev pub keys_of : KeptTrust → Labels → List Dnskey
keys_of trust zone = keys_among trust.zones zone

-- the numbers that are kept for RRset k, where RRsets are numbered from 1 on: none where no RRset has the number
abbrev pub signed_of : KeptTrust → ℕ → List ℕ
signed_of trust k = if k == 0 then [] else slice_index_or trust.signed (k - 1) []

-- signature s of RRset k is secured, as the trust has it
abbrev pub SecuredIn : KeptTrust → ℕ → ℕ → Type 0
SecuredIn trust k s = Contains (signed_of trust k) s

-- the keys of the trusted sets at the zone, each once, in the order of their RDATA as unsigned octets
pub record AreTrustedKeys
    (meaning : Entry → Answer) (moment : ℕ) (rrsets : List ReceivedRrset) (anchors : List Anchor)
    (zone : Labels) (keys : List Dnskey) : Type 0 where
  pub rdata : List (List ℕ)
  pub read : AllZip IsDnskey rdata keys
  pub rising : IsStrictlySortedBy rdata_cmp rdata
  pub members : (octets : List ℕ)
      → Contains rdata octets ↔ IsTrustedKey meaning moment rrsets anchors zone octets

-- the numbers of the signatures of RRset k that are good under a key of a trusted set of the signer, rising
pub record AreSecured
    (meaning : Entry → Answer) (moment : ℕ) (rrsets : List ReceivedRrset) (anchors : List Anchor)
    (k : ℕ) (numbers : List ℕ) : Type 0 where
  pub rising : IsStrictlyIncreasing numbers
  pub members : (s : ℕ) → Contains numbers s ↔ IsSecured meaning moment rrsets anchors k s

-- what is kept is the trust of the evidence
pub record IsTrustOf
    (meaning : Entry → Answer) (moment : ℕ) (rrsets : List ReceivedRrset) (anchors : List Anchor)
    (trust : KeptTrust) : Type 0 where
  pub keys : (zone : Labels) → AreTrustedKeys meaning moment rrsets anchors zone (keys_of trust zone)
  pub signed : (k : ℕ) → AreSecured meaning moment rrsets anchors k (signed_of trust k)
