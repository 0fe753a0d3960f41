-- What a chain's records say by their places, the evidence says by their numbers.
use Rattle.std.proofs.Common.{◌≡◌, ℕ, ◌-◌, List, length, drop, refl, ap, subst, arith}
use Rattle.dnsv_names.specs.Name.{Labels, rightmost}
use Rattle.dnsv_canonical.specs.Rrsets.{ReceivedRrset}
use Rattle.dnsv_denial.specs.proving.ChainOf.{IsChainOf, kind_of_records}
use Rattle.dnsv_proof_forms.specs.records.Numbers.{numbers_of}
use Rattle.dnsv_denial.specs.proving.ShownDenials.{kind_of}
use Rattle.dnsv_proof_forms.specs.words.ChainSaid.{chain_said}
use Rattle.dnsv_denial.specs.gathering.EvidenceWords.{Chain, evidence_said}
use Rattle.dnsv_denial.specs.gathering.EvidenceWords.Chain.{ByNsec, ByNsec3}
use Rattle.dnsv_proof_forms.specs.declared.records.chain_records.ChainRecords.{ChainRecords}
use Rattle.dnsv_proof_forms.specs.declared.records.chain_records.ChainRecords.TheVariants.{Nsec, Nsec3}
use Rattle.dnsv_denial.proofs.lemmas.gathering.AlikeLemmas.{in_order, nsec_alike, nsec3_alike}
use Rattle.dnsv_proof_forms.proofs.lemmas.words.IndexLemmas.{AreInOrder, SayAlike}

module _ (Secured : ℕ → ℕ → Type 0) (rrsets : List ReceivedRrset) (zone : Labels) where
  pub chain_order : (chain : Chain) (records : ChainRecords) → IsChainOf Secured rrsets zone chain records → AreInOrder (numbers_of records)
  chain_order ByNsec (Nsec entries) are = in_order (numbers_of (Nsec entries)) are.rising
  chain_order ByNsec (Nsec3 hashed) are = absurd are
  chain_order (ByNsec3 parameters) (Nsec entries) are = absurd are
  chain_order (ByNsec3 parameters) (Nsec3 hashed) are = in_order (numbers_of (Nsec3 hashed)) are.0.rising

  pub chain_alike : (chain : Chain) (records : ChainRecords) → IsChainOf Secured rrsets zone chain records
      → SayAlike (numbers_of records) (chain_said zone records) (evidence_said Secured rrsets zone chain)
  chain_alike ByNsec (Nsec entries) are = nsec_alike Secured rrsets zone entries.now are entries refl
  chain_alike ByNsec (Nsec3 hashed) are = absurd are
  chain_alike (ByNsec3 parameters) (Nsec entries) are = absurd are
  chain_alike (ByNsec3 parameters) (Nsec3 hashed) are =
      subst (λ p. SayAlike (numbers_of (Nsec3 hashed)) (chain_said zone (Nsec3 hashed)) (evidence_said Secured rrsets zone (ByNsec3 p))) are.1
      (nsec3_alike Secured rrsets zone hashed.now.entries.now are.0 hashed refl)

  -- the records are of the chain's kind
  pub chain_kinds : (chain : Chain) (records : ChainRecords) → IsChainOf Secured rrsets zone chain records → kind_of_records records ≡ kind_of chain
  chain_kinds ByNsec (Nsec entries) are = refl
  chain_kinds ByNsec (Nsec3 hashed) are = absurd are
  chain_kinds (ByNsec3 parameters) (Nsec entries) are = absurd are
  chain_kinds (ByNsec3 parameters) (Nsec3 hashed) are = refl

pub all_labels : (zone : Labels) → rightmost zone (length zone) ≡ zone
all_labels zone = let none : length zone - length zone ≡ 0 = omega arith in ap (λ n. drop n zone) none
