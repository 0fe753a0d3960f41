-- Opt-Out against an answer from a wildcard, chain by chain, in a zone however it is spelled.
use Rattle.std.proofs.Common.{◌≡◌, ℕ, ◌+◌, ◌≤◌, List, length, get_or, refl, sym, ap, ◌∙◌, subst, arith}
use Rattle.std.specs.Prelude.{Some, slice_get}
use Rattle.std.proofs.lemmas.Option.{slice_get_read}
use Rattle.dnsv_names.specs.Name.{Labels, SameName, IsAtOrBelow, rightmost}
use Rattle.dnsv_names.specs.Tree.AncestorLaws.{rightmost_above, rightmost_same}
use Rattle.dnsv_names.specs.Tree.TreeLaws.{at_or_below_length, at_or_below_trans}
use Rattle.dnsv_zones.specs.forms.Parts.{OptsOutNextCloser}
use Rattle.dnsv_zones.specs.forms.RecordWords.{RecordWords}
use Rattle.dnsv_canonical.specs.Rrsets.{ReceivedRrset}
use Rattle.dnsv_denial.specs.gathering.Kept.{AreSets, AreZones, IsZoneOf}
use Rattle.dnsv_denial.specs.proving.ChainOf.{IsChainOf}
use Rattle.dnsv_proof_forms.specs.records.Numbers.{numbers_of}
use Rattle.dnsv_denial.specs.proving.ZoneChains.{chains_of}
use Rattle.dnsv_denial.specs.unsigned_cuts.Cuts.{HasOptedOutNextCloser}
use Rattle.dnsv_denial.specs.unsigned_cuts.ShownCuts.{OptsOutNextCloserOf}
use Rattle.dnsv_proof_forms.specs.words.ChainSaid.{chain_said}
use Rattle.dnsv_denial.specs.gathering.EvidenceWords.{Chain, evidence_said}
use Rattle.dnsv_denial.specs.gathering.EvidenceWords.Chain.{ByNsec, ByNsec3}
use Rattle.dnsv_canonical.specs.declared.number.RecordNumber.{RecordNumber}
use Rattle.dnsv_proof_forms.specs.declared.records.chain_records.ChainRecords.{ChainRecords}
use Rattle.dnsv_proof_forms.specs.declared.records.name_hashes.NameHashes.{NameHashes}
use Rattle.dnsv_denial.specs.declared.gathering.zone_records.ZoneRecords.{ZoneRecords}
use Rattle.dnsv_denial.proofs.lemmas.proving.ChainProofLemmas.{chain_alike}
use Rattle.dnsv_denial.proofs.lemmas.proving.ZoneChainLemmas.{HasOneOf, number_of}
use Rattle.dnsv_denial.proofs.lemmas.proving.RespelledZoneLemmas.{above_as, opted_out_as}
use Rattle.dnsv_proof_forms.proofs.lemmas.words.IndexLemmas.{SayAlike}

-- ---- by places and by numbers

module _ (numbers : List RecordNumber) (by : RecordWords ℕ) (of : RecordWords RecordNumber) (alike : SayAlike numbers by of) (zone name : Labels) (labels : ℕ) where
  pub leaves_to : OptsOutNextCloser by zone name labels → OptsOutNextCloser of zone name labels
  leaves_to leaves = let it = (alike.opted_out (rightmost name (labels + 1))).to leaves.opted_out.0 leaves.opted_out.1 in
      record { above = leaves.above; opted_out = (it.0, it.2) }

  pub leaves_from : OptsOutNextCloser of zone name labels → OptsOutNextCloser by zone name labels
  leaves_from leaves = let it = (alike.opted_out (rightmost name (labels + 1))).from leaves.opted_out.0 leaves.opted_out.1 in
      record { above = leaves.above; opted_out = (it.0, it.2) }

pub chain_leaves : (Secured : ℕ → ℕ → Type 0) (rrsets : List ReceivedRrset) (name zone : Labels) (labels : ℕ) (chain : Chain) (records : ChainRecords) (Test : Type 0)
    → IsChainOf Secured rrsets zone chain records → (Test → OptsOutNextCloser (chain_said zone records) zone name labels) → (OptsOutNextCloser (chain_said zone records) zone name labels → Test)
    → (Test → OptsOutNextCloserOf Secured rrsets name labels zone chain) × (OptsOutNextCloserOf Secured rrsets name labels zone chain → Test)
chain_leaves Secured rrsets name zone labels chain records Test are to from =
    let alike = chain_alike Secured rrsets zone chain records are in (
      λ test. leaves_to (numbers_of records) (chain_said zone records) (evidence_said Secured rrsets zone chain) alike zone name labels (to test),
      λ leaves. from (leaves_from (numbers_of records) (chain_said zone records) (evidence_said Secured rrsets zone chain) alike zone name labels leaves),
    )

-- ---- a zone

module _ (Secured : ℕ → ℕ → Type 0) (rrsets : List ReceivedRrset) (name zone : Labels) (labels : ℕ) (sets : List NameHashes) where
  pub opt_out_by_chain : (chain : Chain) → OptsOutNextCloserOf Secured rrsets name labels zone chain → HasOptedOutNextCloser Secured rrsets name labels zone
  opt_out_by_chain chain leaves = record {
    above = leaves.above;
    chain = chain;
    covering = leaves.opted_out.0;
    opted_out = leaves.opted_out.1;
  }

  opt_out_has_one : (chain : Chain) (n : RecordNumber) (x : Labels) → (evidence_said Secured rrsets zone chain).OptedOut x n → HasOneOf Secured rrsets zone chain
  opt_out_has_one ByNsec n x said = tt
  opt_out_has_one (ByNsec3 parameters) n x said = record { number = n; nsec3 = said.0; is = said.1; same = said.2.0.same_parameters }

  pub none_opt_out : AreSets Secured rrsets sets
      → ((k : ℕ) (chain : Chain) → slice_get (chains_of sets) k ≡ Some chain → ¬ OptsOutNextCloserOf Secured rrsets name labels zone chain)
      → ¬ HasOptedOutNextCloser Secured rrsets name labels zone
  none_opt_out are none has =
      let it = number_of Secured rrsets zone sets are has.chain (opt_out_has_one has.chain has.covering (rightmost name (labels + 1)) has.opted_out) in
      none it.0 has.chain it.1 (record { above = has.above; opted_out = (has.covering, has.opted_out) })

-- ---- a zone of the same name

opt_out_as : (Secured : ℕ → ℕ → Type 0) (rrsets : List ReceivedRrset) (name : Labels) (labels : ℕ) (a b : Labels) → SameName a b
    → HasOptedOutNextCloser Secured rrsets name labels a → HasOptedOutNextCloser Secured rrsets name labels b
opt_out_as Secured rrsets name labels a b same has = record {
  above = above_as Secured rrsets name labels a b same has.above;
  chain = has.chain;
  covering = has.covering;
  opted_out = opted_out_as Secured rrsets name labels a b same has.chain (rightmost name (labels + 1)) has.covering has.opted_out;
}

pub opt_out_within : (Secured : ℕ → ℕ → Type 0) (rrsets : List ReceivedRrset) (name : Labels) (labels : ℕ) (zone : Labels)
    → HasOptedOutNextCloser Secured rrsets name labels zone → IsAtOrBelow name zone
opt_out_within Secured rrsets name labels zone has = at_or_below_trans name (rightmost name labels) zone (rightmost_above name labels) has.above.within

-- the kept zone of so many labels serves for the zone
module _ (Secured : ℕ → ℕ → Type 0) (rrsets : List ReceivedRrset) (name : Labels) (labels : ℕ) (zone kept : Labels) (is : kept ≡ rightmost name (length zone)) (below : IsAtOrBelow name zone) where
  same_zone : SameName kept zone
  same_zone = subst (λ (z : Labels). SameName z zone) (sym is) (rightmost_same name zone below)

  pub opt_out_of_kept : HasOptedOutNextCloser Secured rrsets name labels kept → HasOptedOutNextCloser Secured rrsets name labels zone
  opt_out_of_kept has = opt_out_as Secured rrsets name labels kept zone same_zone has

  pub kept_of_opt_out : HasOptedOutNextCloser Secured rrsets name labels zone → HasOptedOutNextCloser Secured rrsets name labels kept
  kept_of_opt_out has = opt_out_as Secured rrsets name labels zone kept (sym same_zone) has

-- the kept zone at the place of the zone's number of labels
pub kept_at : (Secured : ℕ → ℕ → Type 0) (rrsets : List ReceivedRrset) (name zone : Labels) (zones : List ZoneRecords) (place : ℕ) (kept : ZoneRecords) → AreZones Secured rrsets name zones
    → IsAtOrBelow name zone → place ≡ length zone → kept ≡ get_or zones place kept → (kept.zone ≡ rightmost name (length zone)) × IsZoneOf Secured rrsets kept
kept_at Secured rrsets name zone zones place kept are below at is =
    let fewer : length zone ≤ length name = at_or_below_length name zone below in
    let count = are.count in
    let there : slice_get zones place ≡ Some kept = slice_get_read zones (length zones) place kept refl (omega (arith, fewer, count, at)) is in
    let each = are.each place kept there in
    (each.0 ∙ ap (λ n. rightmost name n) at, each.1)
