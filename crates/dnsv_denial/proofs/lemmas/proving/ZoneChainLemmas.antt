-- The chains that are asked of a zone: each at its number, in their order, and all that have a record.
use Rattle.std.proofs.Common.{◌≡◌, ℕ, zero, suc, ◌+◌, ◌<◌, List, [], ◌∷◌, length, map, get_or, refl, sym, ap, ◌∙◌, subst, arith}
use Rattle.std.specs.Ordering.{ordering_reverse}
use Rattle.std.specs.declared.cmp.Ordering.TheVariants.{Less, Greater}
use Rattle.std.specs.Prelude.{⊤, Some, slice_get}
use Rattle.dnsv_names.specs.Name.{Labels}
use Rattle.dnsv_zones.specs.chains.Nsec3Chain.{Nsec3Record, Parameters}
use Rattle.dnsv_zones.specs.chains.Rdata.{parameters_of}
use Rattle.dnsv_canonical.specs.Rrsets.{ReceivedRrset}
use Rattle.dnsv_denial.specs.gathering.Evidence.{IsNsec3At}
use Rattle.dnsv_denial.specs.gathering.Kept.{AreSets}
use Rattle.dnsv_denial.specs.proving.ZoneChains.{chain_at, chains_of}
use Rattle.dnsv_denial.specs.gathering.EvidenceWords.{Chain, GoesBefore}
use Rattle.dnsv_proof_forms.specs.records.ParametersOrder.{parameters_cmp}
use Rattle.dnsv_denial.specs.gathering.EvidenceWords.Chain.{ByNsec, ByNsec3}
use Rattle.dnsv_denial.specs.gathering.EvidenceWords.GoesBefore.{nsec_first, by_parameters}
use Rattle.dnsv_canonical.specs.declared.number.RecordNumber.{RecordNumber}
use Rattle.dnsv_proof_forms.specs.declared.records.name_hashes.NameHashes.{NameHashes}
use Rattle.dnsv_proof_forms.proofs.lemmas.records.ParametersLemmas.{parameters_total}
use Rattle.dnsv_proof_forms.proofs.lemmas.PlaceLemmas.{mapped_at, mapped_length}
use Rattle.dnsv_denial.proofs.lemmas.gathering.AlikeLemmas.{any_place}

-- ---- by numbers

pub there_or : {X : Type 0} (xs : List X) (other : X) (k : ℕ) → k < length xs → slice_get xs k ≡ Some (get_or xs k other)
there_or [] other k small = absurd (omega (arith, small))
there_or (x ∷ xs) other zero small = refl
there_or (x ∷ xs) other (suc k) small = there_or xs other k (omega (arith, small))

pub unmapped_at : {X Y : Type 0} (f : X → Y) (xs : List X) (k : ℕ) (y : Y) → slice_get (map f xs) k ≡ Some y → (x : X) × (slice_get xs k ≡ Some x) × (f x ≡ y)
unmapped_at f [] k y at = cc
unmapped_at f (x ∷ xs) zero y at = let is : f x ≡ y = cc in (x, refl, is)
unmapped_at f (x ∷ xs) (suc k) y at = unmapped_at f xs k y at

pub chain_count : (sets : List NameHashes) → length (chains_of sets) ≡ length sets + 1
chain_count sets = let count : length (map (λ (set : NameHashes). ByNsec3 (parameters_of set.parameters.now)) sets) ≡ length sets = mapped_length (λ (set : NameHashes). ByNsec3 (parameters_of set.parameters.now)) sets in omega (arith, count)

pub chain_there : (sets : List NameHashes) (number : ℕ) → number < length sets + 1 → slice_get (chains_of sets) number ≡ Some (chain_at sets number)
chain_there sets number small = let count = chain_count sets in there_or (chains_of sets) ByNsec number (omega (arith, count, small))

-- ---- all that have a record

-- an NSEC3 record of the zone has the parameters
pub record HasOne (Secured : ℕ → ℕ → Type 0) (rrsets : List ReceivedRrset) (zone : Labels) (parameters : Parameters) : Type 0 where
  pub number : RecordNumber
  pub nsec3 : Nsec3Record
  pub is : IsNsec3At Secured rrsets zone number nsec3
  pub same : nsec3.parameters ≡ parameters

-- the chain is that of NSEC records, or has a record
abbrev pub HasOneOf : (ℕ → ℕ → Type 0) → List ReceivedRrset → Labels → Chain → Type 0
HasOneOf Secured rrsets zone ByNsec = ⊤
HasOneOf Secured rrsets zone (ByNsec3 parameters) = HasOne Secured rrsets zone parameters

module _ (Secured : ℕ → ℕ → Type 0) (rrsets : List ReceivedRrset) (zone : Labels) (sets : List NameHashes) (are : AreSets Secured rrsets sets) where
  pub number_of : (chain : Chain) → HasOneOf Secured rrsets zone chain → (number : ℕ) × (slice_get (chains_of sets) number ≡ Some chain)
  number_of ByNsec one = (0, refl)
  number_of (ByNsec3 parameters) one =
      let it = any_place (λ set. parameters_of set.parameters.now ≡ one.nsec3.parameters) sets (are.all zone one.number one.nsec3 one.is) in
      (suc it.0, mapped_at (λ (set : NameHashes). ByNsec3 (parameters_of set.parameters.now)) sets it.0 it.1 it.2 ∙ ap (λ p. Some (ByNsec3 p)) (it.3 ∙ one.same))

-- ---- in their order

not_both_less : (a b : Parameters) → parameters_cmp a b ≡ Less → parameters_cmp b a ≡ Less → ⊥
not_both_less a b less more = let turned : Less ≡ Greater = sym less ∙ parameters_total.antisymm a b ∙ ap ordering_reverse more in cc

pub no_circle : (a b c d : Chain) → GoesBefore a b → GoesBefore c d → b ≡ c → a ≡ d → ⊥
no_circle a b c d (nsec_first p) (nsec_first q) next ends = cc
no_circle a b c d (nsec_first p) (by_parameters z w more) next ends = cc
no_circle a b c d (by_parameters x y less) (nsec_first q) next ends = cc
no_circle a b c d (by_parameters x y less) (by_parameters z w more) next ends =
    let same : y ≡ z = cc in
    let last : x ≡ w = cc in
    not_both_less x y less (subst (λ p. parameters_cmp p x ≡ Less) (sym same) (subst (λ p. parameters_cmp z p ≡ Less) (sym last) more))

module _ (Secured : ℕ → ℕ → Type 0) (rrsets : List ReceivedRrset) (sets : List NameHashes) (are : AreSets Secured rrsets sets) where
  pub in_their_order : (i j : ℕ) (a b : Chain) → slice_get (chains_of sets) i ≡ Some a → slice_get (chains_of sets) j ≡ Some b → i < j → GoesBefore a b
  in_their_order i zero a b at_i at_j less = absurd (omega (arith, less))
  in_their_order zero (suc j) a b at_i at_j less =
      let later = unmapped_at (λ (set : NameHashes). ByNsec3 (parameters_of set.parameters.now)) sets j b at_j in
      let first : ByNsec ≡ a = cc in
      subst (λ (c : Chain). GoesBefore c b) first (subst (λ (c : Chain). GoesBefore ByNsec c) later.2 (nsec_first (parameters_of later.0.parameters.now)))
  in_their_order (suc i) (suc j) a b at_i at_j less =
      let one = unmapped_at (λ (set : NameHashes). ByNsec3 (parameters_of set.parameters.now)) sets i a at_i in
      let later = unmapped_at (λ (set : NameHashes). ByNsec3 (parameters_of set.parameters.now)) sets j b at_j in
      subst (λ (c : Chain). GoesBefore c b) one.2
      (subst (λ (c : Chain). GoesBefore (ByNsec3 (parameters_of one.0.parameters.now)) c) later.2
      (by_parameters (parameters_of one.0.parameters.now) (parameters_of later.0.parameters.now) (are.order i j one.0 later.0 one.1 later.1 (omega (arith, less)))))
