-- The parameters of a capture are those of all NSEC3 records of zones.
use Rattle.std.proofs.Common.{◌≡◌, Bool, ℕ, zero, suc, ◌-◌, ◌<◌, List, [], ◌∷◌, map, ◌==◌, if◌then◌else◌, refl, sym, ap, ◌∙◌, subst, inl, inr, ⊎_elim, arith}
use Rattle.std.proofs.lemmas.Bool.Decides.{Decides-eqb}
use Rattle.std.proofs.lemmas.List.Concat.{flat_map-cons}
use Rattle.std.proofs.lemmas.List.Elements.{Contains-append_left, Contains-append_right}
use Rattle.std.specs.List.Sorted.{IsStrictlySortedBy}
use Rattle.std.specs.Prelude.{Contains, Some, slice_get}
use Rattle.std.specs.declared.cmp.Ordering.{Ordering}
use Rattle.std.specs.declared.cmp.Ordering.TheVariants.{Less}
use Rattle.dnsv_names.specs.Name.{Labels}
use Rattle.dnsv_zones.specs.Any.{Any}
use Rattle.dnsv_zones.specs.chains.Nsec3Chain.{Nsec3Record}
use Rattle.dnsv_zones.specs.chains.Rdata.{parameters_of}
use Rattle.dnsv_canonical.proofs.CanonicalLemmas.{IsMember, IsMember-from_contains, Contains-from_member}
use Rattle.dnsv_canonical.specs.CanonicalRdata.{canonical_form}
use Rattle.dnsv_canonical.specs.Evidence.{AreParametersAmong, nsec3_rdata}
use Rattle.dnsv_canonical.specs.Rrsets.{ReceivedRrset}
use Rattle.dnsv_chain.specs.Trust.{KeptTrust, SecuredIn}
use Rattle.dnsv_proof_forms.specs.KeptHashes.{AreKeptHashes}
use Rattle.dnsv_canonical.specs.declared.number.RecordNumber.{RecordNumber}
use Rattle.dnsv_denial.specs.gathering.Evidence.{IsNsec3Of}
use Rattle.dnsv_denial.specs.gathering.Kept.{AreSets, AreZones, IsViewOf}
use Rattle.dnsv_proof_forms.specs.records.ParametersOrder.{parameters_cmp}
use Rattle.dnsv_proof_forms.specs.declared.records.name_hashes.NameHashes.{NameHashes}
use Rattle.dnsv_denial.specs.declared.gathering.zone_records.ZoneRecords.{ZoneRecords}
use Rattle.dnsv_denial.proofs.lemmas.gathering.EvidenceLemmas.{nsec3_forms}
use Rattle.dnsv_proof_forms.proofs.lemmas.PlaceLemmas.{each_at, mapped_at}

pub member_at : {X : Type 0} (xs : List X) (k : ℕ) (x : X) → slice_get xs k ≡ Some x → IsMember x xs
member_at [] k x at = cc
member_at (y ∷ ys) zero x at = let is : x ≡ y = cc in inl is
member_at (y ∷ ys) (suc k) x at = inr (member_at ys k x at)

any_member : {X K : Type 0} (f : X → K) (xs : List X) (k : K) → IsMember k (map f xs) → Any (λ x. f x ≡ k) xs
any_member f [] k is = absurd is
any_member f (x ∷ xs) k is = ⊎_elim (λ (here : k ≡ f x). inl (sym here)) (λ (rest : IsMember k (map f xs)). inr (any_member f xs k rest)) is

any_leads : {X : Type 0} (P Q : X → Type 0) (xs : List X) → ((x : X) → P x → Q x) → Any P xs → Any Q xs
any_leads P Q [] to some = absurd some
any_leads P Q (x ∷ xs) to some = ⊎_elim (λ (h : P x). inl (to x h)) (λ (rest : Any P xs). inr (any_leads P Q xs to rest)) some

its_rdata : (rrset : ReceivedRrset) → rrset.rtype ≡ 50 → (if rrset.rtype == 50 then rrset.rdata else []) ≡ rrset.rdata
its_rdata rrset is = ap (λ (b : Bool). if b then rrset.rdata else []) ((Decides-eqb rrset.rtype 50).1 is)

pub among_all : (rrsets : List ReceivedRrset) (k : ℕ) (rrset : ReceivedRrset) (rdata : List ℕ) → slice_get rrsets k ≡ Some rrset → rrset.rtype ≡ 50
    → Contains rrset.rdata rdata → Contains (nsec3_rdata rrsets) rdata
among_all [] k rrset rdata at is found = cc
among_all (first ∷ rest) zero rrset rdata at is found =
    let same : first ≡ rrset = cc in
    let its : Contains first.rdata rdata = subst (λ (r : ReceivedRrset). Contains r.rdata rdata) (sym same) found in
    let rtype : first.rtype ≡ 50 = ap (λ (r : ReceivedRrset). r.rtype) same ∙ is in
    subst (λ xs. Contains xs rdata) (sym (flat_map-cons (λ (r : ReceivedRrset). if r.rtype == 50 then r.rdata else []) first rest))
    (Contains-append_left (if first.rtype == 50 then first.rdata else []) (nsec3_rdata rest) rdata
    (subst (λ xs. Contains xs rdata) (sym (its_rdata first rtype)) its))
among_all (first ∷ rest) (suc k) rrset rdata at is found =
    subst (λ xs. Contains xs rdata) (sym (flat_map-cons (λ (r : ReceivedRrset). if r.rtype == 50 then r.rdata else []) first rest))
    (Contains-append_right (if first.rtype == 50 then first.rdata else []) (nsec3_rdata rest) rdata (among_all rest k rrset rdata at is found))

pub rising_at : {X K : Type 0} (f : X → K) (R : K → K → Ordering) (xs : List X) → IsStrictlySortedBy R (map f xs)
    → (i j : ℕ) (a b : X) → slice_get xs i ≡ Some a → slice_get xs j ≡ Some b → i < j → R (f a) (f b) ≡ Less
unfolding IsStrictlySortedBy
rising_at f R [] rising i j a b at_i at_j less = cc
rising_at f R (x ∷ xs) rising i zero a b at_i at_j less = absurd (omega (arith, less))
rising_at f R (x ∷ xs) rising zero (suc j) a b at_i at_j less =
    let is : x ≡ a = cc in
    subst (λ y. R (f y) (f b) ≡ Less) is (each_at (λ y. R (f x) y ≡ Less) (map f xs) j (f b) rising.0 (mapped_at f xs j b at_j))
rising_at f R (x ∷ xs) rising (suc i) (suc j) a b at_i at_j less = rising_at f R xs rising.1 i j a b at_i at_j (omega (arith, less))

-- a usable record's parameters are among those of the evidence
pub used_parameters : (rrsets : List ReceivedRrset) (zone : Labels) (n : RecordNumber) (nsec3 : Nsec3Record) (is : IsNsec3Of rrsets zone n nsec3)
    → AreParametersAmong (nsec3_rdata rrsets) is.fields.parameters
used_parameters rrsets zone n nsec3 is =
    let forms : map (canonical_form is.rrset.rtype) is.rrset.rdata ≡ is.rrset.rdata =
    ap (λ t. map (canonical_form t) is.rrset.rdata) is.rtype ∙ nsec3_forms is.rrset.rdata in
    let canonical : Contains is.at.canonical is.rdata = Contains-from_member is.at.canonical is.rdata (member_at is.at.canonical (n.place - 1) is.rdata is.at.is_rdata.1) in
    let received : Contains is.rrset.rdata is.rdata = subst (λ xs. Contains xs is.rdata) forms ((is.at.is_canonical.members is.rdata).0 canonical) in
    let among : Contains (nsec3_rdata rrsets) is.rdata = among_all rrsets (n.rrset - 1) is.rrset is.rdata is.at.is_rrset.1 is.rtype received in
    (is.rdata, among, (is.fields, is.read, is.usable, refl))

pub are_sets : (Secured : ℕ → ℕ → Type 0) (rrsets : List ReceivedRrset) (name : Labels) (sets : List NameHashes)
    → AreKeptHashes rrsets name sets → AreSets Secured rrsets sets
are_sets Secured rrsets name sets kept = record {
  order = λ i j a b at_i at_j less.
      rising_at parameters_of parameters_cmp (map (λ (set : NameHashes). set.parameters.now) sets) kept.order i j a.parameters.now b.parameters.now
      (mapped_at (λ (set : NameHashes). set.parameters.now) sets i a at_i) (mapped_at (λ (set : NameHashes). set.parameters.now) sets j b at_j) less;
  all = λ zone n nsec3 at.
      let is = at.is in
      let found : Contains (map (λ (set : NameHashes). set.parameters.now) sets) is.fields.parameters =
      (kept.members is.fields.parameters).1 (used_parameters rrsets zone n nsec3 is) in
      any_leads (λ (set : NameHashes). set.parameters.now ≡ is.fields.parameters) (λ (set : NameHashes). parameters_of set.parameters.now ≡ nsec3.parameters) sets
      (λ set same. ap parameters_of same ∙ sym is.parameters)
      (any_member (λ (set : NameHashes). set.parameters.now) sets is.fields.parameters
      (IsMember-from_contains (map (λ (set : NameHashes). set.parameters.now) sets) is.fields.parameters found));
}

-- the hashes that are kept for the name, and the zones of it, are what a view keeps
pub view_of_kept : (trust : KeptTrust) (hashed rrsets : List ReceivedRrset) (kept_name name : Labels) (sets : List NameHashes) (zones : List ZoneRecords)
    → hashed ≡ rrsets → name ≡ kept_name → AreKeptHashes hashed kept_name sets → AreZones (SecuredIn trust) rrsets kept_name zones
    → IsViewOf (SecuredIn trust) rrsets name sets zones
view_of_kept trust hashed rrsets kept_name name sets zones same its kept are =
    let of : AreKeptHashes rrsets name sets = subst (λ each. AreKeptHashes each name sets) same (subst (λ each. AreKeptHashes hashed each sets) (sym its) kept) in
    record {
      hashed = of.hashed;
      are_sets = λ any. are_sets (SecuredIn any) rrsets name sets of;
      are_zones = subst (λ each. AreZones (SecuredIn trust) rrsets each zones) (sym its) are;
    }
