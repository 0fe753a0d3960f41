-- Records by their numbers, and lists that have all of some.
use Rattle.std.proofs.Common.{◌≡◌, ℕ, ◌+◌, ◌-◌, ◌<◌, ◌⊎◌, List, [], ◌∷◌, ◌++◌, length, map, refl, sym, ap, ◌∙◌, subst, inl, inr, ⊎_elim, arith}
use Rattle.std.proofs.lemmas.List.{map-append}
use Rattle.std.proofs.lemmas.Option.{slice_get_read}
use Rattle.std.specs.Prelude.{Some, slice_get, slice_index_or}
use Rattle.std.specs.List.{AllByRecursion}
use Rattle.std.specs.List.Sorted.{IsStrictlySortedBy}
use Rattle.std.specs.Cmp.{nat_cmp_is}
use Rattle.std.specs.Ordering.{nat_cmp}
use Rattle.std.specs.declared.cmp.Ordering.TheVariants.{Less, Equal}
use Rattle.dnsv_records.specs.Nsec.{IsNsec}
use Rattle.dnsv_records.specs.OctetLaws.{recursion-append}
use Rattle.dnsv_records.proofs.OneRecord.{one_nsec}
use Rattle.dnsv_zones.specs.Any.{Any}
use Rattle.dnsv_zones.specs.chains.NsecChain.{NsecRecord}
use Rattle.dnsv_zones.specs.chains.Rdata.{nsec_record}
use Rattle.dnsv_zones.proofs.lemmas.chains.ChainLemmas.{any_right}
use Rattle.dnsv_canonical.specs.Canonical.{IsCanonical}
use Rattle.dnsv_canonical.specs.CanonicalRdata.{canonical_form}
use Rattle.dnsv_canonical.specs.Rrsets.{IsNumbered, ReceivedRrset}
use Rattle.dnsv_canonical.proofs.CanonicalLemmas.{canonical_unique}
use Rattle.dnsv_denial.specs.gathering.Evidence.{IsRecordAt, IsNsecOf}
use Rattle.dnsv_denial.specs.gathering.Gathered.{AreAll}
use Rattle.dnsv_proof_forms.specs.records.Numbers.{number_cmp}
use Rattle.dnsv_canonical.specs.declared.number.RecordNumber.{RecordNumber}
use Rattle.dnsv_canonical.proofs.OrderLemmas.{each_kept}
use Rattle.dnsv_canonical.proofs.NumberLemmas.{one_numbered}

-- ---- at most one record has a number

-- an RRset and an RDATA of it, as one value
pub one_record : (rrsets : List ReceivedRrset) (n : RecordNumber) (r s : ReceivedRrset) (x y : List ℕ)
    → IsRecordAt rrsets n r x → IsRecordAt rrsets n s y → (r ≡ s) × (x ≡ y)
one_record rrsets n r s x y is_x is_y =
    let same : r ≡ s = one_numbered rrsets n.rrset r s is_x.is_rrset is_y.is_rrset in
    let moved : IsCanonical (map (canonical_form s.rtype) s.rdata) is_x.canonical =
    subst (λ (each : ReceivedRrset). IsCanonical (map (canonical_form each.rtype) each.rdata) is_x.canonical) same is_x.is_canonical in
    let lists : is_x.canonical ≡ is_y.canonical = canonical_unique (map (canonical_form s.rtype) s.rdata) is_x.canonical is_y.canonical moved is_y.is_canonical in
    (same, one_numbered is_y.canonical n.place x y (subst (λ c. IsNumbered c n.place x) lists is_x.is_rdata) is_y.is_rdata)

pub one_nsec_of : (rrsets : List ReceivedRrset) (n : RecordNumber) (a b : NsecRecord) → IsNsecOf rrsets n a → IsNsecOf rrsets n b → a ≡ b
one_nsec_of rrsets n a b is_a is_b =
    let one = one_record rrsets n is_a.rrset is_b.rrset is_a.rdata is_b.rdata is_a.at is_b.at in
    let fields = one_nsec is_b.rdata is_a.fields is_b.fields (subst (λ x. IsNsec x is_a.fields) one.1 is_a.read) is_b.read in
    is_a.is ∙ ap (λ (r : ReceivedRrset). nsec_record r.owner is_a.fields) one.0 ∙ ap (nsec_record is_b.rrset.owner) fields ∙ sym is_b.is

-- NSEC RDATA is its own canonical form
pub nsec_forms : (received : List (List ℕ)) → map (canonical_form 47) received ≡ received
nsec_forms [] = refl
nsec_forms (x ∷ xs) = ap (λ rest. x ∷ rest) (nsec_forms xs)

pub nsec3_forms : (received : List (List ℕ)) → map (canonical_form 50) received ≡ received
nsec3_forms [] = refl
nsec3_forms (x ∷ xs) = ap (λ rest. x ∷ rest) (nsec3_forms xs)

-- ---- the order of numbers

pub same_rrset_less : (k p q : ℕ) → p < q → number_cmp (record { rrset = k; place = p }) (record { rrset = k; place = q }) ≡ Less
same_rrset_less k p q less =
    let same : nat_cmp k k ≡ Equal = sym (nat_cmp_is k k Equal refl) in
    let below : nat_cmp p q ≡ Less = sym (nat_cmp_is p q Less less) in
    rw same (rw below refl)

pub earlier_rrset_less : (a b : RecordNumber) → a.rrset < b.rrset → number_cmp a b ≡ Less
earlier_rrset_less a b less =
    let below : nat_cmp a.rrset b.rrset ≡ Less = sym (nat_cmp_is a.rrset b.rrset Less less) in
    rw below refl

-- ---- lists that have all of some

rising_join : (xs ys : List RecordNumber) → IsStrictlySortedBy number_cmp xs → IsStrictlySortedBy number_cmp ys
    → AllByRecursion (λ x. AllByRecursion (λ y. number_cmp x y ≡ Less) ys) xs → IsStrictlySortedBy number_cmp (xs ++ ys)
unfolding IsStrictlySortedBy
rising_join [] ys first second less = second
rising_join (x ∷ xs) ys first second less =
    (recursion-append (λ y. number_cmp x y ≡ Less) xs ys first.0 less.0, rising_join xs ys first.1 second less.1)

any_left : {X : Type 0} (P : X → Type 0) (xs ys : List X) → Any P xs → Any P (xs ++ ys)
any_left P [] ys some = absurd some
any_left P (x ∷ xs) ys some = ⊎_elim (λ (h : P x). inl h) (λ (rest : Any P xs). inr (any_left P xs ys rest)) some

pub all_to : {E : Type 0} (number : E → RecordNumber) (P : RecordNumber → Type 0) (xs : List E) → AllByRecursion (λ e. P (number e)) xs → AllByRecursion P (map number xs)
all_to number P [] all = tt
all_to number P (x ∷ xs) all = (all.0, all_to number P xs all.1)

module _ {E X : Type 0} (number : E → RecordNumber) (value : E → X) where
  pub all_joined : (Is : RecordNumber → X → Type 0) (First Second Both : RecordNumber → Type 0) (xs ys : List E)
      → ((a b : RecordNumber) → First a → Second b → number_cmp a b ≡ Less)
      → ((n : RecordNumber) → First n → Both n) → ((n : RecordNumber) → Second n → Both n)
      → ((n : RecordNumber) (x : X) → Both n → Is n x → First n ⊎ Second n)
      → AreAll number value Is First xs → AreAll number value Is Second ys → AreAll number value Is Both (xs ++ ys)
  all_joined Is First Second Both xs ys less from_first from_second either first second = record {
    rising = rw (map-append number xs ys) (rising_join (map number xs) (map number ys) first.rising second.rising
        (all_to number (λ a. AllByRecursion (λ b. number_cmp a b ≡ Less) (map number ys)) xs
        (each_kept (λ e. First (number e) × Is (number e) (value e)) (λ e. AllByRecursion (λ b. number_cmp (number e) b ≡ Less) (map number ys)) xs
        (λ e is. all_to number (λ b. number_cmp (number e) b ≡ Less) ys
        (each_kept (λ e. Second (number e) × Is (number e) (value e)) (λ f. number_cmp (number e) (number f) ≡ Less) ys (λ f its. less (number e) (number f) is.0 its.0) second.each)) first.each)));
    each = recursion-append (λ e. Both (number e) × Is (number e) (value e)) xs ys
        (each_kept (λ e. First (number e) × Is (number e) (value e)) (λ e. Both (number e) × Is (number e) (value e)) xs (λ e is. (from_first (number e) is.0, is.1)) first.each)
        (each_kept (λ e. Second (number e) × Is (number e) (value e)) (λ e. Both (number e) × Is (number e) (value e)) ys (λ e is. (from_second (number e) is.0, is.1)) second.each);
    all = λ n x both is. ⊎_elim
        (λ (a : First n). any_left (λ e. (number e ≡ n) × (value e ≡ x)) xs ys (first.all n x a is))
        (λ (b : Second n). any_right (λ e. (number e ≡ n) × (value e ≡ x)) xs ys (second.all n x b is)) (either n x both is);
  }

  pub all_none : (Is : RecordNumber → X → Type 0) (Within : RecordNumber → Type 0)
      → ((n : RecordNumber) (x : X) → Within n → Is n x → ⊥) → AreAll number value Is Within []
  unfolding IsStrictlySortedBy
  all_none Is Within none = record { rising = tt; each = tt; all = λ n x within is. none n x within is }

  pub all_single : (Is : RecordNumber → X → Type 0) (b : RecordNumber) (e : E) → number e ≡ b → Is b (value e)
      → ((x : X) → Is b x → value e ≡ x) → AreAll number value Is (λ n. n ≡ b) (e ∷ [])
  unfolding IsStrictlySortedBy
  all_single Is b e same is one = record {
    rising = (tt, tt);
    each = ((same, subst (λ n. Is n (value e)) (sym same) is), tt);
    all = λ n x at its. inl (same ∙ sym at, one x (subst (λ m. Is m x) at its));
  }

  -- the same records, said of otherwise
  pub all_said : (Is Other : RecordNumber → X → Type 0) (Within Among : RecordNumber → Type 0) (xs : List E)
      → ((n : RecordNumber) (x : X) → Within n → Is n x → Among n × Other n x)
      → ((n : RecordNumber) (x : X) → Among n → Other n x → Within n × Is n x)
      → AreAll number value Is Within xs → AreAll number value Other Among xs
  all_said Is Other Within Among xs to from are = record {
    rising = are.rising;
    each = each_kept (λ e. Within (number e) × Is (number e) (value e)) (λ e. Among (number e) × Other (number e) (value e)) xs (λ e is. to (number e) (value e) is.0 is.1) are.each;
    all = λ n x among is. let both = from n x among is in are.all n x both.0 both.1;
  }

pub numbered_here : {X : Type 0} (xs : List X) (place : ℕ) (x : X) → place < length xs → x ≡ slice_index_or xs place x → IsNumbered xs (place + 1) x
numbered_here xs place x within is =
    let same : place ≡ place + 1 - 1 = omega arith in
    (omega arith, subst (λ p. slice_get xs p ≡ Some x) same (slice_get_read xs (length xs) place x refl within is))
