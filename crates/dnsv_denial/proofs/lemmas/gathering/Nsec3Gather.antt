-- The NSEC3 records of a zone, gathered.
use Rattle.std.specs.FinSet as set
use Rattle.std.proofs.Common.{◌≡◌, ℕ, zero, suc, ◌++◌, ◌+◌, ◌≤◌, List, [], ◌∷◌, length, map, refl, sym, ap, ◌∙◌, subst, inr, arith, Bool, true, false}
use Rattle.std.specs.Prelude.{⊤, Some, slice_get, IsTrue}
use Rattle.dnsv_names.specs.Name.{Labels}
use Rattle.dnsv_records.specs.Base32Hex.{Spells}
use Rattle.dnsv_records.specs.Nsec3.{IsNsec3, IsUsable}
use Rattle.dnsv_records.specs.declared.nsec3.Nsec3.{Nsec3}
use Rattle.dnsv_records.proofs.Base32Lemmas.{same_octets}
use Rattle.dnsv_records.proofs.OneRecord.{one_nsec3}
use Rattle.dnsv_zones.specs.chains.Nsec3Chain.{Nsec3Record}
use Rattle.dnsv_zones.specs.chains.Rdata.{parameters_of}
use Rattle.dnsv_canonical.specs.Canonical.{IsCanonical}
use Rattle.dnsv_canonical.specs.CanonicalRdata.{canonical_form}
use Rattle.dnsv_canonical.specs.Rrsets.{IsNumbered, ReceivedRrset}
use Rattle.dnsv_denial.specs.gathering.Evidence.{IsHashedOwner, IsNsec3At, IsNsec3Of, IsRecordAt, IsSecuredBy}
use Rattle.dnsv_denial.specs.gathering.Gathered.{AreNsec3s, AreNsec3sOf, IsDenialType, IsEntryOf}
use Rattle.dnsv_proof_forms.specs.records.Record.{flags_of, read_nsec3}
use Rattle.dnsv_proof_forms.specs.declared.records.entry.Nsec3Entry.{Nsec3Entry}
use Rattle.dnsv_canonical.specs.declared.number.RecordNumber.{RecordNumber}
use Rattle.dnsv_denial.proofs.lemmas.gathering.EvidenceLemmas.{all_said, one_record, nsec3_forms}
use Rattle.dnsv_canonical.proofs.NumberLemmas.{one_numbered}
use Rattle.dnsv_denial.proofs.lemmas.gathering.Gathering.{UpTo, Grown, grown_none, grown_one, grown_not, grown_all, none_in}
use Rattle.dnsv_denial.proofs.lemmas.gathering.NsecGather.{record_at, place_within}

one_owner : (zone owner : Labels) (a b : List ℕ) → IsHashedOwner zone owner a → IsHashedOwner zone owner b → a ≡ b
one_owner zone owner a b is_a is_b =
    let parts_a = is_a.parts in let parts_b = is_b.parts in
    let labels : is_a.label ≡ is_b.label = cc in
    same_octets _ a b is_a.is_hash.eight_bits is_b.is_hash.eight_bits (subst (λ l. Spells l a) labels is_a.spelled) is_b.spelled

pub one_nsec3_of : (rrsets : List ReceivedRrset) (zone : Labels) (n : RecordNumber) (a b : Nsec3Record) → IsNsec3Of rrsets zone n a → IsNsec3Of rrsets zone n b → a ≡ b
one_nsec3_of rrsets zone n a b is_a is_b =
    let one = one_record rrsets n is_a.rrset is_b.rrset is_a.rdata is_b.rdata is_a.at is_b.at in
    let fields = one_nsec3 is_b.rdata is_a.fields is_b.fields (subst (λ x. IsNsec3 x is_a.fields) one.1 is_a.read) is_b.read in
    let hash = one_owner zone is_b.rrset.owner a.hash b.hash (subst (λ (r : ReceivedRrset). IsHashedOwner zone r.owner a.hash) one.0 is_a.owner) is_b.owner in
    let next : a.next ≡ b.next = is_a.next ∙ ap (λ (f : Nsec3). f.next_hash) fields ∙ sym is_b.next in
    let flags : a.flags ≡ b.flags = is_a.flags ∙ ap (λ (f : Nsec3). f.flags.0) fields ∙ sym is_b.flags in
    let types : a.types ≡ b.types = is_a.types ∙ ap (λ (f : Nsec3). λ t. set.contains f.types t) fields ∙ sym is_b.types in
    let parameters : a.parameters ≡ b.parameters = is_a.parameters ∙ ap (λ (f : Nsec3). parameters_of f.parameters) fields ∙ sym is_b.parameters in
    λ i. record { hash = hash i; next = next i; flags = flags i; types = types i; parameters = parameters i }

flags_are : (opt_out : Bool) (flags : ℕ) → flags ≤ 1 → (IsTrue opt_out → flags ≡ 1) → (flags ≡ 1 → IsTrue opt_out) → flags_of opt_out ≡ flags
flags_are true flags most to from = sym (to refl)
flags_are false zero most to from = refl
flags_are false (suc n) most to from = let one : suc n ≡ 1 = omega (arith, most) in let wrong = from one in cc

pub forms_of : (rrset : ReceivedRrset) (canonical : List (List ℕ)) → rrset.rtype ≡ 50 → IsCanonical rrset.rdata canonical → IsCanonical (map (canonical_form rrset.rtype) rrset.rdata) canonical
forms_of rrset canonical rtype is =
    subst (λ t. IsCanonical (map (canonical_form t) rrset.rdata) canonical) (sym rtype) (subst (λ r. IsCanonical r canonical) (sym (nsec3_forms rrset.rdata)) is)

module _ (rrsets : List ReceivedRrset) (zone : Labels) (k : ℕ) (rrset : ReceivedRrset) (canonical : List (List ℕ)) (numbered : IsNumbered rrsets k rrset) (rtype : rrset.rtype ≡ 50) (is : IsCanonical rrset.rdata canonical) where
  abbrev pub GrownNsec3s : (RecordNumber → Type 0) → List Nsec3Entry → List Nsec3Entry → Type 0
  GrownNsec3s Within before now = Grown (λ entry. entry.number) read_nsec3 (IsNsec3Of rrsets zone) Within before now

  its_record : (place : ℕ) (rdata : List ℕ) → slice_get canonical place ≡ Some rdata → IsRecordAt rrsets (record { rrset = k; place = place + 1 }) rrset rdata
  its_record place rdata there = record_at rrsets k place rrset canonical rdata numbered (forms_of rrset canonical rtype is) there

  pub nsec3_added : (place : ℕ) (rdata hash : List ℕ) (nsec3 : Nsec3) (entry : Nsec3Entry) (before now next : List Nsec3Entry)
      → slice_get canonical place ≡ Some rdata → IsNsec3 rdata nsec3 → IsHashedOwner zone rrset.owner hash → IsEntryOf (record { rrset = k; place = place + 1 }) hash nsec3 entry → next ≡ now ++ entry ∷ []
      → GrownNsec3s (UpTo k place) before now → GrownNsec3s (UpTo k (place + 1)) before next
  nsec3_added place rdata hash nsec3 entry before now next there read owner used pushed so_far =
      let it : IsNsec3Of rrsets zone (record { rrset = k; place = place + 1 }) (read_nsec3 entry) = record {
        rrset = rrset;
        rdata = rdata;
        at = its_record place rdata there;
        rtype = rtype;
        owner = subst (IsHashedOwner zone rrset.owner) (sym used.same_hash) owner;
        fields = nsec3;
        read = read;
        usable = used.usable;
        next = used.next_hash;
        flags = flags_are entry.is_opt_out nsec3.flags.0 used.usable.flags used.opt_out.0 used.opt_out.1;
        types = ap (λ types. λ t. set.contains types t) used.types;
        parameters = ap parameters_of used.parameters;
      } in
      grown_one (λ each. each.number) read_nsec3 (IsNsec3Of rrsets zone) k place entry before now next used.same_number it (λ x its. one_nsec3_of rrsets zone (record { rrset = k; place = place + 1 }) (read_nsec3 entry) x it its) pushed so_far

  pub nsec3_passed : (place : ℕ) (rdata : List ℕ) (nsec3 : Nsec3) (before now : List Nsec3Entry)
      → slice_get canonical place ≡ Some rdata → IsNsec3 rdata nsec3 → ¬ IsUsable nsec3
      → GrownNsec3s (UpTo k place) before now → GrownNsec3s (UpTo k (place + 1)) before now
  nsec3_passed place rdata nsec3 before now there read unusable so_far =
      grown_not (λ each. each.number) read_nsec3 (IsNsec3Of rrsets zone) k place before now
      (λ x its. let one = one_record rrsets (record { rrset = k; place = place + 1 }) its.rrset rrset its.rdata rdata its.at (its_record place rdata there) in
      let fields = one_nsec3 rdata its.fields nsec3 (subst (λ r. IsNsec3 r its.fields) one.1 its.read) read in unusable (subst IsUsable fields its.usable)) so_far

  pub nsec3s_begin : (before : List Nsec3Entry) → GrownNsec3s (UpTo k 0) before before
  nsec3s_begin before = grown_none (λ each. each.number) read_nsec3 (IsNsec3Of rrsets zone) k before (λ n x its. its.at.is_rdata.0)

  pub nsec3s_end : (place : ℕ) (before now : List Nsec3Entry) → length canonical ≤ place → GrownNsec3s (UpTo k place) before now → GrownNsec3s (λ n. n.rrset ≡ k) before now
  nsec3s_end place before now past so_far = grown_all (λ each. each.number) read_nsec3 (IsNsec3Of rrsets zone) k place before now
      (λ n x same its. let bound = place_within rrsets k rrset its.rrset canonical its.rdata n numbered (forms_of rrset canonical rtype is) same its.at in omega (arith, bound, past)) so_far

-- ---- those of an RRset

module _ (rrsets : List ReceivedRrset) (zone : Labels) (k : ℕ) (before : List Nsec3Entry) where
  abbrev pub GrownOf : List Nsec3Entry → Type 0
  GrownOf now = Grown (λ entry. entry.number) read_nsec3 (IsNsec3Of rrsets zone) (λ n. n.rrset ≡ k) before now

  pub no_rrset3 : ((rrset : ReceivedRrset) → ¬ IsNumbered rrsets k rrset) → GrownOf before
  no_rrset3 none = none_in (λ entry. entry.number) read_nsec3 (IsNsec3Of rrsets zone) k before
      (λ n x same is. none is.rrset (subst (λ m. IsNumbered rrsets m is.rrset) same is.at.is_rrset))

  its_rrset : (rrset : ReceivedRrset) → IsNumbered rrsets k rrset → (n : RecordNumber) (x : Nsec3Record) → n.rrset ≡ k → (is : IsNsec3Of rrsets zone n x) → is.rrset ≡ rrset
  its_rrset rrset numbered n x same is = one_numbered rrsets k is.rrset rrset (subst (λ m. IsNumbered rrsets m is.rrset) same is.at.is_rrset) numbered

  pub not_nsec3 : (rrset : ReceivedRrset) → IsNumbered rrsets k rrset → ¬ (rrset.rtype ≡ 50) → GrownOf before
  not_nsec3 rrset numbered other = none_in (λ entry. entry.number) read_nsec3 (IsNsec3Of rrsets zone) k before
      (λ n x same is. other (ap (λ (r : ReceivedRrset). r.rtype) (sym (its_rrset rrset numbered n x same is)) ∙ is.rtype))

  pub not_of_zone : (rrset : ReceivedRrset) → IsNumbered rrsets k rrset → ((hash : List ℕ) → ¬ IsHashedOwner zone rrset.owner hash) → GrownOf before
  not_of_zone rrset numbered none = none_in (λ entry. entry.number) read_nsec3 (IsNsec3Of rrsets zone) k before
      (λ n x same is. none x.hash (subst (λ (r : ReceivedRrset). IsHashedOwner zone r.owner x.hash) (its_rrset rrset numbered n x same is) is.owner))

-- those of the RRsets that the zone secured are the zone's
pub nsec3s_of_zone : (Secured : ℕ → ℕ → Type 0) (rrsets : List ReceivedRrset) (zone : Labels) (Among : ℕ → Type 0) (entries : List Nsec3Entry)
    → ((k : ℕ) → Among k → IsSecuredBy Secured rrsets zone k)
    → ((k : ℕ) (by : IsSecuredBy Secured rrsets zone k) → IsDenialType by.rrset.rtype → Among k)
    → AreNsec3s rrsets zone (λ n. Among n.rrset) entries → AreNsec3sOf Secured rrsets zone entries
nsec3s_of_zone Secured rrsets zone Among entries secured listed are =
    all_said (λ entry. entry.number) read_nsec3 (IsNsec3Of rrsets zone) (IsNsec3At Secured rrsets zone) (λ n. Among n.rrset) (λ n. ⊤) entries
    (λ n x among is. (tt, record { is = is; secured = secured n.rrset among }))
    (λ n x any is.
    let one : is.is.rrset ≡ is.secured.rrset = one_numbered rrsets n.rrset is.is.rrset is.secured.rrset is.is.at.is_rrset is.secured.is_rrset in
    (listed n.rrset is.secured (inr (ap (λ (r : ReceivedRrset). r.rtype) (sym one) ∙ is.is.rtype)), is.is))
    are
