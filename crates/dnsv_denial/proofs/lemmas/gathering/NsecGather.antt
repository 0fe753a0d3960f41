-- The NSEC records of an RRset, put behind those before it.
use Rattle.std.proofs.Common.{◌≡◌, ℕ, ◌+◌, ◌-◌, ◌<◌, ◌≤◌, List, [], ◌∷◌, ◌++◌, length, map, refl, sym, ap, ◌∙◌, subst, inl, inr, ⊎_elim, arith, append-nil, append_assoc}
use Rattle.std.specs.Prelude.{⊤, Some, slice_get}
use Rattle.std.proofs.lemmas.Bool.{cases_lt}
use Rattle.std.proofs.lemmas.Option.{slice_get_within}
use Rattle.dnsv_names.specs.Name.{Labels}
use Rattle.dnsv_records.specs.Nsec.{IsNsec}
use Rattle.dnsv_zones.specs.chains.NsecChain.{NsecRecord}
use Rattle.dnsv_zones.specs.chains.Rdata.{nsec_record}
use Rattle.dnsv_canonical.specs.Canonical.{IsCanonical}
use Rattle.dnsv_canonical.specs.CanonicalRdata.{canonical_form}
use Rattle.dnsv_canonical.specs.Rrsets.{IsNumbered, ReceivedRrset}
use Rattle.dnsv_canonical.proofs.CanonicalLemmas.{canonical_unique}
use Rattle.dnsv_denial.specs.gathering.Evidence.{IsRecordAt, IsNsecAt, IsNsecOf, IsSecuredBy}
use Rattle.std.specs.declared.cmp.Ordering.TheVariants.{Less}
use Rattle.dnsv_denial.specs.gathering.Gathered.{AreNsecs, AreNsecsOf, IsDenialType}
use Rattle.dnsv_proof_forms.specs.records.Record.{read_entry}
use Rattle.dnsv_proof_forms.specs.records.Numbers.{number_cmp}
use Rattle.dnsv_proof_forms.specs.declared.records.entry.NsecEntry.{NsecEntry}
use Rattle.dnsv_canonical.specs.declared.number.RecordNumber.{RecordNumber}
use Rattle.dnsv_denial.proofs.lemmas.gathering.EvidenceLemmas.{one_nsec_of, nsec_forms, same_rrset_less, all_joined, all_none, all_single, all_said}
use Rattle.dnsv_canonical.proofs.NumberLemmas.{one_numbered}

pub record GrownBy (rrsets : List ReceivedRrset) (Within : RecordNumber → Type 0) (before now : List NsecEntry) : Type 0 where
  pub more : List NsecEntry
  pub grown : now ≡ before ++ more
  pub are : AreNsecs rrsets Within more

-- the RDATA of an RRset at a place in canonical order
pub record_at : (rrsets : List ReceivedRrset) (k place : ℕ) (rrset : ReceivedRrset) (canonical : List (List ℕ)) (rdata : List ℕ)
    → IsNumbered rrsets k rrset → IsCanonical (map (canonical_form rrset.rtype) rrset.rdata) canonical → slice_get canonical place ≡ Some rdata
    → IsRecordAt rrsets (record { rrset = k; place = place + 1 }) rrset rdata
record_at rrsets k place rrset canonical rdata numbered is there =
    let same : place ≡ place + 1 - 1 = omega arith in
    record { is_rrset = numbered; canonical = canonical; is_canonical = is; is_rdata = (omega arith, subst (λ p. slice_get canonical p ≡ Some rdata) same there) }

-- no place is behind the last
pub place_within : (rrsets : List ReceivedRrset) (k : ℕ) (rrset other : ReceivedRrset) (canonical : List (List ℕ)) (rdata : List ℕ) (n : RecordNumber)
    → IsNumbered rrsets k rrset → IsCanonical (map (canonical_form rrset.rtype) rrset.rdata) canonical → n.rrset ≡ k
    → IsRecordAt rrsets n other rdata → n.place ≤ length canonical
place_within rrsets k rrset other canonical rdata n numbered is same at =
    let one : other ≡ rrset = one_numbered rrsets k other rrset (subst (λ m. IsNumbered rrsets m other) same at.is_rrset) numbered in
    let moved : IsCanonical (map (canonical_form rrset.rtype) rrset.rdata) at.canonical =
    subst (λ (each : ReceivedRrset). IsCanonical (map (canonical_form each.rtype) each.rdata) at.canonical) one at.is_canonical in
    let lists : at.canonical ≡ canonical = canonical_unique (map (canonical_form rrset.rtype) rrset.rdata) at.canonical canonical moved is in
    let within = slice_get_within canonical (n.place - 1) rdata (subst (λ c. slice_get c (n.place - 1) ≡ Some rdata) lists at.is_rdata.1) in
    omega (arith, within, at.is_rdata.0)

forms_of : (rrset : ReceivedRrset) (canonical : List (List ℕ)) → rrset.rtype ≡ 47 → IsCanonical rrset.rdata canonical → IsCanonical (map (canonical_form rrset.rtype) rrset.rdata) canonical
forms_of rrset canonical rtype is =
    subst (λ t. IsCanonical (map (canonical_form t) rrset.rdata) canonical) (sym rtype) (subst (λ r. IsCanonical r canonical) (sym (nsec_forms rrset.rdata)) is)

abbrev pub UpTo : ℕ → ℕ → RecordNumber → Type 0
UpTo k place n = (n.rrset ≡ k) × (n.place ≤ place)

number_is : (n : RecordNumber) (k place : ℕ) → n.rrset ≡ k → n.place ≡ place → n ≡ record { rrset = k; place = place }
number_is n k place rrset at = λ i. record { rrset = rrset i; place = at i }

pub nsecs_begin : (rrsets : List ReceivedRrset) (k : ℕ) (before : List NsecEntry) → GrownBy rrsets (UpTo k 0) before before
nsecs_begin rrsets k before = record {
  more = [];
  grown = sym (append-nil before);
  are = all_none (λ entry. entry.number) read_entry (IsNsecOf rrsets) (UpTo k 0) (λ n x within is. let from_one = is.at.is_rdata.0 in omega (arith, from_one, within.1));
}

pub nsecs_more : (rrsets : List ReceivedRrset) (k place : ℕ) (rrset : ReceivedRrset) (canonical : List (List ℕ)) (rdata : List ℕ) (entry : NsecEntry) (before now next : List NsecEntry)
    → IsNumbered rrsets k rrset → rrset.rtype ≡ 47 → IsCanonical rrset.rdata canonical → slice_get canonical place ≡ Some rdata
    → entry.number ≡ record { rrset = k; place = place + 1 } → entry.owner.now ≡ rrset.owner → IsNsec rdata entry.nsec.now → next ≡ now ++ entry ∷ []
    → GrownBy rrsets (UpTo k place) before now → GrownBy rrsets (UpTo k (place + 1)) before next
nsecs_more rrsets k place rrset canonical rdata entry before now next numbered rtype is there number owner read pushed so_far =
    let at = record_at rrsets k place rrset canonical rdata numbered (forms_of rrset canonical rtype is) there in
    let b : RecordNumber = record { rrset = k; place = place + 1 } in
    let it : IsNsecOf rrsets b (read_entry entry) = record { rrset = rrset; rdata = rdata; at = at; rtype = rtype; fields = entry.nsec.now; read = read; is = ap (λ o. nsec_record o entry.nsec.now) owner } in
    record {
      more = so_far.more ++ entry ∷ [];
      grown = pushed ∙ ap (λ front. front ++ entry ∷ []) so_far.grown ∙ append_assoc before so_far.more (entry ∷ []);
      are = all_joined (λ each. each.number) read_entry (IsNsecOf rrsets) (UpTo k place) (λ n. n ≡ b) (UpTo k (place + 1)) so_far.more (entry ∷ [])
          (λ x y x_is y_is. subst (λ z. number_cmp x z ≡ Less) (sym y_is) (before_last x x_is))
          (λ n within. (within.0, omega (arith, within.1)))
          (λ n same. (ap (λ (m : RecordNumber). m.rrset) same, omega (arith, ap (λ (m : RecordNumber). m.place) same)))
          (λ n x within its. ⊎_elim (λ (below : n.place < place + 1). inl (within.0, omega (arith, below))) (λ (above : place + 1 ≤ n.place). inr (number_is n k (place + 1) within.0 (omega (arith, above, within.1)))) (cases_lt n.place (place + 1)))
          so_far.are
          (all_single (λ each. each.number) read_entry (IsNsecOf rrsets) b entry number it (λ x its. one_nsec_of rrsets b (read_entry entry) x it its));
    } where
      before_last : (x : RecordNumber) → UpTo k place x → number_cmp x (record { rrset = k; place = place + 1 }) ≡ Less
      before_last x within =
          subst (λ z. number_cmp z (record { rrset = k; place = place + 1 }) ≡ Less) (sym (number_is x k x.place within.0 refl)) (same_rrset_less k x.place (place + 1) (omega (arith, within.1)))

pub nsecs_end : (rrsets : List ReceivedRrset) (k place : ℕ) (rrset : ReceivedRrset) (canonical : List (List ℕ)) (before now : List NsecEntry)
    → IsNumbered rrsets k rrset → rrset.rtype ≡ 47 → IsCanonical rrset.rdata canonical → length canonical ≤ place
    → GrownBy rrsets (UpTo k place) before now → GrownBy rrsets (λ n. n.rrset ≡ k) before now
nsecs_end rrsets k place rrset canonical before now numbered rtype is past so_far = record {
  more = so_far.more;
  grown = so_far.grown;
  are = all_said (λ each. each.number) read_entry (IsNsecOf rrsets) (IsNsecOf rrsets) (UpTo k place) (λ n. n.rrset ≡ k) so_far.more
      (λ n x within its. (within.0, its))
      (λ n x same its. let bound = place_within rrsets k rrset its.rrset canonical its.rdata n numbered (forms_of rrset canonical rtype is) same its.at in ((same, omega (arith, bound, past)), its))
      so_far.are;
}

-- ---- those of an RRset

module _ (rrsets : List ReceivedRrset) (k : ℕ) (before : List NsecEntry) where
  none_of : ((n : RecordNumber) (x : NsecRecord) → n.rrset ≡ k → IsNsecOf rrsets n x → ⊥) → GrownBy rrsets (λ n. n.rrset ≡ k) before before
  none_of none = record {
    more = [];
    grown = sym (append-nil before);
    are = all_none (λ entry. entry.number) read_entry (IsNsecOf rrsets) (λ n. n.rrset ≡ k) none;
  }

  pub no_rrset : ((rrset : ReceivedRrset) → ¬ IsNumbered rrsets k rrset) → GrownBy rrsets (λ n. n.rrset ≡ k) before before
  no_rrset none = none_of (λ n x same is. none is.rrset (subst (λ m. IsNumbered rrsets m is.rrset) same is.at.is_rrset))

  pub not_nsec : (rrset : ReceivedRrset) → IsNumbered rrsets k rrset → ¬ (rrset.rtype ≡ 47) → GrownBy rrsets (λ n. n.rrset ≡ k) before before
  not_nsec rrset numbered other = none_of (λ n x same is.
      let one : is.rrset ≡ rrset = one_numbered rrsets k is.rrset rrset (subst (λ m. IsNumbered rrsets m is.rrset) same is.at.is_rrset) numbered in
      other (ap (λ (r : ReceivedRrset). r.rtype) (sym one) ∙ is.rtype))

-- those of the RRsets that the zone secured are the zone's
pub nsecs_of_zone : (Secured : ℕ → ℕ → Type 0) (rrsets : List ReceivedRrset) (zone : Labels) (Among : ℕ → Type 0) (entries : List NsecEntry)
    → ((k : ℕ) → Among k → IsSecuredBy Secured rrsets zone k)
    → ((k : ℕ) (by : IsSecuredBy Secured rrsets zone k) → IsDenialType by.rrset.rtype → Among k)
    → AreNsecs rrsets (λ n. Among n.rrset) entries → AreNsecsOf Secured rrsets zone entries
nsecs_of_zone Secured rrsets zone Among entries secured listed are =
    all_said (λ entry. entry.number) read_entry (IsNsecOf rrsets) (IsNsecAt Secured rrsets zone) (λ n. Among n.rrset) (λ n. ⊤) entries
    (λ n x among is. (tt, record { is = is; secured = secured n.rrset among }))
    (λ n x any is.
    let one : is.is.rrset ≡ is.secured.rrset = one_numbered rrsets n.rrset is.is.rrset is.secured.rrset is.is.at.is_rrset is.secured.is_rrset in
    (listed n.rrset is.secured (inl (ap (λ (r : ReceivedRrset). r.rtype) (sym one) ∙ is.is.rtype)), is.is))
    are
