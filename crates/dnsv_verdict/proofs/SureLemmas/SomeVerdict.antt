-- It can't be that a question has no verdict.
use Rattle.std.proofs.Common.{◌≡◌, ◌+◌, ℕ, List, refl, sym, ap, ◌∙◌, subst, inl, inr}
use Rattle.std.specs.Prelude.{Some}
use Rattle.dnsv_names.specs.Name.{Labels, rightmost}
use Rattle.dnsv_records.proofs.OneRecord.{one_dnskey, one_rrsig}
use Rattle.dnsv_records.specs.Dnskey.{IsDnskey}
use Rattle.dnsv_records.specs.Rrsig.{IsRrsig}
use Rattle.dnsv_records.specs.declared.dnskey.Dnskey.{Dnskey}
use Rattle.dnsv_records.specs.declared.rrsig.Rrsig.{Rrsig}
use Rattle.dnsv_zones.specs.zones.TypeNumbers.{cname}
use Rattle.dnsv_canonical.proofs.CanonicalLemmas.{IsMember, Contains-from_member, IsMember-from_contains}
use Rattle.dnsv_canonical.proofs.SignedLemmas.{signed_data_unique}
use Rattle.dnsv_canonical.specs.Rrsets.{ReceivedRrset}
use Rattle.dnsv_canonical.specs.SignedData.{IsSignedData}
use Rattle.dnsv_verifier.specs.Admissible.{IsAsked}
use Rattle.dnsv_verifier.specs.Entry.{entry_cmp}
use Rattle.dnsv_verifier.specs.EntryLaws.{entry_cmp_total, entry_Equal}
use Rattle.dnsv_verifier.specs.declared.answer.Answer.TheVariants.{Unknown}
use Rattle.dnsv_verifier.specs.declared.entry.Entry.{Entry}
use Rattle.dnsv_chain.specs.Trusted.{IsSecured}
use Rattle.dnsv_denial.specs.proving.FirstProof.{CanProveNoData, CanProveNoName}
use Rattle.dnsv_denial.specs.unsigned_cuts.Cuts.{HasUnsignedCut}
use Rattle.dnsv_verdict.proofs.SureLemmas.FiniteLemmas.{IsFinite, finite_each, finite_one, finite_within, some_sorted}
use Rattle.dnsv_verdict.proofs.SureLemmas.SomeProof.{some_cut, some_no_data, some_no_name}
use Rattle.dnsv_verdict.proofs.SureLemmas.{Surely, surely, and_then, by_cases, some_first_such}
use Rattle.dnsv_verdict.proofs.TrustLemmas.{settled_is_verdict}
use Rattle.dnsv_verdict.specs.Insecure.{IsOptOutWildcardSet, IsUnsigned, IsUnsignedFrom}
use Rattle.dnsv_verdict.specs.Secure.{IsSecureSet}
use Rattle.dnsv_verdict.specs.Settled.{HasAlias, HasAnswer, IsSettled, IsSettledAs}
use Rattle.dnsv_verdict.specs.Verdict.{AreUnknown, IsVerdictAt, MayBeSettledBy, IsSettledBy}
use Rattle.dnsv_chain.specs.Basis.{Basis, HasAnchor}
use Rattle.dnsv_verdict.specs.declared.verdict.Verdict.{Verdict}
use Rattle.dnsv_verdict.specs.declared.verdict.Verdict.TheVariants.{SecureAnswer, SecureAlias, SecureNoName, SecureNoData, Insecure, Pending, Bogus, Indeterminate}

-- ---- what is settled

module _ (S : ℕ → ℕ → Type 0) (rrsets : List ReceivedRrset) (name : Labels) (t : ℕ) where
  some_opt_out : (HasUnsignedCut S rrsets name → ⊥) → IsUnsigned S rrsets name t → Surely ((cut : Labels) × IsUnsignedFrom S rrsets name t cut)
  some_opt_out none (inl has) = absurd (none has)
  some_opt_out none (inr opt_out) =
      and_then (some_first_such (IsOptOutWildcardSet S rrsets name t) opt_out.0 opt_out.1 opt_out.2)
      (λ found. surely (
        rightmost name (found.2.such.rrsig.labels + 1),
        inr (none, record { k = found.0; s = found.1; earliest = found.2; next_closer = refl }),
      ))

  some_unsigned : IsUnsigned S rrsets name t → Surely ((cut : Labels) × IsUnsignedFrom S rrsets name t cut)
  some_unsigned is =
      by_cases (HasUnsignedCut S rrsets name)
      (λ has. and_then (some_cut S rrsets name has) (λ found. surely (found.0, inl found.1)))
      (λ none. some_opt_out none is)

  -- the last of the five cases, where the others don't hold
  last_case : (HasAnswer S rrsets name t → ⊥) → (HasAlias S rrsets name t → ⊥) → (CanProveNoName S rrsets name → ⊥)
      → (CanProveNoData S rrsets name t → ⊥) → IsSettled S rrsets name t → IsUnsigned S rrsets name t
  last_case answer alias no_name no_data (inl x) = absurd (answer x)
  last_case answer alias no_name no_data (inr (inl x)) = absurd (alias x)
  last_case answer alias no_name no_data (inr (inr (inl x))) = absurd (no_name x)
  last_case answer alias no_name no_data (inr (inr (inr (inl x)))) = absurd (no_data x)
  last_case answer alias no_name no_data (inr (inr (inr (inr x)))) = x

  some_settled : IsSettled S rrsets name t → Surely ((verdict : Verdict) × IsSettledAs S rrsets name t verdict)
  some_settled settled =
      by_cases (HasAnswer S rrsets name t)
      (λ has. and_then (some_first_such (IsSecureSet S rrsets name t) has.0 has.1 has.2)
      (λ found. surely (SecureAnswer found.0 found.1, found.2)))
      (λ answer. by_cases (HasAlias S rrsets name t)
      (λ has. and_then (some_first_such (IsSecureSet S rrsets name cname) has.1.0 has.1.1 has.1.2)
      (λ found. surely (SecureAlias found.0 found.1, (answer, has.0, found.2))))
      (λ alias. by_cases (CanProveNoName S rrsets name)
      (λ can. and_then (some_no_name S rrsets name can) (λ found. surely (SecureNoName found.0, (answer, alias, found.1))))
      (λ no_name. by_cases (CanProveNoData S rrsets name t)
      (λ can. and_then (some_no_data S rrsets name t can) (λ found. surely (SecureNoData found.0, (answer, alias, no_name, found.1))))
      (λ no_data. and_then (some_unsigned (last_case answer alias no_name no_data settled))
      (λ found. surely (Insecure found.0, (answer, alias, no_name, no_data, found.1)))))))

-- ---- what isn't known

-- the entry is that of a signature with this RDATA over the RRset, and of a key with that RDATA
record IsEntryBy (rrset : ReceivedRrset) (rdata key : List ℕ) (entry : Entry) : Type 0 where
  pub rrsig : Rrsig
  pub read : IsRrsig rdata rrsig
  pub dnskey : Dnskey
  pub key_read : IsDnskey key dnskey
  pub algorithm : entry.algorithm.0 ≡ rrsig.algorithm.0
  pub key_field : entry.key ≡ dnskey.key
  pub signed_data : IsSignedData rrset.owner rrset.rtype rrset.rdata rrsig (Some entry.signed_data)
  pub signature : entry.signature ≡ rrsig.signature

one_entry_by : (rrset : ReceivedRrset) (signature key : List ℕ) (a b : Entry) → IsEntryBy rrset signature key a → IsEntryBy rrset signature key b → a ≡ b
one_entry_by rrset signature key a b p q =
    let rrsig : p.rrsig ≡ q.rrsig = one_rrsig signature p.rrsig q.rrsig p.read q.read in
    let dnskey : p.dnskey ≡ q.dnskey = one_dnskey key p.dnskey q.dnskey p.key_read q.key_read in
    let somehow : Some a.signed_data ≡ Some b.signed_data =
    signed_data_unique rrset.owner rrset.rtype rrset.rdata q.rrsig (Some a.signed_data) (Some b.signed_data)
    (subst (λ (r : Rrsig). IsSignedData rrset.owner rrset.rtype rrset.rdata r (Some a.signed_data)) rrsig p.signed_data) q.signed_data in
    let same : a.signed_data ≡ b.signed_data = cc in
    λ i. record {
      algorithm = record { 0 = (p.algorithm ∙ ap (λ (r : Rrsig). r.algorithm.0) rrsig ∙ sym q.algorithm) i };
      key = (p.key_field ∙ ap (λ (k : Dnskey). k.key) dnskey ∙ sym q.key_field) i;
      signed_data = same i;
      signature = (p.signature ∙ ap (λ (r : Rrsig). r.signature) rrsig ∙ sym q.signature) i;
    }

module _ (rrsets : List ReceivedRrset) where
  abbrev OfSet : ReceivedRrset → List ℕ → ReceivedRrset → Entry → Type 0
  OfSet rrset signature set = λ entry. (key : List ℕ) × IsMember key set.rdata × IsEntryBy rrset signature key entry

  abbrev OfSignature : ReceivedRrset → List ℕ → Entry → Type 0
  OfSignature rrset signature = λ entry. (set : ReceivedRrset) × IsMember set rrsets × OfSet rrset signature set entry

  abbrev OfRrset : ReceivedRrset → Entry → Type 0
  OfRrset rrset = λ entry. (signature : List ℕ) × IsMember signature rrset.signatures × OfSignature rrset signature entry

  abbrev OfEvidence : Entry → Type 0
  OfEvidence = λ entry. (rrset : ReceivedRrset) × IsMember rrset rrsets × OfRrset rrset entry

  of_asked : (moment : ℕ) (entry : Entry) → IsAsked moment rrsets entry → OfEvidence entry
  of_asked moment entry asked =
      let by : IsEntryBy asked.rrset asked.its.0 asked.key.rdata entry = record {
        rrsig = asked.rrsig;
        read = asked.its.2;
        dnskey = asked.key.dnskey;
        key_read = asked.key_among.is;
        algorithm = asked.is.algorithm;
        key_field = asked.is.key_field;
        signed_data = asked.is.signed_data;
        signature = asked.is.signature;
      } in
      let set = asked.key_among.rrset in
      let of_set : OfSet asked.rrset asked.its.0 set entry =
      (asked.key.rdata, IsMember-from_contains set.rdata asked.key.rdata asked.key_among.rdata, by) in
      let of_signature : OfSignature asked.rrset asked.its.0 entry = (set, IsMember-from_contains rrsets set asked.key_among.among, of_set) in
      let of_rrset : OfRrset asked.rrset entry =
      (asked.its.0, IsMember-from_contains asked.rrset.signatures asked.its.0 asked.its.1, of_signature) in
      (asked.rrset, IsMember-from_contains rrsets asked.rrset asked.among, of_rrset)

  finite_evidence : IsFinite OfEvidence
  finite_evidence =
      finite_each rrsets OfRrset (λ rrset. finite_each rrset.signatures (OfSignature rrset)
      (λ signature. finite_each rrsets (OfSet rrset signature)
      (λ set. finite_each set.rdata (IsEntryBy rrset signature)
      (λ key. finite_one (IsEntryBy rrset signature key) (one_entry_by rrset signature key)))))

some_unknown : (basis : Basis) → Surely ((entries : List Entry) × AreUnknown basis entries)
some_unknown basis =
    let IsUnknown : Entry → Type 0 = λ entry. IsAsked basis.moment basis.rrsets entry × (basis.meaning entry ≡ Unknown) in
    and_then (some_sorted entry_cmp entry_cmp_total entry_Equal IsUnknown
    (finite_within IsUnknown (OfEvidence basis.rrsets) (λ entry is. of_asked basis.rrsets basis.moment entry is.0) (finite_evidence basis.rrsets)))
    (λ all. surely (
      all.0,
      record {
        rising = all.1.rising;
        members = λ entry. (
          λ found. all.1.such entry (IsMember-from_contains all.0 entry found),
          λ is. Contains-from_member all.0 entry (all.1.each entry is),
        );
      },
    ))

-- ---- the verdict

pub some_verdict : (basis : Basis) (name : Labels) (t : ℕ) → Surely ((verdict : Verdict) × IsVerdictAt basis name t verdict)
some_verdict basis name t =
    by_cases (IsSettledBy basis name t)
    (λ settles. and_then (some_settled (IsSecured basis.meaning basis.moment basis.rrsets basis.anchors) basis.rrsets name t settles)
    (λ found. surely (found.0, settled_is_verdict basis name t found.0 found.1)))
    (λ none. by_cases (MayBeSettledBy basis name t)
    (λ may. and_then (some_unknown basis) (λ found. surely (Pending found.0, (none, may, found.1))))
    (λ never. by_cases (HasAnchor basis.anchors name)
    (λ has. surely (Bogus, (none, never, has)))
    (λ lacks. surely (Indeterminate, (none, never, lacks)))))
