-- What is settled depends on which signatures are secured, and more of them settle no less, also among more RRsets.
pub mod NoLessLemmas
pub mod PendingLemmas
use Rattle.std.proofs.Common.{◌≡◌, ◌⊎◌, ℕ, List, inl, inr, ⊎_elim}
use Rattle.dnsv_names.specs.Name.{Labels}
use Rattle.dnsv_records.specs.declared.rrsig.Rrsig.{Rrsig}
use Rattle.dnsv_zones.specs.zones.TypeNumbers.{cname}
use Rattle.dnsv_canonical.specs.Rrsets.{IsNumbered, ReceivedRrset}
use Rattle.dnsv_canonical.specs.SignedData.{IsExpanded}
use Rattle.dnsv_denial.specs.proving.FirstProof.{CanProveNoCloser}
use Rattle.dnsv_denial.proofs.lemmas.more.EvidenceLemmas.{no_name_can_to, no_data_can_to, no_closer_can_to, has_cut_to, opt_out_closer_to, first_no_name_to, first_no_data_to, cut_is_to}
use Rattle.dnsv_verdict.proofs.SearchLemmas.FirstSuchLemmas.{first_such_respects}
use Rattle.dnsv_verdict.specs.Insecure.{IsOptOutWildcard, IsOptOutWildcardCut, IsOptOutWildcardSet, IsUnsigned, IsUnsignedFrom}
use Rattle.dnsv_verdict.specs.Secure.{HoldsForName, IsFirstSuch, IsSecureSet, IsSecuredAt}
use Rattle.dnsv_verdict.specs.Settled.{HasAlias, HasAnswer, IsSettled, IsSettledAs}
use Rattle.dnsv_verdict.specs.declared.verdict.Verdict.{Verdict}
use Rattle.dnsv_verdict.specs.declared.verdict.Verdict.TheVariants.{SecureAnswer, SecureAlias, SecureNoName, SecureNoData, Insecure}

-- ---- more secured signatures settle no less

module _
    (S T : ℕ → ℕ → Type 0) (more : (k s : ℕ) → S k s → T k s) (rrsets rest : List ReceivedRrset)
    (stay : (k : ℕ) (rrset : ReceivedRrset) → IsNumbered rrsets k rrset → IsNumbered rest k rrset) where
  abbrev secured_at_to : (name : Labels) (P Q : ReceivedRrset → Rrsig → Type 0) → ((rrset : ReceivedRrset) (rrsig : Rrsig) → P rrset rrsig → Q rrset rrsig)
      → (k s : ℕ) → IsSecuredAt S rrsets name P k s → IsSecuredAt T rest name Q k s
  secured_at_to name P Q f k s at = record {
    rrset = at.rrset;
    is_rrset = stay k at.rrset at.is_rrset;
    owner = at.owner;
    rdata = at.rdata;
    is_signature = at.is_signature;
    rrsig = at.rrsig;
    read = at.read;
    secured = more k s at.secured;
    such = f at.rrset at.rrsig at.such;
  }

  holds_to : (name : Labels) (rrset : ReceivedRrset) (rrsig : Rrsig) → HoldsForName S rrsets name rrset rrsig → HoldsForName T rest name rrset rrsig
  holds_to name rrset rrsig holds =
      ⊎_elim (λ (plain : ¬ IsExpanded rrset.owner rrsig). inl plain)
      (λ (can : CanProveNoCloser S rrsets name rrsig.labels rrsig.signer). inr (no_closer_can_to S T more rrsets rest stay name rrsig.labels rrsig.signer can)) holds

  pub secure_set_to : (name : Labels) (t k s : ℕ) → IsSecureSet S rrsets name t k s → IsSecureSet T rest name t k s
  secure_set_to name t =
      secured_at_to name (λ rrset rrsig. (rrset.rtype ≡ t) × HoldsForName S rrsets name rrset rrsig)
      (λ rrset rrsig. (rrset.rtype ≡ t) × HoldsForName T rest name rrset rrsig)
      (λ rrset rrsig such. (such.0, holds_to name rrset rrsig such.1))

  abbrev pub opt_out_set_to : (name : Labels) (t k s : ℕ) → IsOptOutWildcardSet S rrsets name t k s → IsOptOutWildcardSet T rest name t k s
  opt_out_set_to name t =
      secured_at_to name (λ rrset rrsig. ((rrset.rtype ≡ t) ⊎ (rrset.rtype ≡ cname)) × IsOptOutWildcard S rrsets name rrset rrsig)
      (λ rrset rrsig. ((rrset.rtype ≡ t) ⊎ (rrset.rtype ≡ cname)) × IsOptOutWildcard T rest name rrset rrsig)
      (λ rrset rrsig such. (such.0, (such.1.0, opt_out_closer_to S T more rrsets rest stay name rrsig.labels rrsig.signer such.1.1)))

  pub answer_to : (name : Labels) (t : ℕ) → HasAnswer S rrsets name t → HasAnswer T rest name t
  answer_to name t has = (has.0, has.1, secure_set_to name t has.0 has.1 has.2)

  pub alias_to : (name : Labels) (t : ℕ) → HasAlias S rrsets name t → HasAlias T rest name t
  alias_to name t has = (has.0, answer_to name cname has.1)

  pub unsigned_to : (name : Labels) (t : ℕ) → IsUnsigned S rrsets name t → IsUnsigned T rest name t
  unsigned_to name t (inl cut) = inl (has_cut_to S T more rrsets rest stay name cut)
  unsigned_to name t (inr opt_out) = inr (opt_out.0, opt_out.1, opt_out_set_to name t opt_out.0 opt_out.1 opt_out.2)

  pub settled_to : (name : Labels) (t : ℕ) → IsSettled S rrsets name t → IsSettled T rest name t
  settled_to name t (inl has) = inl (answer_to name t has)
  settled_to name t (inr (inl has)) = inr (inl (alias_to name t has))
  settled_to name t (inr (inr (inl can))) = inr (inr (inl (no_name_can_to S T more rrsets rest stay name can)))
  settled_to name t (inr (inr (inr (inl can)))) = inr (inr (inr (inl (no_data_can_to S T more rrsets rest stay name t can))))
  settled_to name t (inr (inr (inr (inr is)))) = inr (inr (inr (inr (unsigned_to name t is))))

-- ---- as what it is settled depends on which are secured alone

module _ (S T : ℕ → ℕ → Type 0) (to : (k s : ℕ) → S k s → T k s) (from : (k s : ℕ) → T k s → S k s) (rrsets : List ReceivedRrset) where
  -- the numbers are those of the one list
  same : (k : ℕ) (rrset : ReceivedRrset) → IsNumbered rrsets k rrset → IsNumbered rrsets k rrset
  same k rrset is = is

  first_such_set_to : (name : Labels) (t k s : ℕ) → IsFirstSuch (IsSecureSet S rrsets name t) k s → IsFirstSuch (IsSecureSet T rrsets name t) k s
  first_such_set_to name t k s =
      first_such_respects (IsSecureSet S rrsets name t) (IsSecureSet T rrsets name t) k s
      (λ j r. (secure_set_to S T to rrsets rrsets same name t j r, secure_set_to T S from rrsets rrsets same name t j r))

  opt_out_cut_to : (name : Labels) (t : ℕ) (cut : Labels) → IsOptOutWildcardCut S rrsets name t cut → IsOptOutWildcardCut T rrsets name t cut
  opt_out_cut_to name t cut opt_out = record {
    k = opt_out.k;
    s = opt_out.s;
    earliest = record {
      such = opt_out_set_to S T to rrsets rrsets same name t opt_out.k opt_out.s opt_out.earliest.such;
      earliest = λ j r other. opt_out.earliest.earliest j r (opt_out_set_to T S from rrsets rrsets same name t j r other);
    };
    next_closer = opt_out.next_closer;
  }

  unsigned_from_to : (name : Labels) (t : ℕ) (cut : Labels) → IsUnsignedFrom S rrsets name t cut → IsUnsignedFrom T rrsets name t cut
  unsigned_from_to name t cut (inl is) = inl (cut_is_to S T to from rrsets name cut is)
  unsigned_from_to name t cut (inr opt_out) =
      inr (λ has. opt_out.0 (has_cut_to T S from rrsets rrsets same name has), opt_out_cut_to name t cut opt_out.1)

  pub settled_as_to : (name : Labels) (t : ℕ) (verdict : Verdict) → IsSettledAs S rrsets name t verdict → IsSettledAs T rrsets name t verdict
  settled_as_to name t (SecureAnswer k s) is = first_such_set_to name t k s is
  settled_as_to name t (SecureAlias k s) is =
      (λ has. is.0 (answer_to T S from rrsets rrsets same name t has), is.1, first_such_set_to name cname k s is.2)
  settled_as_to name t (SecureNoName proof) is = (
    λ has. is.0 (answer_to T S from rrsets rrsets same name t has),
    λ has. is.1 (alias_to T S from rrsets rrsets same name t has),
    first_no_name_to S T to from rrsets name proof is.2,
  )
  settled_as_to name t (SecureNoData proof) is = (
    λ has. is.0 (answer_to T S from rrsets rrsets same name t has),
    λ has. is.1 (alias_to T S from rrsets rrsets same name t has),
    λ can. is.2 (no_name_can_to T S from rrsets rrsets same name can),
    first_no_data_to S T to from rrsets name t proof is.3,
  )
  settled_as_to name t (Insecure cut) is = (
    λ has. is.0 (answer_to T S from rrsets rrsets same name t has),
    λ has. is.1 (alias_to T S from rrsets rrsets same name t has),
    λ can. is.2 (no_name_can_to T S from rrsets rrsets same name can),
    λ can. is.3 (no_data_can_to T S from rrsets rrsets same name t can),
    unsigned_from_to name t cut is.4,
  )
  settled_as_to name t verdict is = is
