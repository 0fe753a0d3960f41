-- The first case that holds gives the verdict, and there is only one.
use Rattle.std.proofs.Common.{◌≡◌, ◌⊎◌, ◌+◌, ◌-◌, ℕ, List, refl, sym, ap, ◌∙◌, inl, inr, ⊎_elim, subst}
use Rattle.std.specs.Prelude.{Some, slice_get}
use Rattle.dnsv_names.specs.Name.{Labels, rightmost}
use Rattle.dnsv_records.proofs.OneRecord.{one_rrsig}
use Rattle.dnsv_records.specs.Rrsig.{IsRrsig}
use Rattle.dnsv_records.specs.declared.rrsig.Rrsig.{Rrsig}
use Rattle.dnsv_zones.specs.zones.TypeNumbers.{cname}
use Rattle.dnsv_canonical.specs.Rrsets.{ReceivedRrset}
use Rattle.dnsv_verifier.specs.declared.entry.Entry.{Entry}
use Rattle.dnsv_denial.specs.proving.FirstProof.{CanProveNoData, CanProveNoName, IsFirstNoData, IsFirstNoName, ProofRecords}
use Rattle.dnsv_denial.specs.unsigned_cuts.Cuts.{HasUnsignedCut}
use Rattle.dnsv_verdict.proofs.SearchLemmas.FirstSuchLemmas.{one_first_such}
use Rattle.dnsv_verdict.proofs.OneProof.{can_be, one_cut, cut_stands, one_first_no_name, one_first_no_data}
use Rattle.dnsv_verdict.proofs.UnknownLemmas.{one_unknown}
use Rattle.dnsv_verdict.specs.Insecure.{IsOptOutWildcardCut, IsOptOutWildcardSet, IsUnsigned, IsUnsignedFrom}
use Rattle.dnsv_verdict.specs.Secure.{IsFirstSuch, IsSecuredAt, IsSecureSet}
use Rattle.dnsv_verdict.specs.Settled.{HasAlias, HasAnswer, IsSettled, IsSettledAs}
use Rattle.dnsv_verdict.specs.Verdict.{AreUnknown, IsVerdictAt, MayBeSettledBy, IsSettledBy, IsSettledAsBy}
use Rattle.dnsv_chain.specs.Basis.{Basis, HasAnchor}
use Rattle.dnsv_verdict.specs.declared.verdict.Verdict.{Verdict}
use Rattle.dnsv_verdict.specs.declared.verdict.Verdict.TheVariants.{SecureAnswer, SecureAlias, SecureNoName, SecureNoData, Insecure, Pending, Bogus, Indeterminate}

pub some_is_one : {X : Type 0} {x y : X} → Some x ≡ Some y → x ≡ y
some_is_one e = cc

-- ---- what is settled

-- none of the five holds
pub nothing_settled : (S : ℕ → ℕ → Type 0) (rrsets : List ReceivedRrset) (name : Labels) (t : ℕ)
    → ¬ HasAnswer S rrsets name t → ¬ HasAlias S rrsets name t → ¬ CanProveNoName S rrsets name → ¬ CanProveNoData S rrsets name t
    → ¬ HasUnsignedCut S rrsets name → ((k s : ℕ) → ¬ IsOptOutWildcardSet S rrsets name t k s) → ¬ IsSettled S rrsets name t
nothing_settled S rrsets name t a b c d e f (inl x) = a x
nothing_settled S rrsets name t a b c d e f (inr (inl x)) = b x
nothing_settled S rrsets name t a b c d e f (inr (inr (inl x))) = c x
nothing_settled S rrsets name t a b c d e f (inr (inr (inr (inl x)))) = d x
nothing_settled S rrsets name t a b c d e f (inr (inr (inr (inr (inl x))))) = e x
nothing_settled S rrsets name t a b c d e f (inr (inr (inr (inr (inr x))))) = f x.0 x.1 x.2

-- a name at which an unsigned zone may begin
pub unsigned_stands : (S : ℕ → ℕ → Type 0) (rrsets : List ReceivedRrset) (name : Labels) (t : ℕ) (cut : Labels)
    → IsUnsignedFrom S rrsets name t cut → IsUnsigned S rrsets name t
unsigned_stands S rrsets name t cut (inl is) = inl (cut_stands S rrsets name cut is)
unsigned_stands S rrsets name t cut (inr opt_out) = inr (opt_out.1.k, opt_out.1.s, opt_out.1.earliest.such)

-- what is settled in some way is settled
pub settled_stands : (S : ℕ → ℕ → Type 0) (rrsets : List ReceivedRrset) (name : Labels) (t : ℕ) (verdict : Verdict)
    → IsSettledAs S rrsets name t verdict → IsSettled S rrsets name t
settled_stands S rrsets name t (SecureAnswer k s) is = inl (k, s, is.such)
settled_stands S rrsets name t (SecureAlias k s) is = inr (inl (is.1, (k, s, is.2.such)))
settled_stands S rrsets name t (SecureNoName proof) is = inr (inr (inl (can_be S rrsets name _ _ proof is.2)))
settled_stands S rrsets name t (SecureNoData proof) is = inr (inr (inr (inl (can_be S rrsets name _ _ proof is.3))))
settled_stands S rrsets name t (Insecure cut) is = inr (inr (inr (inr (unsigned_stands S rrsets name t cut is.4))))
settled_stands S rrsets name t verdict is = absurd is

-- ---- one case, or else the others

-- the verdict is what the case gives, or the case doesn't hold, and it is what the others give
abbrev Else : Type 0 → (Verdict → Type 0) → (Verdict → Type 0) → Verdict → Type 0
Else Case Gives Others verdict = Gives verdict ⊎ (¬ Case × Others verdict)

abbrev IsOne : (Verdict → Type 0) → Type 0
IsOne Gives = (a b : Verdict) → Gives a → Gives b → a ≡ b

one_else : (Case : Type 0) (Gives Others : Verdict → Type 0) → ((v : Verdict) → Gives v → Case) → IsOne Gives → IsOne Others
    → IsOne (Else Case Gives Others)
one_else Case Gives Others holds one others a b p q =
    ⊎_elim (λ (x : Gives a). ⊎_elim (λ (y : Gives b). one a b x y) (λ (y : ¬ Case × Others b). absurd (y.0 (holds a x))) q)
    (λ (x : ¬ Case × Others a). ⊎_elim (λ (y : Gives b). absurd (x.0 (holds b y))) (λ (y : ¬ Case × Others b). others a b x.1 y.1) q)
    p

-- ---- as what it is settled

module _ (S : ℕ → ℕ → Type 0) (rrsets : List ReceivedRrset) (name : Labels) where
  abbrev AnswerAs : ℕ → Verdict → Type 0
  AnswerAs t verdict = (k : ℕ) × (s : ℕ) × (verdict ≡ SecureAnswer k s) × IsFirstSuch (IsSecureSet S rrsets name t) k s

  abbrev AliasAs : ℕ → Verdict → Type 0
  AliasAs t verdict =
      (k : ℕ) × (s : ℕ) × (verdict ≡ SecureAlias k s) × (t ≡ cname → ⊥) × IsFirstSuch (IsSecureSet S rrsets name cname) k s

  abbrev NoNameAs : Verdict → Type 0
  NoNameAs verdict = (proof : ProofRecords) × (verdict ≡ SecureNoName proof) × IsFirstNoName S rrsets name proof

  abbrev NoDataAs : ℕ → Verdict → Type 0
  NoDataAs t verdict = (proof : ProofRecords) × (verdict ≡ SecureNoData proof) × IsFirstNoData S rrsets name t proof

  abbrev UnsignedAs : ℕ → Verdict → Type 0
  UnsignedAs t verdict = (cut : Labels) × (verdict ≡ Insecure cut) × IsUnsignedFrom S rrsets name t cut

  one_answer : (t : ℕ) → IsOne (AnswerAs t)
  one_answer t a b p q =
      let same = one_first_such (IsSecureSet S rrsets name t) p.0 p.1 q.0 q.1 p.3 q.3 in
      p.2 ∙ (λ i. SecureAnswer (same.0 i) (same.1 i)) ∙ sym q.2

  one_alias : (t : ℕ) → IsOne (AliasAs t)
  one_alias t a b p q =
      let same = one_first_such (IsSecureSet S rrsets name cname) p.0 p.1 q.0 q.1 p.4 q.4 in
      p.2 ∙ (λ i. SecureAlias (same.0 i) (same.1 i)) ∙ sym q.2

  one_no_name : IsOne NoNameAs
  one_no_name a b p q = p.1 ∙ ap (λ proof. SecureNoName proof) (one_first_no_name S rrsets name p.0 q.0 p.2 q.2) ∙ sym q.1

  one_no_data : (t : ℕ) → IsOne (NoDataAs t)
  one_no_data t a b p q = p.1 ∙ ap (λ proof. SecureNoData proof) (one_first_no_data S rrsets name t p.0 q.0 p.2 q.2) ∙ sym q.1

  -- a signature by its numbers is one
  one_signature : (Such : ReceivedRrset → Rrsig → Type 0) (k s j r : ℕ) → k ≡ j → s ≡ r
      → (x : IsSecuredAt S rrsets name Such k s) (y : IsSecuredAt S rrsets name Such j r) → x.rrsig ≡ y.rrsig
  one_signature Such k s j r same_k same_s x y =
      let there : slice_get rrsets (j - 1) ≡ Some x.rrset = subst (λ n. slice_get rrsets (n - 1) ≡ Some x.rrset) same_k x.is_rrset.1 in
      let rrset : x.rrset ≡ y.rrset = some_is_one (sym there ∙ y.is_rrset.1) in
      let here : slice_get y.rrset.signatures (r - 1) ≡ Some x.rdata =
      subst (λ set. slice_get set.signatures (r - 1) ≡ Some x.rdata) rrset (subst (λ n. slice_get x.rrset.signatures (n - 1) ≡ Some x.rdata) same_s x.is_signature.1) in
      let rdata : x.rdata ≡ y.rdata = some_is_one (sym here ∙ y.is_signature.1) in
      one_rrsig y.rdata x.rrsig y.rrsig (subst (λ octets. IsRrsig octets x.rrsig) rdata x.read) y.read

  one_opt_out : (t : ℕ) (a b : Labels) → IsOptOutWildcardCut S rrsets name t a → IsOptOutWildcardCut S rrsets name t b → a ≡ b
  one_opt_out t a b p q =
      let same = one_first_such (IsOptOutWildcardSet S rrsets name t) p.k p.s q.k q.s p.earliest q.earliest in
      let rrsig = one_signature _ p.k p.s q.k q.s same.0 same.1 p.earliest.such q.earliest.such in
      p.next_closer ∙ ap (λ x. rightmost name (x.labels + 1)) rrsig ∙ sym q.next_closer

  one_unsigned_from : (t : ℕ) (a b : Labels) → IsUnsignedFrom S rrsets name t a → IsUnsignedFrom S rrsets name t b → a ≡ b
  one_unsigned_from t a b (inl p) (inl q) = one_cut S rrsets name a b p q
  one_unsigned_from t a b (inl p) (inr q) = absurd (q.0 (cut_stands S rrsets name a p))
  one_unsigned_from t a b (inr p) (inl q) = absurd (p.0 (cut_stands S rrsets name b q))
  one_unsigned_from t a b (inr p) (inr q) = one_opt_out t a b p.1 q.1

  one_unsigned : (t : ℕ) → IsOne (UnsignedAs t)
  one_unsigned t a b p q = p.1 ∙ ap (λ cut. Insecure cut) (one_unsigned_from t p.0 q.0 p.2 q.2) ∙ sym q.1

  -- the five, each where none before it holds
  abbrev FirstAs : ℕ → Verdict → Type 0
  FirstAs t =
      Else (HasAnswer S rrsets name t) (AnswerAs t)
      (Else (HasAlias S rrsets name t) (AliasAs t)
      (Else (CanProveNoName S rrsets name) NoNameAs
      (Else (CanProveNoData S rrsets name t) (NoDataAs t) (UnsignedAs t))))

  one_first : (t : ℕ) → IsOne (FirstAs t)
  one_first t =
      one_else (HasAnswer S rrsets name t) (AnswerAs t) _ (λ v p. (p.0, p.1, p.3.such)) (one_answer t)
      (one_else (HasAlias S rrsets name t) (AliasAs t) _ (λ v p. (p.3, (p.0, p.1, p.4.such))) (one_alias t)
      (one_else (CanProveNoName S rrsets name) NoNameAs _ (λ v p. can_be S rrsets name _ _ p.0 p.2) one_no_name
      (one_else (CanProveNoData S rrsets name t) (NoDataAs t) (UnsignedAs t) (λ v p. can_be S rrsets name _ _ p.0 p.2) (one_no_data t) (one_unsigned t))))

  first_as : (t : ℕ) (verdict : Verdict) → IsSettledAs S rrsets name t verdict → FirstAs t verdict
  first_as t (SecureAnswer k s) is = inl (k, s, refl, is)
  first_as t (SecureAlias k s) is = inr (is.0, inl (k, s, refl, is.1, is.2))
  first_as t (SecureNoName proof) is = inr (is.0, inr (is.1, inl (proof, refl, is.2)))
  first_as t (SecureNoData proof) is = inr (is.0, inr (is.1, inr (is.2, inl (proof, refl, is.3))))
  first_as t (Insecure cut) is = inr (is.0, inr (is.1, inr (is.2, inr (is.3, (cut, refl, is.4)))))
  first_as t verdict is = absurd is

  pub one_settled_as : (t : ℕ) → IsOne (IsSettledAs S rrsets name t)
  one_settled_as t a b p q = one_first t a b (first_as t a p) (first_as t b q)

-- ---- the verdict

abbrev PendingAs : Basis → Verdict → Type 0
PendingAs basis verdict = (entries : List Entry) × (verdict ≡ Pending entries) × AreUnknown basis entries

one_pending : (basis : Basis) → IsOne (PendingAs basis)
one_pending basis a b p q = p.1 ∙ ap (λ entries. Pending entries) (one_unknown basis p.0 q.0 p.2 q.2) ∙ sym q.1

-- the eight cases, each where none before it holds
abbrev FirstOf : Basis → Labels → ℕ → Verdict → Type 0
FirstOf basis name t =
    Else (IsSettledBy basis name t) (IsSettledAsBy basis name t)
    (Else (MayBeSettledBy basis name t) (λ v. MayBeSettledBy basis name t × PendingAs basis v)
    (Else (HasAnchor basis.anchors name) (λ v. HasAnchor basis.anchors name × (v ≡ Bogus)) (λ v. v ≡ Indeterminate)))

one_of : (basis : Basis) (name : Labels) (t : ℕ) → IsOne (FirstOf basis name t)
one_of basis name t =
    one_else (IsSettledBy basis name t) (IsSettledAsBy basis name t) _ (λ v p. settled_stands _ basis.rrsets name t v p) (one_settled_as _ basis.rrsets name t)
    (one_else (MayBeSettledBy basis name t) _ _ (λ v p. p.0) (λ a b p q. one_pending basis a b p.1 q.1)
    (one_else (HasAnchor basis.anchors name) _ _ (λ v p. p.0) (λ a b p q. p.1 ∙ sym q.1) (λ a b p q. p ∙ sym q)))

first_of_eight : (basis : Basis) (name : Labels) (t : ℕ) (verdict : Verdict) → IsVerdictAt basis name t verdict → FirstOf basis name t verdict
first_of_eight basis name t (Pending entries) is = inr (is.0, inl (is.1, (entries, refl, is.2)))
first_of_eight basis name t Bogus is = inr (is.0, inr (is.1, inl (is.2, refl)))
first_of_eight basis name t Indeterminate is = inr (is.0, inr (is.1, inr (is.2, refl)))
first_of_eight basis name t verdict is = inl is

-- there is only one verdict
pub one_verdict : (basis : Basis) (name : Labels) (t : ℕ) (a b : Verdict) → IsVerdictAt basis name t a → IsVerdictAt basis name t b → a ≡ b
one_verdict basis name t a b p q = one_of basis name t a b (first_of_eight basis name t a p) (first_of_eight basis name t b q)
