-- More evidence makes no verdict worse: where a case holds before, it holds after.
use Rattle.std.proofs.Common.{◌≡◌, ◌≢◌, ◌≤◌, ◌++◌, ℕ, List, refl, sym, ap, subst, inl, inr, arith}
use Rattle.std.specs.Prelude.{Contains}
use Rattle.dnsv_names.specs.Name.{Labels}
use Rattle.dnsv_canonical.specs.Rrsets.{IsNumbered, ReceivedRrset}
use Rattle.dnsv_verifier.specs.Table.{hoped_answer}
use Rattle.dnsv_verifier.specs.declared.answer.Answer.{Answer}
use Rattle.dnsv_verifier.specs.declared.answer.Answer.TheVariants.{Valid, Invalid, Unknown}
use Rattle.dnsv_verifier.specs.declared.entry.Entry.{Entry}
use Rattle.dnsv_chain.proofs.TrustedLemmas.{numbered_left}
use Rattle.dnsv_chain.specs.Trusted.{IsSecured}
use Rattle.dnsv_anchors.specs.declared.anchor.Anchor.{Anchor}
use Rattle.dnsv_denial.specs.proving.FirstProof.{CanProveNoData, CanProveNoName}
use Rattle.dnsv_verdict.proofs.CaseLemmas.{unsigned_stands}
use Rattle.dnsv_denial.proofs.lemmas.more.EvidenceLemmas.{no_name_can_to, no_data_can_to}
use Rattle.dnsv_verdict.proofs.OneProof.{can_be}
use Rattle.dnsv_verdict.proofs.SettledLemmas.{answer_to, alias_to, settled_to, unsigned_to}
use Rattle.dnsv_verdict.specs.Insecure.{IsUnsigned}
use Rattle.dnsv_verdict.specs.Settled.NoLess.{IsNoLess, case_of}
use Rattle.dnsv_verdict.specs.Settled.{HasAlias, HasAnswer}
use Rattle.dnsv_chain.specs.Basis.{Basis, HasAnchor, hopeful}
use Rattle.dnsv_verdict.specs.Verdict.{IsVerdictAt, MayBeSettledBy}
use Rattle.dnsv_verdict.specs.declared.verdict.Verdict.{Verdict}
use Rattle.dnsv_verdict.specs.declared.verdict.Verdict.TheVariants.{SecureAnswer, SecureAlias, SecureNoName, SecureNoData, Insecure, Pending, Bogus, Indeterminate}

-- ---- hope

hoped_open : (answer : Answer) → answer ≢ Invalid → hoped_answer answer ≡ Valid
hoped_open Invalid other = absurd (other refl)
hoped_open answer other = refl

hoped_known : (answer : Answer) → hoped_answer answer ≡ Unknown → ⊥
hoped_known Unknown is = let clash : Valid ≡ Unknown = is in cc
hoped_known answer is = let clash : answer ≡ Unknown = is in cc

still_hoped : (before after : Answer) → (before ≡ Valid → after ≡ Valid) → (before ≡ Unknown → after ≢ Invalid)
    → hoped_answer before ≡ Valid → hoped_answer after ≡ Valid
still_hoped Valid after valid unknown hoped = ap (λ answer. hoped_answer answer) (valid refl)
still_hoped Unknown after valid unknown hoped = hoped_open after (unknown refl)
still_hoped Invalid after valid unknown hoped = let clash : Invalid ≡ Valid = hoped in cc

hopeful_no_less : (before after : Basis) → IsNoLess before after → IsNoLess (hopeful before) (hopeful after)
hopeful_no_less before after less = record {
  later = less.later;
  rrsets = less.rrsets;
  anchors = less.anchors;
  moment = less.moment;
  answers = record {
    valid = λ entry. still_hoped (before.meaning entry) (after.meaning entry) (less.answers.valid entry) (less.answers.unknown entry);
    unknown = λ entry is. absurd (hoped_known (before.meaning entry) is);
  };
}

-- ---- where a case holds, the verdict is that of no later one

-- which signatures are secured
abbrev SecuredOf : Basis → ℕ → ℕ → Type 0
SecuredOf basis = IsSecured basis.meaning basis.moment basis.rrsets basis.anchors

module _ (basis : Basis) (name : Labels) (t : ℕ) where
  by_answer : HasAnswer (SecuredOf basis) basis.rrsets name t → (verdict : Verdict) → IsVerdictAt basis name t verdict → case_of verdict ≤ 1
  by_answer has (SecureAnswer k s) is = omega arith
  by_answer has (Pending entries) is = absurd (is.0 (inl has))
  by_answer has Bogus is = absurd (is.0 (inl has))
  by_answer has Indeterminate is = absurd (is.0 (inl has))
  by_answer has verdict is = absurd (is.0 has)

  by_alias : HasAlias (SecuredOf basis) basis.rrsets name t → (verdict : Verdict) → IsVerdictAt basis name t verdict → case_of verdict ≤ 2
  by_alias has (SecureAnswer k s) is = omega arith
  by_alias has (SecureAlias k s) is = omega arith
  by_alias has (Pending entries) is = absurd (is.0 (inr (inl has)))
  by_alias has Bogus is = absurd (is.0 (inr (inl has)))
  by_alias has Indeterminate is = absurd (is.0 (inr (inl has)))
  by_alias has verdict is = absurd (is.1 has)

  by_no_name : CanProveNoName (SecuredOf basis) basis.rrsets name → (verdict : Verdict) → IsVerdictAt basis name t verdict → case_of verdict ≤ 3
  by_no_name can (SecureNoData proof) is = absurd (is.2 can)
  by_no_name can (Insecure cut) is = absurd (is.2 can)
  by_no_name can (Pending entries) is = absurd (is.0 (inr (inr (inl can))))
  by_no_name can Bogus is = absurd (is.0 (inr (inr (inl can))))
  by_no_name can Indeterminate is = absurd (is.0 (inr (inr (inl can))))
  by_no_name can verdict is = omega arith

  by_no_data : CanProveNoData (SecuredOf basis) basis.rrsets name t → (verdict : Verdict) → IsVerdictAt basis name t verdict → case_of verdict ≤ 4
  by_no_data can (Insecure cut) is = absurd (is.3 can)
  by_no_data can (Pending entries) is = absurd (is.0 (inr (inr (inr (inl can)))))
  by_no_data can Bogus is = absurd (is.0 (inr (inr (inr (inl can)))))
  by_no_data can Indeterminate is = absurd (is.0 (inr (inr (inr (inl can)))))
  by_no_data can verdict is = omega arith

  by_cut : IsUnsigned (SecuredOf basis) basis.rrsets name t → (verdict : Verdict) → IsVerdictAt basis name t verdict → case_of verdict ≤ 5
  by_cut unsigned (Pending entries) is = absurd (is.0 (inr (inr (inr (inr unsigned)))))
  by_cut unsigned Bogus is = absurd (is.0 (inr (inr (inr (inr unsigned)))))
  by_cut unsigned Indeterminate is = absurd (is.0 (inr (inr (inr (inr unsigned)))))
  by_cut unsigned verdict is = omega arith

  by_hope : MayBeSettledBy basis name t → (verdict : Verdict) → IsVerdictAt basis name t verdict → case_of verdict ≤ 6
  by_hope may Bogus is = absurd (is.1 may)
  by_hope may Indeterminate is = absurd (is.1 may)
  by_hope may verdict is = omega arith

  by_anchor : HasAnchor basis.anchors name → (verdict : Verdict) → IsVerdictAt basis name t verdict → case_of verdict ≤ 7
  by_anchor has Indeterminate is = absurd (is.2 has)
  by_anchor has verdict is = omega arith

by_nothing : (verdict : Verdict) → case_of verdict ≤ 8
by_nothing Bogus = omega arith
by_nothing verdict = omega arith

-- the case of a verdict that needs no more answers holds, by these signatures
abbrev pub HoldsCase : (ℕ → ℕ → Type 0) → List ReceivedRrset → Labels → ℕ → Verdict → Type 0
HoldsCase S rrsets name t (SecureAnswer k s) = HasAnswer S rrsets name t
HoldsCase S rrsets name t (SecureAlias k s) = HasAlias S rrsets name t
HoldsCase S rrsets name t (SecureNoName proof) = CanProveNoName S rrsets name
HoldsCase S rrsets name t (SecureNoData proof) = CanProveNoData S rrsets name t
HoldsCase S rrsets name t (Insecure cut) = IsUnsigned S rrsets name t
HoldsCase S rrsets name t verdict = ⊥

-- so the verdict is of no later one
pub no_later : (basis : Basis) (name : Labels) (t : ℕ) (first second : Verdict) → HoldsCase (SecuredOf basis) basis.rrsets name t first
    → IsVerdictAt basis name t second → case_of second ≤ case_of first
no_later basis name t (SecureAnswer k s) second holds is = by_answer basis name t holds second is
no_later basis name t (SecureAlias k s) second holds is = by_alias basis name t holds second is
no_later basis name t (SecureNoName proof) second holds is = by_no_name basis name t holds second is
no_later basis name t (SecureNoData proof) second holds is = by_no_data basis name t holds second is
no_later basis name t (Insecure cut) second holds is = by_cut basis name t holds second is
no_later basis name t first second holds is = absurd holds

-- ---- a case that holds still holds

module _
    (numbers : (meaning better : Entry → Answer) (moment : ℕ) (rrsets later : List ReceivedRrset) (anchors others : List Anchor)
    → ((entry : Entry) → meaning entry ≡ Valid → better entry ≡ Valid)
    → ((anchor : Anchor) → Contains anchors anchor → Contains others anchor)
    → (k s : ℕ) → IsSecured meaning moment rrsets anchors k s → IsSecured better moment (rrsets ++ later) others k s) where
  still_secured : (before after : Basis) → IsNoLess before after → (k s : ℕ) → SecuredOf before k s → SecuredOf after k s
  still_secured before after less k s secured =
      subst (λ rrsets. IsSecured after.meaning after.moment rrsets after.anchors k s) (sym less.rrsets)
      (subst (λ moment. IsSecured after.meaning moment (before.rrsets ++ less.later) after.anchors k s) (sym less.moment)
      (numbers before.meaning after.meaning before.moment before.rrsets less.later before.anchors after.anchors less.answers.valid less.anchors k s secured))

  still_numbered : (before after : Basis) → IsNoLess before after → (k : ℕ) (rrset : ReceivedRrset)
      → IsNumbered before.rrsets k rrset → IsNumbered after.rrsets k rrset
  still_numbered before after less k rrset numbered =
      subst (λ rrsets. IsNumbered rrsets k rrset) (sym less.rrsets) (numbered_left before.rrsets less.later k rrset numbered)

  pub no_worse : (before after : Basis) (name : Labels) (t : ℕ) (first second : Verdict) → IsNoLess before after
      → IsVerdictAt before name t first → IsVerdictAt after name t second → case_of second ≤ case_of first
  no_worse before after name t (SecureAnswer k s) second less is better =
      by_answer after name t
      (answer_to (SecuredOf before) (SecuredOf after) (still_secured before after less) before.rrsets after.rrsets (still_numbered before after less) name t (k, s, is.such))
      second better
  no_worse before after name t (SecureAlias k s) second less is better =
      by_alias after name t
      (alias_to (SecuredOf before) (SecuredOf after) (still_secured before after less) before.rrsets after.rrsets (still_numbered before after less) name t (is.1, (k, s, is.2.such)))
      second better
  no_worse before after name t (SecureNoName proof) second less is better =
      by_no_name after name t
      (no_name_can_to (SecuredOf before) (SecuredOf after) (still_secured before after less) before.rrsets after.rrsets (still_numbered before after less) name
      (can_be (SecuredOf before) before.rrsets name _ _ proof is.2))
      second better
  no_worse before after name t (SecureNoData proof) second less is better =
      by_no_data after name t
      (no_data_can_to (SecuredOf before) (SecuredOf after) (still_secured before after less) before.rrsets after.rrsets (still_numbered before after less) name t
      (can_be (SecuredOf before) before.rrsets name _ _ proof is.3))
      second better
  no_worse before after name t (Insecure cut) second less is better =
      by_cut after name t
      (unsigned_to (SecuredOf before) (SecuredOf after) (still_secured before after less) before.rrsets after.rrsets (still_numbered before after less) name t
      (unsigned_stands (SecuredOf before) before.rrsets name t cut is.4))
      second better
  no_worse before after name t (Pending entries) second less is better =
      let hopes : IsNoLess (hopeful before) (hopeful after) = hopeful_no_less before after less in
      by_hope after name t
      (settled_to (SecuredOf (hopeful before)) (SecuredOf (hopeful after)) (still_secured (hopeful before) (hopeful after) hopes) before.rrsets after.rrsets (still_numbered (hopeful before) (hopeful after) hopes) name t is.1)
      second better
  no_worse before after name t Bogus second less is better =
      by_anchor after name t (is.2.0, less.anchors is.2.0 is.2.1, is.2.2) second better
  no_worse before after name t Indeterminate second less is better = by_nothing second
