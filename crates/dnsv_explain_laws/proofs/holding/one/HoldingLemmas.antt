-- What holds for a verdict is told in one way.
use Rattle.std.proofs.Common.{◌≡◌, ◌∙◌, ◌-◌, ◌<◌, ◌≤◌, ⊎_elim, ℕ, List, [], ◌∷◌, Some, arith, get_or, refl, sym, ap, subst}
use Rattle.std.proofs.lemmas.Bool.{cases_lt}
use Rattle.std.proofs.lemmas.Cmp.{tied_itself}
use Rattle.std.proofs.lemmas.Map.Keys.{Less-from_sorted}
use Rattle.std.proofs.lemmas.Option.{get_or_from_slice_get, slice_get_within}
use Rattle.std.specs.List.Sorted.{IsStrictlySortedBy}
use Rattle.std.specs.declared.cmp.Ordering.TheVariants.{Less, Equal}
use Rattle.std.specs.List.{Contains}
use Rattle.dnsv_names.specs.Name.{Labels}
use Rattle.dnsv_records.specs.declared.rrsig.Rrsig.{Rrsig}
use Rattle.dnsv_canonical.specs.Rrsets.{IsNumbered, ReceivedRrset}
use Rattle.dnsv_canonical.specs.SignedData.{IsExpanded}
use Rattle.dnsv_verifier.specs.Entry.{entry_cmp}
use Rattle.dnsv_verifier.specs.EntryLaws.{entry_cmp_total}
use Rattle.dnsv_verifier.specs.declared.entry.Entry.{Entry}
use Rattle.dnsv_chain.specs.Trust.{signed_of}
use Rattle.dnsv_chain.specs.Trusted.{IsSecured}
use Rattle.dnsv_denial.specs.proving.ShownDenials.{IsShownNoCloser, IsShownNoData, IsShownNoName}
use Rattle.dnsv_denial.specs.unsigned_cuts.ShownCut.{IsShownCut, IsShownOptOutCloser}
use Rattle.dnsv_denial.specs.declared.proving.shown_denial.ShownDenial.{ShownDenial}
use Rattle.dnsv_denial.specs.declared.unsigned_cuts.shown_cut.ShownCut.{ShownCut}
use Rattle.dnsv_verdict.proofs.CaseLemmas.{one_settled_as}
use Rattle.dnsv_verdict.proofs.SearchLemmas.FirstSuchLemmas.{one_first_such}
use Rattle.dnsv_verdict.specs.Insecure.{IsOptOutWildcardSet}
use Rattle.dnsv_verdict.specs.Secure.{IsFirstSuch}
use Rattle.dnsv_chain.specs.Basis.{Basis}
use Rattle.dnsv_verdict.specs.Verdict.{IsVerdictAt}
use Rattle.dnsv_verdict.specs.declared.link.Link.{Link}
use Rattle.dnsv_verdict.specs.declared.verdict.Verdict.{Verdict}
use Rattle.dnsv_verdict.specs.declared.verdict.Verdict.TheVariants.{SecureAnswer, SecureAlias, SecureNoName, SecureNoData, Insecure, Pending, Bogus, Indeterminate}
use Rattle.dnsv_derivations.specs.Denials.{IsDenialTold, IsExpandedTold}
use Rattle.dnsv_derivations.specs.Explained.{Explained, Setting, setting_in}
use Rattle.dnsv_holding.specs.Explained.{hoped}
use Rattle.dnsv_holding.specs.Holding.{IsEndTold, IsHoldingTold, IsHopeTold, IsLinkTold, IsNoDataTold, IsNoNameTold, IsSetTold, IsSettledTold, IsUnsignedFromTold, IsVerdictTold, IsWayTold, signature_of, told_kind}
use Rattle.dnsv_holding.specs.Holding.IsSetTold.{as_owned, by_wildcard}
use Rattle.dnsv_holding.specs.Holding.IsUnsignedFromTold.{by_cut, by_wildcard as loosely}
use Rattle.dnsv_derivations.specs.Saying.{AreBoth, AreEach}
use Rattle.dnsv_derivations.specs.unsigned_cuts.ShownCuts.{IsCutTold}
use Rattle.dnsv_lines.specs.declared.line.Kind.{Kind}
use Rattle.dnsv_lines.specs.declared.line.Line.{Line}
use Rattle.dnsv_lines.specs.declared.line.Line.TheVariants as line
use Rattle.dnsv_canonical.specs.declared.number.SignatureNumber.{SignatureNumber}
use Rattle.dnsv_derivations.proofs.lemmas.one.CutLemmas.{one_cut_told}
use Rattle.dnsv_derivations.proofs.lemmas.one.DenialLemmas.{one_denial, one_expanded}
use Rattle.dnsv_derivations.proofs.lemmas.one.DerivationLemmas.{one_held, one_signature}
use Rattle.dnsv_explain_laws.proofs.holding.one.PlaceLemmas.{one_end, one_places_told}
use Rattle.dnsv_explain_laws.proofs.holding.one.ShownLemmas.{cut_there, one_shown_closer, one_shown_cut, one_shown_data, one_shown_name, one_shown_out, one_trust}
use Rattle.dnsv_derivations.proofs.lemmas.one.StepLemmas.{IsOne, one_both, one_each}
use Rattle.dnsv_derivations.proofs.lemmas.one.TrustedLemmas.{AreApart, one_signature_at}

-- which signatures are kept as good
abbrev Kept : (ℕ → List ℕ) → ℕ → ℕ → Type 0
Kept signed k s = Contains (signed k) s

module _ (setting : Setting) (apart : AreApart setting.todo) (name : Labels) where
  -- ---- an RRset that holds

  pub one_set : (number : SignatureNumber) → IsOne (IsSetTold setting name number)
  one_set number before a b (as_owned r g at own told) (as_owned s h there other its) =
      one_signature setting apart number before a b told its
  one_set number before a b (as_owned r g at own told) (by_wildcard s h trust shown there expanded good is its) =
      let same = one_signature_at setting.rrsets number number s r there.rdata at.rdata h g refl
      (there.is_rrset, there.is_signature, there.read) (at.is_rrset, at.is_signature, at.read) in
      let Of : ReceivedRrset → Type 0 = λ each. IsExpanded each.owner h in
      let By : Rrsig → Type 0 = λ each. IsExpanded r.owner each in
      absurd (own (subst By same.1 (subst Of same.0 expanded)))
  one_set number before a b (by_wildcard r g trust shown at expanded good is told) (as_owned s h there own its) =
      let same = one_signature_at setting.rrsets number number r s at.rdata there.rdata g h refl
      (at.is_rrset, at.is_signature, at.read) (there.is_rrset, there.is_signature, there.read) in
      let Of : ReceivedRrset → Type 0 = λ each. IsExpanded each.owner g in
      let By : Rrsig → Type 0 = λ each. IsExpanded s.owner each in
      absurd (own (subst By same.1 (subst Of same.0 expanded)))
  one_set number before a b (by_wildcard r g trust p at expanded good is told) (by_wildcard s h kept q there more fine its said) =
      let same = one_signature_at setting.rrsets number number r s at.rdata there.rdata g h refl
      (at.is_rrset, at.is_signature, at.read) (there.is_rrset, there.is_signature, there.read) in
      let signed : signed_of trust ≡ signed_of kept = one_trust setting trust kept good fine in
      let By : (ℕ → List ℕ) → Type 0 = λ each. IsShownNoCloser (Kept each) setting.rrsets name g.labels g.signer p in
      let Of : Rrsig → Type 0 = λ each. IsShownNoCloser (Kept (signed_of kept)) setting.rrsets name each.labels each.signer p in
      let shown : p ≡ q =
      one_shown_closer (Kept (signed_of kept)) setting.rrsets name h.labels h.signer p q (subst Of same.1 (subst By signed is)) its in
      let Told : ShownDenial → Type 0 = λ each. IsExpandedTold setting name number each before a in
      one_expanded setting apart name number q before a b (subst Told shown told) said

  -- ---- denials

  one_no_name : IsOne (IsNoNameTold setting name)
  one_no_name before a b x y =
      let signed : signed_of x.trust ≡ signed_of y.trust = one_trust setting x.trust y.trust x.good y.good in
      let By : (ℕ → List ℕ) → Type 0 = λ each. IsShownNoName (Kept each) setting.rrsets name x.shown in
      let shown : x.shown ≡ y.shown =
      one_shown_name (Kept (signed_of y.trust)) setting.rrsets name x.shown y.shown (subst By signed x.is) y.is in
      let Told : ShownDenial → Type 0 = λ each. IsDenialTold setting name each before a in
      one_denial setting apart name y.shown before a b (subst Told shown x.told) y.told

  one_no_data : (t : ℕ) → IsOne (IsNoDataTold setting name t)
  one_no_data t before a b x y =
      let signed : signed_of x.trust ≡ signed_of y.trust = one_trust setting x.trust y.trust x.good y.good in
      let By : (ℕ → List ℕ) → Type 0 = λ each. IsShownNoData (Kept each) setting.rrsets name t x.shown in
      let shown : x.shown ≡ y.shown =
      one_shown_data (Kept (signed_of y.trust)) setting.rrsets name t x.shown y.shown (subst By signed x.is) y.is in
      let Told : ShownDenial → Type 0 = λ each. IsDenialTold setting name each before a in
      one_denial setting apart name y.shown before a b (subst Told shown x.told) y.told

  -- ---- where the name may be unsigned

  module _ (t : ℕ) where
    abbrev FirstOf : (ℕ → List ℕ) → ℕ → ℕ → Type 0
    FirstOf signed k s = IsFirstSuch (IsOptOutWildcardSet (Kept signed) setting.rrsets name t) k s

    one_rrsig_of : (u v : ℕ → List ℕ) (k s j r : ℕ) (x : FirstOf u k s) (y : FirstOf v j r) → signature_of k s ≡ signature_of j r
        → x.such.rrsig ≡ y.such.rrsig
    one_rrsig_of u v k s j r x y same =
        (one_signature_at setting.rrsets (signature_of k s) (signature_of j r) x.such.rrset y.such.rrset x.such.rdata y.such.rdata
        x.such.rrsig y.such.rrsig same (x.such.is_rrset, x.such.is_signature, x.such.read) (y.such.is_rrset, y.such.is_signature, y.such.read)).1

    one_unsigned_from : IsOne (IsUnsignedFromTold setting name t)
    one_unsigned_from before a b (by_cut p is told) (by_cut q its said) =
        let signed : signed_of is.0 ≡ signed_of its.0 = one_trust setting is.0 its.0 is.1 its.1 in
        let By : (ℕ → List ℕ) → Type 0 = λ each. IsShownCut (Kept each) setting.rrsets name p in
        let shown : p ≡ q = one_shown_cut (Kept (signed_of its.0)) setting.rrsets name p q (subst By signed is.2) its.2 in
        let Told : ShownCut → Type 0 = λ each. IsCutTold setting name each before a in
        one_cut_told setting apart name q before a b (subst Told shown told) said
    one_unsigned_from before a b (by_cut p is told) (loosely trust good none k s first q its said) =
        let signed : signed_of is.0 ≡ signed_of trust = one_trust setting is.0 trust is.1 good in
        let By : (ℕ → List ℕ) → Type 0 = λ each. IsShownCut (Kept each) setting.rrsets name p in
        absurd (none (cut_there (Kept (signed_of trust)) setting.rrsets name p (subst By signed is.2)))
    one_unsigned_from before a b (loosely trust good none k s first p is told) (by_cut q its said) =
        let signed : signed_of its.0 ≡ signed_of trust = one_trust setting its.0 trust its.1 good in
        let By : (ℕ → List ℕ) → Type 0 = λ each. IsShownCut (Kept each) setting.rrsets name q in
        absurd (none (cut_there (Kept (signed_of trust)) setting.rrsets name q (subst By signed its.2)))
    one_unsigned_from before a b (loosely trust good none k s first p is told) (loosely kept fine never j r other q its said) =
        let signed : signed_of trust ≡ signed_of kept = one_trust setting trust kept good fine in
        let At : (ℕ → List ℕ) → Type 0 = λ each. FirstOf each k s in
        let both = one_first_such (IsOptOutWildcardSet (Kept (signed_of kept)) setting.rrsets name t) k s j r (subst At signed first) other in
        let number : signature_of k s ≡ signature_of j r = λ i. signature_of (both.0 i) (both.1 i) in
        let rrsig : first.such.rrsig ≡ other.such.rrsig = one_rrsig_of (signed_of trust) (signed_of kept) k s j r first other number in
        let By : (ℕ → List ℕ) → Type 0 =
        λ each. IsShownOptOutCloser (Kept each) setting.rrsets name first.such.rrsig.labels first.such.rrsig.signer p in
        let Of : Rrsig → Type 0 = λ each. IsShownOptOutCloser (Kept (signed_of kept)) setting.rrsets name each.labels each.signer p in
        let shown : p ≡ q =
        one_shown_out (Kept (signed_of kept)) setting.rrsets name other.such.rrsig.labels other.such.rrsig.signer p q
        (subst Of rrsig (subst By signed is)) its in
        let there : IsExpandedTold setting name (signature_of j r) q before a =
        subst (λ each. IsExpandedTold setting name (signature_of j r) each before a) shown
        (subst (λ each. IsExpandedTold setting name each p before a) number told) in
        one_expanded setting apart name (signature_of j r) q before a b there said

    -- ---- the verdict

    one_settled : (verdict : Verdict) → IsOne (IsSettledTold setting name t verdict)
    one_settled (SecureAnswer k s) before a b x y = one_set (signature_of k s) before a b x y
    one_settled (SecureAlias k s) before a b x y = one_set (signature_of k s) before a b x y
    one_settled (SecureNoName proof) before a b x y = one_no_name before a b x y
    one_settled (SecureNoData proof) before a b x y = one_no_data t before a b x y
    one_settled (Insecure cut) before a b x y = one_unsigned_from before a b x y
    one_settled verdict before a b x y = absurd x

-- ---- entries that have one number each

pub none_apart : AreApart []
none_apart m n entry x y =
    let none : List Entry = [] in let within = slice_get_within none (m - 1) entry x.1 in absurd (omega (arith, within))

module _ (entries : List Entry) (rising : IsStrictlySortedBy entry_cmp entries) where
  never_later : (m n : ℕ) (entry : Entry) → IsNumbered entries m entry → IsNumbered entries n entry → m < n → ⊥
  never_later m n entry x y less =
      let within = slice_get_within entries (n - 1) entry y.1 in
      let above = x.0 in
      let after : m - 1 < n - 1 = omega (arith, less, above) in
      let apart : entry_cmp (get_or entries (m - 1) entry) (get_or entries (n - 1) entry) ≡ Less =
      Less-from_sorted entry_cmp entries (m - 1) (n - 1) entry rising after within in
      let one : get_or entries (m - 1) entry ≡ entry = get_or_from_slice_get entries (m - 1) entry entry x.1 in
      let other : get_or entries (n - 1) entry ≡ entry = get_or_from_slice_get entries (n - 1) entry entry y.1 in
      let less_itself : entry_cmp entry entry ≡ Less = (λ i. entry_cmp (sym one i) (sym other i)) ∙ apart in
      let tied : entry_cmp entry entry ≡ Equal = tied_itself entry_cmp_total entry in cc

  rising_apart : AreApart entries
  rising_apart m n entry x y = ⊎_elim (λ (less : m < n). absurd (never_later m n entry x y less))
      (λ (above : n ≤ m). ⊎_elim (λ (more : n < m). absurd (never_later n m entry y x more))
      (λ (below : m ≤ n). let same : m ≡ n = omega (arith, above, below) in same) (cases_lt n m)) (cases_lt m n)

-- ---- the whole

module _ (explained : Explained) (none : AreApart explained.todo) (t : ℕ) where
  one_hope : (name : Labels) (unknown : List Entry) → AreApart unknown → IsOne (IsHopeTold explained name t unknown)
  one_hope name unknown apart before a b x y =
      let its = hoped explained unknown in
      let verdict : x.verdict ≡ y.verdict =
      one_settled_as (IsSecured (setting_in its).meaning (setting_in its).moment its.rrsets its.anchors) its.rrsets name t x.verdict y.verdict x.is y.is in
      let somehow : Some x.kind ≡ Some y.kind = sym x.its_kind ∙ ap (λ (each : Verdict). told_kind each) verdict ∙ y.its_kind in
      let kind : x.kind ≡ y.kind = cc in
      let Says : Kind → Verdict → List Line → List Line → Type 0 = λ word each.
      AreBoth (λ before lines. lines ≡ line.Hope word ∷ []) (IsSettledTold (setting_in its) name t each) in
      let told : Says y.kind y.verdict before a =
      subst (λ each. Says y.kind each before a) verdict (subst (λ word. Says word x.verdict before a) kind x.told) in
      one_both (λ before lines. lines ≡ line.Hope y.kind ∷ []) (IsSettledTold (setting_in its) name t y.verdict)
      (λ _ u v p q. p ∙ sym q) (one_settled (setting_in its) apart name t y.verdict) before a b told y.told

  -- the entries of a verdict that needs answers are apart
  abbrev pub NeedsApart : Verdict → Type 0
  NeedsApart (Pending unknown) = AreApart unknown
  NeedsApart verdict = Unit {0}

  pub one_verdict_told : (name : Labels) (verdict : Verdict) → NeedsApart verdict → IsOne (IsVerdictTold explained name t verdict)
  one_verdict_told name (Pending unknown) apart before a b x y = one_hope name unknown apart before a b x y
  one_verdict_told name Bogus apart before a b x y = one_held (setting_in explained) none name before a b x y
  one_verdict_told name Indeterminate apart before a b x y = one_held (setting_in explained) none name before a b x y
  one_verdict_told name verdict apart before a b x y = one_settled (setting_in explained) none name t verdict before a b x y

  pub one_end_told : (verdict : Verdict) → IsOne (IsEndTold explained verdict)
  one_end_told (Pending unknown) before a b x y = one_places_told explained.rrsets before a b x y
  one_end_told Bogus before a b x y = one_places_told explained.rrsets before a b x y
  one_end_told Indeterminate before a b x y = one_places_told explained.rrsets before a b x y
  one_end_told verdict before a b x y = one_end explained.rrsets explained.table.moment before a b x y

  pub one_links : (links : List Link) → IsOne (AreEach (IsLinkTold (setting_in explained)) links)
  one_links links before a b x y =
      one_each (IsLinkTold (setting_in explained)) (λ link. one_set (setting_in explained) none link.name (signature_of link.rrset link.signature))
      links before a b x y

  pub one_way : (links : List Link) (last : Labels) (verdict : Verdict) → NeedsApart verdict
      → IsOne (IsWayTold explained t links last verdict)
  one_way links last verdict apart before a b x y =
      let Each : List Line → List Line → Type 0 = AreEach (IsLinkTold (setting_in explained)) links in
      one_both Each (IsVerdictTold explained last t verdict) (one_links links) (one_verdict_told last verdict apart) before a b x y

  pub one_holding : (links : List Link) (last : Labels) (verdict : Verdict) → NeedsApart verdict
      → IsOne (IsHoldingTold explained t links last verdict)
  one_holding links last verdict apart before a b x y =
      one_both (IsWayTold explained t links last verdict) (IsEndTold explained verdict) (one_way links last verdict apart)
      (one_end_told verdict) before a b x y

pub needs_apart : (explained : Explained) (none : AreApart explained.todo) (basis : Basis) (name : Labels) (t : ℕ) (verdict : Verdict)
    → IsVerdictAt basis name t verdict → NeedsApart explained none t verdict
needs_apart explained none basis name t (Pending unknown) is = rising_apart unknown is.2.rising
needs_apart explained none basis name t verdict is = tt
