-- What holds for a verdict is said without a line twice.
use Rattle.std.proofs.Common.{◌≡◌, ◌≢◌, ◌≤◌, ◌+◌, ◌++◌, ◌∙◌, ℕ, zero, suc, List, [], ◌∷◌, Option, Some, None, length, map, inl, inr, refl, sym, ap, subst, ⊎_elim, arith}
use Rattle.std.specs.List.{Contains}
use Rattle.dnsv_names.specs.Name.{Labels, rightmost}
use Rattle.dnsv_canonical.specs.Index.{numbers_at}
use Rattle.dnsv_verifier.proofs.NumberLemmas.{contains_from_map}
use Rattle.dnsv_chain.specs.Trust.{SecuredIn as KeptIn}
use Rattle.dnsv_proof_forms.specs.forms.ProofParts.{form_parts, part_name}
use Rattle.dnsv_denial.specs.gathering.EvidenceWords.{evidence_said}
use Rattle.dnsv_proof_forms.specs.declared.forms.proof_part.PartName.{PartName}
use Rattle.dnsv_denial.specs.declared.proving.shown_denial.ShownDenial.{ShownDenial}
use Rattle.dnsv_proof_forms.specs.declared.forms.proof_part.ProofPart.{ProofPart}
use Rattle.dnsv_canonical.specs.declared.number.RecordNumber.{RecordNumber}
use Rattle.dnsv_denial.specs.declared.unsigned_cuts.shown_cut.ShownCut.{ShownCut}
use Rattle.dnsv_denial.specs.declared.unsigned_cuts.shown_cut.ShownCut.TheVariants as cut
use Rattle.dnsv_verdict.specs.declared.link.Link.{Link}
use Rattle.dnsv_verdict.specs.declared.verdict.Verdict.{Verdict}
use Rattle.dnsv_verdict.specs.declared.verdict.Verdict.TheVariants.{SecureAnswer, SecureAlias, SecureNoName, SecureNoData, Insecure}
use Rattle.dnsv_derivations.specs.Denials.{IsCaseFor, IsDenialTold, IsPartSaid, IsPartTold, IsProofOf, IsProofSaid, IsProofTold, IsProofWithParts, SameEncloser, told_case, told_form}
use Rattle.dnsv_derivations.specs.Explained.{Setting}
use Rattle.dnsv_holding.specs.Holding.{IsLinkTold, IsSetTold, IsSettledTold, IsUnsignedFromTold, signature_of}
use Rattle.dnsv_holding.specs.Holding.IsSetTold.{as_owned, by_wildcard}
use Rattle.dnsv_holding.specs.Holding.IsUnsignedFromTold.{by_cut, by_wildcard as loosely}
use Rattle.dnsv_reasons.specs.laws.Once.{AreOnce}
use Rattle.dnsv_derivations.specs.Saying.{AreBoth, AreEach}
use Rattle.dnsv_derivations.specs.derivations.Derivations.Subject.{keys, signature}
use Rattle.dnsv_derivations.specs.derivations.HeldTo.{IsFirstDerived, IsHeldAt, IsHeldBelow, IsHeldTo, IsLowestDerived}
use Rattle.dnsv_derivations.specs.derivations.HeldTo.IsLowestDerived.{unsigned as none_signed, signed as lowest_signed}
use Rattle.dnsv_derivations.specs.derivations.OwnDerivations.{AreRecordsDerived, IsOwnDerivation, IsSignatureTold}
use Rattle.dnsv_derivations.specs.unsigned_cuts.ShownCuts.{IsCutTold}
use Rattle.dnsv_derivations.specs.unsigned_cuts.UnsignedCuts.{AreAllTold, AreToldFrom, IsCaseTold, IsUnusableTold}
use Rattle.dnsv_lines.specs.declared.line.Line.{Line}
use Rattle.dnsv_lines.specs.declared.line.Line.TheVariants as line
use Rattle.dnsv_lines.specs.declared.line.cut.InsecureCase.{InsecureCase}
use Rattle.dnsv_lines.specs.declared.line.cut.InsecureCase.TheVariants as case
use Rattle.dnsv_lines.specs.declared.line.cut.UnusableDs.{UnusableDs}
use Rattle.dnsv_lines.specs.declared.line.denial.Form.{Form}
use Rattle.dnsv_canonical.specs.declared.number.SignatureNumber.{SignatureNumber}
use Rattle.dnsv_derivations.proofs.lemmas.unsigned_cuts.CutLemmas.{no_closer_case, no_data_case, no_name_case}
use Rattle.dnsv_explain_laws.proofs.holding.MemberLemmas.{first_or_rest, none_in}
use Rattle.dnsv_explain_laws.proofs.lemmas.whole.DerivationLemmas.{IsBasic, derivation_fresh}
use Rattle.dnsv_explain_laws.proofs.lemmas.whole.FreshLemmas.{HaveKinds, IsFresh, Lack, both_fresh, each_fresh, kind, kinds_append, kinds_one, lacks, none_fresh, once_fresh, one_fresh, weaker}

-- it is derived or shown, or says from which name on names may be unsigned, and why
abbrev pub IsSettling : ℕ → Type 0
IsSettling n = n ≤ 2

settling : (before lines : List Line) → IsFresh IsBasic before lines → IsFresh IsSettling before lines
settling before lines fresh = weaker IsBasic IsSettling (λ n is. omega (arith, is)) before lines fresh

-- no line before is a case, or says that a record can't be used
pub record IsUncut (before : List Line) : Type 0 where
  pub case : Lack 1 before
  pub unusable : Lack 2 before

basic_lack : (n : ℕ) → 1 ≤ n → (lines : List Line) → HaveKinds IsBasic lines → Lack n lines
basic_lack n some lines basic each there is = let zero_kind = basic each there in omega (arith, some, zero_kind, is)

pub uncut_append : (before lines : List Line) → IsUncut before → HaveKinds IsBasic lines → IsUncut (before ++ lines)
uncut_append before lines uncut basic = record {
  case = kinds_append (λ k. k ≢ 1) before lines uncut.case (basic_lack 1 (omega arith) lines basic);
  unusable = kinds_append (λ k. k ≢ 2) before lines uncut.unusable (basic_lack 2 (omega arith) lines basic);
}

-- ---- denials

encloser_itself : (encloser : Option Labels) → SameEncloser encloser encloser
encloser_itself None = tt
encloser_itself (Some labels) = refl

module _ (setting : Setting) where
  signature_fresh : (number : SignatureNumber) (before lines : List Line) → IsSignatureTold setting number before lines
      → IsFresh IsBasic before lines
  signature_fresh number before lines told = derivation_fresh setting before (signature number) lines told

  records_fresh : (zone : Labels) (records : List RecordNumber) (before lines : List Line) → AreRecordsDerived setting zone records before lines
      → IsFresh IsBasic before lines
  records_fresh zone records before lines told =
      each_fresh IsBasic (λ (number : RecordNumber). IsOwnDerivation setting zone number.rrset)
      (λ number old new own. signature_fresh (signature_of number.rrset own.s) old new own.derivation) records before lines told

  module _ (name : Labels) where
    proof_of_fresh : (form : Option Form) (shown : ShownDenial) (before lines : List Line) → IsProofOf form name shown before lines
        → IsFresh IsBasic before lines
    proof_of_fresh None shown before lines none = none_fresh IsBasic before lines none
    proof_of_fresh (Some form) shown before lines told =
        once_fresh IsBasic (IsProofSaid told.proof) (line.Proof told.proof) before lines told.once
        (λ there. record {
          said = told.proof;
          among = there;
          same = record { form = refl; chain = refl; zone = refl; encloser = encloser_itself told.proof.encloser };
        })
        refl

    part_fresh : (part : ProofPart) (before lines : List Line) → IsPartTold setting.rrsets name part before lines → IsFresh IsBasic before lines
    part_fresh part before lines told =
        once_fresh IsBasic (IsPartSaid told.part) (line.Part told.part) before lines told.once
        (λ there. record { said = told.part; among = there; same = record { role = refl; relation = refl; name = refl; by = refl } }) refl

    -- the case aside
    told_fresh : (Is : ℕ → Type 0) → ((n : ℕ) → IsBasic n → Is n) → (shown : ShownDenial) (before lines : List Line)
        → (told : IsDenialTold setting name shown before lines) → IsFresh Is (before ++ told.first) told.says_second.first → IsFresh Is before lines
    told_fresh Is too shown before lines told cased =
        let rest = told.says_second in
        let last = rest.says_second in
        let derived : List Line = before ++ told.first in
        let after : List Line = derived ++ rest.first in
        let Parts : List Line → List Line → Type 0 = AreEach (IsPartTold setting.rrsets name) (form_parts shown.chain shown.form) in
        both_fresh Is (AreRecordsDerived setting shown.proof.zone shown.proof.records) (IsProofWithParts setting.rrsets name shown) before lines told
        (weaker IsBasic Is too before told.first (records_fresh shown.proof.zone shown.proof.records before told.first told.says_first))
        (both_fresh Is (IsCaseFor (told_case shown.form) name shown.proof.zone) (AreBoth (IsProofTold name shown) Parts) derived told.second rest cased
        (weaker IsBasic Is too after rest.second
        (both_fresh IsBasic (IsProofTold name shown) Parts after rest.second last
        (proof_of_fresh (told_form shown.form) shown after last.first last.says_first)
        (each_fresh IsBasic (IsPartTold setting.rrsets name) part_fresh (form_parts shown.chain shown.form) (after ++ last.first) last.second
        last.says_second))))

    -- without a case
    denial_fresh : (shown : ShownDenial) → told_case shown.form ≡ None → (before lines : List Line) → IsDenialTold setting name shown before lines
        → IsFresh IsBasic before lines
    denial_fresh shown none before lines told =
        let rest = told.says_second in
        let Case : Option (InsecureCase × PartName) → Type 0 = λ which. IsCaseFor which name shown.proof.zone (before ++ told.first) rest.first in
        told_fresh IsBasic (λ n is. is) shown before lines told (none_fresh IsBasic (before ++ told.first) rest.first (subst Case none rest.says_first))

    -- ---- from which name on a name may be unsigned

    case_fresh : (which : InsecureCase) (at : Labels) (its : Option Labels) (before lines : List Line) → IsUncut before
        → IsCaseTold which at its before lines → IsFresh IsSettling before lines
    case_fresh which at its before lines uncut told =
        one_fresh IsSettling before lines (line.Case told.cut) told.are (lacks 1 before uncut.case (line.Case told.cut) refl) (omega arith)

    case_for_fresh : (which : Option (InsecureCase × PartName)) (zone : Labels) (before lines : List Line) → IsUncut before
        → IsCaseFor which name zone before lines → IsFresh IsSettling before lines
    case_for_fresh None zone before lines uncut told = none_fresh IsSettling before lines told
    case_for_fresh (Some which) zone before lines uncut told = case_fresh which.0 (part_name name which.1) (Some zone) before lines uncut told

    behind_case : (which : InsecureCase) (at : Labels) (its : Option Labels) (before lines : List Line) → IsUncut before
        → IsCaseTold which at its before lines → Lack 2 (before ++ lines)
    behind_case which at its before lines uncut told =
        let Unusable : List Line → Type 0 = λ all. Lack 2 all in
        kinds_append (λ k. k ≢ 2) before lines uncut.unusable
        (subst Unusable (sym told.are) (kinds_one (λ k. k ≢ 2) (line.Case told.cut) (λ is. let clash : 1 ≡ 2 = is in omega (arith, clash))))

    -- each has a place of its own
    place_from : (k place : ℕ) (told : List UnusableDs) → AreToldFrom setting.rrsets k place told → (unusable : UnusableDs)
        → Contains told unusable → place ≤ unusable.number.place
    place_from k place [] are unusable there = absurd (none_in [] unusable refl there)
    place_from k place (first ∷ told) are unusable there = ⊎_elim
        (λ (same : unusable ≡ first).
        let at : unusable.number.place ≡ place = ap (λ (each : UnusableDs). each.number.place) same ∙ ap (λ (each : RecordNumber). each.place) are.0 in
        let fits : place ≤ unusable.number.place = omega (arith, at) in fits)
        (λ (later : Contains told unusable).
        let after = place_from k (place + 1) told are.2 unusable later in
        let fits : place ≤ unusable.number.place = omega (arith, after) in fits)
        (first_or_rest first told unusable there)

    unusables_once : (k place : ℕ) (told : List UnusableDs) → AreToldFrom setting.rrsets k place told
        → AreOnce (map (λ unusable. line.Unusable unusable) told)
    unusables_once k place [] are = tt
    unusables_once k place (first ∷ told) are =
        let says : UnusableDs → Line = λ unusable. line.Unusable unusable in
        let never : ¬ Contains (map says told) (line.Unusable first) = λ there.
        let from = contains_from_map says told (line.Unusable first) there in
        let said : line.Unusable from.0 ≡ line.Unusable first = from.2 in
        let same : from.0 ≡ first = cc in
        let after = place_from k (place + 1) told are.2 from.0 from.1 in
        let at : from.0.number.place ≡ place = ap (λ (each : UnusableDs). each.number.place) same ∙ ap (λ (each : RecordNumber). each.place) are.0 in
        omega (arith, after, at) in
        (never, unusables_once k (place + 1) told are.2)

    is_unusable : (told : List UnusableDs) (each : Line) → Contains (map (λ unusable. line.Unusable unusable) told) each → kind each ≡ 2
    is_unusable told each there =
        let from = contains_from_map (λ unusable. line.Unusable unusable) told each there in
        let Kind : Line → Type 0 = λ one. kind one ≡ 2 in subst Kind from.2 refl

    all_fresh : (k : ℕ) (before lines : List Line) → Lack 2 before → AreAllTold setting.rrsets k before lines → IsFresh IsSettling before lines
    all_fresh k before lines lack all =
        let told : List UnusableDs = all.first.told in
        let Fresh : List Line → Type 0 = λ some. IsFresh IsSettling before some in
        subst Fresh (sym all.first.are) (record {
          once = unusables_once k 1 told all.first.each;
          unsaid = λ each there. lacks 2 before lack each (is_unusable told each there);
          kinds = λ each there. let is = is_unusable told each there in omega (arith, is);
        })

    unusable_fresh : (at : Labels) (before lines : List Line) → IsUncut before → IsUnusableTold setting at before lines
        → IsFresh IsSettling before lines
    unusable_fresh at before lines uncut told =
        let whole = told.told in
        let rest = whole.says_second in
        let front = signature_fresh (signature_of told.k told.s) before whole.first whole.says_first in
        let still = uncut_append before whole.first uncut front.kinds in
        both_fresh IsSettling (IsSignatureTold setting (signature_of told.k told.s))
        (AreBoth (IsCaseTold case.UnusableDs at None) (AreAllTold setting.rrsets told.k)) before lines whole (settling before whole.first front)
        (both_fresh IsSettling (IsCaseTold case.UnusableDs at None) (AreAllTold setting.rrsets told.k) (before ++ whole.first) whole.second rest
        (case_fresh case.UnusableDs at None (before ++ whole.first) rest.first still rest.says_first)
        (all_fresh told.k (before ++ whole.first ++ rest.first) rest.second
        (behind_case case.UnusableDs at None (before ++ whole.first) rest.first still rest.says_first) rest.says_second))

    unsigned_fresh : (shown : ShownDenial) (before lines : List Line) → IsUncut before → IsDenialTold setting name shown before lines
        → IsFresh IsSettling before lines
    unsigned_fresh shown before lines uncut told =
        let front = records_fresh shown.proof.zone shown.proof.records before told.first told.says_first in
        told_fresh IsSettling (λ n is. omega (arith, is)) shown before lines told
        (case_for_fresh (told_case shown.form) shown.proof.zone (before ++ told.first) told.says_second.first
        (uncut_append before told.first uncut front.kinds) told.says_second.says_first)

    cut_fresh : (shown : ShownCut) (before lines : List Line) → IsUncut before → IsCutTold setting name shown before lines
        → IsFresh IsSettling before lines
    cut_fresh (cut.NoDs labels shown) before lines uncut told = unsigned_fresh shown before lines uncut told
    cut_fresh (cut.NoUsableDs labels) before lines uncut told = unusable_fresh (rightmost name labels) before lines uncut told
    cut_fresh (cut.OptOut labels shown) before lines uncut told = unsigned_fresh shown before lines uncut told

    -- ---- verdicts

    pub set_fresh : (number : SignatureNumber) (before lines : List Line) → IsSetTold setting name number before lines
        → IsFresh IsBasic before lines
    set_fresh number before lines (as_owned r g at own told) = signature_fresh number before lines told
    set_fresh number before lines (by_wildcard r g trust shown at expanded good is told) =
        both_fresh IsBasic (IsSignatureTold setting number) (IsDenialTold setting name shown) before lines told
        (signature_fresh number before told.first told.says_first)
        (denial_fresh shown
        (no_closer_case (evidence_said (KeptIn trust) setting.rrsets g.signer is.chain) g.signer name g.labels shown.form is.shows)
        (before ++ told.first) told.second told.says_second)

    unsigned_from_fresh : (t : ℕ) (before lines : List Line) → IsUncut before → IsUnsignedFromTold setting name t before lines
        → IsFresh IsSettling before lines
    unsigned_from_fresh t before lines uncut (by_cut shown is told) = cut_fresh shown before lines uncut told
    unsigned_from_fresh t before lines uncut (loosely trust good none k s first shown is told) =
        let front = signature_fresh (signature_of k s) before told.first told.says_first in
        both_fresh IsSettling (IsSignatureTold setting (signature_of k s)) (IsDenialTold setting name shown) before lines told
        (settling before told.first front)
        (unsigned_fresh shown (before ++ told.first) told.second (uncut_append before told.first uncut front.kinds) told.says_second)

    pub settled_fresh : (t : ℕ) (verdict : Verdict) (before lines : List Line) → IsUncut before
        → IsSettledTold setting name t verdict before lines → IsFresh IsSettling before lines
    settled_fresh t (SecureAnswer k s) before lines uncut told = settling before lines (set_fresh (signature_of k s) before lines told)
    settled_fresh t (SecureAlias k s) before lines uncut told = settling before lines (set_fresh (signature_of k s) before lines told)
    settled_fresh t (SecureNoName proof) before lines uncut told =
        let zone = told.shown.proof.zone in
        settling before lines (denial_fresh told.shown
        (no_name_case (evidence_said (KeptIn told.trust) setting.rrsets zone told.is.chain) zone name told.shown.form told.is.shows) before lines told.told)
    settled_fresh t (SecureNoData proof) before lines uncut told =
        let zone = told.shown.proof.zone in
        settling before lines (denial_fresh told.shown
        (no_data_case (evidence_said (KeptIn told.trust) setting.rrsets zone told.is.chain) zone name t told.shown.form told.is.shows) before lines told.told)
    settled_fresh t (Insecure cut) before lines uncut told = unsigned_from_fresh t before lines uncut told
    settled_fresh t verdict before lines uncut told = absurd told

  pub links_fresh : (links : List Link) (before lines : List Line) → AreEach (IsLinkTold setting) links before lines
      → IsFresh IsBasic before lines
  links_fresh links before lines told =
      each_fresh IsBasic (IsLinkTold setting)
      (λ link old new one. set_fresh link.name (signature_of link.rrset link.signature) old new one) links before lines told

  -- ---- how far trust holds

  lowest_fresh : (k : ℕ) (before lines : List Line) → IsLowestDerived setting k before lines → IsFresh IsBasic before lines
  lowest_fresh k before lines (none_signed never none) = none_fresh IsBasic before lines none
  lowest_fresh k before lines (lowest_signed s lowest told) = signature_fresh (signature_of k s) before lines told

  first_fresh : (numbers : List ℕ) (before lines : List Line) → IsFirstDerived setting numbers before lines → IsFresh IsBasic before lines
  first_fresh [] before lines none = none_fresh IsBasic before lines none
  first_fresh (k ∷ rest) before lines (inl told) = derivation_fresh setting before (keys k) lines told.1
  first_fresh (k ∷ rest) before lines (inr later) = first_fresh rest before lines later.1

  held_at_fresh : (name : Labels) (before lines : List Line) → IsHeldAt setting name before lines → IsFresh IsBasic before lines
  held_at_fresh name before lines told =
      both_fresh IsBasic (AreEach (IsLowestDerived setting) (numbers_at setting.rrsets name 43))
      (IsFirstDerived setting (numbers_at setting.rrsets name 48)) before lines told
      (each_fresh IsBasic (IsLowestDerived setting) lowest_fresh (numbers_at setting.rrsets name 43) before told.first told.says_first)
      (first_fresh (numbers_at setting.rrsets name 48) (before ++ told.first) told.second told.says_second)

  held_below_fresh : (name : Labels) (count : ℕ) (before lines : List Line) → IsHeldBelow setting name count before lines
      → IsFresh IsBasic before lines
  held_below_fresh name zero before lines none = none_fresh IsBasic before lines none
  held_below_fresh name (suc count) before lines told =
      both_fresh IsBasic (IsHeldBelow setting name count) (IsHeldAt setting (rightmost name count)) before lines told
      (held_below_fresh name count before told.first told.says_first)
      (held_at_fresh (rightmost name count) (before ++ told.first) told.second told.says_second)

  pub held_fresh : (name : Labels) (before lines : List Line) → IsHeldTo setting name before lines → IsFresh IsBasic before lines
  held_fresh name before lines told = held_below_fresh name (length name + 1) before lines told
