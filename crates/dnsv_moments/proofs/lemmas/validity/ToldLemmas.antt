-- What is told of a question's way and its verdict is the same at each moment at which the same signatures are valid.
use Rattle.std.proofs.Common.{◌≡◌, ℕ, List, [], ◌∷◌, None, refl, sym, subst}
use Rattle.dnsv_names.specs.Name.{Labels, rightmost}
use Rattle.dnsv_canonical.specs.Rrsets.{ReceivedRrset}
use Rattle.dnsv_canonical.specs.declared.number.SignatureNumber.{SignatureNumber}
use Rattle.dnsv_verifier.specs.Table.{IsTableOf, TableContents, hopeful, table_answer}
use Rattle.dnsv_verifier.specs.declared.answer.Answer.{Answer}
use Rattle.dnsv_verifier.specs.declared.entry.Entry.{Entry}
use Rattle.dnsv_anchors.specs.declared.anchor.Anchor.{Anchor}
use Rattle.dnsv_denial.specs.declared.proving.shown_denial.ShownDenial.{ShownDenial}
use Rattle.dnsv_denial.specs.declared.unsigned_cuts.shown_cut.ShownCut.{ShownCut}
use Rattle.dnsv_denial.specs.declared.unsigned_cuts.shown_cut.ShownCut.TheVariants as cut
use Rattle.dnsv_chain.specs.Basis.{Basis}
use Rattle.dnsv_verdict.specs.declared.link.Link.{Link}
use Rattle.dnsv_verdict.specs.declared.verdict.Verdict.{Verdict}
use Rattle.dnsv_verdict.specs.declared.verdict.Verdict.TheVariants.{SecureAnswer, SecureAlias, SecureNoName, SecureNoData, Insecure, Pending, Bogus, Indeterminate}
use Rattle.dnsv_derivations.specs.Denials.{IsDenialTold, IsExpandedTold, IsProofWithParts}
use Rattle.dnsv_derivations.specs.Explained.{Explained, Setting, setting_in}
use Rattle.dnsv_derivations.specs.Saying.{AreBoth, AreEach}
use Rattle.dnsv_derivations.specs.derivations.OwnDerivations.{AreRecordsDerived, IsSignatureTold}
use Rattle.dnsv_derivations.specs.unsigned_cuts.ShownCuts.{IsCutTold}
use Rattle.dnsv_derivations.specs.unsigned_cuts.UnsignedCuts.{AreAllTold, IsCaseTold, IsUnusableSet, IsUnusableTold}
use Rattle.dnsv_lines.specs.declared.line.Line.{Line}
use Rattle.dnsv_lines.specs.declared.line.Line.TheVariants as line
use Rattle.dnsv_lines.specs.declared.line.cut.InsecureCase.TheVariants as case
use Rattle.dnsv_holding.specs.Explained.{basis_in, hoped}
use Rattle.dnsv_holding.specs.Holding.{IsHopeTold, IsLinkTold, IsNoDataTold, IsNoNameTold, IsSetTold, IsSettledTold, IsUnsignedFromTold, IsVerdictTold, signature_of}
use Rattle.dnsv_holding.specs.Holding.IsSetTold.{as_owned, by_wildcard}
use Rattle.dnsv_holding.specs.Holding.IsUnsignedFromTold.{by_cut, by_wildcard as loosely}
use Rattle.dnsv_moments.proofs.lemmas.validity.DerivationLemmas.{both_too, each_too, has_secured, lowest_secured, records_derived, setting_at, signature_told, trust_too}
use Rattle.dnsv_moments.proofs.lemmas.validity.MomentLemmas.{StayValid, alike_at, asked_at}
use Rattle.dnsv_verdict.proofs.AlikeLemmas.{settled_as}
use Rattle.dnsv_holding.specs.Derived.{AreLinksDerived, IsDerivationOf, IsDerivationTold, explained_with}
use Rattle.dnsv_moments.specs.validity.SameValid.{AreSignaturesSameValid, at_moment}

module _ (rrsets : List ReceivedRrset) (anchors : List Anchor) (meaning : Entry → Answer) (todo : List Entry) (moment other : ℕ)
    (to : StayValid rrsets moment other) (from : StayValid rrsets other moment) where
  abbrev Here : Setting
  Here = setting_at rrsets anchors meaning todo moment

  abbrev There : Setting
  There = setting_at rrsets anchors meaning todo other

  signature_too : (number : SignatureNumber) (before lines : List Line) → IsSignatureTold Here number before lines
      → IsSignatureTold There number before lines
  signature_too = signature_told rrsets anchors meaning todo moment other to from

  module _ (name : Labels) where
    denial_told : (shown : ShownDenial) (before lines : List Line) → IsDenialTold Here name shown before lines → IsDenialTold There name shown before lines
    denial_told shown =
        both_too {First = AreRecordsDerived Here shown.proof.zone shown.proof.records} {Second = IsProofWithParts rrsets name shown}
        {Third = AreRecordsDerived There shown.proof.zone shown.proof.records} {Fourth = IsProofWithParts rrsets name shown}
        (records_derived rrsets anchors meaning todo moment other to from shown.proof.zone shown.proof.records) (λ before lines told. told)

    expanded_told : (number : SignatureNumber) (shown : ShownDenial) (before lines : List Line) → IsExpandedTold Here name number shown before lines
        → IsExpandedTold There name number shown before lines
    expanded_told number shown =
        both_too {First = IsSignatureTold Here number} {Second = IsDenialTold Here name shown}
        {Third = IsSignatureTold There number} {Fourth = IsDenialTold There name shown} (signature_too number) (denial_told shown)

    pub set_told : (number : SignatureNumber) (before lines : List Line) → IsSetTold Here name number before lines
        → IsSetTold There name number before lines
    set_told number before lines (as_owned rrset rrsig at own told) = as_owned rrset rrsig at own (signature_too number before lines told)
    set_told number before lines (by_wildcard rrset rrsig trust shown at expanded good is told) =
        by_wildcard rrset rrsig trust shown at expanded (trust_too rrsets anchors meaning todo moment other to from trust good) is
        (expanded_told number shown before lines told)

    no_name_told : (before lines : List Line) → IsNoNameTold Here name before lines → IsNoNameTold There name before lines
    no_name_told before lines told = record {
      trust = told.trust;
      good = trust_too rrsets anchors meaning todo moment other to from told.trust told.good;
      shown = told.shown;
      is = told.is;
      told = denial_told told.shown before lines told.told;
    }

    no_data_told : (t : ℕ) (before lines : List Line) → IsNoDataTold Here name t before lines → IsNoDataTold There name t before lines
    no_data_told t before lines told = record {
      trust = told.trust;
      good = trust_too rrsets anchors meaning todo moment other to from told.trust told.good;
      shown = told.shown;
      is = told.is;
      told = denial_told told.shown before lines told.told;
    }

    -- ---- where the name may be unsigned

    unusable_set : (at : Labels) (k : ℕ) → IsUnusableSet Here at k → IsUnusableSet There at k
    unusable_set at k is = record {
      ds = is.ds;
      is_ds = is.is_ds;
      rtype = is.rtype;
      owner = is.owner;
      secured = has_secured rrsets anchors meaning todo moment other to k is.secured;
      records = is.records;
      read = is.read;
      none = is.none;
    }

    unusable_back : (at : Labels) (k : ℕ) → IsUnusableSet There at k → IsUnusableSet Here at k
    unusable_back at k is = record {
      ds = is.ds;
      is_ds = is.is_ds;
      rtype = is.rtype;
      owner = is.owner;
      secured = has_secured rrsets anchors meaning todo other moment from k is.secured;
      records = is.records;
      read = is.read;
      none = is.none;
    }

    unusable_told : (at : Labels) (before lines : List Line) → IsUnusableTold Here at before lines → IsUnusableTold There at before lines
    unusable_told at before lines told = record {
      k = told.k;
      first = record {
        is = unusable_set at told.k told.first.is;
        first = λ j is. told.first.first j (unusable_back at j is);
      };
      s = told.s;
      lowest = lowest_secured rrsets anchors meaning todo moment other to from told.k told.s told.lowest;
      told = both_too {First = IsSignatureTold Here (signature_of told.k told.s)}
          {Second = AreBoth (IsCaseTold case.UnusableDs at None) (AreAllTold rrsets told.k)}
          {Third = IsSignatureTold There (signature_of told.k told.s)}
          {Fourth = AreBoth (IsCaseTold case.UnusableDs at None) (AreAllTold rrsets told.k)}
          (signature_too (signature_of told.k told.s)) (λ older newer each. each) before lines told.told;
    }

    cut_told : (shown : ShownCut) (before lines : List Line) → IsCutTold Here name shown before lines → IsCutTold There name shown before lines
    cut_told (cut.NoDs labels shown) before lines told = denial_told shown before lines told
    cut_told (cut.NoUsableDs labels) before lines told = unusable_told (rightmost name labels) before lines told
    cut_told (cut.OptOut labels shown) before lines told = denial_told shown before lines told

    unsigned_from : (t : ℕ) (before lines : List Line) → IsUnsignedFromTold Here name t before lines → IsUnsignedFromTold There name t before lines
    unsigned_from t before lines (by_cut shown is told) =
        by_cut shown (is.0, trust_too rrsets anchors meaning todo moment other to from is.0 is.1, is.2) (cut_told shown before lines told)
    unsigned_from t before lines (loosely trust good none k s first shown is told) =
        loosely trust (trust_too rrsets anchors meaning todo moment other to from trust good) none k s first shown is
        (expanded_told (signature_of k s) shown before lines told)

    -- ---- the verdict

    pub settled_told : (t : ℕ) (verdict : Verdict) (before lines : List Line) → IsSettledTold Here name t verdict before lines
        → IsSettledTold There name t verdict before lines
    settled_told t (SecureAnswer k s) before lines told = set_told (signature_of k s) before lines told
    settled_told t (SecureAlias k s) before lines told = set_told (signature_of k s) before lines told
    settled_told t (SecureNoName proof) before lines told = no_name_told before lines told
    settled_told t (SecureNoData proof) before lines told = no_data_told t before lines told
    settled_told t (Insecure cut) before lines told = unsigned_from t before lines told
    settled_told t verdict before lines told = told

  pub links_told : (links : List Link) (before lines : List Line) → AreEach (IsLinkTold Here) links before lines
      → AreEach (IsLinkTold There) links before lines
  links_told links =
      each_too {Says = IsLinkTold Here} {Then = IsLinkTold There}
      (λ link. set_told link.name (signature_of link.rrset link.signature)) links

-- ---- the whole

abbrev table_at : TableContents → ℕ → TableContents
table_at table moment = record { moment = moment; rrsets = table.rrsets; answers = table.answers }

abbrev explained_at : Explained → ℕ → Explained
explained_at explained moment = record {
  rrsets = explained.rrsets;
  anchors = explained.anchors;
  table = table_at explained.table moment;
  todo = explained.todo;
}

module _ (explained : Explained) (other : ℕ) (to : StayValid explained.rrsets explained.table.moment other)
    (from : StayValid explained.rrsets other explained.table.moment) where
  all_links : (links : List Link) (before lines : List Line) → AreEach (IsLinkTold (setting_in explained)) links before lines
      → AreEach (IsLinkTold (setting_in (explained_at explained other))) links before lines
  all_links =
      links_told explained.rrsets explained.anchors (table_answer explained.table) explained.todo explained.table.moment other to from

  settled_too : (name : Labels) (t : ℕ) (verdict : Verdict) (before lines : List Line) → IsSettledTold (setting_in explained) name t verdict before lines
      → IsSettledTold (setting_in (explained_at explained other)) name t verdict before lines
  settled_too =
      settled_told explained.rrsets explained.anchors (table_answer explained.table) explained.todo explained.table.moment other to from

  hope_too : (name : Labels) (t : ℕ) (unknown : List Entry) (before lines : List Line) → IsHopeTold explained name t unknown before lines
      → IsHopeTold (explained_at explained other) name t unknown before lines
  hope_too name t unknown before lines told = record {
    verdict = told.verdict;
    is = settled_as (basis_in (hoped explained unknown)) other (basis_in (hoped explained unknown)).meaning
        (alike_at (basis_in (hoped explained unknown)) other (λ rrset rrsig among its. (to rrset rrsig among its, from rrset rrsig among its)))
        name t told.verdict told.is;
    kind = told.kind;
    its_kind = told.its_kind;
    told = both_too {First = λ older newer. newer ≡ line.Hope told.kind ∷ []}
        {Second = IsSettledTold (setting_in (hoped explained unknown)) name t told.verdict}
        {Third = λ older newer. newer ≡ line.Hope told.kind ∷ []}
        {Fourth = IsSettledTold (setting_in (hoped (explained_at explained other) unknown)) name t told.verdict}
        (λ older newer same. same)
        (settled_told explained.rrsets explained.anchors (table_answer (hopeful explained.table)) unknown explained.table.moment other to from
        name t told.verdict)
        before lines told.told;
  }

  abbrev Way : Explained → ℕ → List Link → Labels → Verdict → List Line → List Line → Type 0
  Way each t links last verdict = AreBoth (AreEach (IsLinkTold (setting_in each)) links) (IsVerdictTold each last t verdict)

  way_too : (t : ℕ) (links : List Link) (last : Labels) (verdict : Verdict)
      → ((before lines : List Line) → IsVerdictTold explained last t verdict before lines → IsVerdictTold (explained_at explained other) last t verdict before lines)
      → (lines : List Line) → Way explained t links last verdict [] lines → Way (explained_at explained other) t links last verdict [] lines
  way_too t links last verdict too lines way =
      both_too {First = AreEach (IsLinkTold (setting_in explained)) links} {Second = IsVerdictTold explained last t verdict}
      {Third = AreEach (IsLinkTold (setting_in (explained_at explained other))) links}
      {Fourth = IsVerdictTold (explained_at explained other) last t verdict} (all_links links) too [] lines way

  told_too : (t : ℕ) (links : List Link) (last : Labels) (verdict : Verdict) (lines : List Line)
      → IsDerivationTold explained t links last verdict lines → IsDerivationTold (explained_at explained other) t links last verdict lines
  told_too t links last (Pending unknown) lines told = way_too t links last (Pending unknown) (hope_too last t unknown) lines told
  told_too t links last Bogus lines told = all_links links [] lines told
  told_too t links last Indeterminate lines told = all_links links [] lines told
  told_too t links last verdict lines told = way_too t links last verdict (settled_too last t verdict) lines told

-- ---- with the table

module _ (basis : Basis) (other : ℕ) (same : AreSignaturesSameValid basis.rrsets basis.moment other) where
  to_other : StayValid basis.rrsets basis.moment other
  to_other rrset rrsig among its = (same rrset rrsig among its).0

  from_other : StayValid basis.rrsets other basis.moment
  from_other rrset rrsig among its = (same rrset rrsig among its).1

  -- the verifier is asked the same
  pub table_too : (table : TableContents) → IsTableOf basis.meaning basis.moment basis.rrsets table
      → IsTableOf basis.meaning other basis.rrsets (table_at table other)
  table_too table of = record {
    of_moment = refl;
    of_rrsets = of.of_rrsets;
    entries = of.entries;
    rising = of.rising;
    asked = λ entry. (
      λ there. asked_at basis.meaning basis.moment other basis.rrsets basis.anchors to_other entry ((of.asked entry).0 there),
      λ is. (of.asked entry).1 (asked_at basis.meaning other basis.moment basis.rrsets basis.anchors from_other entry is),
    );
    answers = of.answers;
  }

  module _ (table : TableContents) (of : IsTableOf basis.meaning basis.moment basis.rrsets table) where
    to_by_table : StayValid basis.rrsets table.moment other
    to_by_table = let Stays : ℕ → Type 0 = λ moment. StayValid basis.rrsets moment other in subst Stays (sym of.of_moment) to_other

    from_by_table : StayValid basis.rrsets other table.moment
    from_by_table = let Stays : ℕ → Type 0 = λ moment. StayValid basis.rrsets other moment in subst Stays (sym of.of_moment) from_other

  pub links_derived : (links : List Link) (lines : List Line) → AreLinksDerived basis links lines
      → AreLinksDerived (at_moment basis other) links lines
  links_derived links lines derived = record {
    table = table_at derived.table other;
    of = table_too derived.table derived.of;
    told = all_links (explained_with basis derived.table) other (to_by_table derived.table derived.of)
        (from_by_table derived.table derived.of) links [] lines derived.told;
  }

  pub derivation_of : (t : ℕ) (links : List Link) (last : Labels) (verdict : Verdict) (lines : List Line)
      → IsDerivationOf basis t links last verdict lines → IsDerivationOf (at_moment basis other) t links last verdict lines
  derivation_of t links last verdict lines derived = record {
    table = table_at derived.table other;
    of = table_too derived.table derived.of;
    told = told_too (explained_with basis derived.table) other (to_by_table derived.table derived.of)
        (from_by_table derived.table derived.of) t links last verdict lines derived.told;
  }
