-- What is told at one name of a way, by a view of what the evidence says there.
use Rattle.std.proofs.Common.{◌≡◌, ◌<◌, ◌∙◌, ◌-◌, ℕ, zero, suc, List, [], ◌∷◌, ◌++◌, arith, get_or, length, map, refl, sym, ap, subst, ⊎_elim}
use Rattle.std.specs.List.{AllZip}
use Rattle.dnsv_names.specs.Name.{Labels}
use Rattle.dnsv_records.specs.Rrsig.{IsRrsig}
use Rattle.dnsv_records.specs.declared.rrsig.Rrsig.{Rrsig}
use Rattle.dnsv_canonical.specs.Rrsets.{IsNumbered, ReceivedRrset}
use Rattle.dnsv_canonical.specs.SignedData.{IsExpanded}
use Rattle.dnsv_chain.specs.Trust.{SecuredIn}
use Rattle.dnsv_proof_forms.specs.QuestionHashes.{HashedQuestion}
use Rattle.dnsv_denial.specs.Viewed.{Viewed}
use Rattle.dnsv_denial.specs.proving.FirstProof.{CanProveNoCloser, CanProveNoData, CanProveNoName}
use Rattle.dnsv_denial.specs.proving.ShownDenials.{IsShownNoCloser, IsShownNoData, IsShownNoName}
use Rattle.dnsv_denial.specs.unsigned_cuts.Cuts.{HasOptedOutNextCloser, HasUnsignedCut}
use Rattle.dnsv_denial.specs.unsigned_cuts.ShownCut.{IsShownCut, IsShownOptOutCloser}
use Rattle.dnsv_denial.specs.declared.proving.shown_denial.ShownDenial.{ShownDenial}
use Rattle.dnsv_denial.specs.declared.unsigned_cuts.shown_cut.ShownCut.{ShownCut}
use Rattle.dnsv_verifier.specs.declared.entry.Entry.{Entry}
use Rattle.dnsv_verdict.proofs.SettledLemmas.{unsigned_to}
use Rattle.dnsv_denial.proofs.lemmas.more.EvidenceLemmas.{no_closer_can_to, no_data_can_to, no_name_can_to}
use Rattle.dnsv_chain.specs.Basis.{HasTrust, CaseContents}
use Rattle.dnsv_verdict.specs.Insecure.{IsOptOutWildcardSet, IsUnsigned}
use Rattle.dnsv_verdict.specs.Report.{hashed_in}
use Rattle.dnsv_verdict.specs.Secure.{IsFirstSuch}
use Rattle.dnsv_verdict.specs.Way.{names_on}
use Rattle.dnsv_verdict.specs.declared.link.Link.{Link}
use Rattle.dnsv_derivations.specs.Denials.{IsDenialTold, IsShownDenial}
use Rattle.dnsv_derivations.specs.Denials.IsShownBy.{no_name, no_data, no_closer, closer_opted_out}
use Rattle.dnsv_derivations.specs.Explained.{Explained, Setting, setting_in}
use Rattle.dnsv_holding.specs.Explained.{explained_by}
use Rattle.dnsv_holding.specs.Holding.{IsNoDataTold, IsNoNameTold, IsSetTold, IsSignatureAt, IsUnsignedFromTold, signature_of}
use Rattle.dnsv_holding.specs.Holding.IsSetTold.{as_owned, by_wildcard}
use Rattle.dnsv_holding.specs.Holding.IsUnsignedFromTold.{by_cut, by_wildcard as by_open_wildcard}
use Rattle.dnsv_derivations.specs.Saying.{Adds}
use Rattle.dnsv_derivations.specs.derivations.OwnDerivations.{IsSignatureTold, IsTrustIn, SecuredIn as GoodIn}
use Rattle.dnsv_derivations.specs.unsigned_cuts.ShownCuts.{IsCutShownBy, IsCutTold}
use Rattle.dnsv_lines.specs.declared.line.Line.{Line}
use Rattle.dnsv_canonical.specs.declared.number.SignatureNumber.{SignatureNumber}
use Rattle.dnsv_derivations.proofs.lemmas.SayingLemmas.{both_added}
use Rattle.dnsv_derivations.proofs.lemmas.denials.TrustLemmas.{kept_good}
use Rattle.dnsv_derivations.proofs.lemmas.intervals.ShownLemmas.{rdata_at}

pub signature_at : (rrsets : List ReceivedRrset) (number : SignatureNumber) (rrset : ReceivedRrset) (rrsigs : List Rrsig) (rrsig : Rrsig)
    → IsNumbered rrsets number.rrset rrset → AllZip IsRrsig rrset.signatures rrsigs → IsNumbered rrsigs number.signature rrsig
    → IsSignatureAt rrsets number rrset rrsig
signature_at rrsets number rrset rrsigs rrsig is_rrset zip numbered =
    let there = rdata_at rrset.signatures rrsigs (number.signature - 1) rrsig zip numbered.1 in
    record { is_rrset = is_rrset; rdata = there.0; is_signature = (numbered.0, there.1); read = there.2 }

-- what is explained with some entries is so with its own
pub todo_same : (its_case : CaseContents) (explained : Explained) (todo : List Entry) → explained ≡ explained_by its_case todo
    → explained ≡ explained_by its_case explained.todo
todo_same its_case explained todo same =
    same ∙ ap (λ (each : List Entry). explained_by its_case each) (sym (ap (λ (each : Explained). each.todo) same))

pub owned_added : (setting : Setting) (name : Labels) (number : SignatureNumber) (rrset : ReceivedRrset) (rrsig : Rrsig)
    (old more new : List Line) → IsSignatureAt setting.rrsets number rrset rrsig → ¬ IsExpanded rrset.owner rrsig
    → IsSignatureTold setting number old more → new ≡ old ++ more → Adds (IsSetTold setting name number) old new
owned_added setting name number rrset rrsig old more new at plain told is =
    record { more = more; is = is; says = as_owned rrset rrsig at plain told }

module _ (its_case : CaseContents) (explained : Explained) (same : explained ≡ explained_by its_case explained.todo) (trusted : HasTrust its_case)
    (view : Viewed) (name : Labels)
    (is_view : view ≡ record { rrsets = its_case.rrsets; trust = its_case.trust; name = name }) where
  abbrev Its : Setting
  Its = setting_in explained

  good : IsTrustIn Its its_case.trust
  good = subst (λ (each : Explained). IsTrustIn (setting_in each) its_case.trust) (sym same) trusted

  abbrev its_view : Viewed
  its_view = record { rrsets = explained.rrsets; trust = its_case.trust; name = name }

  viewed : view ≡ its_view
  viewed = is_view ∙ (λ i. record {
    rrsets = sym (ap (λ (each : Explained). each.rrsets) same) i;
    trust = its_case.trust;
    name = name;
  })

  -- what is good is kept
  kept : (k s : ℕ) → GoodIn Its k s → SecuredIn its_case.trust k s
  kept k s is = ((good.signed k).members s).1 is

  stays : (k : ℕ) (rrset : ReceivedRrset) → IsNumbered explained.rrsets k rrset → IsNumbered explained.rrsets k rrset
  stays k rrset is = is

  -- ---- no closer name

  its_no_closer : (labels : ℕ) (zone : Labels) (shown : ShownDenial)
      → IsShownNoCloser (SecuredIn view.trust) view.rrsets view.name labels zone shown
      → IsShownNoCloser (SecuredIn its_case.trust) explained.rrsets name labels zone shown
  its_no_closer labels zone shown =
      subst (λ (each : Viewed). IsShownNoCloser (SecuredIn each.trust) each.rrsets each.name labels zone shown) viewed

  pub closer_there : (labels : ℕ) (zone : Labels) → CanProveNoCloser (GoodIn Its) explained.rrsets name labels zone
      → CanProveNoCloser (SecuredIn view.trust) view.rrsets view.name labels zone
  closer_there labels zone can =
      subst (λ (each : Viewed). CanProveNoCloser (SecuredIn each.trust) each.rrsets each.name labels zone) (sym viewed)
      (no_closer_can_to (GoodIn Its) (SecuredIn its_case.trust) kept explained.rrsets explained.rrsets stays name labels zone can)

  pub no_closer_shown : (labels : ℕ) (zone : Labels) (shown : ShownDenial)
      → IsShownNoCloser (SecuredIn view.trust) view.rrsets view.name labels zone shown → IsShownDenial Its name shown
  no_closer_shown labels zone shown is = (its_case.trust, good, no_closer labels zone (its_no_closer labels zone shown is))

  pub wildcard_added : (number : SignatureNumber) (rrset : ReceivedRrset) (rrsig : Rrsig) (shown : ShownDenial) (old more mid new : List Line)
      → IsSignatureAt explained.rrsets number rrset rrsig → IsExpanded rrset.owner rrsig
      → IsShownNoCloser (SecuredIn view.trust) view.rrsets view.name rrsig.labels rrsig.signer shown
      → IsSignatureTold Its number old more → mid ≡ old ++ more
      → Adds (IsDenialTold Its name shown) mid new → Adds (IsSetTold Its name number) old new
  wildcard_added number rrset rrsig shown old more mid new at expanded is told pushed denial =
      let both = both_added (IsSignatureTold Its number) (IsDenialTold Its name shown) old mid new
      (record { more = more; is = pushed; says = told }) denial in record {
        more = both.more;
        is = both.is;
        says = by_wildcard rrset rrsig its_case.trust shown at expanded good (its_no_closer rrsig.labels rrsig.signer shown is) both.says;
      }

  -- ---- no such name

  its_no_name : (shown : ShownDenial) → IsShownNoName (SecuredIn view.trust) view.rrsets view.name shown
      → IsShownNoName (SecuredIn its_case.trust) explained.rrsets name shown
  its_no_name shown = subst (λ (each : Viewed). IsShownNoName (SecuredIn each.trust) each.rrsets each.name shown) viewed

  pub name_there : CanProveNoName (GoodIn Its) explained.rrsets name → CanProveNoName (SecuredIn view.trust) view.rrsets view.name
  name_there can =
      subst (λ (each : Viewed). CanProveNoName (SecuredIn each.trust) each.rrsets each.name) (sym viewed)
      (no_name_can_to (GoodIn Its) (SecuredIn its_case.trust) kept explained.rrsets explained.rrsets stays name can)

  pub no_name_shown : (shown : ShownDenial) → IsShownNoName (SecuredIn view.trust) view.rrsets view.name shown
      → IsShownDenial Its name shown
  no_name_shown shown is = (its_case.trust, good, no_name (its_no_name shown is))

  pub no_name_added : (shown : ShownDenial) (old new : List Line) → IsShownNoName (SecuredIn view.trust) view.rrsets view.name shown
      → Adds (IsDenialTold Its name shown) old new → Adds (IsNoNameTold Its name) old new
  no_name_added shown old new is denial = record {
    more = denial.more;
    is = denial.is;
    says = record { trust = its_case.trust; good = good; shown = shown; is = its_no_name shown is; told = denial.says };
  }

  -- ---- no data

  its_no_data : (t : ℕ) (shown : ShownDenial) → IsShownNoData (SecuredIn view.trust) view.rrsets view.name t shown
      → IsShownNoData (SecuredIn its_case.trust) explained.rrsets name t shown
  its_no_data t shown = subst (λ (each : Viewed). IsShownNoData (SecuredIn each.trust) each.rrsets each.name t shown) viewed

  pub data_there : (t : ℕ) → CanProveNoData (GoodIn Its) explained.rrsets name t
      → CanProveNoData (SecuredIn view.trust) view.rrsets view.name t
  data_there t can =
      subst (λ (each : Viewed). CanProveNoData (SecuredIn each.trust) each.rrsets each.name t) (sym viewed)
      (no_data_can_to (GoodIn Its) (SecuredIn its_case.trust) kept explained.rrsets explained.rrsets stays name t can)

  pub no_data_shown : (t : ℕ) (shown : ShownDenial) → IsShownNoData (SecuredIn view.trust) view.rrsets view.name t shown
      → IsShownDenial Its name shown
  no_data_shown t shown is = (its_case.trust, good, no_data t (its_no_data t shown is))

  pub no_data_added : (t : ℕ) (shown : ShownDenial) (old new : List Line)
      → IsShownNoData (SecuredIn view.trust) view.rrsets view.name t shown
      → Adds (IsDenialTold Its name shown) old new → Adds (IsNoDataTold Its name t) old new
  no_data_added t shown old new is denial = record {
    more = denial.more;
    is = denial.is;
    says = record { trust = its_case.trust; good = good; shown = shown; is = its_no_data t shown is; told = denial.says };
  }

  -- ---- a name that may be unsigned

  pub cut_shown_by : (cut : ShownCut) → IsShownCut (SecuredIn view.trust) view.rrsets view.name cut → IsCutShownBy Its name cut
  cut_shown_by cut is = (
    its_case.trust,
    good,
    subst (λ (each : Viewed). IsShownCut (SecuredIn each.trust) each.rrsets each.name cut) viewed is,
  )

  pub cut_added : (t : ℕ) (cut : ShownCut) (old new : List Line) → IsShownCut (SecuredIn view.trust) view.rrsets view.name cut
      → Adds (IsCutTold Its name cut) old new → Adds (IsUnsignedFromTold Its name t) old new
  cut_added t cut old new is told =
      record { more = told.more; is = told.is; says = by_cut cut (cut_shown_by cut is) told.says }

  its_none : ¬ HasUnsignedCut (SecuredIn view.trust) view.rrsets view.name → ¬ HasUnsignedCut (SecuredIn its_case.trust) explained.rrsets name
  its_none none has =
      none (subst (λ (each : Viewed). HasUnsignedCut (SecuredIn each.trust) each.rrsets each.name) (sym viewed) has)

  -- what may be unsigned, and not by records of the zones above it, is so by an answer from a wildcard
  pub open_there : (t : ℕ) → ¬ HasUnsignedCut (SecuredIn view.trust) view.rrsets view.name → IsUnsigned (GoodIn Its) explained.rrsets name t
      → ((k s : ℕ) → ¬ IsOptOutWildcardSet (SecuredIn view.trust) view.rrsets view.name t k s) → ⊥
  open_there t none unsigned never =
      let In : Viewed → Type 0 = λ each. (k s : ℕ) → ¬ IsOptOutWildcardSet (SecuredIn each.trust) each.rrsets each.name t k s in
      let kept_unsigned : IsUnsigned (SecuredIn its_case.trust) explained.rrsets name t =
      unsigned_to (GoodIn Its) (SecuredIn its_case.trust) kept explained.rrsets explained.rrsets stays name t unsigned in
      ⊎_elim (λ (cut : HasUnsignedCut (SecuredIn its_case.trust) explained.rrsets name). its_none none cut)
      (λ (found : (k : ℕ) × (s : ℕ) × IsOptOutWildcardSet (SecuredIn its_case.trust) explained.rrsets name t k s).
      subst In viewed never found.0 found.1 found.2) kept_unsigned

  module _ (t : ℕ) (k s : ℕ) (first : IsFirstSuch (IsOptOutWildcardSet (SecuredIn view.trust) view.rrsets view.name t) k s)
      (rrsig : Rrsig) (is : first.such.rrsig ≡ rrsig) where
    -- the next closer name is covered with the Opt-Out flag
    pub covered_there : HasOptedOutNextCloser (SecuredIn view.trust) view.rrsets view.name rrsig.labels rrsig.signer
    covered_there =
        let Of : Rrsig → Type 0 = λ each. HasOptedOutNextCloser (SecuredIn view.trust) view.rrsets view.name each.labels each.signer in
        subst Of is first.such.such.1.1

    abbrev FirstIn : Viewed → Type 0
    FirstIn each =
        (its : IsFirstSuch (IsOptOutWildcardSet (SecuredIn each.trust) each.rrsets each.name t) k s) × (its.such.rrsig ≡ rrsig)

    its_first : FirstIn (record { rrsets = explained.rrsets; trust = its_case.trust; name = name })
    its_first = subst FirstIn viewed (first, is)

    pub its_secured : GoodIn Its k s
    its_secured = kept_good Its its_case.trust good k s its_first.0.such.secured

    pub its_covered : (shown : ShownDenial) → IsShownOptOutCloser (SecuredIn view.trust) view.rrsets view.name rrsig.labels rrsig.signer shown
        → IsShownOptOutCloser (SecuredIn its_case.trust) explained.rrsets name rrsig.labels rrsig.signer shown
    its_covered shown =
        subst (λ (each : Viewed). IsShownOptOutCloser (SecuredIn each.trust) each.rrsets each.name rrsig.labels rrsig.signer shown) viewed

    pub open_shown : (shown : ShownDenial) → IsShownOptOutCloser (SecuredIn view.trust) view.rrsets view.name rrsig.labels rrsig.signer shown
        → IsShownDenial Its name shown
    open_shown shown covers = (its_case.trust, good, closer_opted_out rrsig.labels rrsig.signer (its_covered shown covers))

    pub open_added : (shown : ShownDenial) (old mid new : List Line)
        → IsShownOptOutCloser (SecuredIn view.trust) view.rrsets view.name rrsig.labels rrsig.signer shown
        → ¬ HasUnsignedCut (SecuredIn view.trust) view.rrsets view.name → Adds (IsSignatureTold Its (signature_of k s)) old mid
        → Adds (IsDenialTold Its name shown) mid new → Adds (IsUnsignedFromTold Its name t) old new
    open_added shown old mid new covers none derived told =
        let Of : Rrsig → Type 0 = λ each. IsShownOptOutCloser (SecuredIn its_case.trust) explained.rrsets name each.labels each.signer shown in
        let both = both_added (IsSignatureTold Its (signature_of k s)) (IsDenialTold Its name shown) old mid new derived told in record {
          more = both.more;
          is = both.is;
          says = by_open_wildcard its_case.trust good (its_none none) k s its_first.0 shown
              (subst Of (sym its_first.1) (its_covered shown covers)) both.says;
        }

-- ---- the hashes of the names of a way

pub within_same : (xs links : List Link) (place : ℕ) → xs ≡ links → place < length xs → place < length links
within_same xs links place same within = let Within : List Link → Type 0 = λ each. place < length each in subst Within same within

pub at_same : (xs links : List Link) (place : ℕ) (link : Link) → xs ≡ links → link ≡ get_or xs place link → link ≡ get_or links place link
at_same xs links place link same at = let At : List Link → Type 0 = λ each. link ≡ get_or each place link in subst At same at

module _ (rrsets : List ReceivedRrset) where
  abbrev pub hashed_on : List Link → Labels → List HashedQuestion
  hashed_on links last = map (hashed_in rrsets) (names_on links last)

  -- those for the name of a link
  pub hashed_at_link : (links : List Link) (last : Labels) (place : ℕ) (d : HashedQuestion) (e : Link) → place < length links
      → get_or (hashed_on links last) place d ≡ hashed_in rrsets (get_or links place e).name
  hashed_at_link [] last place d e within = absurd (omega (arith, within))
  hashed_at_link (link ∷ links) last zero d e within = refl
  hashed_at_link (link ∷ links) last (suc place) d e within = hashed_at_link links last place d e (omega (arith, within))

  -- the link at a place, and what was kept for it
  pub link_hashed : (links xs : List Link) (last : Labels) (place : ℕ) (hashes : List HashedQuestion) (found : HashedQuestion) (link : Link)
      → xs ≡ links → place < length xs → link ≡ get_or xs place link → hashes ≡ hashed_on links last
      → found ≡ get_or hashes place found → found ≡ hashed_in rrsets link.name
  link_hashed links xs last place hashes found link same within at are is =
      is ∙ ap (λ each. get_or each place found) are
      ∙ hashed_at_link links last place found link (within_same xs links place same within)
      ∙ ap (λ (each : Link). hashed_in rrsets each.name) (sym (at_same xs links place link same at))

-- behind the hashes for the names of the links stand those for the last name
hashed_at_last : (rrsets : List ReceivedRrset) (links : List Link) (last : Labels) (d : HashedQuestion)
    → get_or (hashed_on rrsets links last) (length links) d ≡ hashed_in rrsets last
hashed_at_last rrsets [] last d = refl
hashed_at_last rrsets (link ∷ links) last d = hashed_at_last rrsets links last d

pub last_hashed : (rrsets : List ReceivedRrset) (links xs : List Link) (last : Labels) (hashes : List HashedQuestion) (found : HashedQuestion)
    → xs ≡ links → hashes ≡ hashed_on rrsets links last → found ≡ get_or hashes (length xs) found → found ≡ hashed_in rrsets last
last_hashed rrsets links xs last hashes found same are is =
    is ∙ ap (λ each. get_or each (length xs) found) are
    ∙ ap (λ (each : List Link). get_or (hashed_on rrsets links last) (length each) found) same
    ∙ hashed_at_last rrsets links last found

-- there are some for each link
within_names : (rrsets : List ReceivedRrset) (links : List Link) (last : Labels) (place : ℕ) → place < length links
    → place < length (hashed_on rrsets links last)
within_names rrsets [] last place within = absurd (omega (arith, within))
within_names rrsets (link ∷ links) last zero within = omega (arith)
within_names rrsets (link ∷ links) last (suc place) within =
    let more = within_names rrsets links last place (omega (arith, within)) in omega (arith, more)

pub hashed_within : (rrsets : List ReceivedRrset) (links : List Link) (last : Labels) (place : ℕ) (hashes : List HashedQuestion)
    → place < length links → hashes ≡ hashed_on rrsets links last → place < length hashes
hashed_within rrsets links last place hashes within are =
    let Within : List HashedQuestion → Type 0 = λ each. place < length each in
    subst Within (sym are) (within_names rrsets links last place within)
