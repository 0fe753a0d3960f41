-- A verdict where nothing answers tells what can be proved, and so what a zone denies whose whole chain is there.
use Rattle.std.proofs.Common.{◌≡◌, ◌≢◌, ◌⊎◌, ℕ, inl, inr, ⊎_elim, subst}
use Rattle.std.specs.Prelude.{IsTrue}
use Rattle.dnsv_names.specs.Name.{Labels}
use Rattle.dnsv_zones.specs.zones.Lookup.{IsLookup}
use Rattle.dnsv_zones.specs.zones.Lookup.Answer.{NoData, NoName}
use Rattle.dnsv_zones.specs.zones.TypeNumbers.{rrsig, nsec}
use Rattle.dnsv_zones.specs.zones.Zone.{Zone}
use Rattle.dnsv_zones.proofs.lemmas.zones.LookupLemmas.{one_answer}
use Rattle.dnsv_canonical.specs.Rrsets.{forms_rrsets}
use Rattle.dnsv_questions.specs.Question.{IsQuestion}
use Rattle.dnsv_denial.specs.proving.FirstProof.{CanProveNoData, CanProveNoName}
use Rattle.dnsv_denial.specs.proving.WholeChain.{HasWholeChainWithoutOptOut, IsJustChainWithoutOptOut, IsJustNsec3Chain}
use Rattle.dnsv_denial.specs.unsigned_cuts.Cuts.{HasUnsignedCut}
use Rattle.dnsv_denial.proofs.meaning.JustChainProofs.{can_be, just_no_name, just_no_data, just3_no_name, just3_no_data}
use Rattle.dnsv_denial.proofs.meaning.WholeChainProofs.{without_opt_out_no_name, without_opt_out_no_data, no_name_or_cut, no_data_or_cut, whole_cut}
use Rattle.dnsv_verdict.specs.Complete.{SaysNoName, SaysNoData, SaysInsecure, IsDenied, IsDeniedOrUnsigned, IsDeniedSomehow, SecuredBy, HasNoAnswer, TellsWholeChains}
use Rattle.dnsv_chain.specs.Basis.{Basis}
use Rattle.dnsv_verdict.specs.Verdict.{IsVerdictAt, IsSettledBy}
use Rattle.dnsv_verdict.specs.declared.verdict.Verdict.{Verdict}
use Rattle.dnsv_verdict.specs.declared.verdict.Verdict.TheVariants.{SecureAnswer, SecureAlias, SecureNoName, SecureNoData, Insecure}

-- RRSIG can't be asked
no_rrsig : (name : Labels) (t : ℕ) → IsQuestion name t → t ≢ rrsig
no_rrsig name t question same = let no : IsTrue (forms_rrsets 46) = subst (λ (n : ℕ). IsTrue (forms_rrsets n)) same question.forms in cc

-- no lookup gives both
not_both : (zone : Zone) (name source : Labels) (t : ℕ) → IsLookup zone name t NoName → IsLookup zone name t (NoData source) → ⊥
not_both zone name source t missing empty = let same : NoName ≡ NoData source = one_answer zone name t NoName (NoData source) missing empty in let bad : ⊥ = cc in bad

module _ (basis : Basis) (name : Labels) (t : ℕ) where
  -- what is told can be proved, and what can be proved is told unless something before it is
  record Told (verdict : Verdict) : Type 0 where
    no_name : SaysNoName verdict → CanProveNoName (SecuredBy basis) basis.rrsets name
    no_data : SaysNoData verdict → CanProveNoData (SecuredBy basis) basis.rrsets name t
    if_no_name : CanProveNoName (SecuredBy basis) basis.rrsets name → SaysNoName verdict
    if_no_data : CanProveNoData (SecuredBy basis) basis.rrsets name t → SaysNoName verdict ⊎ SaysNoData verdict
    if_cut : HasUnsignedCut (SecuredBy basis) basis.rrsets name → SaysNoName verdict ⊎ SaysNoData verdict ⊎ SaysInsecure verdict

  unsettled : (verdict : Verdict) → (SaysNoName verdict → ⊥) → (SaysNoData verdict → ⊥) → ¬ IsSettledBy basis name t → Told verdict
  unsettled verdict not_name not_data none = record {
    no_name = λ says. absurd (not_name says);
    no_data = λ says. absurd (not_data says);
    if_no_name = λ can. absurd (none (inr (inr (inl can))));
    if_no_data = λ can. absurd (none (inr (inr (inr (inl can)))));
    if_cut = λ cut. absurd (none (inr (inr (inr (inr (inl cut))))));
  }

  told : (verdict : Verdict) → HasNoAnswer basis name t → IsVerdictAt basis name t verdict → Told verdict
  told (SecureAnswer k s) none is = absurd (none.0 (k, s, is.such))
  told (SecureAlias k s) none is = absurd (none.1 (k, s, is.2.such))
  told (SecureNoName proof) none is = record {
    no_name = λ says. can_be (SecuredBy basis) basis.rrsets name _ _ proof is.2;
    no_data = λ bad. absurd bad;
    if_no_name = λ can. tt;
    if_no_data = λ can. inl tt;
    if_cut = λ cut. inl tt;
  }
  told (SecureNoData proof) none is = record {
    no_name = λ bad. absurd bad;
    no_data = λ says. can_be (SecuredBy basis) basis.rrsets name _ _ proof is.3;
    if_no_name = λ can. absurd (is.2 can);
    if_no_data = λ can. inr tt;
    if_cut = λ cut. inr (inl tt);
  }
  told (Insecure cut) none is = record {
    no_name = λ bad. absurd bad;
    no_data = λ bad. absurd bad;
    if_no_name = λ can. absurd (is.2 can);
    if_no_data = λ can. absurd (is.3 can);
    if_cut = λ cut. inr (inr tt);
  }
  told verdict none is = unsettled verdict (λ bad. bad) (λ bad. bad) is.0

  module _ (verdict : Verdict) (zone : Zone) (tells : Told verdict) where
    denied : t ≢ rrsig → t ≢ nsec → IsJustChainWithoutOptOut (SecuredBy basis) basis.rrsets name zone → IsDenied zone name t verdict
    denied other another just =
        let names = just_no_name (SecuredBy basis) basis.rrsets name zone t just in
        let datas = just_no_data (SecuredBy basis) basis.rrsets name zone t other another just in
        record {
          no_name = (λ says. names.0 (tells.no_name says), λ lookup. tells.if_no_name (names.1 lookup));
          no_data = (
            λ says. datas.0 (tells.no_data says),
            λ lookup. ⊎_elim (λ (says : SaysNoName verdict). absurd (not_both zone name lookup.0 t (names.0 (tells.no_name says)) lookup.1))
                (λ (says : SaysNoData verdict). says) (tells.if_no_data (datas.1 lookup)),
          );
        }

    -- with Opt-Out a denial that is told is the zone's
    names_by : IsJustNsec3Chain (SecuredBy basis) basis.rrsets name zone → SaysNoName verdict → IsLookup zone name t NoName
    names_by just says = just3_no_name (SecuredBy basis) basis.rrsets name zone just t (tells.no_name says)

    datas_by : IsJustNsec3Chain (SecuredBy basis) basis.rrsets name zone → SaysNoData verdict → (source : Labels) × IsLookup zone name t (NoData source)
    datas_by just says = just3_no_data (SecuredBy basis) basis.rrsets name zone just t (tells.no_data says)

    denied_or_unsigned : t ≢ rrsig → t ≢ nsec → IsJustNsec3Chain (SecuredBy basis) basis.rrsets name zone → IsDeniedOrUnsigned zone name t verdict
    denied_or_unsigned other another just = record {
      no_name = λ lookup.
          ⊎_elim (λ (can : CanProveNoName (SecuredBy basis) basis.rrsets name). inl (tells.if_no_name can))
          (λ (cut : HasUnsignedCut (SecuredBy basis) basis.rrsets name).
          ⊎_elim (λ (says : SaysNoName verdict). inl says)
          (λ (rest : SaysNoData verdict ⊎ SaysInsecure verdict).
          ⊎_elim (λ (says : SaysNoData verdict). let empty = datas_by just says in absurd (not_both zone name empty.0 t lookup empty.1))
          (λ (says : SaysInsecure verdict). inr says) rest)
          (tells.if_cut cut))
          (no_name_or_cut (SecuredBy basis) basis.rrsets name zone just.whole t lookup);
      no_data = λ source lookup.
          ⊎_elim (λ (can : CanProveNoData (SecuredBy basis) basis.rrsets name t).
          ⊎_elim (λ (says : SaysNoName verdict). absurd (not_both zone name source t (names_by just says) lookup))
          (λ (says : SaysNoData verdict). inl says) (tells.if_no_data can))
          (λ (cut : HasUnsignedCut (SecuredBy basis) basis.rrsets name).
          ⊎_elim (λ (says : SaysNoName verdict). absurd (not_both zone name source t (names_by just says) lookup))
          (λ (rest : SaysNoData verdict ⊎ SaysInsecure verdict). rest)
          (tells.if_cut cut))
          (no_data_or_cut (SecuredBy basis) basis.rrsets name zone just.whole t source other another lookup);
    }

    denied_somehow : t ≢ rrsig → t ≢ nsec → HasWholeChainWithoutOptOut (SecuredBy basis) basis.rrsets name zone → IsDeniedSomehow zone name t verdict
    denied_somehow other another whole = record {
      no_name = λ lookup. tells.if_no_name (without_opt_out_no_name (SecuredBy basis) basis.rrsets name zone t whole lookup);
      no_data = λ source lookup. tells.if_no_data (without_opt_out_no_data (SecuredBy basis) basis.rrsets name zone t source other another whole lookup);
    }

  pub tells_whole_chains : (verdict : Verdict) → IsQuestion name t → IsVerdictAt basis name t verdict → TellsWholeChains basis name t verdict
  tells_whole_chains verdict question is =
      let other : t ≢ rrsig = no_rrsig name t question in
      let another : t ≢ nsec = question.not_nsec in
      record {
        without_opt_out = λ zone none just. denied verdict zone (told verdict none is) other another just;
        opt_out = λ zone none just. denied_or_unsigned verdict zone (told verdict none is) other another just;
        whole = λ zone none chain. denied_somehow verdict zone (told verdict none is) other another chain;
        delegation = λ zone cut none chain under unsigned. (told verdict none is).if_cut
            (whole_cut (SecuredBy basis) basis.rrsets name zone cut chain under unsigned);
        missing_name = λ zone none chain lookup. ⊎_elim
            (λ (can : CanProveNoName (SecuredBy basis) basis.rrsets name). inl ((told verdict none is).if_no_name can))
            (λ (cut : HasUnsignedCut (SecuredBy basis) basis.rrsets name). (told verdict none is).if_cut cut)
            (no_name_or_cut (SecuredBy basis) basis.rrsets name zone chain t lookup);
        missing_type = λ zone source none chain lookup. ⊎_elim
            (λ (can : CanProveNoData (SecuredBy basis) basis.rrsets name t). ⊎_elim
            (λ (says : SaysNoName verdict). inl says) (λ (says : SaysNoData verdict). inr (inl says)) ((told verdict none is).if_no_data can))
            (λ (cut : HasUnsignedCut (SecuredBy basis) basis.rrsets name). (told verdict none is).if_cut cut)
            (no_data_or_cut (SecuredBy basis) basis.rrsets name zone chain t source other another lookup);
      }
