-- What follows by a table follows by the hopeful one too.
use Rattle.std.proofs.Common.{◌≡◌, ◌∙◌, ℕ, Bool, true, false, cond, List, [], ◌∷◌, ◌++◌, Option, Some, map, refl, sym, ap, subst}
use Rattle.std.specs.Map.{lookup}
use Rattle.std.specs.Ordering.{is_eq}
use Rattle.std.specs.Prelude.{unwrap_or}
use Rattle.dnsv_names.specs.Name.{Labels}
use Rattle.dnsv_canonical.specs.Rrsets.{ReceivedRrset}
use Rattle.dnsv_verifier.specs.Admissible.{DnskeyRecord}
use Rattle.dnsv_verifier.specs.Entry.{entry_cmp}
use Rattle.dnsv_verifier.specs.Table.{TableContents, hoped_answer, hopeful, table_answer}
use Rattle.dnsv_verifier.specs.declared.answer.Answer.{Answer}
use Rattle.dnsv_verifier.specs.declared.answer.Answer.TheVariants.{Valid, Invalid, Unknown}
use Rattle.dnsv_verifier.specs.declared.entry.Entry.{Entry}
use Rattle.dnsv_verdict.specs.Hope.{HasHope, IsHope}
use Rattle.dnsv_verdict.specs.Verdict.{IsSettledAsBy}
use Rattle.dnsv_chain.specs.Basis.{CaseContents}
use Rattle.dnsv_verdict.specs.declared.at_name.Hope.{Hope}
use Rattle.dnsv_verdict.specs.declared.verdict.Verdict.{Verdict}
use Rattle.dnsv_verdict.specs.declared.verdict.Verdict.TheVariants.{Pending}
use Rattle.dnsv_derivations.specs.Explained.{Explained, setting_in}
use Rattle.dnsv_holding.specs.Explained.{basis_in, explained_by, hoped}
use Rattle.dnsv_holding.specs.Holding.{IsHopeTold, IsSettledTold, told_kind}
use Rattle.dnsv_derivations.specs.Following.{EachFollows, IsGoodUnder}
use Rattle.dnsv_derivations.specs.Saying.{Adds}
use Rattle.dnsv_lines.specs.declared.line.Kind.{Kind}
use Rattle.dnsv_lines.specs.declared.line.Line.{Line}
use Rattle.dnsv_lines.specs.declared.line.Line.TheVariants as line
use Rattle.dnsv_canonical.specs.declared.number.SignatureNumber.{SignatureNumber}
use Rattle.dnsv_derivations.proofs.lemmas.SayingLemmas.{both_added}
use Rattle.dnsv_derivations.proofs.lemmas.intervals.MomentLemmas.{each_follows_then, good_as}

-- ---- answers

stays_valid : (answer : Answer) → answer ≡ Valid → hoped_answer answer ≡ Valid
stays_valid Valid is = is
stays_valid Unknown is = refl
stays_valid Invalid is = is

never_unknown : Unknown ≡ Valid → ⊥
never_unknown is = let clash : Unknown ≡ Valid = is in cc

module _ (test : Entry → Bool) where
  abbrev hoped_of : List (Entry × Answer) → List (Entry × Answer)
  hoped_of answers = map (λ each. (each.0, hoped_answer each.1)) answers

  by_test : (passes : Bool) (first : Answer) (answers : List (Entry × Answer))
      → (unwrap_or (lookup test answers) Unknown ≡ Valid → unwrap_or (lookup test (hoped_of answers)) Unknown ≡ Valid)
      → unwrap_or (cond passes (Some first) (lookup test answers)) Unknown ≡ Valid
      → unwrap_or (cond passes (Some (hoped_answer first)) (lookup test (hoped_of answers))) Unknown ≡ Valid
  by_test true first answers behind is = stays_valid first is
  by_test false first answers behind is = behind is

  valid_there : (answers : List (Entry × Answer)) → unwrap_or (lookup test answers) Unknown ≡ Valid
      → unwrap_or (lookup test (hoped_of answers)) Unknown ≡ Valid
  valid_there [] is = absurd (never_unknown is)
  valid_there (first ∷ answers) is = by_test (test first.0) first.1 answers (valid_there answers) is

-- what a table says Valid of, the hopeful one does too
pub still_valid : (table : TableContents) (entry : Entry) → table_answer table entry ≡ Valid
    → table_answer (hopeful table) entry ≡ Valid
still_valid table entry is = valid_there (λ each. is_eq (entry_cmp entry each)) table.answers is

-- ---- lines

module _ (explained : Explained) (unknown : List Entry) where
  still_good : (number : SignatureNumber) (rrset : ReceivedRrset) (key : DnskeyRecord)
      → IsGoodUnder (setting_in explained) number rrset key → IsGoodUnder (setting_in (hoped explained unknown)) number rrset key
  still_good number rrset key good =
      good_as (setting_in explained) (setting_in (hoped explained unknown)) number rrset key refl good (record {
        admissible = good.good.admissible;
        entry = good.good.entry;
        is = good.good.is;
        valid = still_valid explained.table good.good.entry good.good.valid;
      })

  pub still_follow : (before lines : List Line) → EachFollows (setting_in explained) before lines
      → EachFollows (setting_in (hoped explained unknown)) before lines
  still_follow before lines follows =
      each_follows_then (setting_in explained) explained.table.moment (table_answer (hopeful explained.table)) unknown before lines
      (λ each number there shown. still_good number) follows

-- ---- what is hoped

module _ (case : CaseContents) (name : Labels) (t : ℕ) (verdict : Verdict) (hope : Option Hope) (unknown : List Entry)
    (is : verdict ≡ Pending unknown) (has : HasHope case name t verdict hope) where
  has_its : HasHope case name t (Pending unknown) hope
  has_its = let Has : Verdict → Type 0 = λ each. HasHope case name t each hope in subst Has is has

  pub the_hope : (this : Hope) → hope ≡ Some this → IsHope case name t this
  the_hope this some = let Has : Option Hope → Type 0 = λ each. HasHope case name t (Pending unknown) each in subst Has some has_its

module _ (explained its : Explained) (case : CaseContents) (hope : Hope) (unknown : List Entry) (name : Labels) (t : ℕ)
    (same : explained ≡ explained_by case []) (its_same : its ≡ explained_by hope.case.value unknown) (is : IsHope case name t hope) where
  pub is_hoped : its ≡ hoped explained unknown
  is_hoped =
      its_same
      ∙ (λ i. record { rrsets = is.rrsets i; anchors = is.anchors i; table = is.table i; todo = unknown })
      ∙ sym (ap (λ (each : Explained). hoped each unknown) same)

  pub hope_settled : IsSettledAsBy (basis_in its) name t hope.verdict
  hope_settled =
      let By : Explained → Type 0 = λ each. IsSettledAsBy (basis_in each) name t hope.verdict in subst By (sym its_same) is.verdict

  pub hope_told : (kind : Kind) (old mid new : List Line) → told_kind hope.verdict ≡ Some kind → mid ≡ old ++ line.Hope kind ∷ []
      → Adds (IsSettledTold (setting_in its) name t hope.verdict) mid new → Adds (IsHopeTold explained name t unknown) old new
  hope_told kind old mid new word pushed told =
      let Told : Explained → Type 0 = λ each. Adds (IsSettledTold (setting_in each) name t hope.verdict) mid new in
      let By : Explained → Type 0 = λ each. IsSettledAsBy (basis_in each) name t hope.verdict in
      let both = both_added (λ before lines. lines ≡ line.Hope kind ∷ []) (IsSettledTold (setting_in (hoped explained unknown)) name t hope.verdict)
      old mid new (record { more = line.Hope kind ∷ []; is = pushed; says = refl }) (subst Told is_hoped told) in record {
        more = both.more;
        is = both.is;
        says = record {
          verdict = hope.verdict;
          is = subst By is_hoped hope_settled;
          kind = kind;
          its_kind = word;
          told = both.says;
        };
      }
