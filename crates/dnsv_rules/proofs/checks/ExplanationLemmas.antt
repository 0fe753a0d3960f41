-- Each explanation checks.
use Rattle.std.proofs.Common.{◌≡◌, ℕ, List, [], ◌∷◌, ◌++◌, inl, inr, map, refl}
use Rattle.std.specs.List.{Contains}
use Rattle.dnsv_names.specs.Name.{Labels}
use Rattle.dnsv_canonical.specs.declared.number.SignatureNumber.{SignatureNumber}
use Rattle.dnsv_canonical.proofs.OrderLemmas.{each_of}
use Rattle.dnsv_verifier.proofs.NumberLemmas.{contains_map}
use Rattle.dnsv_verifier.specs.Admissible.{DnskeyRecord}
use Rattle.dnsv_verifier.specs.declared.entry.Entry.{Entry}
use Rattle.dnsv_verdict.specs.declared.link.Link.{Link}
use Rattle.dnsv_verdict.specs.declared.verdict.Verdict.{Verdict}
use Rattle.dnsv_verdict.specs.declared.verdict.Verdict.TheVariants.{SecureAnswer, SecureAlias, SecureNoName, SecureNoData, Insecure, Pending, Bogus, Indeterminate}
use Rattle.dnsv_derivations.specs.Denials.{IsDenialTold}
use Rattle.dnsv_derivations.specs.Explained.{Explained, Setting, setting_in}
use Rattle.dnsv_derivations.specs.Places.{ArePlacesTold}
use Rattle.dnsv_derivations.specs.Saying.{AreBoth, AreEach}
use Rattle.dnsv_derivations.specs.derivations.OwnDerivations.{IsSignatureTold}
use Rattle.dnsv_derivations.specs.derivations.WaySearch.{AreKeysInOrder}
use Rattle.dnsv_lines.specs.declared.line.Line.{Line}
use Rattle.dnsv_lines.specs.declared.line.Line.TheVariants as line
use Rattle.dnsv_holding.specs.Explained.{hoped}
use Rattle.dnsv_holding.specs.Holding.{IsEnd, IsEndTold, IsHoldingTold, IsHopeTold, IsLinkTold, IsSetTold, IsSettledTold, IsVerdictTold, IsWayTold, its_setting, signature_of}
use Rattle.dnsv_explain.specs.Explanation.{IsExplanation, IsFailureTold, asking_in}
use Rattle.dnsv_holding.specs.Holding.IsSetTold.{as_owned, by_wildcard}
use Rattle.dnsv_keys_in_question.specs.KeyLines.{AreLinesOfKeysAsked, AreLinesOfSet, IsInQuestion, IsKeyLine}
use Rattle.dnsv_derivations.specs.Listing.{AreOfNumbered}
use Rattle.dnsv_explain_laws.proofs.holding.EachLemmas.{Each, both_each, mapped_each, numbered_each, one_each, where_each}
use Rattle.dnsv_explain.proofs.lemmas.telling.ExplanationLemmas.{explanation_follows}
use Rattle.dnsv_explain.proofs.lemmas.telling.QuietLemmas.{IsFault, failures_fault}
use Rattle.dnsv_rules.specs.Checked.{Asked, Checks, IsOnWay, IsSoFor}
use Rattle.dnsv_rules.specs.Explained.{asked_by}
use Rattle.dnsv_rules.proofs.checks.DerivedLemmas.{held_so, signature_so}
use Rattle.dnsv_rules.proofs.checks.ShownLemmas.{no_closer_told, no_data_told, no_name_told}
use Rattle.dnsv_rules.proofs.checks.StepLemmas.{So, both_so, denial_so, each_so}
use Rattle.dnsv_rules.proofs.checks.TellLemmas.{AreWithin}
use Rattle.dnsv_rules.proofs.checks.UnsignedLemmas.{unsigned_from_so}

-- ---- a name of the way

module _ (setting : Setting) (asked : Asked) (all : List Line) where
  set_so : (name : Labels) → IsOnWay asked name → (number : SignatureNumber) (before lines : List Line) → IsSetTold setting name number before lines
      → AreWithin (before ++ lines) all → Each (So setting asked all) lines
  set_so name on_way number before lines (as_owned rrset rrsig at plain told) within = signature_so setting asked all number before lines told
  set_so name on_way number before lines (by_wildcard rrset rrsig trust shown at expanded good is told) within =
      both_so setting asked all (IsSignatureTold setting number) (IsDenialTold setting name shown) before lines told within
      (λ inside. signature_so setting asked all number before told.first told.says_first)
      (λ back. denial_so setting asked all name on_way shown
      (no_closer_told setting trust good all asked name on_way shown rrsig.labels rrsig.signer is) (before ++ told.first) told.second
      told.says_second back)

module _ (setting : Setting) (links : List Link) (last : Labels) (t : ℕ) (all : List Line) where
  abbrev here : Asked
  here = asked_by links last t

  abbrev Are : List Line → Type 0
  Are lines = Each (So setting here all) lines

  links_so : (before lines : List Line) → AreEach (IsLinkTold setting) links before lines → AreWithin (before ++ lines) all → Are lines
  links_so before lines told within =
      each_so setting here all (IsLinkTold setting) links before lines within
      (λ link there old new inside one.
      set_so setting here all link.name (inr (contains_map (λ (each : Link). each.name) links link there)) (signature_of link.rrset link.signature)
      old new one inside)
      told

  -- ---- the last name

  settled_so : (verdict : Verdict) (before lines : List Line) → IsSettledTold setting last t verdict before lines → AreWithin (before ++ lines) all
      → Are lines
  settled_so (SecureAnswer k s) before lines told within = set_so setting here all last (inl refl) (signature_of k s) before lines told within
  settled_so (SecureAlias k s) before lines told within = set_so setting here all last (inl refl) (signature_of k s) before lines told within
  settled_so (SecureNoName proof) before lines told within =
      denial_so setting here all last (inl refl) told.shown
      (no_name_told setting told.trust told.good all (map (λ (each : Link). each.name) links) last t told.shown told.is) before lines told.told within
  settled_so (SecureNoData proof) before lines told within =
      denial_so setting here all last (inl refl) told.shown
      (no_data_told setting told.trust told.good all (map (λ (each : Link). each.name) links) last t told.shown told.is) before lines told.told within
  settled_so (Insecure cut) before lines told within =
      unsigned_from_so setting (map (λ (each : Link). each.name) links) last t all before lines told within
  settled_so verdict before lines told within = absurd told

  -- ---- the last lines

  end_so : (before lines : List Line) → IsEnd setting.rrsets setting.moment before lines → Are lines
  end_so before lines told =
      both_each (So setting here all) (line.Holds told.interval ∷ []) (map (λ place. line.Rrset place) told.places) lines told.are
      (one_each (So setting here all) (line.Holds told.interval) (line.Holds told.interval ∷ []) refl tt)
      (mapped_each (So setting here all) (λ place. line.Rrset place) (λ place. tt) told.places (map (λ place. line.Rrset place) told.places) refl)

  places_so : (before lines : List Line) → ArePlacesTold setting.rrsets before lines → Are lines
  places_so before lines told = mapped_each (So setting here all) (λ place. line.Rrset place) (λ place. tt) told.places lines told.are

  -- ---- what fails

  fault_so : (each : Line) → IsFault each → So setting here all each
  fault_so (line.Proof proof) fault = absurd fault
  fault_so (line.Part part) fault = absurd fault
  fault_so (line.Case cut) fault = absurd fault
  fault_so each fault = tt

  keys_so : (reasons lines : List Line) → AreLinesOfKeysAsked setting reasons lines → Are lines
  keys_so reasons lines are =
      numbered_each (So setting here all) (AreLinesOfSet setting reasons) setting.rrsets lines are
      (λ k set some at told.
      let Keys : List Line → Type 0 = λ more.
      (keys : List DnskeyRecord) × AreKeysInOrder set keys × AreOfNumbered (IsKeyLine setting k set) 1 keys more in
      where_each (So setting here all) ((set.rtype ≡ 48) × IsInQuestion reasons set.owner) Keys some told
      (λ holds more listed. numbered_each (So setting here all) (IsKeyLine setting k set) listed.0 more listed.2
      (λ place key few there shown. one_each (So setting here all) (line.Key shown.0) few shown.2 tt)))

  failure_so : (before lines : List Line) → IsFailureTold setting last t before lines → Are lines
  failure_so before lines told =
      both_each (So setting here all) told.faults told.keys lines told.are
      (λ each there.
      fault_so each (each_of IsFault told.faults each (failures_fault (asking_in setting last t) told.faults told.of_faults) there))
      (keys_so told.faults told.keys told.of_keys)

-- ---- the whole

module _ (explained : Explained) (t : ℕ) (links : List Link) (last : Labels) (all : List Line) where
  abbrev question : Asked
  question = asked_by links last t

  abbrev Hold : List Line → Type 0
  Hold lines = (each : Line) → Contains lines each → IsSoFor explained.rrsets question all each

  hope_so : (unknown : List Entry) (before lines : List Line) → IsHopeTold explained last t unknown before lines → AreWithin (before ++ lines) all
      → Hold lines
  hope_so unknown before lines told within =
      let then : Setting = setting_in (hoped explained unknown) in
      both_so then question all (λ old new. new ≡ line.Hope told.kind ∷ []) (IsSettledTold then last t told.verdict) before lines told.told within
      (λ inside. one_each (So then question all) (line.Hope told.kind) told.told.first told.told.says_first tt)
      (λ back. settled_so then links last t all told.verdict (before ++ told.told.first) told.told.second told.told.says_second back)

  verdict_so : (verdict : Verdict) (before lines : List Line) → IsVerdictTold explained last t verdict before lines
      → AreWithin (before ++ lines) all → Hold lines
  verdict_so (Pending unknown) before lines told within = hope_so unknown before lines told within
  verdict_so Bogus before lines told within = held_so (setting_in explained) question all last before lines told
  verdict_so Indeterminate before lines told within = held_so (setting_in explained) question all last before lines told
  verdict_so verdict before lines told within = settled_so (setting_in explained) links last t all verdict before lines told within

  last_so : (verdict : Verdict) (before lines : List Line) → IsEndTold explained verdict before lines → Hold lines
  last_so (Pending unknown) before lines told = places_so (setting_in explained) links last t all before lines told
  last_so Bogus before lines told = places_so (setting_in explained) links last t all before lines told
  last_so Indeterminate before lines told = places_so (setting_in explained) links last t all before lines told
  last_so verdict before lines told = end_so (setting_in explained) links last t all before lines told

  holding_so : (verdict : Verdict) (before lines : List Line) → IsHoldingTold explained t links last verdict before lines
      → AreWithin (before ++ lines) all → Hold lines
  holding_so verdict before lines told within =
      let here : Setting = setting_in explained in
      both_so here question all (IsWayTold explained t links last verdict) (IsEndTold explained verdict) before lines told within
      (λ front. both_so here question all (AreEach (IsLinkTold here) links) (IsVerdictTold explained last t verdict) before told.first told.says_first front
      (λ inside. links_so here links last t all before told.says_first.first told.says_first.says_first inside)
      (λ back. verdict_so verdict (before ++ told.says_first.first) told.says_first.second told.says_first.says_second back))
      (λ back. last_so verdict (before ++ told.first) told.second told.says_second)

  failed_so : (verdict : Verdict) (lines : List Line)
      → AreBoth (IsFailureTold (setting_in explained) last t) (IsHoldingTold explained t links last verdict) [] lines → AreWithin lines all → Hold lines
  failed_so verdict lines told within =
      both_so (setting_in explained) question all (IsFailureTold (setting_in explained) last t) (IsHoldingTold explained t links last verdict) [] lines told
      within
      (λ front. failure_so (setting_in explained) links last t all [] told.first told.says_first)
      (λ back. holding_so verdict told.first told.second told.says_second back)

  explanation_so : (verdict : Verdict) (lines : List Line) → IsExplanation explained t links last verdict lines → AreWithin lines all → Hold lines
  explanation_so Bogus lines is within = failed_so Bogus lines is within
  explanation_so Indeterminate lines is within = failed_so Indeterminate lines is within
  explanation_so verdict lines is within = holding_so verdict [] lines is within

-- under hope the RRsets are the same
in_its_setting : (explained : Explained) (verdict : Verdict) (asked : Asked) (all : List Line)
    → ((each : Line) → Contains all each → IsSoFor explained.rrsets asked all each)
    → (each : Line) → Contains all each → IsSoFor (its_setting explained verdict).rrsets asked all each
in_its_setting explained Indeterminate asked all so = so
in_its_setting explained verdict asked all so = so

pub explanation_checks : (explained : Explained) (t : ℕ) (links : List Link) (last : Labels) (verdict : Verdict) (lines : List Line)
    → IsExplanation explained t links last verdict lines → Checks (its_setting explained verdict) (asked_by links last t) lines
explanation_checks explained t links last verdict lines is = record {
  follows = explanation_follows explained t links last verdict lines is;
  is_so = in_its_setting explained verdict (asked_by links last t) lines
      (explanation_so explained t links last lines verdict lines is (λ each there. there));
}
