-- Each line of an explanation follows from those before it.
use Rattle.std.proofs.Common.{◌≡◌, ◌+◌, ◌∙◌, ℕ, List, [], ◌∷◌, ◌++◌, append_assoc, ap, map, refl, sym, subst}
use Rattle.std.specs.List.{Contains}
use Rattle.dnsv_names.specs.Name.{Labels}
use Rattle.dnsv_canonical.specs.Rrsets.{ReceivedRrset}
use Rattle.dnsv_verifier.specs.declared.entry.Entry.{Entry}
use Rattle.dnsv_verdict.specs.declared.link.Link.{Link}
use Rattle.dnsv_verdict.specs.declared.verdict.Verdict.{Verdict}
use Rattle.dnsv_verdict.specs.declared.verdict.Verdict.TheVariants.{SecureAnswer, SecureAlias, SecureNoName, SecureNoData, Insecure, Pending, Bogus, Indeterminate}
use Rattle.dnsv_derivations.specs.Denials.IsShownBy.{no_name, no_data, no_closer, closer_opted_out}
use Rattle.dnsv_derivations.specs.Explained.{Explained, Setting, setting_in}
use Rattle.dnsv_holding.specs.Explained.{hoped}
use Rattle.dnsv_holding.specs.Holding.{IsEnd, IsEndTold, IsHoldingTold, IsHopeTold, IsLinkTold, IsSetTold, IsSettledTold, IsUnsignedFromTold, IsVerdictTold, IsWayTold, its_setting, signature_of}
use Rattle.dnsv_explain.specs.Explanation.{IsExplanation, IsFailureTold}
use Rattle.dnsv_holding.specs.Holding.IsSetTold.{as_owned, by_wildcard}
use Rattle.dnsv_holding.specs.Holding.IsUnsignedFromTold.{by_cut, by_wildcard as by_open_wildcard}
use Rattle.dnsv_derivations.specs.Following.{EachFollows, IsPlaceOf}
use Rattle.dnsv_derivations.specs.Places.{ArePlacesOf, ArePlacesTold}
use Rattle.dnsv_derivations.specs.Saying.{Adds, AreBoth, AreEach}
use Rattle.dnsv_derivations.specs.derivations.Derivations.Subject.{signature}
use Rattle.dnsv_derivations.specs.intervals.Holding.{AreShownValidAt, IsHoldingOf}
use Rattle.dnsv_lines.specs.declared.line.interval.Interval.{Interval}
use Rattle.dnsv_lines.specs.declared.line.Line.{Line}
use Rattle.dnsv_lines.specs.declared.line.Line.TheVariants as line
use Rattle.dnsv_canonical.specs.declared.number.SignatureNumber.{SignatureNumber}
use Rattle.dnsv_lines.specs.declared.line.place.RrsetPlace.{RrsetPlace}
use Rattle.dnsv_explain.proofs.lemmas.telling.QuietLemmas.{failure_follows}
use Rattle.dnsv_derivations.proofs.lemmas.derivations.HeldLemmas.{held_follows}
use Rattle.dnsv_holding.proofs.lemmas.marks.HopeLemmas.{still_follow}
use Rattle.dnsv_derivations.proofs.lemmas.denials.FollowLemmas.{behind, both_follow, denial_follows, each_follow, expanded_follows, first_of}
use Rattle.dnsv_derivations.proofs.lemmas.derivations.DerivationLemmas.{derivation_follows}
use Rattle.dnsv_derivations.proofs.lemmas.unsigned_cuts.CutFollowLemmas.{cut_follows}

-- ---- a verdict that needs no more answers

module _ (setting : Setting) where
  set_follows : (name : Labels) (number : SignatureNumber) (before lines : List Line) → IsSetTold setting name number before lines
      → EachFollows setting before lines
  set_follows name number before lines (as_owned rrset rrsig at plain told) =
      derivation_follows setting before (signature number) lines told
  set_follows name number before lines (by_wildcard rrset rrsig trust shown at expanded good is told) =
      expanded_follows setting name number shown before lines (trust, good, no_closer rrsig.labels rrsig.signer is) told

  links_follow : (links : List Link) (before lines : List Line) → AreEach (IsLinkTold setting) links before lines
      → EachFollows setting before lines
  links_follow links before lines told =
      each_follow setting (IsLinkTold setting) (λ all. Unit {0}) (λ all more given. tt) links
      (λ link there all more given one. set_follows link.name (signature_of link.rrset link.signature) all more one) before lines tt
      told

  unsigned_from_follows : (name : Labels) (t : ℕ) (before lines : List Line) → IsUnsignedFromTold setting name t before lines
      → EachFollows setting before lines
  unsigned_from_follows name t before lines (by_cut shown is told) = cut_follows setting name shown before lines is told
  unsigned_from_follows name t before lines (by_open_wildcard trust good none k s first shown is told) =
      expanded_follows setting name (signature_of k s) shown before lines
      (trust, good, closer_opted_out first.such.rrsig.labels first.such.rrsig.signer is) told

  settled_follows : (name : Labels) (t : ℕ) (verdict : Verdict) (before lines : List Line)
      → IsSettledTold setting name t verdict before lines → EachFollows setting before lines
  settled_follows name t (SecureAnswer k s) before lines told = set_follows name (signature_of k s) before lines told
  settled_follows name t (SecureAlias k s) before lines told = set_follows name (signature_of k s) before lines told
  settled_follows name t (SecureNoName proof) before lines told =
      denial_follows setting name told.shown before lines (told.trust, told.good, no_name told.is) told.told
  settled_follows name t (SecureNoData proof) before lines told =
      denial_follows setting name told.shown before lines (told.trust, told.good, no_data t told.is) told.told
  settled_follows name t (Insecure cut) before lines told = unsigned_from_follows name t before lines told
  settled_follows name t verdict before lines told = absurd told

  places_follow : (places : List RrsetPlace) → ((place : RrsetPlace) → Contains places place → IsPlaceOf setting.rrsets place)
      → (before : List Line) → EachFollows setting before (map (λ place. line.Rrset place) places)
  places_follow [] each before = tt
  places_follow (place ∷ places) each before = (
    each place (first_of place places),
    places_follow places (λ other there. each other (behind place places other there)) (before ++ line.Rrset place ∷ []),
  )

  end_follows : (told lines : List Line) → IsEnd setting.rrsets setting.moment told lines → EachFollows setting told lines
  end_follows told lines is =
      let Lines : List Line → Type 0 = λ all. EachFollows setting told all in
      subst Lines (sym is.are) (tt, places_follow is.places is.stand.each (told ++ line.Holds is.interval ∷ []))

  told_places_follow : (told lines : List Line) → ArePlacesTold setting.rrsets told lines → EachFollows setting told lines
  told_places_follow told lines is =
      let Lines : List Line → Type 0 = λ all. EachFollows setting told all in
      subst Lines (sym is.are) (places_follow is.places is.stand.each told)

-- ---- any verdict

module _ (explained : Explained) where
  hope_follows : (name : Labels) (t : ℕ) (unknown : List Entry) (before lines : List Line) → IsHopeTold explained name t unknown before lines
      → EachFollows (setting_in (hoped explained unknown)) before lines
  hope_follows name t unknown before lines told =
      let then : Setting = setting_in (hoped explained unknown) in
      let Lines : List Line → Type 0 = λ all. EachFollows then before all in
      both_follow then _ _ before lines told.told (subst Lines (sym told.told.says_first) (tt, tt))
      (settled_follows then name t told.verdict (before ++ told.told.first) told.told.second told.told.says_second)

  verdict_follows : (name : Labels) (t : ℕ) (verdict : Verdict) (before lines : List Line)
      → IsVerdictTold explained name t verdict before lines → EachFollows (its_setting explained verdict) before lines
  verdict_follows name t (Pending unknown) before lines told = hope_follows name t unknown before lines told
  verdict_follows name t Bogus before lines told = held_follows (setting_in explained) name before lines told
  verdict_follows name t Indeterminate before lines told = held_follows (setting_in explained) name before lines told
  verdict_follows name t verdict before lines told = settled_follows (setting_in explained) name t verdict before lines told

  -- what follows, follows under hope too
  in_its_setting : (verdict : Verdict) (before lines : List Line) → EachFollows (setting_in explained) before lines
      → EachFollows (its_setting explained verdict) before lines
  in_its_setting (Pending unknown) before lines follows = still_follow explained unknown before lines follows
  in_its_setting verdict before lines follows = follows

  pub way_follows : (t : ℕ) (links : List Link) (last : Labels) (verdict : Verdict) (before lines : List Line)
      → IsWayTold explained t links last verdict before lines → EachFollows (its_setting explained verdict) before lines
  way_follows t links last verdict before lines told =
      both_follow (its_setting explained verdict) _ _ before lines told
      (in_its_setting verdict before told.first (links_follow (setting_in explained) links before told.first told.says_first))
      (verdict_follows last t verdict (before ++ told.first) told.second told.says_second)

  last_follows : (verdict : Verdict) (told lines : List Line) → IsEndTold explained verdict told lines
      → EachFollows (its_setting explained verdict) told lines
  last_follows (Pending unknown) told lines is = told_places_follow (setting_in (hoped explained unknown)) told lines is
  last_follows Bogus told lines is = told_places_follow (setting_in explained) told lines is
  last_follows Indeterminate told lines is = told_places_follow (setting_in explained) told lines is
  last_follows verdict told lines is = end_follows (setting_in explained) told lines is

  pub holding_follows : (t : ℕ) (links : List Link) (last : Labels) (verdict : Verdict) (before lines : List Line)
      → IsHoldingTold explained t links last verdict before lines → EachFollows (its_setting explained verdict) before lines
  holding_follows t links last verdict before lines is =
      both_follow (its_setting explained verdict) _ _ before lines is (way_follows t links last verdict before is.first is.says_first)
      (last_follows verdict (before ++ is.first) is.second is.says_second)

  failed_follows : (t : ℕ) (links : List Link) (last : Labels) (verdict : Verdict) (lines : List Line)
      → AreBoth (IsFailureTold (setting_in explained) last t) (IsHoldingTold explained t links last verdict) [] lines
      → EachFollows (its_setting explained verdict) [] lines
  failed_follows t links last verdict lines is =
      both_follow (its_setting explained verdict) _ _ [] lines is (failure_follows (its_setting explained verdict) (setting_in explained) last t [] is.first is.says_first)
      (holding_follows t links last verdict is.first is.second is.says_second)

  pub explanation_follows : (t : ℕ) (links : List Link) (last : Labels) (verdict : Verdict) (lines : List Line)
      → IsExplanation explained t links last verdict lines → EachFollows (its_setting explained verdict) [] lines
  explanation_follows t links last Bogus lines is = failed_follows t links last Bogus lines is
  explanation_follows t links last Indeterminate lines is = failed_follows t links last Indeterminate lines is
  explanation_follows t links last verdict lines is = holding_follows t links last verdict [] lines is

-- ---- the last lines

pub valid_there : (rrsets its_rrsets : List ReceivedRrset) (lines its_lines : List Line) (moment its_moment : ℕ) → its_rrsets ≡ rrsets
    → its_lines ≡ lines → its_moment ≡ moment → AreShownValidAt rrsets lines moment → AreShownValidAt its_rrsets its_lines its_moment
valid_there rrsets its_rrsets lines its_lines moment its_moment same_rrsets same_lines same_moment valid =
    let Rrsets : List ReceivedRrset → Type 0 = λ each. AreShownValidAt each its_lines its_moment in
    let Lines : List Line → Type 0 = λ each. AreShownValidAt rrsets each its_moment in
    let Moment : ℕ → Type 0 = λ each. AreShownValidAt rrsets lines each in
    subst Rrsets (sym same_rrsets) (subst Lines (sym same_lines) (subst Moment (sym same_moment) valid))

pub end_added : (rrsets held_rrsets placed_rrsets : List ReceivedRrset) (moment its_moment : ℕ)
    (old held_lines placed_lines pushed new : List Line) (interval : Interval) (places : List RrsetPlace)
    → held_rrsets ≡ rrsets → placed_rrsets ≡ rrsets → its_moment ≡ moment → held_lines ≡ old → placed_lines ≡ old
    → IsHoldingOf held_rrsets held_lines its_moment interval → ArePlacesOf placed_rrsets placed_lines places
    → pushed ≡ old ++ line.Holds interval ∷ [] → new ≡ pushed ++ map (λ place. line.Rrset place) places
    → Adds (IsEnd rrsets moment) old new
end_added rrsets held_rrsets placed_rrsets moment its_moment old held_lines placed_lines pushed new interval places
    same_held same_placed same_moment same_held_lines same_placed_lines holds stand pushes adds =
    let Rrsets : List ReceivedRrset → Type 0 = λ each. IsHoldingOf each held_lines its_moment interval in
    let Lines : List Line → Type 0 = λ each. IsHoldingOf rrsets each its_moment interval in
    let Moment : ℕ → Type 0 = λ each. IsHoldingOf rrsets old each interval in
    let In : List ReceivedRrset → Type 0 = λ each. ArePlacesOf each placed_lines places in
    let Of : List Line → Type 0 = λ each. ArePlacesOf rrsets each places in
    let told : List Line = map (λ place. line.Rrset place) places in record {
      more = line.Holds interval ∷ told;
      is = adds ∙ ap (λ front. front ++ told) pushes ∙ append_assoc old (line.Holds interval ∷ []) told;
      says = record {
        interval = interval;
        holds = subst Moment same_moment (subst Lines same_held_lines (subst Rrsets same_held holds));
        places = places;
        stand = subst Of same_placed_lines (subst In same_placed stand);
        are = refl;
      };
    }

pub places_added : (rrsets placed_rrsets : List ReceivedRrset) (old placed_lines new : List Line) (places : List RrsetPlace)
    → placed_rrsets ≡ rrsets → placed_lines ≡ old → ArePlacesOf placed_rrsets placed_lines places
    → new ≡ old ++ map (λ place. line.Rrset place) places → Adds (ArePlacesTold rrsets) old new
places_added rrsets placed_rrsets old placed_lines new places same_placed same_placed_lines stand adds =
    let In : List ReceivedRrset → Type 0 = λ each. ArePlacesOf each placed_lines places in
    let Of : List Line → Type 0 = λ each. ArePlacesOf rrsets each places in record {
      more = map (λ place. line.Rrset place) places;
      is = adds;
      says = record { places = places; stand = subst Of same_placed_lines (subst In same_placed stand); are = refl };
    }
