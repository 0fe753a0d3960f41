-- The first case of a source that is so.
use Rattle.std.proofs.Common.{◌≡◌, ◌≢◌, ◌↔◌, ◌⊎◌, ◌<◌, ◌≤◌, ◌+◌, ◌-◌, ℕ, IsTrue, inl, inr, List, [], ◌∷◌, length, map, refl, sym, ◌∙◌, subst, arith, ⊎_elim}
use Rattle.std.proofs.lemmas.Bool.{cases_lt}
use Rattle.std.specs.List.{AllZip}
use Rattle.std.proofs.lemmas.List.Elements.{Contains-append_right}
use Rattle.std.specs.Prelude.{⊤, Contains}
use Rattle.std.specs.declared.cmp.Ordering.TheVariants.{Less}
use Rattle.dnsv_names.specs.Name.{Labels, SameName, rightmost}
use Rattle.dnsv_names.specs.Order.{IsBelow}
use Rattle.dnsv_names.specs.Tree.AncestorLaws.{rightmost_all, rightmost_in_line, rightmost_length}
use Rattle.dnsv_names.specs.Tree.TreeLaws.{at_or_below_length, below_by_length, below_length, same_labels}
use Rattle.dnsv_zones.specs.forms.RecordWords.{RecordWords, words}
use Rattle.dnsv_zones.specs.zones.TypeNumbers.{dname}
use Rattle.dnsv_zones.specs.zones.Types.{IsClosed}
use Rattle.dnsv_canonical.specs.declared.number.RecordNumber.{RecordNumber}
use Rattle.dnsv_proof_forms.specs.records.Numbers.{number_at}
use Rattle.dnsv_proof_forms.specs.words.ChainSaid.{chain_said}
use Rattle.dnsv_proof_forms.specs.records.Numbers.{number_cmp}
use Rattle.dnsv_proof_forms.specs.words.SaidAt.{AreAllPlaces}
use Rattle.dnsv_proof_forms.specs.declared.words.asked.AskedName.TheVariants.{Above}
use Rattle.dnsv_proof_forms.specs.declared.words.asked.AskedName.{AskedName}
use Rattle.dnsv_proof_forms.specs.declared.words.asked.AskedTypes.TheVariants as kinds
use Rattle.dnsv_proof_forms.specs.declared.words.asked.AskedWord.{AskedWord}
use Rattle.dnsv_proof_forms.specs.declared.words.asked.AskedWord.TheVariants as word
use Rattle.dnsv_proof_forms.specs.words.Asked.{asked_name}
use Rattle.dnsv_lines.specs.declared.line.fault.denial.WhySource.{WhySource}
use Rattle.dnsv_chain.specs.Basis.{basis_by, Basis}
use Rattle.dnsv_remedies.specs.declared.facts.denial.ClosedFacts.{ClosedFacts}
use Rattle.dnsv_gaps.specs.CaseSearch.{AreClosedFactsAt, AreFactsAtPlace, HasNoneClosedAt, IsHeldBy}
use Rattle.dnsv_gaps.specs.Cases.{AreClosedFacts, AreHeld, HasNoneClosed, HasNoneShown, IsFirstClosed, IsHeld, IsHeldAt, IsLongestShown, IsShown}
use Rattle.dnsv_gaps.specs.SourceSearch.{IsSourceIn, Says, said_in}
use Rattle.dnsv_gaps.specs.declared.asked.AskedQuestion.{AskedQuestion}
use Rattle.dnsv_gaps.specs.declared.sources.ZoneSource.{ZoneSource}
use Rattle.dnsv_gaps.proofs.AnswerLemmas.{nothing_there}
use Rattle.dnsv_gaps.proofs.PartLemmas.{one_fact}
use Rattle.dnsv_gaps.proofs.SayingLemmas.{By, all_alike, has_one, numbers, rising, says_alike, zone}
use Rattle.dnsv_gaps.proofs.SourceLemmas.{first_said, said_there, sayings_members, sayings_rising, types_told, within_all}

-- ---- closed records at a name

module _ (question : AskedQuestion) (source : ZoneSource) (is : IsSourceIn question source) (labels : ℕ) (places : List ℕ)
    (all : AreAllPlaces (By question source is (Above labels) (word.Types kinds.Closed)) places) where
  pub none_closed : places ≡ [] → HasNoneClosedAt (said_in question source) question.name.now labels
  none_closed none n said =
      let some = (has_one question source is (Above labels) (word.Types kinds.Closed) places all).1 (n, said) in
      nothing_there places none some.0 some.1

  pub first_closed : (place : ℕ) (rest : List ℕ) → places ≡ place ∷ rest → (facts : ClosedFacts)
      → AreFactsAtPlace question source labels place facts
      → AreClosedFactsAt (basis_by question.facts.now) (said_in question source) question.name.now labels facts
  first_closed place rest are facts its =
      let ns = numbers question source is in
      let order = rising question source is in
      let told = word.Types kinds.Closed in
      let asked : AskedName = Above labels in
      let same = says_alike question source is asked told in
      let first = first_said ns order (By question source is asked told) (Says question source asked told) same places all place rest are in
      let here : Contains places place = subst (λ (ps : List ℕ). Contains ps place) (sym are) (0, omega arith, refl) in
      let within = within_all ns order (By question source is asked told) (Says question source asked told) same places all place here in
      let name = rightmost question.name.now labels in
      let chain = types_told (zone question source is) source.records name place its.types (λ has. has dname) IsClosed its.types_at ((all.members place).0 here) in
      let number = said_there ns order ((chain_said (zone question source is) source.records).TypesAt name (λ has. has dname))
      ((said_in question source).TypesAt name (λ has. has dname)) ((all_alike question source is).types_at name (λ has. has dname)) place within in
      let At : RecordNumber → Type 0 = (said_in question source).TypesAt name (λ has. has dname) in
      let back = sym its.number_is in record {
        labels_are = its.labels_are;
        is = subst ((said_in question source).TypesAt name IsClosed) back first.0;
        lowest = λ n said. subst (λ (m : RecordNumber). number_cmp n m ≢ Less) back (first.1 n said);
        by_dname = (
          λ yes. subst At back (number.0 (chain.1 (its.by_dname.0 yes))),
          λ said. its.by_dname.1 (chain.0 (number.1 (subst At its.number_is said))),
        );
        rrset = one_fact (basis_by question.facts.now) facts.number facts.rrset its.rrset;
      }

-- ---- the shortest name with one

abbrev pub NoneTo : RecordWords RecordNumber → Labels → ℕ → ℕ → Type 0
NoneTo said name low n = (m : ℕ) → low < m → m < n → HasNoneClosedAt said name m

pub none_closed_yet : (said : RecordWords RecordNumber) (name : Labels) (low : ℕ) → NoneTo said name low (low + 1)
none_closed_yet said name low m more early = absurd (omega (arith, more, early))

pub none_closed_next : (said : RecordWords RecordNumber) (name : Labels) (low n : ℕ) → HasNoneClosedAt said name n → NoneTo said name low n
    → NoneTo said name low (n + 1)
none_closed_next said name low n none so_far m more early =
    ⊎_elim (λ (before : m < n). so_far m more before)
    (λ (last : n ≤ m).
    let same : n ≡ m = omega (arith, last, early) in
    subst (HasNoneClosedAt said name) same none)
    (cases_lt m n)

module _ (said : RecordWords RecordNumber) (name : Labels) (low : ℕ) (within : low ≤ length name) where
  abbrev apex : Labels
  apex = rightmost name low

  below_is : (m : ℕ) → m < length name → IsBelow (rightmost name m) apex → low < m
  below_is m inside below =
      let less = below_length (rightmost name m) apex below in
      let size = rightmost_length name m (omega (arith, inside)) in
      let low_size = rightmost_length name low within in
      omega (arith, less, size, low_size)

  is_below : (m : ℕ) → m < length name → low < m → IsBelow (rightmost name m) apex
  is_below m inside more =
      let size = rightmost_length name m (omega (arith, inside)) in
      let low_size = rightmost_length name low within in
      below_by_length (rightmost name m) apex (rightmost_in_line name m low (omega (arith, more))) (omega (arith, more, size, low_size))

  pub none_closed_all : (n : ℕ) → length name ≤ n → NoneTo said name low n → HasNoneClosed said apex name
  none_closed_all n past none m closed =
      let inside = closed.above in
      none m (below_is m inside closed.below) (omega (arith, inside, past)) closed.closed.0 closed.closed.1

  pub closed_first : (basis : Basis) (n : ℕ) (facts : ClosedFacts) → low < n → n < length name → NoneTo said name low n
      → AreClosedFactsAt basis said name n facts → AreClosedFacts basis said apex name facts
  closed_first basis n facts more inside none at =
      let back = sym at.labels_are in
      record {
        first = subst (λ (m : ℕ). IsFirstClosed said apex name m facts.number) back (record {
          closed = record { above = inside; below = is_below n inside more; closed = (facts.number, at.is) };
          fewest = λ fewer less closed.
              none fewer (below_is fewer closed.above closed.below) less closed.closed.0 closed.closed.1;
          is = at.is;
          lowest = at.lowest;
        });
        by_dname = subst (λ (m : ℕ). IsTrue facts.is_dname ↔ said.TypesAt (rightmost name m) (λ has. has dname) facts.number) back at.by_dname;
        rrset = at.rrset;
      }

-- ---- the longest name that is shown

abbrev pub NoneFrom : RecordWords RecordNumber → Labels → ℕ → Type 0
NoneFrom said name n = (m : ℕ) → n ≤ m → m < length name → ¬ IsShown said (rightmost name m)

pub none_shown_yet : (said : RecordWords RecordNumber) (name : Labels) (n : ℕ) → n ≡ length name → NoneFrom said name n
none_shown_yet said name n all m from inside is = absurd (omega (arith, all, from, inside))

pub none_shown_more : (said : RecordWords RecordNumber) (name : Labels) (n fewer : ℕ) → n ≡ fewer + 1 → ¬ IsShown said (rightmost name fewer)
    → NoneFrom said name n → NoneFrom said name fewer
none_shown_more said name n fewer next never none m from inside is =
    ⊎_elim (λ (later : fewer < m). none m (omega (arith, next, later)) inside is)
    (λ (here : m ≤ fewer).
    let same : m ≡ fewer = omega (arith, here, from) in
    never (subst (λ (k : ℕ). IsShown said (rightmost name k)) same is))
    (cases_lt fewer m)

pub none_shown_all : (said : RecordWords RecordNumber) (name : Labels) (low n : ℕ) → low ≤ length name → n ≤ low → NoneFrom said name n
    → HasNoneShown said (rightmost name low) name
none_shown_all said name low n within past none m inside at =
    let fewer = at_or_below_length (rightmost name m) (rightmost name low) at in
    let size = rightmost_length name m (omega (arith, inside)) in
    let low_size = rightmost_length name low within in
    none m (omega (arith, fewer, size, low_size, past)) inside

pub longest_is : (said : RecordWords RecordNumber) (name : Labels) (low n labels : ℕ) → low ≤ length name → n ≤ length name → n ≡ labels + 1 → low ≤ labels
    → IsShown said (rightmost name labels) → NoneFrom said name n → IsLongestShown said (rightmost name low) name labels
longest_is said name low n labels within inside next from shown none = record {
  above = omega (arith, inside, next);
  within = rightmost_in_line name labels low from;
  shown = shown;
  most = λ more later less. none more (omega (arith, next, later)) less;
}

-- a name is shown, by the records' places or numbers
pub shown_alike : (question : AskedQuestion) (source : ZoneSource) (is : IsSourceIn question source) (name : Labels)
    → (words (chain_said (zone question source is) source.records)).Encloser name ↔ IsShown (said_in question source) name
shown_alike question source is name =
    let same = all_alike question source is in
    let chain = chain_said (zone question source is) source.records in
    let said = said_in question source in (
      λ shown. ⊎_elim (λ (none : chain.NeedsNone name). inl (same.needs_to name none))
          (λ (some : (place : ℕ) × chain.Encloser name place). let it = (same.encloser name).to some.0 some.1 in inr (it.0, it.2)) shown,
      λ shown. ⊎_elim (λ (none : said.NeedsNone name). inl (same.needs_from name none))
          (λ (some : (n : RecordNumber) × said.Encloser name n). let it = (same.encloser name).from some.0 some.1 in inr (it.0, it.2)) shown,
    )

-- ---- what is in the way in each record at a name

module _ (question : AskedQuestion) (source : ZoneSource) (is : IsSourceIn question source) (asked : AskedName) (places : List ℕ)
    (all : AreAllPlaces (By question source is asked (word.Types kinds.Any)) places) where
  abbrev told : AskedWord
  told = word.Types kinds.Any

  abbrev x : Labels
  x = asked_name question.name.now asked

  abbrev ns : List RecordNumber
  ns = numbers question source is

  held_there : (t place : ℕ) (w : WhySource) → Contains places place → IsHeldBy source t place w
      → IsHeldAt (said_in question source) x t (number_at ns place) w
  held_there t place w here its =
      let order = rising question source is in
      let same = says_alike question source is asked told in
      let within = within_all ns order (By question source is asked told) (Says question source asked told) same places all place here in
      let Held : (ℕ → Type 0) → Type 0 = λ has. IsHeld has t its.held in
      let chain = types_told (zone question source is) source.records x place its.types Held (λ has. ⊤) its.types_at ((all.members place).0 here) in
      let number = said_there ns order ((chain_said (zone question source is) source.records).TypesAt x Held)
      ((said_in question source).TypesAt x Held) ((all_alike question source is).types_at x Held) place within in record {
        held = its.held;
        is_held = number.0 (chain.1 its.is_held);
        is_told = its.is_told;
      }

  each_held : (t : ℕ) (some : List ℕ) (ws : List WhySource) → ((place : ℕ) → Contains some place → Contains places place)
      → AllZip (IsHeldBy source t) some ws → AllZip (IsHeldAt (said_in question source) x t) (map (number_at ns) some) ws
  each_held t [] [] among zip = tt
  each_held t [] (w ∷ ws) among zip = absurd zip
  each_held t (p ∷ ps) [] among zip = absurd zip
  each_held t (p ∷ ps) (w ∷ ws) among zip = (
    held_there t p w (among p (0, omega arith, refl)) zip.0,
    each_held t ps ws (λ place there. among place (Contains-append_right (p ∷ []) ps place there)) zip.1,
  )

  pub all_held : (t : ℕ) (ws : List WhySource) → AllZip (IsHeldBy source t) places ws → AreHeld (said_in question source) x t ws
  all_held t ws zip =
      let order = rising question source is in
      let same = says_alike question source is asked told in record {
        numbers = map (number_at ns) places;
        are_at = record {
          rising = sayings_rising ns order (By question source is asked told) (Says question source asked told) same places all;
          members = sayings_members ns order (By question source is asked told) (Says question source asked told) same places all;
        };
        each = each_held t places ws (λ place there. there) zip;
      }

-- ---- the apex

pub apex_same : (name : Labels) (labels : ℕ) → labels ≡ length name → SameName name (rightmost name labels)
apex_same name labels all =
    let same = rightmost_all name labels (omega (arith, all)) in
    subst (λ (each : Labels). SameName name each) (sym same) refl

pub not_apex : (name : Labels) (labels : ℕ) → labels ≤ length name → ¬ (labels ≡ length name) → ¬ SameName name (rightmost name labels)
not_apex name labels within fewer same =
    fewer (sym (same_labels name (rightmost name labels) same ∙ rightmost_length name labels within))
