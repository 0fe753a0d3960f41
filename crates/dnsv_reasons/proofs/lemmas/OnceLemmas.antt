-- Of what fails no two lines are the same.
use Rattle.std.proofs.Common.{◌≡◌, inl, inr, ⊎_elim, zero, suc, Bool, List, [], ◌∷◌, map, refl, sym, ap, ◌∙◌, subst, arith}
use Rattle.std.specs.List.{AllByRecursion}
use Rattle.std.specs.Prelude.{Contains}
use Rattle.dnsv_canonical.specs.declared.number.RecordNumber.{RecordNumber}
use Rattle.dnsv_gaps.specs.Asking.{Asking}
use Rattle.dnsv_line_laws.specs.Lower.{lower_line}
use Rattle.dnsv_lines.specs.Rows.{line_text}
use Rattle.dnsv_lines.specs.declared.line.Line.{Line}
use Rattle.dnsv_mending.specs.Ways.{IsAmong}
use Rattle.dnsv_mending.specs.Zone.{levels_of}
use Rattle.dnsv_mending.specs.declared.facts.zone.ZoneFacts.{ZoneFacts}
use Rattle.dnsv_reasons.specs.Failures.{AreFailures, AreToldOf}
use Rattle.dnsv_reasons.specs.Lines.{AreSaidLines, IsSaidLine}
use Rattle.dnsv_remedies.specs.Question.{question_remedy}
use Rattle.dnsv_remedies.specs.Reasons.{IsNowhereTwice}
use Rattle.dnsv_remedies.specs.declared.said.Said.{Said}
use Rattle.dnsv_remedies.proofs.Once.{nowhere_twice}
use Rattle.dnsv_reasons.specs.laws.Once.{AreOnce, TellsItsLine}
use Rattle.dnsv_reasons.proofs.lemmas.alike.AlikeSaid.{same_said}
use Rattle.dnsv_reasons.proofs.lemmas.kept.KeptOnce.{one_chosen, place_of}
use Rattle.dnsv_reasons.proofs.lemmas.kept.KeptRemedies.{Fits}
use Rattle.dnsv_reasons.proofs.lemmas.kept.KeptTold.{all_among, told_fits}
use Rattle.dnsv_reasons.proofs.lemmas.kept.KeptZones.{IsChosen}

-- ---- lists

-- what a mapped list has comes of one of the list
unmapped : {A B : Type 0} (f : A → B) (xs : List A) (v : B) → Contains (map f xs) v → (x : A) × IsAmong x xs × (f x ≡ v)
unmapped {A} {B} f [] v member = absurd (omega (arith, member.1))
unmapped {A} {B} f (x ∷ xs) v (zero, within, is) = (x, inl refl, is)
unmapped {A} {B} f (x ∷ xs) v (suc k, within, is) =
    let found = unmapped f xs v (k, omega (arith, within), is) in (found.0, inr found.1, found.2)

mapped : {A B : Type 0} (f : A → B) (xs : List A) (x : A) → Contains xs x → Contains (map f xs) (f x)
mapped {A} {B} f [] x member = absurd (omega (arith, member.1))
mapped {A} {B} f (y ∷ ys) x (zero, within, is) = (0, omega arith, ap f is)
mapped {A} {B} f (y ∷ ys) x (suc k, within, is) =
    let found = mapped f ys x (k, omega (arith, within), is) in (suc found.0, omega (arith, found.1), found.2)

-- where no two have one image, no two are equal
pub once_of_map : {A B : Type 0} (f : A → B) (xs : List A) → AreOnce (map f xs) → AreOnce xs
once_of_map {A} {B} f [] once = tt
once_of_map {A} {B} f (x ∷ xs) once = ((λ member. once.0 (mapped f xs x member)), once_of_map f xs once.1)

among_mapped : {A B : Type 0} (f : A → B) (xs : List A) (x : A) (v : B) → IsAmong x xs → f x ≡ v → Contains (map f xs) v
among_mapped {A} {B} f [] x v among is = absurd among
among_mapped {A} {B} f (y ∷ ys) x v (inl same) is = (0, omega arith, ap f (sym same) ∙ is)
among_mapped {A} {B} f (y ∷ ys) x v (inr among) is =
    let found = among_mapped f ys x v among is in (suc found.0, omega (arith, found.1), found.2)

-- so for images that only those of them have
pub once_by : {A B C : Type 0} (f : A → B) (g : A → C) (xs : List A) → ((x y : A) → IsAmong x xs → IsAmong y xs → g x ≡ g y → f x ≡ f y)
    → AreOnce (map f xs) → AreOnce (map g xs)
once_by {A} {B} {C} f g [] alike once = tt
once_by {A} {B} {C} f g (x ∷ xs) alike once = (
  λ member.
      let found = unmapped g xs (g x) member in
      once.0 (among_mapped f xs found.0 (f x) found.1 (alike found.0 x (inr found.1) (inl refl) found.2)),
  once_by f g xs (λ y z first second. alike y z (inr first) (inr second)) once.1,
)

-- ---- lines

-- a line says one thing that is told
pub said_by : (a : Asking) (told : List Said) (lines : List Line) (x : Line) → AreSaidLines a told lines → IsAmong x lines
    → (each : Said) × IsAmong each told × IsSaidLine a each x
said_by a [] lines x are among = absurd (subst (IsAmong x) are among)
said_by a (each ∷ others) lines x (inl are) among = ⊎_elim
    (λ (is : x ≡ are.0). (each, inl refl, subst (IsSaidLine a each) (sym is) are.2))
    (λ (later : IsAmong x are.1). let found = said_by a others are.1 x are.3 later in (found.0, inr found.1, found.2))
    (subst (IsAmong x) are.4 among)
said_by a (each ∷ others) lines x (inr are) among = let found = said_by a others lines x are.1 among in (found.0, inr found.1, found.2)

later_twice : (each : Said) (others : List Said) → IsNowhereTwice (each ∷ others) → IsNowhereTwice others
later_twice each others once i j x at there = let same : suc i ≡ suc j = once (suc i) (suc j) x at there in omega (arith, same)

not_later : (each : Said) (others : List Said) → IsNowhereTwice (each ∷ others) → IsAmong each others → ⊥
not_later each others once among =
    let place = place_of others each among in
    let same : 0 ≡ suc place.0 = once 0 (suc place.0) each refl place.1 in
    omega (arith, same)

module _ (zones : List ZoneFacts) (Chosen : RecordNumber → Type 0) (wild : Bool)
    (one : (m n : RecordNumber) → Chosen m → Chosen n → m.rrset ≡ n.rrset → m ≡ n) (a : Asking) where
  lines_once : (told : List Said) (lines : List Line) → AreSaidLines a told lines → IsNowhereTwice told
      → AllByRecursion (Fits zones Chosen wild) told
      → AreOnce (map lower_line lines)
  lines_once [] lines are once fit = subst (λ (all : List Line). AreOnce (map lower_line all)) (sym are) tt
  lines_once (each ∷ others) lines (inl are) once fit =
      subst (λ (all : List Line). AreOnce (map lower_line all)) (sym are.4) (
        λ member.
            let found = unmapped lower_line are.1 (lower_line are.0) member in
            let by = said_by a others are.1 found.0 are.3 found.1 in
            let same : each ≡ by.0 =
            same_said zones Chosen wild one a each by.0 are.0 found.0 are.2 by.2 (sym found.2) fit.0
            (all_among (Fits zones Chosen wild) others by.0 fit.1 by.1) in
            not_later each others once (subst (λ (s : Said). IsAmong s others) (sym same) by.1),
        lines_once others are.1 are.3 (later_twice each others once) fit.1,
      )
  lines_once (each ∷ others) lines (inr are) once fit = lines_once others lines are.1 (later_twice each others once) fit.1

-- ---- what fails

pub failures_once : (a : Asking) (lines : List Line) → AreFailures a lines → AreOnce (map lower_line lines)
failures_once a lines failures =
    let told : AreToldOf a failures.told = failures.are_told in
    let b = told.question.is_anchored in
    let remedy = question_remedy (levels_of b told.zones) told.question in
    let fit = told_fits a told.zones told.of_zones told.question told.of_question in
    let one = one_chosen a.basis a.name a.rtype b told.zones told.of_zones in
    lines_once told.zones (IsChosen b told.zones) fit.0 one a failures.told lines failures.said
    (subst IsNowhereTwice (sym told.are) (nowhere_twice told.question remedy))
    (subst (AllByRecursion (Fits told.zones (IsChosen b told.zones) fit.0)) (sym told.are) fit.1)

pub failures_differ : (a : Asking) (lines : List Line) → AreFailures a lines → AreOnce lines
failures_differ a lines failures = once_of_map lower_line lines (failures_once a lines failures)

-- no two have one text, where texts tell lines from each other
pub texts_differ : (a : Asking) (lines : List Line) → ((x y : Line) → IsAmong x lines → IsAmong y lines → TellsItsLine x y)
    → AreFailures a lines
    → AreOnce (map line_text lines)
texts_differ a lines tell failures = once_by lower_line line_text lines tell (failures_once a lines failures)
