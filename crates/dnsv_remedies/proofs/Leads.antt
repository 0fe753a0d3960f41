-- Something always leads to the end of a question.
use Rattle.std.proofs.Common.{◌≡◌, inl, inr, ⊎_elim, ℕ, ◌<◌, ◌++◌, Bool, true, false, if◌then◌else◌, List, [], ◌∷◌, Option, Some, length, flat_map, refl, sym, ap, ◌∙◌, subst, slice_get}
use Rattle.std.proofs.lemmas.Bool.{false≢true}
use Rattle.std.specs.Option.{option_map}
use Rattle.dnsv_mending.specs.InPlace.{IsInPlace, IsRrsetInPlace, IsSignerInPlace}
use Rattle.dnsv_mending.specs.Level.{Leveled, above_from, zone_above}
use Rattle.dnsv_mending.specs.Mend.{Mended, cheapest, is_none, nothing}
use Rattle.dnsv_mending.specs.Price.{is_cheaper}
use Rattle.dnsv_mending.specs.Rrset.{signature_ways}
use Rattle.dnsv_mending.specs.Ways.{IsAmong}
use Rattle.dnsv_mending.specs.Zone.{is_zone_trusted, levels_of}
use Rattle.dnsv_mending.specs.declared.facts.signature.SignatureFacts.{SignatureFacts}
use Rattle.dnsv_mending.specs.declared.facts.zone.ZoneFacts.{ZoneFacts}
use Rattle.dnsv_mending.proofs.Always.{always, always_of_rrset}
use Rattle.dnsv_mending.proofs.AllWays.{mapped_some}
use Rattle.dnsv_mending.proofs.SomeWays.{There, at_within, place_of}
use Rattle.dnsv_remedies.specs.Answers.{answer_ways, closer_remedy, goal_ways, stripped}
use Rattle.dnsv_remedies.specs.Cuts.{parent_ways}
use Rattle.dnsv_remedies.specs.Denials.{denial, denial_ways, other_ways, speaker_ways}
use Rattle.dnsv_remedies.specs.InPlace.{IsQuestionInPlace}
use Rattle.dnsv_remedies.specs.Parts.{zone_kept, zone_of}
use Rattle.dnsv_remedies.specs.Question.{answer_or_denial, is_below_dname, question_remedy, question_ways}
use Rattle.dnsv_remedies.specs.Remedy.{Remedied, after, beside, least, least_from}
use Rattle.dnsv_remedies.specs.declared.facts.answer.AnswerSignature.{AnswerSignature}
use Rattle.dnsv_remedies.specs.declared.facts.answer.GoalFacts.{GoalFacts}
use Rattle.dnsv_remedies.specs.declared.facts.denial.SpeakerFacts.{SpeakerFacts}
use Rattle.dnsv_remedies.specs.declared.facts.question.QuestionFacts.{QuestionFacts}
use Rattle.dnsv_remedies.proofs.OneSignature.{alone, append_empty}
use Rattle.dnsv_remedies.proofs.Within.{trusted_at}

-- ---- lists that aren't empty

some_left : {X : Type 0} (xs ys : List X) → is_none xs ≡ false → is_none (xs ++ ys) ≡ false
some_left [] ys h = absurd (false≢true (sym h))
some_left (x ∷ xs) ys h = refl

some_if : (t : Bool) (xs ys : List Remedied) → (t ≡ true → is_none xs ≡ false) → (t ≡ false → is_none ys ≡ false) → is_none (if t then xs else ys) ≡ false
some_if true xs ys first second = first refl
some_if false xs ys first second = second refl

some_each : {X : Type 0} (f : X → List Remedied) (xs : List X) → is_none xs ≡ false → ((x : X) → IsAmong x xs → is_none (f x) ≡ false)
    → is_none (flat_map f xs) ≡ false
some_each f [] h each = absurd (false≢true (sym h))
some_each f (x ∷ xs) h each = some_left (f x) (flat_map f xs) (each x (inl refl))

some_after : (o : Option Mended) (n : Remedied) → There o → is_none (after o n) ≡ false
some_after o n t = subst (λ (each : Option Mended). is_none (after each n) ≡ false) (sym t.is) refl

some_beside : (o : Option Mended) (n : Remedied) → There o → is_none (beside o n) ≡ false
some_beside o n t = subst (λ (each : Option Mended). is_none (beside each n) ≡ false) (sym t.is) refl

least_some : (ms : List Remedied) (best : Remedied) → (m : Remedied) × (least_from (Some best) ms ≡ Some m)
least_some [] best = (best, refl)
least_some (x ∷ xs) best = least_some xs (if is_cheaper x.price best.price then x else best)

least_there : (ms : List Remedied) → is_none ms ≡ false → (m : Remedied) × (least ms ≡ Some m)
least_there [] h = absurd (false≢true (sym h))
least_there (x ∷ xs) h = least_some xs x

-- ---- zones

there_if : (t : Bool) (x y : Option Mended) → There x → There y → There (if t then x else y)
there_if true x y a b = a
there_if false x y a b = b

above_case : (levels : List Leveled) (above : Option Mended) → There above → ((level : Leveled) → IsAmong level levels → There level.zone)
    → There (above_from above levels)
above_case [] above t each = t
above_case (level ∷ levels) above t each = above_case levels (if level.leads then level.zone else above)
    (there_if level.leads level.zone above (each level (inl refl)) t) (λ l among. each l (inr among))

module _ (zones : List ZoneFacts) (place : IsInPlace zones) where
  zone_there : (n : ℕ) → n < length zones → There (zone_kept (levels_of true zones) n)
  zone_there n below =
      let z = at_within zones n below in
      let level = mapped_some (λ (l : Leveled). l.is_trusted) (slice_get (levels_of true zones) n) (is_zone_trusted z.x)
      (trusted_at zones n ∙ ap (option_map is_zone_trusted) z.is) in
      let m = always zones n level.from place level.is in
      record { m = m.0; is = ap zone_of level.is ∙ m.1 }

  above_there : There (zone_above (levels_of true zones))
  above_there = above_case (levels_of true zones) (Some nothing) (record { m = nothing; is = refl }) (λ level among.
      let at = place_of (levels_of true zones) level among in
      let m = always zones at.i level place at.is in
      record { m = m.0; is = m.1 })

  signature_there : (s : SignatureFacts) (above : Option Mended) → There above → (s.faults.signer ≡ false → IsSignerInPlace zones (length zones) s)
      → There (cheapest (signature_ways (levels_of true zones) above s))
  signature_there s above t signer =
      let of_each : IsRrsetInPlace zones (length zones) (alone s) = λ x among h.
      ⊎_elim (λ (same : x ≡ s). subst (IsSignerInPlace zones (length zones)) (sym same) (signer (ap (λ (y : SignatureFacts). y.faults.signer) (sym same) ∙ h)))
      (λ (none : ⊥). absurd none) among in
      let m = always_of_rrset zones t.m (alone s) place of_each in
      subst (λ (o : Option Mended). There (cheapest (signature_ways (levels_of true zones) o s))) (sym t.is)
      (record { m = m.0; is = ap cheapest (sym (append_empty (signature_ways (levels_of true zones) (Some t.m) s))) ∙ m.1 })

  module _ (q : QuestionFacts) (in_place : IsQuestionInPlace zones q) where
    abbrev levels : List Leveled
    levels = levels_of true zones

    answer_some : (g : GoalFacts) (s : AnswerSignature) (above : Option Mended) → There above → IsAmong g q.goals.items → IsAmong s g.signatures.items
        → is_none (answer_ways levels above s) ≡ false
    unfolding answer_ways
    answer_some g s above t goal by = some_beside (cheapest (signature_ways levels above s.signature)) (closer_remedy levels s.signature s.closer)
        (signature_there s.signature above t (in_place.signers g s goal by))

    goal_some : (g : GoalFacts) (above : Option Mended) → There above → IsAmong g q.goals.items
        → is_none (goal_ways levels above (is_below_dname q) g) ≡ false
    unfolding goal_ways
    goal_some g above t goal =
        some_if (is_none g.signatures.items) (after above (stripped (is_below_dname q) g)) (flat_map (answer_ways levels above) g.signatures.items)
        (λ none. some_after above (stripped (is_below_dname q) g) t)
        (λ some. some_each (answer_ways levels above) g.signatures.items some (λ s by. answer_some g s above t goal by))

    denials_some : (zs : List SpeakerFacts) (is_dname : Bool) → ((z : SpeakerFacts) → IsAmong z zs → z.labels < length zones)
        → is_none (denial_ways levels q.labels is_dname zs) ≡ false
    denials_some [] is_dname each = refl
    denials_some (z ∷ zs) is_dname each =
        some_left (speaker_ways levels q.labels is_dname z) (if is_dname then [] else flat_map (other_ways levels q.labels) zs)
        (some_after (zone_kept levels z.labels) (denial levels q.labels is_dname z) (zone_there z.labels (each z (inl refl))))

    pub question_there : (m : Remedied) × (question_remedy levels q ≡ Some m)
    question_there =
        let goals = flat_map (goal_ways levels (zone_above levels) (is_below_dname q)) q.goals.items in
        let denials = denial_ways levels q.labels (is_below_dname q) q.speakers.items in
        least_there (question_ways levels q) (some_left (answer_or_denial levels q) (flat_map (parent_ways levels) q.parents.items)
        (some_if (is_none q.goals.items) denials goals
        (λ none. denials_some q.speakers.items (is_below_dname q) in_place.speakers)
        (λ some. some_each (goal_ways levels (zone_above levels) (is_below_dname q)) q.goals.items some
        (λ g goal. goal_some g (zone_above levels) above_there goal))))
