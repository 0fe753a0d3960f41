-- What holds of each line that may be told of a question holds of what is told of it.
use Rattle.std.proofs.Common.{if◌then◌else◌, ◌≡◌, inl, inr, ℕ, ◌+◌, ◌++◌, ◌&&◌, Bool, true, false, List, [], ◌∷◌, Option, Some, None, map, flat_map, refl, slice_get}
use Rattle.std.specs.List.{AllByRecursion}
use Rattle.dnsv_mending.specs.Level.{Leveled, zone_above}
use Rattle.dnsv_mending.specs.Mend.{cheapest, is_none}
use Rattle.dnsv_mending.specs.Rrset.{signature_ways}
use Rattle.dnsv_mending.specs.Ways.{IsAmong}
use Rattle.dnsv_mending.specs.Within.{within_ways}
use Rattle.dnsv_mending.specs.declared.facts.signature.RrsetFacts.{RrsetFacts}
use Rattle.dnsv_mending.specs.declared.price.Class.TheVariants as class
use Rattle.dnsv_mending.specs.declared.told.Told.TheVariants as told
use Rattle.dnsv_mending.proofs.AllWays.{all_append, all_flat, all_if, of_cheapest}
use Rattle.dnsv_mending.proofs.AllWays as mends
use Rattle.dnsv_remedies.specs.Answers.{answer_ways, closer_remedy, goal_ways, stripped}
use Rattle.dnsv_remedies.specs.Cuts.{cut_after, cut_least, cut_ways, is_way, parent_ways}
use Rattle.dnsv_remedies.specs.Cuts as cuts
use Rattle.dnsv_remedies.specs.Denials.{denial, denial_ways, lacking, other_ways, speaker_ways}
use Rattle.dnsv_remedies.specs.Parts.{zone_kept, zone_of}
use Rattle.dnsv_remedies.specs.Question.{all_lines, answer_or_denial, dname_line, is_below_dname, question_remedy, question_ways}
use Rattle.dnsv_remedies.specs.Remedy.{Remedied, after, ended, fault, untold, with_unusable}
use Rattle.dnsv_remedies.specs.declared.facts.answer.AnswerSignature.{AnswerSignature}
use Rattle.dnsv_remedies.specs.declared.facts.answer.GoalFacts.{GoalFacts}
use Rattle.dnsv_remedies.specs.declared.facts.cut.CutFacts.{CutFacts}
use Rattle.dnsv_remedies.specs.declared.facts.cut.ParentFacts.{ParentFacts}
use Rattle.dnsv_remedies.specs.declared.facts.denial.SpeakerFacts.{SpeakerFacts}
use Rattle.dnsv_remedies.specs.declared.facts.question.QuestionFacts.{QuestionFacts}
use Rattle.dnsv_remedies.specs.declared.said.Said.{Said}
use Rattle.dnsv_remedies.specs.declared.said.Said.TheVariants as said
use Rattle.dnsv_remedies.proofs.Told.{of_least}
use Rattle.dnsv_true_reasons.proofs.telling.Says.{SaysRrset, Says, SaysIf, all_at, all_of_map}
use Rattle.dnsv_true_reasons.proofs.telling.SaysZones.{SaysLevel, signature_says, zone_above_says}
use Rattle.dnsv_true_reasons.proofs.telling.SaysOwn.{closer_tells, cut_tells, denial_tells}
use Rattle.dnsv_true_reasons.proofs.telling.SaysParts.{within_says, SaysAll, SaysGoal, SaysParent, SaysSpeaker, Tells, TrustOf, tells_fault, tells_untold, tells_after, tells_beside}

module _ (Q : Said → Type 0) where
  module _ (levels : List Leveled) (of_levels : AllByRecursion (SaysLevel (TrustOf Q)) levels) (q : QuestionFacts) (all : SaysAll Q (SaysRrset (TrustOf Q)) q) where
    fits : (zone : ℕ) (r : RrsetFacts) → SaysRrset (TrustOf Q) r → AllByRecursion (Says (TrustOf Q)) (within_ways levels zone r)
    fits zone r says = within_says Q levels zone r says

    zone_case : (o : Option Leveled) → ((l : Leveled) → o ≡ Some l → SaysLevel (TrustOf Q) l) → SaysIf (TrustOf Q) (zone_of o)
    zone_case None each m is = absurd (mends.none_some m is)
    zone_case (Some l) each m is = (each l refl).zone m is

    zone_tells : (n : ℕ) → SaysIf (TrustOf Q) (zone_kept levels n)
    zone_tells n = zone_case (slice_get levels n) (λ l is. all_at (SaysLevel (TrustOf Q)) levels n l of_levels is)

    above_tells : SaysIf (TrustOf Q) (zone_above levels)
    above_tells = zone_above_says (TrustOf Q) levels of_levels

    answer_tells : (g : GoalFacts) (s : AnswerSignature) → IsAmong s g.signatures.items → SaysGoal Q (SaysRrset (TrustOf Q)) g
        → AllByRecursion (Tells Q) (answer_ways levels (zone_above levels) s)
    unfolding answer_ways
    answer_tells g s among says =
        let ways = signature_ways levels (zone_above levels) s.signature in
        tells_beside Q (cheapest ways) (closer_remedy levels s.signature s.closer)
        (λ m is. of_cheapest (Says (TrustOf Q)) ways m
        (signature_says (TrustOf Q) levels (zone_above levels) s.signature of_levels above_tells (says.signatures s among)) is)
        (closer_tells Q (SaysRrset (TrustOf Q)) levels s (fits s.signature.signer) (λ c is. says.closers s c among is))

    stripped_case : (g : GoalFacts) (t : Bool) → SaysGoal Q (SaysRrset (TrustOf Q)) g
        → Tells Q (if t then untold class.Missing else fault class.Missing (said.Trust (told.Unsigned g.number)))
    stripped_case g true says = tells_untold Q class.Missing
    stripped_case g false says = tells_fault Q class.Missing (said.Trust (told.Unsigned g.number)) says.unsigned

    goal_tells : (g : GoalFacts) → IsAmong g q.goals.items → AllByRecursion (Tells Q) (goal_ways levels (zone_above levels) (is_below_dname q) g)
    unfolding goal_ways
    goal_tells g among =
        let says = all.goals g among in
        all_if (Tells Q) (is_none g.signatures.items) (after (zone_above levels) (stripped (is_below_dname q) g))
        (flat_map (answer_ways levels (zone_above levels)) g.signatures.items)
        (λ none. tells_after Q (zone_above levels) (stripped (is_below_dname q) g) above_tells (stripped_case g (is_below_dname q && g.is_cname) says))
        (λ some. all_flat (Tells Q) (answer_ways levels (zone_above levels)) g.signatures.items (λ s by. answer_tells g s by says))

    speaker_tells : (z : SpeakerFacts) (is_dname : Bool) → SaysSpeaker Q (SaysRrset (TrustOf Q)) q.labels z → AllByRecursion (Tells Q) (speaker_ways levels q.labels is_dname z)
    speaker_tells z is_dname says = tells_after Q (zone_kept levels z.labels) (denial levels q.labels is_dname z) (zone_tells z.labels)
        (denial_tells Q (SaysRrset (TrustOf Q)) levels q.labels all.names z says (fits z.labels) is_dname)

    other_tells : (z : SpeakerFacts) → SaysSpeaker Q (SaysRrset (TrustOf Q)) q.labels z → AllByRecursion (Tells Q) (other_ways levels q.labels z)
    unfolding other_ways
    other_tells z says = all_if (Tells Q) (lacking levels q.labels z).lacks [] (speaker_ways levels q.labels false z) (λ e. tt) (λ e. speaker_tells z false says)

    denials_tell : (is_dname : Bool) (zs : List SpeakerFacts) → ((z : SpeakerFacts) → IsAmong z zs → SaysSpeaker Q (SaysRrset (TrustOf Q)) q.labels z)
        → AllByRecursion (Tells Q) (denial_ways levels q.labels is_dname zs)
    denials_tell is_dname [] each = (tells_fault Q class.Missing (said.AnswerMissing None) all.names.missing, tt)
    denials_tell is_dname (z ∷ zs) each =
        all_append (Tells Q) (speaker_ways levels q.labels is_dname z) (if is_dname then [] else flat_map (other_ways levels q.labels) zs)
        (speaker_tells z is_dname (each z (inl refl)))
        (all_if (Tells Q) is_dname [] (flat_map (other_ways levels q.labels) zs) (λ e. tt)
        (λ e. all_flat (Tells Q) (other_ways levels q.labels) zs (λ other among. other_tells other (each other (inr among)))))

    after_case : (z : ParentFacts) → SaysParent Q (SaysRrset (TrustOf Q)) q.labels z → (c : CutFacts) → IsAmong c z.cuts.items → (o : Option Remedied)
        → cut_least levels z.labels c ≡ o → AllByRecursion (Tells Q) (cut_after (zone_kept levels z.labels) z c.name o)
    after_case z says c among None is = tt
    after_case z says c among (Some m) is =
        tells_after Q (zone_kept levels z.labels) (ended (said.DsUnproved (record { zone = z.labels; name = c.name })) (with_unusable z.unusable.items m)) (zone_tells z.labels)
        (cut_tells Q (SaysRrset (TrustOf Q)) levels q.labels all.names z says (fits z.labels) c among m is)

    cut_each : (z : ParentFacts) → SaysParent Q (SaysRrset (TrustOf Q)) q.labels z → (c : CutFacts) → IsAmong c z.cuts.items → AllByRecursion (Tells Q) (cut_ways levels z c)
    unfolding cut_ways
    cut_each z says c among = all_if (Tells Q) (is_way levels z.labels c) (cut_after (zone_kept levels z.labels) z c.name (cut_least levels z.labels c)) []
        (λ e. after_case z says c among (cut_least levels z.labels c) refl) (λ e. tt)

    parent_tells : (z : ParentFacts) → IsAmong z q.parents.items → AllByRecursion (Tells Q) (parent_ways levels z)
    unfolding parent_ways
    parent_tells z among = all_flat (Tells Q) (cut_ways levels z) z.cuts.items (λ c by. cut_each z (all.parents z among) c by)

    -- ---- all

    question_tells : AllByRecursion (Tells Q) (question_ways levels q)
    question_tells = all_append (Tells Q) (answer_or_denial levels q) (flat_map (parent_ways levels) q.parents.items)
        (all_if (Tells Q) (is_none q.goals.items) (denial_ways levels q.labels (is_below_dname q) q.speakers.items)
        (flat_map (goal_ways levels (zone_above levels) (is_below_dname q)) q.goals.items)
        (λ e. denials_tell (is_below_dname q) q.speakers.items all.speakers)
        (λ e. all_flat (Tells Q) (goal_ways levels (zone_above levels) (is_below_dname q)) q.goals.items (λ g among. goal_tells g among)))
        (all_flat (Tells Q) (parent_ways levels) q.parents.items parent_tells)

    dnames_tell : AllByRecursion Q (map dname_line q.dnames.items)
    unfolding dname_line
    dnames_tell = all_of_map Q dname_line q.dnames.items all.dnames

    lines_case : (o : Option Remedied) → ((m : Remedied) → o ≡ Some m → Tells Q m) → AllByRecursion Q (all_lines q o)
    lines_case None each = dnames_tell
    lines_case (Some m) each =
        let says = each m refl in
        all_append Q (m.chain ++ map dname_line q.dnames.items) m.own (all_append Q m.chain (map dname_line q.dnames.items) says.chain dnames_tell) says.own

    -- each line that is told says so
    pub lines_tell : AllByRecursion Q (all_lines q (question_remedy levels q))
    lines_tell = lines_case (question_remedy levels q) (λ m is. of_least (Tells Q) (question_ways levels q) m question_tells is)
