-- Of zones that may deny and are alike: a question is denied on the same ways.
use Rattle.std.proofs.Common.{◌≡◌, ◌++◌, ℕ, Bool, false, if◌then◌else◌, List, [], ◌∷◌, Some, refl}
use Rattle.std.specs.List.{AllZip}
use Rattle.dnsv_mending.specs.Level.{Leveled}
use Rattle.dnsv_mending.specs.declared.price.Class.TheVariants as class
use Rattle.dnsv_remedies.specs.Denials.{denial, denial_ways, lacking, other_ways, speaker_ways}
use Rattle.dnsv_remedies.specs.Parts.{zone_kept}
use Rattle.dnsv_remedies.specs.Remedy.{after, ended, fault, gap, least, or_gap, with_unusable}
use Rattle.dnsv_remedies.specs.Sources.{source_ways}
use Rattle.dnsv_remedies.specs.declared.facts.denial.SpeakerFacts.{SpeakerFacts}
use Rattle.dnsv_remedies.specs.declared.said.Said.TheVariants as said
use Rattle.dnsv_remedy_laws.specs.AlikeQuestions.{AreAlikeSources, AreAlikeSpeakers}
use Rattle.dnsv_remedy_laws.proofs.Lists.{flat_map-alike}
use Rattle.dnsv_remedy_laws.proofs.Sources.{source_ways-alike}

lacking-alike : (levels : List Leveled) (labels : ℕ) (a b : SpeakerFacts) → AreAlikeSpeakers a b
    → lacking levels labels a ≡ lacking levels labels b
lacking-alike levels labels a b e = λ i. with_unusable (e.unusable i) (or_gap (least (flat_map-alike AreAlikeSources
    (source_ways levels labels (e.labels i)) (source_ways levels labels (e.labels i)) (source_ways-alike levels labels (e.labels i))
    a.sources.items b.sources.items e.sources i)))

denial-alike : (levels : List Leveled) (labels : ℕ) (t : Bool) (a b : SpeakerFacts) → AreAlikeSpeakers a b
    → denial levels labels t a ≡ denial levels labels t b
denial-alike levels labels t a b e = λ i. if e.has_denials i
    then ended (said.DenialUnproved (e.labels i)) (if t then gap else lacking-alike levels labels a b e i)
    else fault class.Missing (said.AnswerMissing (Some (e.labels i)))

speaker_ways-alike : (levels : List Leveled) (labels : ℕ) (t : Bool) (a b : SpeakerFacts) → AreAlikeSpeakers a b
    → speaker_ways levels labels t a ≡ speaker_ways levels labels t b
speaker_ways-alike levels labels t a b e = λ i. after (zone_kept levels (e.labels i)) (denial-alike levels labels t a b e i)

other_ways-alike : (levels : List Leveled) (labels : ℕ) (a b : SpeakerFacts) → AreAlikeSpeakers a b
    → other_ways levels labels a ≡ other_ways levels labels b
unfolding other_ways
other_ways-alike levels labels a b e = λ i. if (lacking-alike levels labels a b e i).lacks then []
    else speaker_ways-alike levels labels false a b e i

pub denial_ways-alike : (levels : List Leveled) (labels : ℕ) (t : Bool) (xs ys : List SpeakerFacts) → AllZip AreAlikeSpeakers xs ys
    → denial_ways levels labels t xs ≡ denial_ways levels labels t ys
denial_ways-alike levels labels t [] [] e = refl
denial_ways-alike levels labels t [] (y ∷ ys) e = absurd e
denial_ways-alike levels labels t (x ∷ xs) [] e = absurd e
denial_ways-alike levels labels t (x ∷ xs) (y ∷ ys) e = λ i. speaker_ways-alike levels labels t x y e.0 i
    ++ (if t then [] else flat_map-alike AreAlikeSpeakers (other_ways levels labels) (other_ways levels labels)
    (other_ways-alike levels labels) xs ys e.1 i)
