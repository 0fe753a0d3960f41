-- Of RRsets that may answer and are alike: a question is answered on the same ways.
use Rattle.std.proofs.Common.{◌≡◌, ◌&&◌, Bool, if◌then◌else◌, List, Option, refl}
use Rattle.dnsv_mending.specs.Level.{Leveled}
use Rattle.dnsv_mending.specs.Mend.{Mended, cheapest}
use Rattle.dnsv_mending.specs.declared.facts.signature.SignatureFacts.{SignatureFacts}
use Rattle.dnsv_mending.specs.declared.price.Class.TheVariants as class
use Rattle.dnsv_mending.specs.declared.told.Told.TheVariants as told
use Rattle.dnsv_remedies.specs.Answers.{answer_ways, closer_remedy, goal_ways, stripped}
use Rattle.dnsv_remedies.specs.Remedy.{after, beside, ended, fault, untold, unusable_lines}
use Rattle.dnsv_remedies.specs.declared.facts.answer.AnswerSignature.{AnswerSignature}
use Rattle.dnsv_remedies.specs.declared.facts.answer.CloserFacts.{CloserFacts}
use Rattle.dnsv_remedies.specs.declared.facts.answer.GoalFacts.{GoalFacts}
use Rattle.dnsv_remedies.specs.declared.said.Said.TheVariants as said
use Rattle.dnsv_remedy_laws.specs.AlikeQuestions.{AreAlikeAnswers, AreAlikeGoals, MayBeAlikeClosers}
use Rattle.dnsv_remedy_laws.specs.AlikeQuestions.MayBeAlikeClosers.{without, with_one}
use Rattle.dnsv_remedy_laws.specs.AlikeZones.{AreAlikeSignatures}
use Rattle.dnsv_remedy_laws.proofs.Lists.{flat_map-alike, is_none-alike}
use Rattle.dnsv_remedy_laws.proofs.Parts.{part-alike}
use Rattle.dnsv_remedy_laws.proofs.Rrsets.{signature_ways-alike}

closer_remedy-alike : (levels : List Leveled) (a b : SignatureFacts) → AreAlikeSignatures a b → (x y : Option CloserFacts)
    → MayBeAlikeClosers x y → closer_remedy levels a x ≡ closer_remedy levels b y
closer_remedy-alike levels a b e x y without = refl
closer_remedy-alike levels a b e x y (with_one c d f) = λ i. ended (said.NoCloser (e.number i) (f.name i))
    (part-alike levels (e.signer i) (unusable_lines (f.unusable i)) c.covers.items d.covers.items f.covers i)

answer_ways-alike : (levels : List Leveled) (above : Option Mended) (a b : AnswerSignature) → AreAlikeAnswers a b
    → answer_ways levels above a ≡ answer_ways levels above b
unfolding answer_ways
answer_ways-alike levels above a b e = λ i. beside (cheapest (signature_ways-alike levels above a.signature b.signature e.signature i))
    (closer_remedy-alike levels a.signature b.signature e.signature a.closer b.closer e.closer i)

stripped-alike : (t : Bool) (a b : GoalFacts) → AreAlikeGoals a b → stripped t a ≡ stripped t b
stripped-alike t a b e = λ i. if t && e.is_cname i then untold class.Missing
    else fault class.Missing (said.Trust (told.Unsigned (e.number i)))

pub goal_ways-alike : (levels : List Leveled) (above : Option Mended) (t : Bool) (a b : GoalFacts) → AreAlikeGoals a b
    → goal_ways levels above t a ≡ goal_ways levels above t b
unfolding goal_ways
goal_ways-alike levels above t a b e = λ i.
    if is_none-alike AreAlikeAnswers a.signatures.items b.signatures.items e.signatures i then after above (stripped-alike t a b e i)
    else flat_map-alike AreAlikeAnswers (answer_ways levels above) (answer_ways levels above) (answer_ways-alike levels above)
    a.signatures.items b.signatures.items e.signatures i
