-- A text of answers says one list of them, or has one fault.
use Rattle.std.proofs.Common.{◌≡◌, ◌⊎◌, ℕ, List, Option, Some, Result, Err, inl, inr, refl, sym, ap, subst, ◌∙◌, length}
use Rattle.std.proofs.lemmas.List.{append-nil}
use Rattle.std.specs.List.{AllByRecursion, flat_map}
use Rattle.std.specs.Prelude.{⊤}
use Rattle.sha2.specs.Sha256.{sha256}
use Rattle.dnsv_message.specs.Streams.Frames.{IsCapture, IsFramed, frame}
use Rattle.dnsv_canonical.specs.Rrsets.{ReceivedRrset}
use Rattle.dnsv_answers.specs.AnswerFile.{AnswersContents, AreAnswersOf, AreMiscounted, AreOf, AreOfOther, HasLineBehindHeading, IsFaultOf}
use Rattle.dnsv_answers.specs.Answered.{IsNumberAskedWithin}
use Rattle.dnsv_answers.specs.declared.error.AnswersError.{AnswersError}
use Rattle.dnsv_answers.specs.declared.error.AnswersError.TheVariants as answers
use Rattle.dnsv_answers.specs.declared.heading.Moments.{Moments}
use Rattle.dnsv_answers.proofs.AnswerLaws.{AreAnswersOf-no_fault, AreAnswersOf-only, IsFaultOf-only}
use Rattle.dnsv_answers.proofs.AnsweredLaws.{one_number_within}
use Rattle.dnsv_answers.proofs.AnsweredLemmas.{none_miscounted, one_miscount}
use Rattle.dnsv_files.specs.declared.status.Fault.{Fault}
use Rattle.dnsv_files.specs.declared.status.Fault.TheVariants as fault
use Rattle.dnsv_files.specs.declared.status.InputFile.{InputFile}
use Rattle.dnsv_files.specs.declared.status.InputFile.TheVariants.{Answers}
use Rattle.dnsv_files.specs.declared.status.Place.{Place}
use Rattle.dnsv_files.specs.declared.status.Refusal.{Refusal}
use Rattle.dnsv_files.specs.declared.status.Refusal.TheVariants as refusal
use Rattle.dnsv_files.specs.Files.Answers.{AreAnswersRefused, AreFor, AreForOther, AreRefusedBeforeCount, AreRefusedFor, AreSaidFor, AreTooManyOrFew, HasAnswers, IsAtSomeLine, IsFaultBeforeCount, IsFaultOfAnswers, TellsAnswersError}
use Rattle.dnsv_files.specs.Bounds.{begin_of, end_of}
use Rattle.dnsv_files.specs.Files.Faults.{IsAbout, IsTextFault, OfFailedRead, OfOctets}
use Rattle.dnsv_files.specs.Told.{IsAnswersFault, IsFaultOf as IsFaultFor, IsRefusalOf, TellsRefusals}
use Rattle.dnsv_files.proofs.FileLemmas.Text.{every_told, no_text_fault, one_text_fault, told_by_one}

-- ---- what is told

one_place : (number : Option ℕ) (p q : Place) → IsAtSomeLine number p → IsAtSomeLine number q → p ≡ q
one_place number p q x y = λ i. record { message = (x.0 ∙ sym y.0) i; «record» = (x.1 ∙ sym y.1) i; line = (x.2 ∙ sym y.2) i }

at_some_line : (number : Option ℕ) (why a b : Refusal) (p q : Place) → a ≡ why → IsAtSomeLine number p → b ≡ why → IsAtSomeLine number q
    → fault.Refused a p ≡ fault.Refused b q
at_some_line number why a b p q x at y also = λ i. fault.Refused ((x ∙ sym y) i) (one_place number p q at also i)

one_telling : (error : AnswersError) (a b : Refusal) (p q : Place) → TellsAnswersError error a p → TellsAnswersError error b q → fault.Refused a p ≡ fault.Refused b q
one_telling answers.OutOfMemory a b p q x y = absurd x
one_telling (answers.Syntax number) a b p q x y = at_some_line number (refusal.AnswerLine (answers.Syntax number)) a b p q x.0 x.1 y.0 y.1
one_telling (answers.OtherList number) a b p q x y = at_some_line (Some number) (refusal.AnswerLine (answers.OtherList number)) a b p q x.0 x.1 y.0 y.1
one_telling (answers.Count number) a b p q x y = at_some_line number (refusal.AnswerLine (answers.Count number)) a b p q x.0 x.1 y.0 y.1

-- a fault that tells an error is a refusal, or the want of memory
refused_as : (error : AnswersError) (found : Fault) → IsAnswersFault error found → (why : Refusal) (place : Place) → TellsAnswersError error why place → found ≡ fault.Refused why place
refused_as answers.OutOfMemory found is why place tells = absurd tells
refused_as (answers.Syntax line) (fault.Refused a p) is why place tells = one_telling (answers.Syntax line) a why p place is tells
refused_as (answers.OtherList line) (fault.Refused a p) is why place tells = one_telling (answers.OtherList line) a why p place is tells
refused_as (answers.Count line) (fault.Refused a p) is why place tells = one_telling (answers.Count line) a why p place is tells
refused_as error found is why place tells = absurd is

-- what holds of an error is what the fault that tells it is a refusal for
abbrev TellsSome : (AnswersError → Type 0) → Refusal → Place → Type 0
TellsSome P why place = (first : AnswersError) × P first × TellsAnswersError first why place

pub refused_for : (P : AnswersError → Type 0) (error : AnswersError) (found : Fault) → IsAnswersFault error found → (error ≡ answers.OutOfMemory) ⊎ P error
    → IsFaultFor (λ why place. (first : AnswersError) × P first × TellsAnswersError first why place) found
refused_for P answers.OutOfMemory found tells is = subst (IsFaultFor (TellsSome P)) (sym tells) tt
refused_for P (answers.Syntax line) (fault.Refused a p) tells (inl is) = absurd (cc)
refused_for P (answers.Syntax line) (fault.Refused a p) tells (inr is) = (answers.Syntax line, is, tells)
refused_for P (answers.Syntax line) fault.OutOfMemory tells is = absurd tells
refused_for P (answers.OtherList line) (fault.Refused a p) tells (inl is) = absurd (cc)
refused_for P (answers.OtherList line) (fault.Refused a p) tells (inr is) = (answers.OtherList line, is, tells)
refused_for P (answers.OtherList line) fault.OutOfMemory tells is = absurd tells
refused_for P (answers.Count line) (fault.Refused a p) tells (inl is) = absurd (cc)
refused_for P (answers.Count line) (fault.Refused a p) tells (inr is) = (answers.Count line, is, tells)
refused_for P (answers.Count line) fault.OutOfMemory tells is = absurd tells
refused_for P error found tells is = absurd tells

-- what refuses the text is told
pub every_answers_fault : {T U : Type 0} (text : List ℕ) (error : AnswersError) (found : Fault) → IsAnswersFault error found
    → ((first : AnswersError) → IsFaultOf text first → Path (Result U AnswersError) (Err error) (Err first))
    → TellsRefusals {T = T} (λ why place. (first : AnswersError) × IsFaultOf text first × TellsAnswersError first why place) ⊥ (Err found)
every_answers_fault text error found is every =
    every_told (IsFaultOf text) TellsAnswersError ⊥ answers.OutOfMemory error found (refused_as error found is)
    (λ same. subst (λ (e : AnswersError). IsAnswersFault e found) same is) (λ first bad. inl (every first bad))

-- memory is wanted only where a line stands behind the heading
pub wanted_for_answers : {T : Type 0} (text : List ℕ) (error : AnswersError) (found : Fault) → IsAnswersFault error found → (error ≡ answers.OutOfMemory → HasLineBehindHeading text)
    → Path (Result T Fault) (Err found) (Err fault.OutOfMemory) → HasLineBehindHeading text
wanted_for_answers text answers.OutOfMemory found tells begins is = begins refl
wanted_for_answers text error found tells begins is = let same : found ≡ fault.OutOfMemory = cc in absurd (subst (IsAnswersFault error) same tells)

-- ---- one fault

module _ (capture : List ℕ) (moments : Moments) (text : List ℕ) where
  -- what is said of another list isn't said of this one
  other_stands : (a b : AnswersContents) → AreAnswersOf text a → AreAnswersOf text b → AreFor capture moments a → (error : AnswersError)
      → AreOfOther b (sha256 capture) moments error → ⊥
  other_stands a b x y is error bad =
      bad.other (subst (λ (each : AnswersContents). AreFor capture moments each) (AreAnswersOf-only text a b x y) is)

  before_once : (a b : Refusal) (p q : Place) → AreRefusedBeforeCount capture moments text a p → AreRefusedBeforeCount capture moments text b q
      → fault.Refused a p ≡ fault.Refused b q
  before_once a b p q (inl x) (inl y) = told_by_one (IsFaultOf text) TellsAnswersError (IsFaultOf-only text) one_telling a b p q x y
  before_once a b p q (inl x) (inr y) = absurd (AreAnswersOf-no_fault text y.0 x.0 y.1 x.1)
  before_once a b p q (inr x) (inl y) = absurd (AreAnswersOf-no_fault text x.0 y.0 x.1 y.1)
  before_once a b p q (inr x) (inr y) =
      told_by_one (AreOfOther y.0 (sha256 capture) moments) TellsAnswersError (λ e f one other. one.is ∙ sym other.is) one_telling a b p q
      (subst (λ (each : AnswersContents). AreForOther capture moments each a p) (AreAnswersOf-only text x.0 y.0 x.1 y.1) x.2) y.2

  -- answers of this list are refused for their number alone
  counted_stands : (contents : AnswersContents) → AreAnswersOf text contents → AreFor capture moments contents → (why : Refusal) (place : Place)
      → AreRefusedBeforeCount capture moments text why place → ⊥
  counted_stands contents are is why place (inl bad) = AreAnswersOf-no_fault text contents bad.0 are bad.1
  counted_stands contents are is why place (inr bad) = other_stands contents bad.0 are bad.1 is bad.2.0 bad.2.1

  module _ (rrsets : List ReceivedRrset) where
    one_count : (contents : AnswersContents) (a b : AnswersError) → (count : ℕ) × IsNumberAskedWithin (begin_of moments) (end_of moments) rrsets count × AreMiscounted contents count a
        → (count : ℕ) × IsNumberAskedWithin (begin_of moments) (end_of moments) rrsets count × AreMiscounted contents count b → a ≡ b
    one_count contents a b x y =
        one_miscount contents y.0 a b
        (subst (λ (count : ℕ). AreMiscounted contents count a) (one_number_within (begin_of moments) (end_of moments) rrsets x.0 y.0 x.1 y.1) x.2) y.2

    refused_once : (a b : Refusal) (p q : Place) → AreRefusedFor capture moments rrsets text a p → AreRefusedFor capture moments rrsets text b q
        → fault.Refused a p ≡ fault.Refused b q
    refused_once a b p q (inl x) (inl y) = before_once a b p q x y
    refused_once a b p q (inl x) (inr y) = absurd (counted_stands y.0 y.1 y.2 a p x)
    refused_once a b p q (inr x) (inl y) = absurd (counted_stands x.0 x.1 x.2 b q y)
    refused_once a b p q (inr x) (inr y) =
        told_by_one (λ error. (count : ℕ) × IsNumberAskedWithin (begin_of moments) (end_of moments) rrsets count × AreMiscounted y.0 count error) TellsAnswersError (one_count y.0) one_telling a b p q
        (subst (λ (each : AnswersContents). AreTooManyOrFew moments rrsets each a p) (AreAnswersOf-only text x.0 y.0 x.1 y.1) x.3) y.3

    -- a text has one fault
    pub one_answers_fault : (a b : Fault) → IsFaultOfAnswers capture moments rrsets text a → IsFaultOfAnswers capture moments rrsets text b → a ≡ b
    one_answers_fault = one_text_fault Answers (AreRefusedFor capture moments rrsets) text refused_once

    -- as many answers to this list as it has entries have none
    pub no_answers_fault : (contents : AnswersContents) → AreSaidFor capture moments text contents → ((count : ℕ) → IsNumberAskedWithin (begin_of moments) (end_of moments) rrsets count → length contents.said ≡ count)
        → (told : Fault) → IsFaultOfAnswers capture moments rrsets text told → ⊥
    no_answers_fault contents said so_many =
        no_text_fault Answers (AreRefusedFor capture moments rrsets) text said.has.within (λ why place bad. stands why place bad)
      where
        stands : (why : Refusal) (place : Place) → AreRefusedFor capture moments rrsets text why place → ⊥
        stands why place (inl bad) = counted_stands contents said.has.are said.are_for why place bad
        stands why place (inr bad) =
            let same = AreAnswersOf-only text bad.0 contents bad.1 said.has.are in
            none_miscounted contents bad.3.1.0 bad.3.0 (so_many bad.3.1.0 bad.3.1.1) (subst (λ (each : AnswersContents). AreMiscounted each bad.3.1.0 bad.3.0) same bad.3.1.2)

-- answers of another list are refused, so no read has failed
other_found : (line : ℕ) (found : Fault) → IsAnswersFault (answers.OtherList line) found → IsRefusalOf (λ why place. ⊤) found
other_found line (fault.Refused why place) tells = tt
other_found line found tells = absurd tells

pub other_refused : (contents : AnswersContents) (digest : List ℕ) (moments : Moments) (error : AnswersError) (found : Fault) → AreOfOther contents digest moments error
    → IsAnswersFault error found → IsRefusalOf (λ why place. ⊤) found
other_refused contents digest moments error found other tells = other_found contents.line found (subst (λ (e : AnswersError). IsAnswersFault e found) other.is tells)

pub refused_unread : (file : InputFile) (told : Fault) → IsRefusalOf (λ why place. ⊤) told → told ≡ fault.ReadFailed file → ⊥
refused_unread file (fault.Refused why place) refused is = cc
refused_unread file told refused is = refused

pub refused_about : (file : InputFile) (told : Fault) → IsRefusalOf (λ why place. ⊤) told → IsAbout file told
refused_about file (fault.Refused why place) refused = tt
refused_about file told refused = absurd refused

pub refused_of_reads : (Holds : InputFile → Type 0) (told : Fault) → IsRefusalOf (λ why place. ⊤) told → OfFailedRead Holds told
refused_of_reads Holds (fault.Refused why place) refused = tt
refused_of_reads Holds told refused = absurd refused

-- what the text is at fault for is at fault before entries are counted
pub text_before : (capture : List ℕ) (moments : Moments) (text : List ℕ) (told : Fault) → OfOctets (IsTextFault Answers AreAnswersRefused text) told
    → OfOctets (IsFaultBeforeCount capture moments text) told
text_before capture moments text (fault.Refused why place) holds = (holds.0, inl holds.1)
text_before capture moments text (fault.TooLong file) holds = holds
text_before capture moments text told holds = tt

-- and so are answers to another list
pub other_before : (capture : List ℕ) (moments : Moments) (text : List ℕ) (contents : AnswersContents) → HasAnswers text contents → (told : Fault)
    → IsRefusalOf (AreForOther capture moments contents) told → OfOctets (IsFaultBeforeCount capture moments text) told
other_before capture moments text contents has (fault.Refused why place) bad = (has.within, inr (contents, has.are, bad))
other_before capture moments text contents has told bad = absurd bad

-- ---- the capture that they are said of

-- the digest of a capture's frames is that of its octets
pub digest_of : (capture : List ℕ) (frames : List (List ℕ)) (digest : List ℕ) → IsCapture capture frames
    → (AllByRecursion IsFramed frames → digest ≡ sha256 (flat_map frame frames)) → digest ≡ sha256 capture
digest_of capture frames digest framed told =
    told framed.frames.each ∙ ap (λ (octets : List ℕ). sha256 octets) (sym (framed.frames.whole ∙ append-nil (flat_map frame frames)))

pub said_for : (capture : List ℕ) (moments : Moments) (digest : List ℕ) (contents : AnswersContents) → digest ≡ sha256 capture
    → AreOf contents.heading digest moments → AreFor capture moments contents
said_for capture moments digest contents is are = subst (λ (d : List ℕ). AreOf contents.heading d moments) is are

-- what is told of answers to another list
pub other_told : (capture : List ℕ) (moments : Moments) (digest : List ℕ) (contents : AnswersContents) → digest ≡ sha256 capture
    → (error : AnswersError) (found : Fault) → AreOfOther contents digest moments error → IsAnswersFault error found → IsRefusalOf (AreForOther capture moments contents) found
other_told capture moments digest contents is error found other tells =
    go found (subst (λ (each : AnswersError). IsAnswersFault each found) other.is tells)
  where
    there : AreOfOther contents (sha256 capture) moments (answers.OtherList contents.line)
    there = record { other = λ are. other.other (subst (λ (d : List ℕ). AreOf contents.heading d moments) (sym is) are); is = refl }

    go : (found : Fault) → IsAnswersFault (answers.OtherList contents.line) found → IsRefusalOf (AreForOther capture moments contents) found
    go (fault.Refused why place) tells = (answers.OtherList contents.line, there, tells)
    go found tells = absurd tells
