-- What is told of the file of questions, and of the files behind it.
use Rattle.std.proofs.Common.{◌≡◌, ◌⊎◌, ◌<◌, ℕ, Bool, List, Option, inl, inr, length, subst, sym, take}
use Rattle.std.specs.Prelude.{Err, IfErr, IfOk, Ok, Result, ⊤}
use Rattle.std.specs.Io.KnownBytes.{Appends}
use Rattle.dnsv_answers.specs.declared.heading.Moments.TheVariants.{At}
use Rattle.dnsv_message.specs.declared.streams.counted.Counted.{Counted}
use Rattle.dnsv_message.specs.Streams.Counted.{AppendsBeginning}
use Rattle.dnsv_canonical.specs.Rrsets.{ReceivedRrset}
use Rattle.dnsv_anchors.specs.declared.anchor.Anchor.{Anchor}
use Rattle.dnsv_chain.specs.Basis.{Basis, basis_of}
use Rattle.dnsv_questions.specs.declared.format.Format.{Format}
use Rattle.dnsv_questions.specs.Question.{Asked}
use Rattle.dnsv_files.specs.declared.inputs.Inputs.{Inputs}
use Rattle.dnsv_files.specs.declared.status.Fault.{Fault}
use Rattle.dnsv_files.specs.declared.status.InputFile.TheVariants.{Questions}
use Rattle.dnsv_files.specs.declared.status.Status.{Status}
use Rattle.dnsv_files.specs.Files.{AreTold, AreToldBeside, Files, given_failures, octets_or_none}
use Rattle.dnsv_files.specs.Files.Faults.{OfFailedRead, TellsFailedReads, TellsFaults, TellsFaultsBeside, TellsReads}
use Rattle.dnsv_files.specs.Files.Questions.{HasQuestions}
use Rattle.dnsv_asking.specs.Asking.{AreAnswered, AreAnswers, AreFewerAnswered, AreFirstAnswered, IsFirstFaultOfEach}
use Rattle.dnsv_work.specs.Faults.{IsFirstFaultOfFiles}
use Rattle.dnsv_work.specs.InOrder.{AreReadFrom, basis_in}
use Rattle.dnsv_work.specs.Known.{Ground}
use Rattle.dnsv_files.specs.Told.{IsFaultOf}
use Rattle.dnsv_files.specs.declared.status.Fault.TheVariants as fault
use Rattle.dnsv_files.specs.declared.status.InputFile.{InputFile}
use Rattle.dnsv_files.specs.declared.status.Place.{Place}
use Rattle.dnsv_files.specs.declared.status.Refusal.{Refusal}
use Rattle.dnsv_work.specs.declared.given.Said.{Said}
use Rattle.dnsv_work.proofs.ReachedLemmas.{refused_reached}
use Rattle.dnsv_work.proofs.WorkLemmas.InOrder.{all_given}
use Rattle.dnsv_files.proofs.FileLemmas.Faults.{IsOther, OfOctets-weaker, beside_passed, reads_after, reads_then, refused_behind}

-- behind the questions
abbrev pub behind : {R : Type 0} → Inputs R → Option (Counted R) → Inputs R
behind before reader = record before { questions = reader }

module _ {R : Type 0} {before : Inputs R} (reader : Option (Counted R)) where
  reads_behind : {T : Type 0} {after : Inputs R} (result : Result T Fault) → TellsReads (behind before reader) after result → TellsReads before after result
  reads_behind result tells = record {
    capture = tells.capture;
    anchors = tells.anchors;
    statements = tells.statements;
    answers = tells.answers;
    keys = tells.keys;
    macs = tells.macs;
    opened = tells.opened;
  }

read_once : {R T U : Type 0} (before reader now : Option (Counted R)) (x : U) (result : Result T Fault)
    → TellsFailedReads {T = U} Questions (given_failures before) (given_failures reader) (Ok x) → now ≡ reader → IfErr result (IsOther Questions)
    → TellsFailedReads {T = T} Questions (given_failures before) (given_failures now) result
read_once {R = R} before reader now x result read same other =
    subst (λ (each : Option (Counted R)). TellsFailedReads Questions (given_failures before) (given_failures each) result) (sym same) (reads_then x result read other)

module _ {R : Type 0} {remaining : R → Option (List ℕ)} {before : Inputs R} (reader : Option (Counted R)) where
  pub told_behind : {files : Files} → AreToldBeside remaining before files → AreToldBeside remaining (behind before reader) files
  told_behind are = record { capture = are.capture; anchors = are.anchors; statements = are.statements; answers = are.answers; keys = are.keys; macs = are.macs }

  -- one of the other files is at fault
  pub given_failed : {S T U : Type 0} {after : Inputs R} (x : U) → TellsFailedReads {T = U} Questions (given_failures before.questions) (given_failures reader) (Ok x)
      → (moment : ℕ) (told : Fault)
      → ((files : Files) → AreTold remaining before files → (asked : List Asked) × HasQuestions (octets_or_none files.questions) asked)
      → TellsFaultsBeside {T = S} (IsFirstFaultOfFiles (At moment)) remaining (behind before reader) after (Err told) → after.questions ≡ reader
      → TellsFaults {T = T} (IsFirstFaultOfEach moment) remaining before after (Err told)
  given_failed {S} {T} {U} {after} x read moment told asked failed same =
      let tells : TellsFaultsBeside {T = T} (IsFirstFaultOfFiles (At moment)) remaining (behind before reader) after (Err told) = beside_passed told failed in record {
        first = λ files are. OfOctets-weaker (IsFirstFaultOfFiles (At moment) files) (IsFirstFaultOfEach moment files) told (λ fault holds. inr (asked files are, holds))
            (tells.first files (told_behind are.beside));
        reads = reads_behind reader (Err told) tells.reads;
        questions = read_once before.questions reader after.questions x (Err told) read same tells.unread;
      }

  -- all are taken, and what they say is refused, or a write failed
  pub all_asked : {S T U : Type 0} {after : Inputs R} (x : U) → TellsFailedReads {T = U} Questions (given_failures before.questions) (given_failures reader) (Ok x)
      → (moment : ℕ) (result : Result T Fault)
      → ((files : Files) → AreTold remaining before files → (asked : List Asked) × HasQuestions (octets_or_none files.questions) asked)
      → (given : S) → TellsFaultsBeside {T = S} (IsFirstFaultOfFiles (At moment)) remaining (behind before reader) after (Ok given) → after.questions ≡ reader
      → (P : Refusal → Place → Type 0)
      → ((files : Files) → AreToldBeside remaining (behind before reader) files → (why : Refusal) (place : Place) → P why place
      → IsFirstFaultOfFiles (At moment) files (fault.Refused why place))
      → IfErr result (λ told. IsFaultOf P told ⊎ (told ≡ fault.WriteFailed))
      → TellsFaults {T = T} (IsFirstFaultOfEach moment) remaining before after result
  all_asked {after = after} x read moment (Ok y) asked given tells same P first only = record {
    first = λ files are. tt;
    reads = reads_behind reader (Ok y) (reads_after given (Ok y) tells.reads (λ file. tt) tt);
    questions = read_once before.questions reader after.questions x (Ok y) read same tt;
  }
  all_asked x read moment (Err told) asked given tells same P first (inl bad) =
      given_failed x read moment told asked (refused_behind {T = ⊤} (IsFirstFaultOfFiles (At moment)) given told P tells first bad) same
  all_asked {T = T} {after = after} x read moment (Err told) asked given tells same P first (inr failed) =
      subst (λ (each : Fault). TellsFaults {T = T} (IsFirstFaultOfEach moment) remaining before after (Err each)) (sym failed) (record {
        first = λ files are. tt;
        reads = reads_behind reader (Err fault.WriteFailed) (reads_after given (Err fault.WriteFailed) tells.reads (λ file is. cc) (λ file is. cc));
        questions = read_once before.questions reader after.questions x (Err fault.WriteFailed) read same (λ is. cc);
      })

-- no failed read is told then
pub asked_reached : {T : Type 0} (P : Refusal → Place → Type 0) (Holds : InputFile → Type 0) (result : Result T Fault)
    → IfErr result (λ told. IsFaultOf P told ⊎ (told ≡ fault.WriteFailed)) → IfErr result (OfFailedRead Holds)
asked_reached P Holds (Ok y) only = tt
asked_reached P Holds (Err told) (inl bad) = refused_reached P Holds told bad
asked_reached P Holds (Err told) (inr failed) = subst (OfFailedRead Holds) (sym failed) tt

-- ---- what is told of all

module _ (format : Format) (why : Bool) (moment : ℕ) (files : Files) (asked : List Asked) (has : HasQuestions (octets_or_none files.questions) asked)
    {rrsets : List ReceivedRrset} {anchors : List Anchor} {said : Said} (read : AreReadFrom (At moment) files rrsets anchors said) where
  pub answered_by : (knowing : Ground (At moment) rrsets said) (end : Status) (text : List ℕ)
      → AreAnswers format why knowing.numbers (basis_of rrsets anchors moment knowing.meaning) asked end text → AreAnswered format why moment files end text
  answered_by knowing end text answers =
      let are = all_given (At moment) files read knowing.meaning knowing.numbers knowing.knows in record {
        asked = asked;
        has = has;
        given = are.given;
        answers = subst (λ (each : Option (List ℕ)). AreAnswers format why each (basis_in are.given) asked end text) are.told
            (subst (λ (basis : Basis). AreAnswers format why knowing.numbers basis asked end text) are.is answers);
      }

  pub first_answered_by : (knowing : Ground (At moment) rrsets said) (count : ℕ) (end : Status) (text : List ℕ)
      → AreAnswers format why knowing.numbers (basis_of rrsets anchors moment knowing.meaning) (take count asked) end text
      → AreFirstAnswered format why moment files text
  first_answered_by knowing count end text answers =
      let are = all_given (At moment) files read knowing.meaning knowing.numbers knowing.knows in record {
        asked = asked;
        has = has;
        given = are.given;
        count = count;
        end = end;
        answers = subst (λ (each : Option (List ℕ)). AreAnswers format why each (basis_in are.given) (take count asked) end text) are.told
            (subst (λ (basis : Basis). AreAnswers format why knowing.numbers basis (take count asked) end text) are.is answers);
      }

  pub all_done : {E : Type 0} (old new : Option (List ℕ)) (result : Result Status E)
      → IfOk result (λ end. (knowing : Ground (At moment) rrsets said) × (text : List ℕ)
      × AreAnswers format why knowing.numbers (basis_of rrsets anchors moment knowing.meaning) asked end text × Appends old new text)
      → IfOk result (λ end. (text : List ℕ) × AreAnswered format why moment files end text × Appends old new text)
  all_done old new (Ok end) done = (done.1, answered_by done.0 end done.1 done.2, done.3)
  all_done old new (Err told) done = tt

  pub first_begun : (old new : Option (List ℕ))
      → (knowing : Ground (At moment) rrsets said) × (count : ℕ) × (end : Status) × (text : List ℕ)
      × AreAnswers format why knowing.numbers (basis_of rrsets anchors moment knowing.meaning) (take count asked) end text × AppendsBeginning old new text
      → (text : List ℕ) × AreFirstAnswered format why moment files text × AppendsBeginning old new text
  first_begun old new begun = (begun.3, first_answered_by begun.0 begun.1 begun.2 begun.3 begun.4, begun.5)

-- where some are told, whatever the files hold
pub first_whole : {Same : Type 0} {AreSo : Files → Type 0} (format : Format) (why : Bool) (moment : ℕ) (asked : List Asked) {rrsets : List ReceivedRrset}
    {anchors : List Anchor} {said : Said} (old new : Option (List ℕ))
    → ((files : Files) → AreSo files → HasQuestions (octets_or_none files.questions) asked)
    → ((files : Files) → AreSo files → AreReadFrom (At moment) files rrsets anchors said)
    → Same ⊎ ((knowing : Ground (At moment) rrsets said) × (count : ℕ) × (count < length asked) × (end : Status) × (text : List ℕ)
    × AreAnswers format why knowing.numbers (basis_of rrsets anchors moment knowing.meaning) (take count asked) end text × Appends old new text)
    → Same ⊎ ((files : Files) → AreSo files → (text : List ℕ) × AreFewerAnswered format why moment files text × Appends old new text)
unfolding first_answered_by
first_whole format why moment asked old new has given (inl same) = inl same
first_whole format why moment asked old new has given (inr whole) = inr (λ files are. (
  whole.4,
  record {
    firsts = first_answered_by format why moment files asked (has files are) (given files are) whole.0 whole.1 whole.3 whole.4 whole.5;
    fewer = whole.2;
  },
  whole.6,
))

-- ---- one case

-- what is told by a case is told by what is known
pub told_done : {moment : ℕ} {rrsets : List ReceivedRrset} {said : Said} {E : Type 0} (P : Ground (At moment) rrsets said → Status → List ℕ → Type 0)
    (knowing : Ground (At moment) rrsets said) (Grows : List ℕ → Type 0) (result : Result Status E)
    → IfOk result (λ end. (text : List ℕ) × P knowing end text × Grows text)
    → IfOk result (λ end. (each : Ground (At moment) rrsets said) × (text : List ℕ) × P each end text × Grows text)
told_done P knowing Grows (Ok end) done = (knowing, done.0, done.1, done.2)
told_done P knowing Grows (Err told) done = tt

pub told_only : {T : Type 0} (P : Refusal → Place → Type 0) (result : Result T Fault) → IfErr result (λ told. (told ≡ fault.OutOfMemory) ⊎ (told ≡ fault.WriteFailed))
    → IfErr result (λ told. IsFaultOf P told ⊎ (told ≡ fault.WriteFailed))
told_only P (Ok x) only = tt
told_only P (Err told) (inl memory) = inl (subst (IsFaultOf P) (sym memory) tt)
told_only P (Err told) (inr failed) = inr failed

pub told_untouched : {T : Type 0} (Same : Type 0) (result : Result T Fault) → IfErr result (λ told. (told ≡ fault.OutOfMemory) ⊎ (told ≡ fault.WriteFailed))
    → IfErr result (λ told. (told ≡ fault.WriteFailed → ⊥) → (told ≡ fault.OutOfMemory → ⊥) → Same)
told_untouched Same (Ok x) only = tt
told_untouched Same (Err told) (inl memory) = λ written wanted. absurd (wanted memory)
told_untouched Same (Err told) (inr failed) = λ written wanted. absurd (written failed)
