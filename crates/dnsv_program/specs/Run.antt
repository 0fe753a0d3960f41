-- What a request asks of its files, and what is their first fault.
use Rattle.std.specs.Prelude.{◌≡◌, ◌⊎◌, ⊤, ℕ, Bool, List, string_bytes}
use Rattle.dnsv_names.specs.Name.{Labels}
use Rattle.dnsv_timeline.specs.Range.{IsRange}
use Rattle.dnsv_questions.specs.Question.{IsQuestion}
use Rattle.dnsv_answers.specs.declared.heading.Moments.TheVariants.{Between}
use Rattle.dnsv_files.specs.declared.opening.Opening.TheVariants.{Plain}
use Rattle.dnsv_commands.specs.declared.request.Asking.TheVariants as asking
use Rattle.dnsv_commands.specs.declared.request.Request.{Request}
use Rattle.dnsv_commands.specs.declared.request.Request.TheVariants as request
use Rattle.dnsv_files.specs.declared.status.Fault.{Fault}
use Rattle.dnsv_files.specs.declared.status.InputFile.{InputFile}
use Rattle.dnsv_files.specs.declared.status.Status.{Status}
use Rattle.dnsv_files.specs.declared.status.Status.TheVariants.{Done}
use Rattle.dnsv_questions.specs.declared.format.Format.{Format}
use Rattle.dnsv_files.specs.Files.Capture.{AnyMessage, IsFaultOfCapture}
use Rattle.dnsv_asking.specs.Asking.{AreAnswered, AreFewerAnswered, AreFirstAnswered, IsFirstFaultOfEach, IsReachedByEach}
use Rattle.dnsv_asking.specs.Checking.{IsAnswered, IsFirstFaultOfCheck, IsReachedByCheck}
use Rattle.dnsv_files.specs.Files.{Files}
use Rattle.dnsv_work.specs.Listing.{IsTodo, IsListed}
use Rattle.dnsv_work.specs.Question.{Spells}
use Rattle.dnsv_work.specs.Showing.{IsShowing}
use Rattle.dnsv_work.specs.Faults.{IsFaultOfRange, IsFaultOfQuestion, IsFirstFaultOfAsked, IsFirstFaultOfFiles, IsFirstFaultOfList, IsFirstFaultOfRange, IsFirstFaultOfTodo, IsTimelineRefused}
use Rattle.dnsv_program.specs.Timeline.{IsStoppedThroughout, IsTimeline}
use Rattle.dnsv_work.specs.Reached.{IsCaptureReached, IsReachedByList, IsReachedByTodo, IsReachedOfFiles}

-- ---- the text

-- the question is one that can be asked, the range is one, and the text is that of its timeline
abbrev pub IsTimelineAsked : Format → Bool → List ℕ → ℕ → ℕ → ℕ → Files → List ℕ → Type 0
IsTimelineAsked format kinds asked rtype from to files text =
    (name : Labels) × Spells asked name × IsQuestion name rtype × IsRange from to
    × IsTimeline format kinds name rtype from to files text

-- over these files the request ends so, with this text: in JSON, and with why the verdict stands, where it asks for that
abbrev pub IsTextAskedFor : Request → Files → Status → List ℕ → Type 0
IsTextAskedFor (request.Show capture) files end text = (end ≡ Done) × IsShowing files.capture text
IsTextAskedFor (request.List capture moment statements lists format) files end text =
    (end ≡ Done) × IsListed lists format moment files text
IsTextAskedFor (request.ListRange capture from to statements form format) files end text =
    (end ≡ Done) × IsRange from to × IsTodo form format (Between from to) files text
IsTextAskedFor (request.Timeline capture anchors from to asked rtype known kinds format) files end text =
    (end ≡ Done) × IsTimelineAsked format kinds (string_bytes asked) rtype.0 from to files text
IsTextAskedFor (request.Check capture anchors moment (asking.One asked rtype) known keys macs format why) files end text =
    IsAnswered format why (string_bytes asked) rtype.0 moment files end text
IsTextAskedFor (request.Check capture anchors moment (asking.Each questions) known keys macs format why) files end text =
    AreAnswered format why moment files end text

-- the request asks for no verdict of one moment, so that its whole text ends in one way
abbrev pub EndsAsDone : Request → Type 0
EndsAsDone (request.Show capture) = ⊤
EndsAsDone (request.List capture moment statements lists format) = ⊤
EndsAsDone (request.ListRange capture from to statements form format) = ⊤
EndsAsDone (request.Timeline capture anchors from to asked rtype known kinds format) = ⊤
EndsAsDone (request.Check capture anchors moment asked known keys macs format why) = ⊥

-- the request asks many questions
abbrev pub AsksMany : Request → Type 0
AsksMany (request.Show capture) = ⊥
AsksMany (request.List capture moment statements lists format) = ⊥
AsksMany (request.ListRange capture from to statements form format) = ⊥
AsksMany (request.Timeline capture anchors from to asked rtype known kinds format) = ⊥
AsksMany (request.Check capture anchors moment (asking.One asked rtype) known keys macs format why) = ⊥
AsksMany (request.Check capture anchors moment (asking.Each questions) known keys macs format why) = Unit {0}

-- the request asks many questions, at this moment, in this format, and this says whether it asks why
abbrev pub IsManyAsked : Request → Format → Bool → ℕ → Type 0
IsManyAsked (request.Show capture) format why moment = ⊥
IsManyAsked (request.List capture at statements lists form) format why moment = ⊥
IsManyAsked (request.ListRange capture from to statements lists form) format why moment = ⊥
IsManyAsked (request.Timeline capture anchors from to asked rtype known kinds form) format why moment = ⊥
IsManyAsked (request.Check capture anchors at (asking.One asked rtype) known keys macs form whether) format why moment = ⊥
IsManyAsked (request.Check capture anchors at (asking.Each questions) known keys macs form whether) format why moment =
    (format ≡ form) × (why ≡ whether) × (moment ≡ at)

-- what is written at most: of many questions the text of some, from the first on, and else the whole text
abbrev pub IsTextOfFirst : Request → Files → List ℕ → Type 0
IsTextOfFirst (request.Show capture) files text = (end : Status) × IsTextAskedFor (request.Show capture) files end text
IsTextOfFirst (request.List capture moment statements lists format) files text =
    (end : Status) × IsTextAskedFor (request.List capture moment statements lists format) files end text
IsTextOfFirst (request.ListRange capture from to statements form format) files text =
    (end : Status) × IsTextAskedFor (request.ListRange capture from to statements form format) files end text
IsTextOfFirst (request.Timeline capture anchors from to asked rtype known kinds format) files text =
    (end : Status) × IsTextAskedFor (request.Timeline capture anchors from to asked rtype known kinds format) files end text
IsTextOfFirst (request.Check capture anchors moment (asking.One asked rtype) known keys macs format why) files text =
    (end : Status) × IsAnswered format why (string_bytes asked) rtype.0 moment files end text
IsTextOfFirst (request.Check capture anchors moment (asking.Each questions) known keys macs format why) files text =
    AreFirstAnswered format why moment files text

-- the text is that of fewer questions than many that are asked, from the first on
abbrev pub IsTextOfFewer : Request → Files → List ℕ → Type 0
IsTextOfFewer (request.Show capture) files text = ⊥
IsTextOfFewer (request.List capture moment statements lists format) files text = ⊥
IsTextOfFewer (request.ListRange capture from to statements form format) files text = ⊥
IsTextOfFewer (request.Timeline capture anchors from to asked rtype known kinds format) files text = ⊥
IsTextOfFewer (request.Check capture anchors moment (asking.One asked rtype) known keys macs format why) files text = ⊥
IsTextOfFewer (request.Check capture anchors moment (asking.Each questions) known keys macs format why) files text =
    AreFewerAnswered format why moment files text

-- ---- the first fault

-- the request asks a question, or asks for a range, which is refused so
abbrev pub AsksRefused : Request → Fault → Type 0
AsksRefused (request.Show capture) fault = ⊥
AsksRefused (request.List capture moment statements lists format) fault = ⊥
AsksRefused (request.ListRange capture from to statements form format) fault = IsFaultOfRange from to fault
AsksRefused (request.Timeline capture anchors from to asked rtype known kinds format) fault =
    IsTimelineRefused (string_bytes asked) rtype.0 from to fault
AsksRefused (request.Check capture anchors moment (asking.One asked rtype) known keys macs format why) fault =
    IsFaultOfQuestion (string_bytes asked) rtype.0 fault
AsksRefused (request.Check capture anchors moment (asking.Each questions) known keys macs format why) fault = ⊥

-- the first of the files that is at fault has this fault; or none is, and the question is refused throughout the range
abbrev pub IsFirstFaultThroughout : Labels → ℕ → ℕ → ℕ → Files → Fault → Type 0
IsFirstFaultThroughout name rtype from to files fault =
    IsFirstFaultOfFiles (Between from to) files fault ⊎ IsStoppedThroughout name rtype from to files fault

-- the question is refused, and else the range, and else this is the first fault of the files and of the ways
abbrev pub IsFirstFaultOfTimeline : List ℕ → ℕ → ℕ → ℕ → Files → Fault → Type 0
IsFirstFaultOfTimeline asked rtype from to files =
    IsFirstFaultOfAsked asked rtype (λ name. IsFirstFaultOfRange from to (IsFirstFaultThroughout name rtype from to files))

-- the first fault, in the order of the work
abbrev pub IsFirstFault : Request → Files → Fault → Type 0
IsFirstFault (request.Show capture) files fault = IsFaultOfCapture AnyMessage Plain files.capture fault
IsFirstFault (request.List capture moment statements lists format) files fault = IsFirstFaultOfList lists files fault
IsFirstFault (request.ListRange capture from to statements form format) files fault =
    IsFirstFaultOfRange from to (IsFirstFaultOfTodo files) fault
IsFirstFault (request.Timeline capture anchors from to asked rtype known kinds format) files fault =
    IsFirstFaultOfTimeline (string_bytes asked) rtype.0 from to files fault
IsFirstFault (request.Check capture anchors moment (asking.One asked rtype) known keys macs format why) files fault =
    IsFirstFaultOfCheck (string_bytes asked) rtype.0 moment files fault
IsFirstFault (request.Check capture anchors moment (asking.Each questions) known keys macs format why) files fault =
    IsFirstFaultOfEach moment files fault

-- ---- what a failed read comes behind

-- the question can be asked, the range is one, and the files before this one are in order
abbrev pub IsReachedByTimeline : List ℕ → ℕ → ℕ → ℕ → Files → InputFile → Type 0
IsReachedByTimeline asked rtype from to files file =
    ((name : Labels) × Spells asked name × IsQuestion name rtype) × IsRange from to
    × IsReachedOfFiles (Between from to) files file

-- The request reads the file, which is given, and what comes before it in the order of the work is in order.
abbrev pub IsReached : Request → Files → InputFile → Type 0
IsReached (request.Show capture) files file = IsCaptureReached file
IsReached (request.List capture moment statements lists format) files file = IsReachedByList lists files file
IsReached (request.ListRange capture from to statements form format) files file = IsRange from to × IsReachedByTodo files file
IsReached (request.Timeline capture anchors from to asked rtype known kinds format) files file =
    IsReachedByTimeline (string_bytes asked) rtype.0 from to files file
IsReached (request.Check capture anchors moment (asking.One asked rtype) known keys macs format why) files file =
    IsReachedByCheck (string_bytes asked) rtype.0 moment files file
IsReached (request.Check capture anchors moment (asking.Each questions) known keys macs format why) files file =
    IsReachedByEach moment files file
