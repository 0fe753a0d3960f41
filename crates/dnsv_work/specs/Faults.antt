-- The first fault of the question, the range and the files, in the order of the work, as far as requests have it in common.
use Rattle.std.specs.Prelude.{◌≡◌, ℕ, List, ◌⊎◌}
use Rattle.dnsv_names.specs.Name.{Labels}
use Rattle.dnsv_timeline.specs.Range.{IsRange}
use Rattle.dnsv_files.specs.Files.{Files, octets_or_none}
use Rattle.dnsv_files.specs.Told.{nowhere}
use Rattle.dnsv_files.specs.declared.status.Fault.{Fault}
use Rattle.dnsv_files.specs.declared.status.Fault.TheVariants as fault
use Rattle.dnsv_files.specs.declared.status.Refusal.TheVariants as refusal
use Rattle.dnsv_message.specs.Message.{Contents}
use Rattle.dnsv_canonical.specs.Evidence.{evidence_of}
use Rattle.dnsv_canonical.specs.Rrsets.{ReceivedRrset}
use Rattle.dnsv_questions.specs.Question.{IsQuestion}
use Rattle.dnsv_answers.specs.declared.heading.Moments.{Moments}
use Rattle.dnsv_anchors.specs.declared.anchor.Anchor.{Anchor}
use Rattle.dnsv_files.specs.declared.opening.Opening.{Opening}
use Rattle.dnsv_files.specs.declared.opening.Opening.TheVariants.{Plain}
use Rattle.dnsv_commands.specs.declared.request.Listing.{Listing}
use Rattle.dnsv_commands.specs.declared.request.Listing.TheVariants as listing
use Rattle.dnsv_files.specs.Files.Anchors.{HasAnchors, IsFaultOfAnchors}
use Rattle.dnsv_files.specs.Files.Capture.{NewEvidence, Holds, IsFaultOfCapture}
use Rattle.dnsv_work.specs.Known.{IsFaultOfKnown}
use Rattle.dnsv_work.specs.Question.{IsQuestionRefused, Spells}
use Rattle.dnsv_work.specs.Opening.{IsFaultOfOpeningAt, IsOpeningAt}
use Rattle.dnsv_files.specs.Files.Statements.{IsFaultOfStatements}

-- the range is none, and is refused so, without a place
abbrev pub IsFaultOfRange : ℕ → ℕ → Fault → Type 0
IsFaultOfRange from to told = (¬ IsRange from to) × (told ≡ fault.Refused refusal.BadRange nowhere)

-- the file holds messages in such frames, each of them evidence besides those before it
abbrev pub HasEvidence : Opening → List ℕ → Type 0
HasEvidence opening file = (messages : List Contents) × Holds NewEvidence opening file messages

-- the file of captured messages has this fault; or it has none, and the file of statements has it
abbrev pub IsFirstFaultOfTodo : Files → Fault → Type 0
IsFirstFaultOfTodo files fault =
    IsFaultOfCapture NewEvidence Plain files.capture fault
    ⊎ (HasEvidence Plain files.capture × IsFaultOfStatements (octets_or_none files.statements) fault)

-- where only the file of captured messages is read, that has this fault
abbrev pub IsFirstFaultOfList : Listing → Files → Fault → Type 0
IsFirstFaultOfList listing.All files fault = IsFaultOfCapture NewEvidence Plain files.capture fault
IsFirstFaultOfList (listing.Todo form) files fault = IsFirstFaultOfTodo files fault

-- behind the file of captured messages, which has these RRsets, the first fault is in the trust anchors, and then in what
-- is known of signatures at the moments
abbrev pub IsFirstFaultBehind : Moments → List ReceivedRrset → Files → Fault → Type 0
IsFirstFaultBehind moments rrsets files fault =
    IsFaultOfAnchors (octets_or_none files.anchors) fault
    ⊎ (((anchors : List Anchor) × HasAnchors (octets_or_none files.anchors) anchors)
    × IsFaultOfKnown files.capture moments rrsets files.statements files.answers fault)

-- where frames are opened so, the first fault is in the file of captured messages, and then in those behind it
abbrev pub IsFirstFaultOfEvidence : Opening → Moments → Files → Fault → Type 0
IsFirstFaultOfEvidence opening moments files fault =
    IsFaultOfCapture NewEvidence opening files.capture fault
    ⊎ ((messages : List Contents) × Holds NewEvidence opening files.capture messages
    × IsFirstFaultBehind moments (evidence_of messages).rrsets files fault)

-- the first fault is in the files of keys and MACs, where these are read, and then in the others
abbrev pub IsFirstFaultOfFiles : Moments → Files → Fault → Type 0
IsFirstFaultOfFiles moments files fault =
    IsFaultOfOpeningAt files.keys files.macs moments fault
    ⊎ ((opening : Opening) × IsOpeningAt files.keys files.macs moments opening
    × IsFirstFaultOfEvidence opening moments files fault)

-- the question is refused so
abbrev pub IsFaultOfQuestion : List ℕ → ℕ → Fault → Type 0
IsFaultOfQuestion asked rtype (fault.Refused why place) = IsQuestionRefused asked rtype why place
IsFaultOfQuestion asked rtype _ = ⊥

-- the question is refused so, and else this is the first fault behind it
abbrev pub IsFirstFaultOfAsked : List ℕ → ℕ → (Labels → Fault → Type 0) → Fault → Type 0
IsFirstFaultOfAsked asked rtype Behind fault =
    IsFaultOfQuestion asked rtype fault
    ⊎ ((name : Labels) × Spells asked name × IsQuestion name rtype × Behind name fault)

-- the range is refused so, and else this is the first fault behind it
abbrev pub IsFirstFaultOfRange : ℕ → ℕ → (Fault → Type 0) → Fault → Type 0
IsFirstFaultOfRange from to Behind fault = IsFaultOfRange from to fault ⊎ (IsRange from to × Behind fault)

-- the question is refused so, and else the range
abbrev pub IsTimelineRefused : List ℕ → ℕ → ℕ → ℕ → Fault → Type 0
IsTimelineRefused asked rtype from to = IsFirstFaultOfAsked asked rtype (λ name. IsFaultOfRange from to)
