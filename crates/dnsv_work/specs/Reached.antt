-- What a failed read comes behind, as far as requests have it in common.
use Rattle.std.specs.Prelude.{⊤, List}
use Rattle.dnsv_answers.specs.declared.heading.Moments.{Moments}
use Rattle.dnsv_anchors.specs.declared.anchor.Anchor.{Anchor}
use Rattle.dnsv_files.specs.declared.opening.Opening.{Opening}
use Rattle.dnsv_files.specs.declared.opening.Opening.TheVariants.{Plain}
use Rattle.dnsv_commands.specs.declared.request.Listing.{Listing}
use Rattle.dnsv_commands.specs.declared.request.Listing.TheVariants as listing
use Rattle.dnsv_files.specs.declared.status.InputFile.{InputFile}
use Rattle.dnsv_files.specs.declared.status.InputFile.TheVariants.{Anchors, Answers, Capture, Keys, Macs, Questions, Statements}
use Rattle.dnsv_files.specs.Files.Anchors.{HasAnchors}
use Rattle.dnsv_work.specs.Known.{IsKnownReached}
use Rattle.dnsv_files.specs.Files.{Files, IsGiven, octets_or_none}
use Rattle.dnsv_work.specs.Opening.{IsOpeningAt, IsOpeningReachedAt}
use Rattle.dnsv_work.specs.Faults.{HasEvidence}

-- only the file of captured messages is read
abbrev pub IsCaptureReached : InputFile → Type 0
IsCaptureReached Capture = ⊤
IsCaptureReached _ = ⊥

-- the statements are read behind evidence, where they are given
abbrev pub IsReachedByTodo : Files → InputFile → Type 0
IsReachedByTodo files Capture = ⊤
IsReachedByTodo files Statements = HasEvidence Plain files.capture × IsGiven files.statements
IsReachedByTodo files _ = ⊥

abbrev pub IsReachedByList : Listing → Files → InputFile → Type 0
IsReachedByList listing.All files file = IsCaptureReached file
IsReachedByList (listing.Todo form) files file = IsReachedByTodo files file

-- the file of captured messages is read behind the keys and MACs, the anchors behind evidence, and the statements, or
-- the answers, behind the anchors, each where it is given
abbrev pub IsReachedOfFiles : Moments → Files → InputFile → Type 0
IsReachedOfFiles moments files Keys = IsOpeningReachedAt files.keys files.macs moments Keys
IsReachedOfFiles moments files Macs = IsOpeningReachedAt files.keys files.macs moments Macs
IsReachedOfFiles moments files Capture = (opening : Opening) × IsOpeningAt files.keys files.macs moments opening
IsReachedOfFiles moments files Anchors =
    (opening : Opening) × IsOpeningAt files.keys files.macs moments opening × HasEvidence opening files.capture
    × IsGiven files.anchors
IsReachedOfFiles moments files Statements =
    (opening : Opening) × IsOpeningAt files.keys files.macs moments opening × HasEvidence opening files.capture
    × ((anchors : List Anchor) × HasAnchors (octets_or_none files.anchors) anchors)
    × IsKnownReached files.statements files.answers Statements
IsReachedOfFiles moments files Answers =
    (opening : Opening) × IsOpeningAt files.keys files.macs moments opening × HasEvidence opening files.capture
    × ((anchors : List Anchor) × HasAnchors (octets_or_none files.anchors) anchors)
    × IsKnownReached files.statements files.answers Answers
IsReachedOfFiles moments files Questions = ⊥
