-- What comes before a failed read.
use Rattle.std.proofs.Common.{◌≡◌, ℕ, refl, subst, sym}
use Rattle.std.specs.Prelude.{List, Option, Some, None, Result, Ok, Err, IfErr}
use Rattle.dnsv_files.specs.declared.status.Fault.{Fault}
use Rattle.dnsv_files.specs.declared.status.Fault.TheVariants as fault
use Rattle.dnsv_files.specs.declared.status.InputFile.{InputFile}
use Rattle.dnsv_files.specs.declared.status.InputFile.TheVariants.{Answers, Keys, Macs, Statements}
use Rattle.dnsv_files.specs.declared.status.Place.{Place}
use Rattle.dnsv_files.specs.declared.status.Refusal.{Refusal}
use Rattle.dnsv_files.specs.declared.opening.Opening.{Opening}
use Rattle.dnsv_work.specs.Opening.{IsOpeningAt, IsOpeningReachedAt}
use Rattle.dnsv_answers.specs.declared.heading.Moments.{Moments}
use Rattle.dnsv_answers.specs.declared.heading.Moments.TheVariants.{At, Between}
use Rattle.dnsv_anchors.specs.declared.anchor.Anchor.{Anchor}
use Rattle.dnsv_files.specs.Files.Anchors.{HasAnchors}
use Rattle.dnsv_files.specs.Told.{IsFaultOf}
use Rattle.dnsv_work.specs.Known.{IsKnownReached}
use Rattle.dnsv_files.specs.Files.Faults.{IsAbout, OfFailedRead}
use Rattle.dnsv_message.specs.Streams.Counted.{inner_of}
use Rattle.dnsv_message.specs.declared.streams.counted.Counted.{Counted}
use Rattle.dnsv_files.specs.Files.{Files, IsGiven, IsToldBy, octets_or_none}
use Rattle.dnsv_work.specs.Faults.{HasEvidence}
use Rattle.dnsv_work.specs.Reached.{IsReachedOfFiles}

-- where a fault is about one file, what holds of that file is enough
pub reached_by : (Holds : InputFile → Type 0) (file : InputFile) (told : Fault) → IsAbout file told → Holds file → OfFailedRead Holds told
reached_by Holds file (fault.ReadFailed other) about holds = subst Holds (sym about) holds
reached_by Holds file told about holds = tt

-- and where it has to be given, what holds of it then
pub reached_given : (Given : Type 0) (Holds : InputFile → Type 0) (file : InputFile) (told : Fault) → IsAbout file told → OfFailedRead (λ _. Given) told
    → (Given → Holds file) → OfFailedRead Holds told
reached_given Given Holds file (fault.ReadFailed other) about given holds = subst Holds (sym about) (holds given)
reached_given Given Holds file told about given holds = tt

-- a reader that is there reads a file that is given
pub given_file : {R : Type 0} (remaining : R → Option (List ℕ)) (reader : Option (Counted R)) (octets : Option (List ℕ)) → IsToldBy remaining reader octets
    → IsGiven reader → IsGiven octets
given_file remaining None octets told given = absurd (given refl)
given_file remaining (Some reader) None told given = let not : Some (remaining (inner_of reader)) ≡ None = told in cc
given_file remaining (Some reader) (Some octets) told given = λ none. cc

weaker_told : (P Q : InputFile → Type 0) (told : Fault) → ((file : InputFile) → P file → Q file) → OfFailedRead P told → OfFailedRead Q told
weaker_told P Q (fault.ReadFailed file) weaker holds = weaker file holds
weaker_told P Q told weaker holds = tt

-- what comes before a file of some of the work comes before it in all of it
pub reached_in : {T : Type 0} (P Q : InputFile → Type 0) (result : Result T Fault) → ((file : InputFile) → P file → Q file) → IfErr result (OfFailedRead P)
    → IfErr result (OfFailedRead Q)
reached_in P Q (Ok x) weaker holds = tt
reached_in P Q (Err told) weaker holds = weaker_told P Q told weaker holds

in_files : (moments : Moments) (files : Files) (file : InputFile) → IsOpeningReachedAt files.keys files.macs moments file → IsReachedOfFiles moments files file
in_files moments files Keys holds = holds
in_files moments files Macs holds = holds
in_files (At moment) files file holds = absurd holds
in_files (Between from to) files file holds = absurd holds

-- the keys and the MACs are read first
pub reached_sealed : (moments : Moments) (files : Files) (told : Fault) → OfFailedRead (IsOpeningReachedAt files.keys files.macs moments) told → OfFailedRead (IsReachedOfFiles moments files) told
reached_sealed moments files told = weaker_told (IsOpeningReachedAt files.keys files.macs moments) (IsReachedOfFiles moments files) told (in_files moments files)

-- what is known of signatures is read behind evidence and the anchors
known_in : (moments : Moments) (files : Files) → (opening : Opening) × IsOpeningAt files.keys files.macs moments opening × HasEvidence opening files.capture
    × ((anchors : List Anchor) × HasAnchors (octets_or_none files.anchors) anchors)
    → (file : InputFile) → IsKnownReached files.statements files.answers file → IsReachedOfFiles moments files file
known_in moments files before Statements holds = (before.0, before.1, before.2, before.3, holds)
known_in moments files before Answers holds = (before.0, before.1, before.2, before.3, holds)
known_in moments files before file holds = absurd holds

pub reached_known : (moments : Moments) (files : Files) → (opening : Opening) × IsOpeningAt files.keys files.macs moments opening × HasEvidence opening files.capture
    × ((anchors : List Anchor) × HasAnchors (octets_or_none files.anchors) anchors)
    → (told : Fault) → OfFailedRead (IsKnownReached files.statements files.answers) told → OfFailedRead (IsReachedOfFiles moments files) told
reached_known moments files before told = weaker_told (IsKnownReached files.statements files.answers) (IsReachedOfFiles moments files) told (known_in moments files before)

-- where what was read is refused no failed read is told
pub refused_reached : (P : Refusal → Place → Type 0) (Holds : InputFile → Type 0) (told : Fault) → IsFaultOf P told → OfFailedRead Holds told
refused_reached P Holds (fault.ReadFailed file) is = absurd is
refused_reached P Holds told is = tt

-- and no failed write
pub refused_unwritten : (P : Refusal → Place → Type 0) (told : Fault) → IsFaultOf P told → told ≡ fault.WriteFailed → ⊥
refused_unwritten P told is same = subst (IsFaultOf P) same is
