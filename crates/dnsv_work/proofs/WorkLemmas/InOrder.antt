-- Files that were all taken: what they say, or that answers are more or fewer than entries.
use Rattle.std.proofs.Common.{◌≡◌, ℕ, List, Option, Some, None, ap, inr, refl, subst, sym}
use Rattle.std.specs.Borrow.{Bor}
use Rattle.dnsv_message.specs.Streams.Frames.{IsCapture, octets_at_each}
use Rattle.std.specs.Prelude.{IfSome}
use Rattle.dnsv_message.specs.Message.{Contents}
use Rattle.dnsv_canonical.specs.Evidence.{Evidence, evidence_of}
use Rattle.dnsv_verifier.specs.declared.answer.Answer.{Answer}
use Rattle.dnsv_verifier.specs.declared.entry.Entry.{Entry}
use Rattle.dnsv_anchors.specs.declared.anchor.Anchor.{Anchor}
use Rattle.dnsv_canonical.specs.Rrsets.{ReceivedRrset}
use Rattle.dnsv_chain.specs.Basis.{basis_of}
use Rattle.dnsv_files.specs.Files.Anchors.{HasAnchors}
use Rattle.dnsv_files.specs.declared.opening.Opening.{Opening}
use Rattle.dnsv_files.specs.Files.Capture.{Holds, NewEvidence}
use Rattle.dnsv_work.specs.Opening.{IsOpeningAt}
use Rattle.dnsv_files.specs.Bounds.{begin_of}
use Rattle.dnsv_answers.specs.declared.heading.Moments.{Moments}
use Rattle.dnsv_work.specs.Faults.{IsFirstFaultOfFiles}
use Rattle.dnsv_work.specs.InOrder.{AreGivenBy, AreReadFrom}
use Rattle.dnsv_work.specs.Known.{AreMiscountedIn, IsFaultOfKnown, IsKnown, IsKnownBy, IsSaidBy}
use Rattle.dnsv_work.specs.declared.given.Said.{Said}
use Rattle.dnsv_work.specs.declared.given.Said.TheVariants as said
use Rattle.dnsv_files.specs.declared.status.Fault.TheVariants as fault
use Rattle.dnsv_files.specs.declared.status.Place.{Place}
use Rattle.dnsv_files.specs.declared.status.Refusal.{Refusal}
use Rattle.dnsv_files.specs.Files.{Files, octets_or_none}
use Rattle.dnsv_files.specs.Files.Statements.{IsMeaningOf}
use Rattle.dnsv_files.proofs.FileLemmas.Faults.{of_told}

-- the frames of a file whose octets are told
pub framed_by : (frames : List (Bor (List ℕ))) {octets : Option (List ℕ)} {file : List ℕ} → octets ≡ Some file
    → IfSome octets (λ file. IsCapture file (octets_at_each frames)) → IsCapture file (octets_at_each frames)
framed_by frames is held = of_told (λ file. IsCapture file (octets_at_each frames)) is held

-- what is read of the files, where all were taken
pub all_read : (moments : Moments) (files : Files) (opening : Opening) → IsOpeningAt files.keys files.macs moments opening → (held : Evidence) (anchors : List Anchor)
    (said : Said) {octets : Option (List ℕ)} → octets ≡ Some files.capture
    → IfSome octets (λ file. (messages : List Contents) × Holds NewEvidence opening file messages × (held ≡ evidence_of messages))
    → HasAnchors (octets_or_none files.anchors) anchors → IsSaidBy files.capture moments files.statements files.answers said
    → AreReadFrom moments files held.rrsets anchors said
all_read moments files opening opens held anchors said is taken trusted says =
    let evidence = of_told (λ file. (messages : List Contents) × Holds NewEvidence opening file messages × (held ≡ evidence_of messages)) is taken in record {
      opening = opening;
      opens = opens;
      messages = evidence.0;
      holds = evidence.1;
      is = ap (λ (each : Evidence). each.rrsets) evidence.2;
      trusted = trusted;
      says = says;
    }

module _ (capture : List ℕ) (moments : Moments) (rrsets : List ReceivedRrset) where
  -- what is read and known is known by the files
  known_by : (stated answered : Option (List ℕ)) (said : Said) (meaning : Entry → Answer) (numbers : Option (List ℕ)) → IsSaidBy capture moments stated answered said
      → IsKnown moments rrsets said meaning numbers → IsKnownBy capture moments rrsets stated answered meaning numbers
  known_by stated None (said.Statements listed) meaning numbers says knows =
      (subst (λ (each : Entry → Answer). IsMeaningOf (octets_or_none stated) each) (sym knows.0) says, knows.1)
  known_by stated None (said.Answers contents) meaning numbers says knows = absurd says
  known_by stated (Some text) (said.Statements listed) meaning numbers says knows = absurd says
  known_by stated (Some text) (said.Answers contents) meaning numbers says knows = (contents, says, knows)

  -- and what isn't known for the number of answers is at fault in the files
  unknown_by : (stated answered : Option (List ℕ)) (said : Said) (why : Refusal) (place : Place) → IsSaidBy capture moments stated answered said
      → AreMiscountedIn moments rrsets said why place → IsFaultOfKnown capture moments rrsets stated answered (fault.Refused why place)
  unknown_by stated None (said.Statements listed) why place says bad = absurd bad
  unknown_by stated None (said.Answers contents) why place says bad = absurd says
  unknown_by stated (Some text) (said.Statements listed) why place says bad = absurd says
  unknown_by stated (Some text) (said.Answers contents) why place says bad = (says.has.within, inr (contents, says.has.are, says.are_for, bad))

module _ (moments : Moments) (files : Files) {rrsets : List ReceivedRrset} {anchors : List Anchor} {said : Said} (read : AreReadFrom moments files rrsets anchors said) where
  -- the files say what questions are judged by
  pub all_given : (meaning : Entry → Answer) (numbers : Option (List ℕ)) → IsKnown moments rrsets said meaning numbers
      → AreGivenBy moments files rrsets anchors meaning numbers
  all_given meaning numbers knows = record {
    given = record {
      opening = read.opening;
      opens = read.opens;
      messages = read.messages;
      holds = read.holds;
      anchors = anchors;
      trusted = read.trusted;
      meaning = meaning;
      numbers = numbers;
      said = subst (λ (each : List ReceivedRrset). IsKnownBy files.capture moments each files.statements files.answers meaning numbers) read.is
          (known_by files.capture moments rrsets files.statements files.answers said meaning numbers read.says knows);
    };
    is = ap (λ (each : List ReceivedRrset). basis_of each anchors (begin_of moments) meaning) read.is;
    told = refl;
  }

  -- and are at fault where there are more or fewer answers than entries
  pub none_given : (why : Refusal) (place : Place) → AreMiscountedIn moments rrsets said why place → IsFirstFaultOfFiles moments files (fault.Refused why place)
  none_given why place bad =
      inr (
        read.opening,
        read.opens,
        inr (
          read.messages,
          read.holds,
          inr (
            (anchors, read.trusted),
            subst (λ (each : List ReceivedRrset). IsFaultOfKnown files.capture moments each files.statements files.answers (fault.Refused why place)) read.is
                (unknown_by files.capture moments rrsets files.statements files.answers said why place read.says bad),
          ),
        ),
      )
