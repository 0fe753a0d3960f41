-- The files that questions are judged by: what they say where they are in order, and what is read of them.
use Rattle.std.specs.Prelude.{◌≡◌, ℕ, List, Option}
use Rattle.dnsv_message.specs.Message.{Contents}
use Rattle.dnsv_canonical.specs.Evidence.{evidence_of}
use Rattle.dnsv_canonical.specs.Rrsets.{ReceivedRrset}
use Rattle.dnsv_verifier.specs.declared.answer.Answer.{Answer}
use Rattle.dnsv_verifier.specs.declared.entry.Entry.{Entry}
use Rattle.dnsv_answers.specs.declared.heading.Moments.{Moments}
use Rattle.dnsv_anchors.specs.declared.anchor.Anchor.{Anchor}
use Rattle.dnsv_chain.specs.Basis.{Basis, basis_of}
use Rattle.dnsv_files.specs.Files.Anchors.{HasAnchors}
use Rattle.dnsv_files.specs.declared.opening.Opening.{Opening}
use Rattle.dnsv_files.specs.Files.Capture.{Holds, NewEvidence}
use Rattle.dnsv_files.specs.Files.{Files, octets_or_none}
use Rattle.dnsv_work.specs.Known.{IsKnownBy, IsSaidBy}
use Rattle.dnsv_work.specs.Opening.{IsOpeningAt}
use Rattle.dnsv_files.specs.Bounds.{begin_of}
use Rattle.dnsv_work.specs.declared.given.Said.{Said}

-- The files are in order: the capture holds messages, in frames that the keys open at the moment where keys are given,
-- each of them evidence besides those before it, and there are trust anchors, and statements, or the answers to the
-- capture's list of the moments, which give the entries that are still open their numbers.
pub record AreInOrder (moments : Moments) (files : Files) : Type 0 where
  pub opening : Opening
  pub opens : IsOpeningAt files.keys files.macs moments opening
  pub messages : List Contents
  pub holds : Holds NewEvidence opening files.capture messages
  pub anchors : List Anchor
  pub trusted : HasAnchors (octets_or_none files.anchors) anchors
  pub meaning : Entry → Answer
  pub numbers : Option (List ℕ)
  pub said : IsKnownBy files.capture moments (evidence_of messages).rrsets files.statements files.answers meaning numbers

-- what a question is judged by, at the moment, or at the first of the range
abbrev pub basis_in : {moments : Moments} {files : Files} → AreInOrder moments files → Basis
basis_in {moments} given = basis_of (evidence_of given.messages).rrsets given.anchors (begin_of moments) given.meaning

-- what is read of the files: this evidence, these anchors, and this of signatures; how many answers there are isn't said
pub record AreReadFrom (moments : Moments) (files : Files) (rrsets : List ReceivedRrset) (anchors : List Anchor) (said : Said) : Type 0 where
  pub opening : Opening
  pub opens : IsOpeningAt files.keys files.macs moments opening
  pub messages : List Contents
  pub holds : Holds NewEvidence opening files.capture messages
  pub is : rrsets ≡ (evidence_of messages).rrsets
  pub trusted : HasAnchors (octets_or_none files.anchors) anchors
  pub says : IsSaidBy files.capture moments files.statements files.answers said

-- the files are in order, and questions are judged by this evidence, these anchors and what is known of signatures, and
-- told with these numbers
pub record AreGivenBy (moments : Moments) (files : Files) (rrsets : List ReceivedRrset) (anchors : List Anchor) (meaning : Entry → Answer)
    (numbers : Option (List ℕ)) : Type 0 where
  pub given : AreInOrder moments files
  pub is : basis_of rrsets anchors (begin_of moments) meaning ≡ basis_in given
  pub told : numbers ≡ given.numbers
