-- The files that a question is judged by, taken one after another in the order of the work.
use Rattle.std.proofs.Common.{◌≡◌, ◌⊎◌, ℕ, List, Option, Some, None, ap, subst, sym, ◌∙◌, inl, inr}
use Rattle.std.specs.Prelude.{Result, Ok, Err, IfErr, IfSome}
use Rattle.dnsv_answers.specs.declared.heading.Moments.{Moments}
use Rattle.dnsv_message.specs.Message.{Contents}
use Rattle.dnsv_canonical.specs.Evidence.{Evidence, evidence_of}
use Rattle.dnsv_message.specs.Streams.Counted.{inner_of, failures_of}
use Rattle.dnsv_files.specs.Files.Capture.{Holds, IsFaultOfCapture, NewEvidence}
use Rattle.dnsv_files.specs.declared.opening.Opening.{Opening}
use Rattle.dnsv_work.specs.Opening.{IsFaultOfOpeningAt, IsOpeningAt}
use Rattle.dnsv_files.specs.declared.inputs.Inputs.{Inputs}
use Rattle.dnsv_files.specs.declared.status.InputFile.TheVariants.{Anchors, Answers, Capture, Keys, Macs, Questions, Statements}
use Rattle.dnsv_files.specs.Files.{Files, AreToldBeside, IsToldBy, given_failures, octets_or_none}
use Rattle.dnsv_anchors.specs.declared.anchor.Anchor.{Anchor}
use Rattle.dnsv_files.specs.Files.Anchors.{HasAnchors, IsFaultOfAnchors}
use Rattle.dnsv_work.specs.Faults.{HasEvidence, IsFirstFaultOfFiles}
use Rattle.dnsv_canonical.specs.Rrsets.{ReceivedRrset}
use Rattle.dnsv_work.specs.Known.{IsFaultBeforeKnown, IsFaultOfKnown}
use Rattle.dnsv_files.specs.declared.status.Fault.{Fault}
use Rattle.dnsv_files.specs.declared.status.Fault.TheVariants as fault
use Rattle.dnsv_files.specs.declared.status.InputFile.{InputFile}
use Rattle.dnsv_files.specs.Files.Faults.{IsAbout, OfOctets, TellsFailedReads, TellsFaultsBeside, TellsFileFaults}
use Rattle.dnsv_files.proofs.FileLemmas.Faults.{IsOther, reads_passed, reads_then, reads_untouched, about_another, OfOctets-weaker, about_opened, of_told}

-- what is at fault in what is said of signatures, before entries are counted, is at fault in what is known of them
before_known : (capture : List ℕ) (moments : Moments) (rrsets : List ReceivedRrset) (stated answered : Option (List ℕ)) (told : Fault)
    → IsFaultBeforeKnown capture moments stated answered told → IsFaultOfKnown capture moments rrsets stated answered told
before_known capture moments rrsets stated None told holds = holds
before_known capture moments rrsets stated (Some text) (fault.Refused why place) holds = (holds.0, inl holds.1)
before_known capture moments rrsets stated (Some text) (fault.TooLong file) holds = holds
before_known capture moments rrsets stated (Some text) told holds = absurd holds

-- want of memory is no fault of a file
not_read : {U : Type 0} (result : Result U Fault) (file : InputFile) → IfErr result (λ told. told ≡ fault.OutOfMemory) → IfErr result (IsOther file)
not_read (Ok x) file only = tt
not_read (Err told) file only = λ is. let bad : fault.OutOfMemory ≡ fault.ReadFailed file = sym only ∙ is in cc

no_octets : {U : Type 0} (P : Fault → Type 0) (result : Result U Fault) → IfErr result (λ told. told ≡ fault.OutOfMemory) → IfErr result (OfOctets P)
no_octets P (Ok x) only = tt
no_octets P (Err told) only = subst (OfOctets P) (sym only) tt

not_opened : {U : Type 0} (result : Result U Fault) → IfErr result (λ told. told ≡ fault.OutOfMemory) → IfErr result (λ told. (file : InputFile) → told ≡ fault.OpenFailed file → ⊥)
not_opened (Ok x) only = tt
not_opened (Err told) only = λ file is. let bad : fault.OutOfMemory ≡ fault.OpenFailed file = sym only ∙ is in cc

-- one of two files is at fault, and no other
about_one_of : (a b : InputFile) {file : InputFile} (told : Fault) → IsAbout a told ⊎ IsAbout b told → (file ≡ a → ⊥) → (file ≡ b → ⊥) → IsOther file told
about_one_of a b {file} told (inl about) not_a not_b = about_another file told about not_a
about_one_of a b {file} told (inr about) not_a not_b = about_another file told about not_b

either_opened : (a b : InputFile) (told : Fault) → IsAbout a told ⊎ IsAbout b told → (other : InputFile) → told ≡ fault.OpenFailed other → ⊥
either_opened a b told (inl about) = about_opened a told about
either_opened a b told (inr about) = about_opened b told about

-- the keys or the MACs are at fault, and no other file
pub about_either : {file : InputFile} (told : Fault) → IsAbout Keys told ⊎ IsAbout Macs told → (file ≡ Keys → ⊥) → (file ≡ Macs → ⊥) → IsOther file told
about_either told = about_one_of Keys Macs told

-- what is told where the file of captured messages, opened so, was read
abbrev pub CapturedBy : {R T : Type 0} → Opening → (R → Option (List ℕ)) → Inputs R → Inputs R → Result T Fault → Type 0
CapturedBy opening remaining before after result =
    TellsFileFaults Capture (IsFaultOfCapture NewEvidence opening) (remaining (inner_of before.capture)) (failures_of before.capture) (failures_of after.capture) result

-- no failed read of the keys or the MACs is told, where the fault is another's
abbrev pub NoneOfSeals : {R : Type 0} → (U : Type 0) → Inputs R → Inputs R → Fault → Type 0
NoneOfSeals U before after told =
    (IsOther Keys told → TellsFailedReads {T = U} Keys (given_failures before.keys) (given_failures after.keys) (Err told))
    × (IsOther Macs told → TellsFailedReads {T = U} Macs (given_failures before.macs) (given_failures after.macs) (Err told))

module _ {R U : Type 0} {remaining : R → Option (List ℕ)} {before after : Inputs R} where
  -- the keys or the MACs are at fault
  pub unsealed : {T : Type 0} (moments : Moments) (told : Fault) → after.capture ≡ before.capture → after.anchors ≡ before.anchors → after.statements ≡ before.statements → after.answers ≡ before.answers
      → ((keys_octets macs_octets : Option (List ℕ)) → IsToldBy remaining before.keys keys_octets → IsToldBy remaining before.macs macs_octets
      → OfOctets (IsFaultOfOpeningAt keys_octets macs_octets moments) told)
      → TellsFailedReads {T = T} Keys (given_failures before.keys) (given_failures after.keys) (Err told)
      → TellsFailedReads {T = T} Macs (given_failures before.macs) (given_failures after.macs) (Err told)
      → IsAbout Keys told ⊎ IsAbout Macs told
      → TellsFaultsBeside {T = U} (IsFirstFaultOfFiles moments) remaining before after (Err told)
  unsealed moments told capture_stays anchors_stay statements_stay answers_stay faults keys_reads macs_reads about = record {
    first = λ files are.
        OfOctets-weaker (IsFaultOfOpeningAt files.keys files.macs moments) (IsFirstFaultOfFiles moments files) told (λ fault holds. inl holds)
        (faults files.keys files.macs are.keys are.macs);
    reads = record {
      capture = reads_untouched (failures_of before.capture) (failures_of after.capture) (Err told) (ap failures_of capture_stays)
          (about_either told about (λ is. cc) (λ is. cc));
      anchors = reads_untouched (given_failures before.anchors) (given_failures after.anchors) (Err told) (ap given_failures anchors_stay)
          (about_either told about (λ is. cc) (λ is. cc));
      statements = reads_untouched (given_failures before.statements) (given_failures after.statements) (Err told) (ap given_failures statements_stay)
          (about_either told about (λ is. cc) (λ is. cc));
      answers = reads_untouched (given_failures before.answers) (given_failures after.answers) (Err told) (ap given_failures answers_stay)
          (about_either told about (λ is. cc) (λ is. cc));
      keys = reads_passed told keys_reads;
      macs = reads_passed told macs_reads;
      opened = either_opened Keys Macs told about;
    };
    unread = about_either told about (λ is. cc) (λ is. cc);
  }

  module _ (opening : Opening) where
    -- the file of captured messages is at fault
    pub captured : {T : Type 0} (IsFirst : Files → Fault → Type 0) (told : Fault)
        → ((files : Files) → AreToldBeside remaining before files → (fault : Fault) → IsFaultOfCapture NewEvidence opening files.capture fault → IsFirst files fault)
        → after.anchors ≡ before.anchors → after.statements ≡ before.statements → after.answers ≡ before.answers → NoneOfSeals U before after told
        → CapturedBy {T = T} opening remaining before after (Err told) → TellsFaultsBeside {T = U} IsFirst remaining before after (Err told)
    captured IsFirst told first anchors_stay statements_stay answers_stay seals tells = record {
      first = λ files are.
          OfOctets-weaker (IsFaultOfCapture NewEvidence opening files.capture) (IsFirst files) told (first files are)
          (of_told (λ octets. OfOctets (IsFaultOfCapture NewEvidence opening octets) told) are.capture tells.told);
      reads = record {
        capture = reads_passed told tells.reads;
        anchors = reads_untouched (given_failures before.anchors) (given_failures after.anchors) (Err told) (ap given_failures anchors_stay)
            (about_another Anchors told tells.about (λ is. cc));
        statements = reads_untouched (given_failures before.statements) (given_failures after.statements) (Err told) (ap given_failures statements_stay)
            (about_another Statements told tells.about (λ is. cc));
        answers = reads_untouched (given_failures before.answers) (given_failures after.answers) (Err told) (ap given_failures answers_stay)
            (about_another Answers told tells.about (λ is. cc));
        keys = seals.0 (about_another Keys told tells.about (λ is. cc));
        macs = seals.1 (about_another Macs told tells.about (λ is. cc));
        opened = about_opened Capture told tells.about;
      };
      unread = about_another Questions told tells.about (λ is. cc);
    }

    module _ (moments : Moments)
        (opens : (files : Files) → AreToldBeside remaining before files → IsOpeningAt files.keys files.macs moments opening) where
      -- the file of captured messages is taken, and the trust anchors are at fault
      pub anchored : {T V : Type 0} (x : V) (told : Fault) → after.statements ≡ before.statements → after.answers ≡ before.answers → NoneOfSeals U before after told
          → CapturedBy {T = V} opening remaining before after (Ok x)
          → ((file : List ℕ) → remaining (inner_of before.capture) ≡ Some file → HasEvidence opening file)
          → ((octets : Option (List ℕ)) → IsToldBy remaining before.anchors octets → OfOctets (IsFaultOfAnchors (octets_or_none octets)) told)
          → TellsFailedReads {T = T} Anchors (given_failures before.anchors) (given_failures after.anchors) (Err told)
          → IsAbout Anchors told
          → TellsFaultsBeside {T = U} (IsFirstFaultOfFiles moments) remaining before after (Err told)
      anchored x told statements_stay answers_stay seals tells held faults reads about = record {
        first = λ files are.
            OfOctets-weaker (IsFaultOfAnchors (octets_or_none files.anchors)) (IsFirstFaultOfFiles moments files) told
            (λ fault holds. let evidence = held files.capture are.capture in inr (opening, opens files are, inr (evidence.0, evidence.1, inl holds)))
            (faults files.anchors are.anchors);
        reads = record {
          capture = reads_then x (Err told) tells.reads (about_another Capture told about (λ is. cc));
          anchors = reads_passed told reads;
          statements = reads_untouched (given_failures before.statements) (given_failures after.statements) (Err told) (ap given_failures statements_stay)
              (about_another Statements told about (λ is. cc));
          answers = reads_untouched (given_failures before.answers) (given_failures after.answers) (Err told) (ap given_failures answers_stay)
              (about_another Answers told about (λ is. cc));
          keys = seals.0 (about_another Keys told about (λ is. cc));
          macs = seals.1 (about_another Macs told about (λ is. cc));
          opened = about_opened Anchors told about;
        };
        unread = about_another Questions told about (λ is. cc);
      }

      -- those are taken too, and what is said of signatures is at fault
      pub unsaid : {T V W : Type 0} (x : V) (y : W) (told : Fault) → NoneOfSeals U before after told
          → CapturedBy {T = V} opening remaining before after (Ok x)
          → ((file : List ℕ) → remaining (inner_of before.capture) ≡ Some file → HasEvidence opening file)
          → ((octets : Option (List ℕ)) → IsToldBy remaining before.anchors octets → (anchors : List Anchor) × HasAnchors (octets_or_none octets) anchors)
          → TellsFailedReads {T = W} Anchors (given_failures before.anchors) (given_failures after.anchors) (Ok y)
          → ((files : Files) → AreToldBeside remaining before files → OfOctets (IsFaultBeforeKnown files.capture moments files.statements files.answers) told)
          → TellsFailedReads {T = T} Statements (given_failures before.statements) (given_failures after.statements) (Err told)
          → TellsFailedReads {T = T} Answers (given_failures before.answers) (given_failures after.answers) (Err told)
          → IsAbout Statements told ⊎ IsAbout Answers told
          → TellsFaultsBeside {T = U} (IsFirstFaultOfFiles moments) remaining before after (Err told)
      unsaid x y told seals tells held trusted anchor_reads faults statement_reads answer_reads about = record {
        first = λ files are.
            OfOctets-weaker (IsFaultBeforeKnown files.capture moments files.statements files.answers) (IsFirstFaultOfFiles moments files) told
            (λ fault holds.
            let evidence = held files.capture are.capture in
            inr (
              opening,
              opens files are,
              inr (
                evidence.0,
                evidence.1,
                inr (
                  trusted files.anchors are.anchors,
                  before_known files.capture moments (evidence_of evidence.0).rrsets files.statements files.answers fault holds,
                ),
              ),
            ))
            (faults files are);
        reads = record {
          capture = reads_then x (Err told) tells.reads (about_one_of Statements Answers told about (λ is. cc) (λ is. cc));
          anchors = reads_then y (Err told) anchor_reads (about_one_of Statements Answers told about (λ is. cc) (λ is. cc));
          statements = reads_passed told statement_reads;
          answers = reads_passed told answer_reads;
          keys = seals.0 (about_one_of Statements Answers told about (λ is. cc) (λ is. cc));
          macs = seals.1 (about_one_of Statements Answers told about (λ is. cc) (λ is. cc));
          opened = either_opened Statements Answers told about;
        };
        unread = about_one_of Statements Answers told about (λ is. cc) (λ is. cc);
      }

    -- all are taken
    pub all_taken : {S V W X : Type 0} (moments : Moments) (s : S) (x : V) (y : W) (z : X) (result : Result U Fault)
        → TellsFailedReads {T = S} Keys (given_failures before.keys) (given_failures after.keys) (Ok s)
        → TellsFailedReads {T = S} Macs (given_failures before.macs) (given_failures after.macs) (Ok s)
        → CapturedBy {T = V} opening remaining before after (Ok x)
        → TellsFailedReads {T = W} Anchors (given_failures before.anchors) (given_failures after.anchors) (Ok y)
        → TellsFailedReads {T = X} Statements (given_failures before.statements) (given_failures after.statements) (Ok z)
        → TellsFailedReads {T = X} Answers (given_failures before.answers) (given_failures after.answers) (Ok z)
        → IfErr result (λ told. told ≡ fault.OutOfMemory)
        → TellsFaultsBeside {T = U} (IsFirstFaultOfFiles moments) remaining before after result
    all_taken moments s x y z result keys_reads macs_reads tells anchor_reads statement_reads answer_reads only = record {
      first = λ files are. no_octets (IsFirstFaultOfFiles moments files) result only;
      reads = record {
        capture = reads_then x result tells.reads (not_read result Capture only);
        anchors = reads_then y result anchor_reads (not_read result Anchors only);
        statements = reads_then z result statement_reads (not_read result Statements only);
        answers = reads_then z result answer_reads (not_read result Answers only);
        keys = reads_then s result keys_reads (not_read result Keys only);
        macs = reads_then s result macs_reads (not_read result Macs only);
        opened = not_opened result only;
      };
      unread = not_read result Questions only;
    }

-- the messages of a capture that was taken
pub has_evidence : (opening : Opening) (octets : Option (List ℕ)) (held : Evidence)
    → IfSome octets (λ file. (messages : List Contents) × Holds NewEvidence opening file messages × (held ≡ evidence_of messages))
    → (file : List ℕ) → octets ≡ Some file → HasEvidence opening file
has_evidence opening octets held taken file is =
    let messages = of_told (λ file. (messages : List Contents) × Holds NewEvidence opening file messages × (held ≡ evidence_of messages)) is taken in
    (messages.0, messages.1)
