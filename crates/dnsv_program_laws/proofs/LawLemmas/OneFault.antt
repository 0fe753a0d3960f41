-- For its files a request has at most one first fault, and none where it has a text.
use Rattle.std.proofs.Common.{◌≡◌, ℕ, Bool, List, Option, Some, None, refl, sym, ap, subst, ◌∙◌, inl, inr, ⊎_elim}
use Rattle.std.specs.Prelude.{string_bytes}
use Rattle.dnsv_answers.specs.declared.heading.Moments.{Moments}
use Rattle.dnsv_answers.specs.declared.heading.Moments.TheVariants.{At, Between}
use Rattle.dnsv_names.specs.Name.{Labels}
use Rattle.dnsv_names.specs.Octets.{AreOctets}
use Rattle.dnsv_names.specs.declared.error.NameError.{NameError}
use Rattle.dnsv_message.specs.Message.{Contents}
use Rattle.dnsv_canonical.specs.Evidence.{evidence_of}
use Rattle.dnsv_canonical.specs.Rrsets.{ReceivedRrset}
use Rattle.dnsv_tsig.specs.Key.{SharedKey}
use Rattle.dnsv_questions.specs.Question.{IsQuestion}
use Rattle.dnsv_chain.specs.Basis.{Basis}
use Rattle.dnsv_verdict.specs.Way.{IsRefusedFor, IsVerdictOf}
use Rattle.dnsv_anchors.specs.declared.anchor.Anchor.{Anchor}
use Rattle.dnsv_files.specs.declared.opening.Opening.{Opening}
use Rattle.dnsv_files.specs.declared.opening.Opening.TheVariants.{Plain, Signed}
use Rattle.dnsv_commands.specs.declared.request.Asking.TheVariants as asking
use Rattle.dnsv_commands.specs.declared.request.Form.{Form}
use Rattle.dnsv_commands.specs.declared.request.Listing.TheVariants as listing
use Rattle.dnsv_commands.specs.declared.request.Request.{Request}
use Rattle.dnsv_commands.specs.declared.request.Request.TheVariants as request
use Rattle.dnsv_files.specs.declared.status.Fault.{Fault}
use Rattle.dnsv_files.specs.declared.status.Fault.TheVariants as fault
use Rattle.dnsv_files.specs.declared.status.Place.{Place}
use Rattle.dnsv_files.specs.declared.status.Refusal.{Refusal}
use Rattle.dnsv_files.specs.declared.status.Refusal.TheVariants as refusal
use Rattle.dnsv_files.specs.declared.status.Status.{Status}
use Rattle.dnsv_files.specs.Files.Anchors.{HasAnchors, IsFaultOfAnchors}
use Rattle.dnsv_questions.specs.declared.format.Format.{Format}
use Rattle.dnsv_files.specs.Files.Capture.{AnyMessage, NewEvidence, Holds, IsFaultOfCapture}
use Rattle.dnsv_work.specs.InOrder.{AreInOrder, basis_in}
use Rattle.dnsv_asking.specs.Checking.{IsAnswered, IsCheck, IsFirstFaultOfCheck, IsFirstFaultOfName, IsStopped}
use Rattle.dnsv_work.specs.Judged.{verdict_fault}
use Rattle.dnsv_files.specs.Opening.Given.{IsOpeningOf, IsFaultOfOpening}
use Rattle.dnsv_work.specs.Opening.{IsFaultOfOpeningAt, IsOpeningAt}
use Rattle.dnsv_program.specs.Timeline.{IsStoppedThroughout}
use Rattle.dnsv_moments.specs.Question.{IsRefusedThroughout}
use Rattle.dnsv_timeline.specs.Range.{IsRange}
use Rattle.dnsv_files.specs.Files.{Files, octets_or_none}
use Rattle.dnsv_files.specs.Opening.Keys.{IsFaultOfKeys, MayHaveKeys}
use Rattle.dnsv_program_laws.specs.Layers.{LayerLaws}
use Rattle.dnsv_work.specs.Question.{IsNameRefused, IsQuestionRefused, Spells}
use Rattle.dnsv_program.specs.Run.{IsFirstFault, IsTextAskedFor, IsFirstFaultOfTimeline, IsFirstFaultThroughout, IsTimelineAsked}
use Rattle.dnsv_work.specs.Faults.{IsFaultOfQuestion, IsFirstFaultBehind, IsFirstFaultOfEvidence, IsFirstFaultOfFiles, IsFirstFaultOfTodo, IsFirstFaultOfAsked, IsFirstFaultOfRange}
use Rattle.dnsv_work.specs.Listing.{IsTodo}
use Rattle.dnsv_files.proofs.FileLemmas.Anchors.{no_anchors_fault, one_anchors_fault}
use Rattle.dnsv_files.proofs.OpeningLemmas.Keys.{no_keys_fault, one_keys_fault}
use Rattle.dnsv_files.proofs.OpeningLemmas.Macs.{no_fault_of_macs, one_macs_fault}
use Rattle.dnsv_program_laws.proofs.LawLemmas.OneCapture.{no_capture_fault, one_capture_fault, one_holding}
use Rattle.dnsv_work.proofs.PlaceLemmas.{same_nowhere}
use Rattle.dnsv_work.proofs.LawLemmas.OneKnown.{known_stands, one_known_fault}
use Rattle.dnsv_program_laws.proofs.LawLemmas.OneText.{one_basis, one_opening, one_opening_at, one_question}
use Rattle.dnsv_files.proofs.FileLemmas.Questions.{no_questions_fault, one_questions_fault}
use Rattle.dnsv_files.proofs.FileLemmas.Statements.{no_statements_fault, one_statements_fault}

module _ (laws : LayerLaws) where
  -- ---- the question

  -- a name that is spelled isn't refused
  spelled_stands : (asked : List ℕ) (name : Labels) (why : Refusal) (place : Place) → Spells asked name → IsNameRefused asked why place → ⊥
  spelled_stands asked name why place spells bad = laws.names.apart asked name bad.0 spells.is_name spells.spelling bad.1

  -- a question that can be asked isn't refused
  question_stands : (asked : List ℕ) (rtype : ℕ) (name : Labels) (told : Fault) → Spells asked name → IsQuestion name rtype → IsFaultOfQuestion asked rtype told → ⊥
  question_stands asked rtype name (fault.Refused why place) spells may (inl bad) = spelled_stands asked name why place spells bad
  question_stands asked rtype name (fault.Refused why place) spells may (inr bad) =
      bad.2.0 (subst (λ (each : Labels). IsQuestion each rtype) (one_question laws asked name bad.0 spells bad.1) may)
  question_stands asked rtype name fault.OutOfMemory spells may bad = bad
  question_stands asked rtype name told spells may bad = bad

  refused_once : (asked : List ℕ) (rtype : ℕ) (a b : Refusal) (p q : Place) → IsQuestionRefused asked rtype a p → IsQuestionRefused asked rtype b q → fault.Refused a p ≡ fault.Refused b q
  refused_once asked rtype a b p q (inl x) (inl y) =
      let errors : x.0 ≡ y.0 = laws.names.one_fault asked x.0 y.0 x.1 y.1 in
      λ i. fault.Refused ((x.2 ∙ ap (λ (e : NameError). refusal.Name e) errors ∙ sym y.2) i) (same_nowhere p q x.3 y.3 i)
  refused_once asked rtype a b p q (inl x) (inr y) = absurd (spelled_stands asked y.0 a p y.1 x)
  refused_once asked rtype a b p q (inr x) (inl y) = absurd (spelled_stands asked x.0 b q x.1 y)
  refused_once asked rtype a b p q (inr x) (inr y) = λ i. fault.Refused ((x.2.1 ∙ sym y.2.1) i) (same_nowhere p q x.2.2 y.2.2 i)

  one_question_fault : (asked : List ℕ) (rtype : ℕ) (a b : Fault) → IsFaultOfQuestion asked rtype a → IsFaultOfQuestion asked rtype b → a ≡ b
  one_question_fault asked rtype (fault.Refused a p) (fault.Refused b q) x y = refused_once asked rtype a b p q x y
  one_question_fault asked rtype fault.OutOfMemory b x y = absurd x
  one_question_fault asked rtype (fault.ReadFailed file) b x y = absurd x
  one_question_fault asked rtype (fault.TooLong file) b x y = absurd x
  one_question_fault asked rtype (fault.OpenFailed file) b x y = absurd x
  one_question_fault asked rtype fault.WriteFailed b x y = absurd x
  one_question_fault asked rtype a fault.OutOfMemory x y = absurd y
  one_question_fault asked rtype a (fault.ReadFailed file) x y = absurd y
  one_question_fault asked rtype a (fault.TooLong file) x y = absurd y
  one_question_fault asked rtype a (fault.OpenFailed file) x y = absurd y
  one_question_fault asked rtype a fault.WriteFailed x y = absurd y

  -- what is behind a question that can be asked has one fault, and so has it
  one_asked_fault : (asked : List ℕ) (rtype : ℕ) (Behind : Labels → Fault → Type 0) (a b : Fault)
      → ((name : Labels) → Behind name a → Behind name b → a ≡ b)
      → IsFirstFaultOfAsked asked rtype Behind a → IsFirstFaultOfAsked asked rtype Behind b → a ≡ b
  one_asked_fault asked rtype Behind a b one (inl x) (inl y) = one_question_fault asked rtype a b x y
  one_asked_fault asked rtype Behind a b one (inl x) (inr y) = absurd (question_stands asked rtype y.0 a y.1 y.2 x)
  one_asked_fault asked rtype Behind a b one (inr x) (inl y) = absurd (question_stands asked rtype x.0 b x.1 x.2 y)
  one_asked_fault asked rtype Behind a b one (inr x) (inr y) =
      one y.0 (subst (λ (name : Labels). Behind name a) (one_question laws asked x.0 y.0 x.1 y.1) x.3) y.3

  -- a question that can be asked has no fault, where none is behind it
  asked_stands : (asked : List ℕ) (rtype : ℕ) (name : Labels) (Behind : Labels → Fault → Type 0) (told : Fault) → Spells asked name → IsQuestion name rtype
      → (Behind name told → ⊥) → IsFirstFaultOfAsked asked rtype Behind told → ⊥
  asked_stands asked rtype name Behind told spells may none (inl bad) = question_stands asked rtype name told spells may bad
  asked_stands asked rtype name Behind told spells may none (inr bad) =
      none (subst (λ (each : Labels). Behind each told) (one_question laws asked bad.0 name bad.1 spells) bad.3)

  -- ---- the range

  one_range_fault : (from to : ℕ) (Behind : Fault → Type 0) (a b : Fault) → (IsRange from to → Behind a → Behind b → a ≡ b)
      → IsFirstFaultOfRange from to Behind a → IsFirstFaultOfRange from to Behind b → a ≡ b
  one_range_fault from to Behind a b one (inl x) (inl y) = x.1 ∙ sym y.1
  one_range_fault from to Behind a b one (inl x) (inr y) = absurd (x.0 y.0)
  one_range_fault from to Behind a b one (inr x) (inl y) = absurd (y.0 x.0)
  one_range_fault from to Behind a b one (inr x) (inr y) = one x.0 x.1 y.1

  range_stands : (from to : ℕ) (Behind : Fault → Type 0) (told : Fault) → IsRange from to → (Behind told → ⊥) → IsFirstFaultOfRange from to Behind told → ⊥
  range_stands from to Behind told range none (inl bad) = bad.0 range
  range_stands from to Behind told range none (inr bad) = none bad.1

  -- ---- the keys and the MACs

  module _ (keys_file macs_file : Option (List ℕ)) where
    keys_stand : (keys : Option (List SharedKey)) (told : Fault) → MayHaveKeys keys_file keys → IsFaultOfKeys (octets_or_none keys_file) told → ⊥
    keys_stand = no_keys_fault laws.tsig.one_ring laws.tsig.one_fault laws.tsig.apart keys_file

    -- what frames are opened by has no fault
    opening_stands : (moment : ℕ) (opening : Opening) (told : Fault) → IsOpeningOf keys_file macs_file moment opening → IsFaultOfOpening keys_file macs_file told → ⊥
    opening_stands moment Plain told x (inl bad) = keys_stand None told x bad
    opening_stands moment Plain told x (inr bad) =
        let same = one_opening laws keys_file None moment Plain (Signed bad.0.0 moment None) x (bad.0.1, refl, refl) in cc
    opening_stands moment (Signed keys now macs) told x (inl bad) = keys_stand (Some keys) told x.0 bad
    opening_stands moment (Signed keys now macs) told x (inr bad) = no_fault_of_macs macs_file macs told x.2 bad.1

    one_opening_fault : (a b : Fault) → IsFaultOfOpening keys_file macs_file a → IsFaultOfOpening keys_file macs_file b → a ≡ b
    one_opening_fault a b (inl x) (inl y) = one_keys_fault laws.tsig.one_ring laws.tsig.one_fault laws.tsig.apart (octets_or_none keys_file) a b x y
    one_opening_fault a b (inl x) (inr y) = absurd (keys_stand (Some y.0.0) a y.0.1 x)
    one_opening_fault a b (inr x) (inl y) = absurd (keys_stand (Some x.0.0) b x.0.1 y)
    one_opening_fault a b (inr x) (inr y) = one_macs_fault (octets_or_none macs_file) a b x.1 y.1

    opening_stands_at : (moments : Moments) (opening : Opening) (told : Fault) → IsOpeningAt keys_file macs_file moments opening → IsFaultOfOpeningAt keys_file macs_file moments told → ⊥
    opening_stands_at (At moment) opening told x bad = opening_stands moment opening told x bad
    opening_stands_at (Between from to) opening told x bad = bad

    one_opening_fault_at : (moments : Moments) (a b : Fault) → IsFaultOfOpeningAt keys_file macs_file moments a → IsFaultOfOpeningAt keys_file macs_file moments b → a ≡ b
    one_opening_fault_at (At moment) a b x y = one_opening_fault a b x y
    one_opening_fault_at (Between from to) a b x y = absurd x

  -- ---- the files

  module _ (files : Files) (are : AreOctets files.capture) where
    anchors_stand : (said : List Anchor) (told : Fault) → HasAnchors (octets_or_none files.anchors) said → IsFaultOfAnchors (octets_or_none files.anchors) told → ⊥
    anchors_stand said told =
        let text = octets_or_none files.anchors in no_anchors_fault text said told (laws.verdicts.anchors_apart text said)

    one_fault_behind : (moments : Moments) (rrsets : List ReceivedRrset) (a b : Fault) → IsFirstFaultBehind moments rrsets files a → IsFirstFaultBehind moments rrsets files b → a ≡ b
    one_fault_behind moments rrsets a b (inl x) (inl y) =
        let text = octets_or_none files.anchors in one_anchors_fault text a b (laws.verdicts.one_fault_of_anchors text) x y
    one_fault_behind moments rrsets a b (inl x) (inr y) = absurd (anchors_stand y.0.0 a y.0.1 x)
    one_fault_behind moments rrsets a b (inr x) (inl y) = absurd (anchors_stand x.0.0 b x.0.1 y)
    one_fault_behind moments rrsets a b (inr x) (inr y) = one_known_fault files.capture moments rrsets files.statements files.answers a b x.1 y.1

    holding_stands : (opening : Opening) (messages : List Contents) (told : Fault) → Holds NewEvidence opening files.capture messages → IsFaultOfCapture NewEvidence opening files.capture told → ⊥
    holding_stands opening = no_capture_fault laws NewEvidence opening files.capture are

    one_fault_of_evidence : (opening : Opening) (moments : Moments) (a b : Fault) → IsFirstFaultOfEvidence opening moments files a → IsFirstFaultOfEvidence opening moments files b → a ≡ b
    one_fault_of_evidence opening moments a b (inl x) (inl y) = one_capture_fault laws NewEvidence opening files.capture are a b x y
    one_fault_of_evidence opening moments a b (inl x) (inr y) = absurd (holding_stands opening y.0 a y.1 x)
    one_fault_of_evidence opening moments a b (inr x) (inl y) = absurd (holding_stands opening x.0 b x.1 y)
    one_fault_of_evidence opening moments a b (inr x) (inr y) =
        one_fault_behind moments (evidence_of y.0).rrsets a b
        (subst (λ (messages : List Contents). IsFirstFaultBehind moments (evidence_of messages).rrsets files a)
        (one_holding laws NewEvidence opening files.capture are x.0 y.0 x.1 y.1) x.2) y.2

    one_fault_of_files : (moments : Moments) (a b : Fault) → IsFirstFaultOfFiles moments files a → IsFirstFaultOfFiles moments files b → a ≡ b
    one_fault_of_files moments a b (inl x) (inl y) = one_opening_fault_at files.keys files.macs moments a b x y
    one_fault_of_files moments a b (inl x) (inr y) = absurd (opening_stands_at files.keys files.macs moments y.0 a y.1 x)
    one_fault_of_files moments a b (inr x) (inl y) = absurd (opening_stands_at files.keys files.macs moments x.0 b x.1 y)
    one_fault_of_files moments a b (inr x) (inr y) =
        one_fault_of_evidence y.0 moments a b
        (subst (λ (opening : Opening). IsFirstFaultOfEvidence opening moments files a) (one_opening_at laws files.keys files.macs moments x.0 y.0 x.1 y.1) x.2) y.2

    -- files in order have no fault
    module _ (moments : Moments) (x : AreInOrder moments files) where
      behind_stands : (told : Fault) → IsFirstFaultBehind moments (evidence_of x.messages).rrsets files told → ⊥
      behind_stands told (inl bad) = anchors_stand x.anchors told x.trusted bad
      behind_stands told (inr bad) = known_stands files.capture moments (evidence_of x.messages).rrsets files.statements files.answers x.meaning x.numbers told x.said bad.1

      evidence_stands : (told : Fault) → IsFirstFaultOfEvidence x.opening moments files told → ⊥
      evidence_stands told (inl bad) = holding_stands x.opening x.messages told x.holds bad
      evidence_stands told (inr bad) =
          behind_stands told
          (subst (λ (messages : List Contents). IsFirstFaultBehind moments (evidence_of messages).rrsets files told)
          (one_holding laws NewEvidence x.opening files.capture are bad.0 x.messages bad.1 x.holds) bad.2)

      order_stands : (told : Fault) → IsFirstFaultOfFiles moments files told → ⊥
      order_stands told (inl bad) = opening_stands_at files.keys files.macs moments x.opening told x.opens bad
      order_stands told (inr bad) =
          evidence_stands told
          (subst (λ (opening : Opening). IsFirstFaultOfEvidence opening moments files told) (one_opening_at laws files.keys files.macs moments bad.0 x.opening bad.1 x.opens) bad.2)

    one_stop : (name : Labels) (rtype moment : ℕ) (a b : Fault) → IsStopped name rtype moment files a → IsStopped name rtype moment files b → a ≡ b
    one_stop name rtype moment a b x y =
        let bases = one_basis laws (At moment) files are x.given y.given in
        let errors = laws.verdicts.one_refusal (basis_in y.given) name rtype x.error y.error
        (subst (λ (each : Basis). IsRefusedFor each name rtype x.error) bases x.refused) y.refused in
        x.is ∙ ap verdict_fault errors ∙ sym y.is

    one_fault_of_name : (name : Labels) (rtype moment : ℕ) (a b : Fault) → IsFirstFaultOfName name rtype moment files a → IsFirstFaultOfName name rtype moment files b → a ≡ b
    one_fault_of_name name rtype moment a b (inl x) (inl y) = one_fault_of_files (At moment) a b x y
    one_fault_of_name name rtype moment a b (inl x) (inr y) = absurd (order_stands (At moment) y.given a x)
    one_fault_of_name name rtype moment a b (inr x) (inl y) = absurd (order_stands (At moment) x.given b y)
    one_fault_of_name name rtype moment a b (inr x) (inr y) = one_stop name rtype moment a b x y

    -- ---- a range

    -- a question is refused throughout by one number
    one_stop_throughout : {from to : ℕ} → IsRange from to → (name : Labels) (rtype : ℕ) (a b : Fault) → IsStoppedThroughout name rtype from to files a
        → IsStoppedThroughout name rtype from to files b → a ≡ b
    one_stop_throughout {from} {to} range name rtype a b x y =
        let bases = one_basis laws (Between from to) files are x.given y.given in
        let same = subst (λ (each : Basis). IsRefusedThroughout each from to name rtype x.error) bases x.refused in
        let errors = laws.timelines.one_refusal (basis_in y.given) from to name rtype x.error y.error range.turned same y.refused in
        x.is ∙ ap verdict_fault errors ∙ sym y.is

    one_fault_throughout : {from to : ℕ} → IsRange from to → (name : Labels) (rtype : ℕ) (a b : Fault)
        → IsFirstFaultThroughout name rtype from to files a → IsFirstFaultThroughout name rtype from to files b → a ≡ b
    one_fault_throughout {from} {to} range name rtype a b (inl x) (inl y) = one_fault_of_files (Between from to) a b x y
    one_fault_throughout {from} {to} range name rtype a b (inl x) (inr y) = absurd (order_stands (Between from to) y.given a x)
    one_fault_throughout {from} {to} range name rtype a b (inr x) (inl y) = absurd (order_stands (Between from to) x.given b y)
    one_fault_throughout range name rtype a b (inr x) (inr y) = one_stop_throughout range name rtype a b x y

    -- ---- questions

    one_fault_of_check : (asked : List ℕ) (rtype moment : ℕ) (a b : Fault) → IsFirstFaultOfCheck asked rtype moment files a → IsFirstFaultOfCheck asked rtype moment files b → a ≡ b
    one_fault_of_check asked rtype moment a b =
        one_asked_fault asked rtype (λ name. IsFirstFaultOfName name rtype moment files) a b (λ name. one_fault_of_name name rtype moment a b)

    one_fault_of_timeline : (asked : List ℕ) (rtype from to : ℕ) (a b : Fault) → IsFirstFaultOfTimeline asked rtype from to files a → IsFirstFaultOfTimeline asked rtype from to files b → a ≡ b
    one_fault_of_timeline asked rtype from to a b =
        one_asked_fault asked rtype (λ name. IsFirstFaultOfRange from to (IsFirstFaultThroughout name rtype from to files)) a b
        (λ name. one_range_fault from to (IsFirstFaultThroughout name rtype from to files) a b (λ range. one_fault_throughout range name rtype a b))

    one_todo_fault : (a b : Fault) → IsFirstFaultOfTodo files a → IsFirstFaultOfTodo files b → a ≡ b
    one_todo_fault a b (inl x) (inl y) = one_capture_fault laws NewEvidence Plain files.capture are a b x y
    one_todo_fault a b (inl x) (inr y) = absurd (holding_stands Plain y.0.0 a y.0.1 x)
    one_todo_fault a b (inr x) (inl y) = absurd (holding_stands Plain x.0.0 b x.0.1 y)
    one_todo_fault a b (inr x) (inr y) = one_statements_fault (octets_or_none files.statements) a b x.1 y.1

    -- ---- files with a text

    todo_stands : (form : Form) (format : Format) (moments : Moments) (text : List ℕ) (told : Fault) → IsTodo form format moments files text → IsFirstFaultOfTodo files told → ⊥
    todo_stands form format moments text told x (inl captured) = holding_stands Plain x.messages told x.holds captured
    todo_stands form format moments text told x (inr stated) = no_statements_fault (octets_or_none files.statements) x.meaning told x.said stated.1

    -- a question with a verdict isn't refused
    verdict_stands : (format : Format) (why : Bool) (name : Labels) (rtype moment : ℕ) (end : Status) (text : List ℕ) → IsCheck format why name rtype moment files end text
        → (told : Fault) → IsStopped name rtype moment files told → ⊥
    verdict_stands format why name rtype moment end text x told y =
        let bases = one_basis laws (At moment) files are x.given y.given in
        laws.verdicts.verdict_apart (basis_in y.given) name rtype x.judged.report.links x.judged.report.last x.judged.report.verdict y.error
        (subst (λ (each : Basis). IsVerdictOf each name rtype x.judged.report.links x.judged.report.last x.judged.report.verdict) bases x.judged.is_verdict) y.refused

    answer_stands : (format : Format) (why : Bool) (asked : List ℕ) (rtype moment : ℕ) (end : Status) (text : List ℕ) (told : Fault)
        → IsAnswered format why asked rtype moment files end text → IsFirstFaultOfCheck asked rtype moment files told → ⊥
    answer_stands format why asked rtype moment end text told x =
        asked_stands asked rtype x.0 (λ name. IsFirstFaultOfName name rtype moment files) told x.1 x.2
        (⊎_elim (λ (files_bad : IsFirstFaultOfFiles (At moment) files told). order_stands (At moment) x.3.given told files_bad)
        (λ (stopped : IsStopped x.0 rtype moment files told). verdict_stands format why x.0 rtype moment end text x.3 told stopped))

    -- nor is one with a timeline
    timeline_stands : (format : Format) (kinds : Bool) (asked : List ℕ) (rtype from to : ℕ) (text : List ℕ) (told : Fault)
        → IsTimelineAsked format kinds asked rtype from to files text → IsFirstFaultOfTimeline asked rtype from to files told → ⊥
    timeline_stands format kinds asked rtype from to text told x =
        asked_stands asked rtype x.0 (λ name. IsFirstFaultOfRange from to (IsFirstFaultThroughout name rtype from to files)) told x.1 x.2
        (range_stands from to (IsFirstFaultThroughout x.0 rtype from to files) told x.3
        (⊎_elim (λ (files_bad : IsFirstFaultOfFiles (Between from to) files told). order_stands (Between from to) x.4.given told files_bad)
        (λ (stopped : IsStoppedThroughout x.0 rtype from to files told). x.4.timeline.stands stopped.error
        (subst (λ (each : Basis). IsRefusedThroughout each from to x.0 rtype stopped.error)
        (one_basis laws (Between from to) files are stopped.given x.4.given) stopped.refused))))

  -- ---- all requests

  -- files that have a text have no fault
  pub text_stands : (asked : Request) (files : Files) → AreOctets files.capture → (end : Status) (text : List ℕ) (told : Fault)
      → IsTextAskedFor asked files end text → IsFirstFault asked files told → ⊥
  text_stands (request.Show capture) files are end text told x bad = no_capture_fault laws AnyMessage Plain files.capture are x.1.0 told x.1.1 bad
  text_stands (request.List capture moment statements listing.All format) files are end text told x bad = no_capture_fault laws NewEvidence Plain files.capture are x.1.0 told x.1.1 bad
  text_stands (request.List capture moment statements (listing.Todo form) format) files are end text told x bad = todo_stands files are form format (At moment) text told x.1 bad
  text_stands (request.ListRange capture from to statements form format) files are end text told x bad =
      range_stands from to (IsFirstFaultOfTodo files) told x.1 (todo_stands files are form format (Between from to) text told x.2) bad
  text_stands (request.Timeline capture anchors from to asked rtype known kinds format) files are end text told x bad =
      timeline_stands files are format kinds (string_bytes asked) rtype.0 from to text told x.1 bad
  text_stands (request.Check capture anchors moment (asking.One asked rtype) statements keys macs format why) files are end text told x bad =
      answer_stands files are format why (string_bytes asked) rtype.0 moment end text told x bad
  text_stands (request.Check capture anchors moment (asking.Each questions) statements keys macs format why) files are end text told x (inl bad) =
      no_questions_fault (octets_or_none files.questions) x.asked told x.has bad
  text_stands (request.Check capture anchors moment (asking.Each questions) statements keys macs format why) files are end text told x (inr bad) =
      order_stands files are (At moment) x.given told bad.1

  -- files have one first fault
  pub one_first_fault : (asked : Request) (files : Files) → AreOctets files.capture → (a b : Fault) → IsFirstFault asked files a → IsFirstFault asked files b → a ≡ b
  one_first_fault (request.Show capture) files are a b x y = one_capture_fault laws AnyMessage Plain files.capture are a b x y
  one_first_fault (request.List capture moment statements listing.All format) files are a b x y = one_capture_fault laws NewEvidence Plain files.capture are a b x y
  one_first_fault (request.List capture moment statements (listing.Todo form) format) files are a b x y = one_todo_fault files are a b x y
  one_first_fault (request.ListRange capture from to statements form format) files are a b x y =
      one_range_fault from to (IsFirstFaultOfTodo files) a b (λ range. one_todo_fault files are a b) x y
  one_first_fault (request.Timeline capture anchors from to asked rtype known kinds format) files are a b x y =
      one_fault_of_timeline files are (string_bytes asked) rtype.0 from to a b x y
  one_first_fault (request.Check capture anchors moment (asking.One asked rtype) statements keys macs format why) files are a b x y =
      one_fault_of_check files are (string_bytes asked) rtype.0 moment a b x y
  one_first_fault (request.Check capture anchors moment (asking.Each questions) statements keys macs format why) files are a b (inl x) (inl y) =
      one_questions_fault (octets_or_none files.questions) a b x y
  one_first_fault (request.Check capture anchors moment (asking.Each questions) statements keys macs format why) files are a b (inl x) (inr y) =
      absurd (no_questions_fault (octets_or_none files.questions) y.0.0 a y.0.1 x)
  one_first_fault (request.Check capture anchors moment (asking.Each questions) statements keys macs format why) files are a b (inr x) (inl y) =
      absurd (no_questions_fault (octets_or_none files.questions) x.0.0 b x.0.1 y)
  one_first_fault (request.Check capture anchors moment (asking.Each questions) statements keys macs format why) files are a b (inr x) (inr y) =
      one_fault_of_files files are (At moment) a b x.1 y.1
