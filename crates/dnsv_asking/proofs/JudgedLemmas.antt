-- What is told where all files were taken: the want of memory, or that the question is refused on its way.
use Rattle.std.proofs.Common.{◌≡◌, ◌⊎◌, ◌∙◌, ℕ, Bool, true, false, List, Option, ap, inl, inr, refl, sym, subst}
use Rattle.std.specs.Prelude.{Err, IfErr, IfOk, IsErrOf, IsTrue, Ok, Result, string_bytes}
use Rattle.dnsv_answers.specs.declared.heading.Moments.TheVariants.{At}
use Rattle.dnsv_names.specs.Name.{Labels}
use Rattle.dnsv_canonical.specs.Rrsets.{ReceivedRrset, forms_rrsets}
use Rattle.dnsv_questions.specs.Question.{Asked, IsQuestion}
use Rattle.dnsv_lines.specs.declared.line.Line.{Line}
use Rattle.dnsv_verifier.specs.declared.answer.Answer.{Answer}
use Rattle.dnsv_verifier.specs.declared.entry.Entry.{Entry}
use Rattle.dnsv_anchors.specs.declared.anchor.Anchor.{Anchor}
use Rattle.dnsv_verdict.specs.Way.{IsRefusedFor, IsVerdictOf}
use Rattle.dnsv_verdict.specs.declared.report.Report.{Report}
use Rattle.dnsv_verdict.specs.declared.verdict.Verdict.{Verdict}
use Rattle.dnsv_verdict.specs.declared.verdict.Verdict.TheVariants as verdicts
use Rattle.dnsv_verdict.specs.declared.error.VerdictError.{VerdictError}
use Rattle.dnsv_verdict.specs.declared.error.VerdictError.TheVariants as error
use Rattle.dnsv_chain.specs.Basis.{Basis, basis_of}
use Rattle.dnsv_texts.specs.Checking.{check_text}
use Rattle.dnsv_questions.specs.declared.format.Format.{Format}
use Rattle.dnsv_files.specs.declared.inputs.Inputs.{Inputs}
use Rattle.dnsv_work.specs.declared.judged.Outcome.{Outcome}
use Rattle.dnsv_files.specs.declared.status.Status.TheVariants as status
use Rattle.dnsv_files.specs.Status.{status_code}
use Rattle.dnsv_asking.specs.Asking.{IsAnswer}
use Rattle.dnsv_work.specs.Judged.{IsRefusedOne, verdict_fault, verdict_status}
use Rattle.dnsv_files.specs.declared.status.Fault.{Fault}
use Rattle.dnsv_files.specs.declared.status.Fault.TheVariants as fault
use Rattle.dnsv_files.specs.declared.status.InputFile.{InputFile}
use Rattle.dnsv_files.specs.declared.status.InputFile.TheVariants.{Questions}
use Rattle.dnsv_work.specs.InOrder.{AreGivenBy}
use Rattle.dnsv_asking.specs.Checking.{IsJudged, IsStopped, IsWhy}
use Rattle.dnsv_files.specs.Files.Faults.{OfFailedRead, OfOctets, TellsFaults, TellsFaultsBeside}
use Rattle.dnsv_files.specs.Files.{AreTold, AreToldBeside, Files, given_failures}
use Rattle.dnsv_files.proofs.FileLemmas.Faults.{IsOther, reads_after, reads_untouched, refused_behind, with_questions}
use Rattle.dnsv_work.proofs.ReachedLemmas.{refused_reached, refused_unwritten}
use Rattle.dnsv_files.specs.Told.{IsFaultOf}
use Rattle.dnsv_files.specs.declared.status.Place.{Place}
use Rattle.dnsv_files.specs.declared.status.Refusal.{Refusal}
use Rattle.dnsv_work.specs.Known.{Ground}
use Rattle.dnsv_work.specs.declared.given.Said.{Said}

-- it tells no failed read
verdict_fault_reads : (error : VerdictError) (file : InputFile) → IsOther file (verdict_fault error)
verdict_fault_reads error.AliasLoop file = λ is. cc
verdict_fault_reads other file = λ is. cc

verdict_fault_opens : (error : VerdictError) (file : InputFile) → verdict_fault error ≡ fault.OpenFailed file → ⊥
verdict_fault_opens error.AliasLoop file = λ is. cc
verdict_fault_opens other file = λ is. cc

-- what is so of it is so of what the octets tell
verdict_fault_octets : (P : Fault → Type 0) (error : VerdictError) → P (verdict_fault error) → OfOctets P (verdict_fault error)
verdict_fault_octets P error.OutOfMemory holds = tt
verdict_fault_octets P other holds = holds

verdict_fault_read : (Of : InputFile → Type 0) (error : VerdictError) → OfFailedRead Of (verdict_fault error)
verdict_fault_read Of error.AliasLoop = tt
verdict_fault_read Of other = tt

verdict_fault_writes : (error : VerdictError) → verdict_fault error ≡ fault.WriteFailed → ⊥
verdict_fault_writes error.AliasLoop = λ is. cc
verdict_fault_writes other = λ is. cc

-- the want of memory, or the refusal of a question that is such
abbrev pub IsUnjudged : (VerdictError → Type 0) → Fault → Type 0
IsUnjudged Refused told = (told ≡ fault.OutOfMemory) ⊎ ((error : VerdictError) × Refused error × (told ≡ verdict_fault error))

unjudged_other : {U : Type 0} (Refused : VerdictError → Type 0) (file : InputFile) (result : Result U Fault) → IfErr result (IsUnjudged Refused) → IfErr result (IsOther file)
unjudged_other Refused file (Ok x) only = tt
unjudged_other Refused file (Err told) (inl memory) = subst (IsOther file) (sym memory) (λ is. cc)
unjudged_other Refused file (Err told) (inr refused) = subst (IsOther file) (sym refused.2) (verdict_fault_reads refused.0 file)

unjudged_opened : {U : Type 0} (Refused : VerdictError → Type 0) (result : Result U Fault) → IfErr result (IsUnjudged Refused)
    → IfErr result (λ told. (file : InputFile) → told ≡ fault.OpenFailed file → ⊥)
unjudged_opened Refused (Ok x) only = tt
unjudged_opened Refused (Err told) (inl memory) = λ file is. let bad : fault.OutOfMemory ≡ fault.OpenFailed file = sym memory ∙ is in cc
unjudged_opened Refused (Err told) (inr refused) = λ file is. verdict_fault_opens refused.0 file (sym refused.2 ∙ is)

-- what is refused so is the first fault of all, behind that of the files
module _ (Front Whole : Files → Fault → Type 0) (behind : (files : Files) (fault : Fault) → Front files fault → Whole files fault) where
  unjudged_first : {U : Type 0} (files : Files) (Refused : VerdictError → Type 0) (result : Result U Fault)
      → ((error : VerdictError) → Refused error → Whole files (verdict_fault error))
      → IfErr result (IsUnjudged Refused) → IfErr result (OfOctets (Whole files))
  unjudged_first files Refused (Ok x) stopped only = tt
  unjudged_first files Refused (Err told) stopped (inl memory) = subst (OfOctets (Whole files)) (sym memory) tt
  unjudged_first files Refused (Err told) stopped (inr refused) =
      subst (OfOctets (Whole files)) (sym refused.2) (verdict_fault_octets (Whole files) refused.0 (stopped refused.0 refused.1))

  -- all files are taken, and the question is judged or refused
  pub all_judged : {R S U : Type 0} {remaining : R → Option (List ℕ)} {before after : Inputs R} (Refused : VerdictError → Type 0) (x : S)
      (result : Result U Fault) → TellsFaultsBeside {T = S} Front remaining before after (Ok x) → after.questions ≡ before.questions
      → ((files : Files) (error : VerdictError) → AreTold remaining before files → Refused error → Whole files (verdict_fault error))
      → IfErr result (IsUnjudged Refused) → TellsFaults {T = U} Whole remaining before after result
  all_judged {before = before} {after = after} Refused x result tells same stopped only = record {
    first = λ files are. unjudged_first files Refused result (λ error. stopped files error are) only;
    reads = reads_after x result tells.reads (λ file. unjudged_other Refused file result only) (unjudged_opened Refused result only);
    questions = reads_untouched (given_failures before.questions) (given_failures after.questions) result (ap given_failures same)
        (unjudged_other Refused Questions result only);
  }

-- they are taken, and what they say is refused, or the question is judged or refused
module _ {G : Type 0} (P : Refusal → Place → Type 0) (Refused : G → VerdictError → Type 0) where
  abbrev pub IsUngiven : Fault → Type 0
  IsUngiven told = IsFaultOf P told ⊎ ((knowing : G) × (error : VerdictError) × Refused knowing error × (told ≡ verdict_fault error))

  pub ungiven_read : {U : Type 0} (Of : InputFile → Type 0) (result : Result U Fault) → IfErr result IsUngiven → IfErr result (OfFailedRead Of)
  ungiven_read Of (Ok x) only = tt
  ungiven_read Of (Err told) (inl bad) = refused_reached P Of told bad
  ungiven_read Of (Err told) (inr refused) = subst (OfFailedRead Of) (sym refused.3) (verdict_fault_read Of refused.1)

  pub ungiven_writes : {U : Type 0} (result : Result U Fault) → IfErr result IsUngiven → IfErr result (λ told. told ≡ fault.WriteFailed → ⊥)
  ungiven_writes (Ok x) only = tt
  ungiven_writes (Err told) (inl bad) = refused_unwritten P told bad
  ungiven_writes (Err told) (inr refused) = λ is. verdict_fault_writes refused.1 (sym refused.3 ∙ is)

  pub given_or_refused : {R S U : Type 0} {remaining : R → Option (List ℕ)} {before after : Inputs R} (Front Whole : Files → Fault → Type 0)
      → ((files : Files) (fault : Fault) → Front files fault → Whole files fault) → (x : S)
      (result : Result U Fault) → TellsFaultsBeside {T = S} Front remaining before after (Ok x) → after.questions ≡ before.questions
      → ((files : Files) → AreToldBeside remaining before files → (why : Refusal) (place : Place) → P why place → Front files (fault.Refused why place))
      → ((knowing : G) (files : Files) (error : VerdictError) → AreTold remaining before files → Refused knowing error → Whole files (verdict_fault error))
      → IfErr result IsUngiven → TellsFaults {T = U} Whole remaining before after result
  given_or_refused Front Whole behind x (Ok y) tells same first stopped only =
      all_judged Front Whole behind (λ error. ⊥) x (Ok y) tells same (λ files error are bad. absurd bad) tt
  given_or_refused Front Whole behind x (Err told) tells same first stopped (inl bad) =
      with_questions Front Whole (Err told) behind same (refused_behind Front x told P tells first bad)
  given_or_refused Front Whole behind x (Err told) tells same first stopped (inr refused) =
      all_judged Front Whole behind (Refused refused.0) x (Err told) tells same (stopped refused.0) (inr (refused.1, refused.2, refused.3))

-- a question over files that were all taken is refused on its way
pub stopped_there : (name : Labels) (rtype moment : ℕ) (files : Files) {rrsets : List ReceivedRrset} {anchors : List Anchor} {meaning : Entry → Answer}
    {numbers : Option (List ℕ)} → AreGivenBy (At moment) files rrsets anchors meaning numbers → (error : VerdictError) → IsRefusedFor (basis_of rrsets anchors moment meaning) name rtype error
    → IsStopped name rtype moment files (verdict_fault error)
stopped_there name rtype moment files are error refused = record {
  given = are.given;
  error = error;
  refused = subst (λ (basis : Basis). IsRefusedFor basis name rtype error) are.is refused;
  is = refl;
}

-- what isn't refused as a question that can't be asked can be
stands : (b : Bool) → (¬ ¬ IsTrue b) → IsTrue b
stands true holds = refl
stands false holds = absurd (holds (λ bad. cc))

pub asked_well : {T : Type 0} (name : Labels) (rtype : ℕ) {x : T} → ((¬ IsQuestion name rtype) → IsErrOf (Ok x) error.BadQuestion) → IsQuestion name rtype
asked_well name rtype told =
    let holds : ¬ ¬ IsQuestion name rtype = λ unasked. let bad = told unasked in cc in record {
      forms = stands (forms_rrsets rtype) (λ bad. holds (λ is. bad is.forms));
      not_nsec = λ nsec. holds (λ is. is.not_nsec nsec);
      not_nsec3 = λ nsec3. holds (λ is. is.not_nsec3 nsec3);
      below_root = λ ds root. holds (λ is. is.below_root ds root);
    }

-- no verdict ends as a question that is refused
pub verdict_unrefused : (verdict : Verdict) → verdict_status verdict ≡ status.Refused → ⊥
verdict_unrefused verdicts.Bogus same = cc
verdict_unrefused verdict same = cc

pub judged_unrefused : {E : Type 0} (format : Format) (why : Bool) (name : Labels) (rtype moment : ℕ) (rrsets : List ReceivedRrset) (anchors : List Anchor) (said : Said)
    (result : Result Outcome E)
    → IfOk result (λ outcome. (knowing : Ground (At moment) rrsets said)
    × IsJudged format why knowing.numbers (basis_of rrsets anchors moment knowing.meaning) name rtype outcome.status (string_bytes outcome.text))
    → IfOk result (λ outcome. outcome.status ≡ status.Refused → ⊥)
judged_unrefused format why name rtype moment rrsets anchors said (Ok outcome) judged = λ same. verdict_unrefused judged.1.report.verdict (sym judged.1.ends ∙ same)
judged_unrefused format why name rtype moment rrsets anchors said (Err told) judged = tt

-- ---- a report as an answer

module _ (format : Format) (why : Bool) (numbers : Option (List ℕ)) (basis : Basis) (asked : Asked) (name : Labels) (rtype moment : ℕ) (rrsets : List ReceivedRrset)
    (report : Report) (told : Option (List Line)) where
  pub answered_so : {E : Type 0} (result : Result Outcome E) → name ≡ asked.name → rtype ≡ asked.rtype → rrsets ≡ basis.rrsets → basis.moment ≡ moment
      → IsQuestion name rtype → IsVerdictOf basis name rtype report.links report.last report.verdict → IsWhy why basis rtype report told
      → IfOk result (λ outcome. outcome.status ≡ verdict_status report.verdict)
      → IfOk result (λ outcome. string_bytes outcome.text
      ≡ check_text format name rtype moment (status_code outcome.status) rrsets report.links report.verdict told numbers)
      → IfOk result (λ outcome. IsAnswer format why numbers basis asked outcome.status (string_bytes outcome.text))
  answered_so (Err fault) names types same at may verdict is_told ends lines = tt
  answered_so (Ok outcome) names types same at may verdict is_told ends lines =
      let judged : IsJudged format why numbers basis name rtype outcome.status (string_bytes outcome.text) = record {
        report = report;
        is_verdict = verdict;
        told = told;
        is_told = is_told;
        ends = ends;
        lines = lines
            ∙ (λ i. check_text format name rtype (sym at i) (status_code outcome.status) (same i) report.links report.verdict told numbers);
      } in
      subst (λ (t : ℕ). IsAnswer format why numbers basis (record { name = asked.name; rtype = t }) outcome.status (string_bytes outcome.text)) types
      (subst (λ (n : Labels). IsAnswer format why numbers basis (record { name = n; rtype = rtype }) outcome.status (string_bytes outcome.text)) names (inl (may, judged)))

pub refused_so : {E : Type 0} (format : Format) (why : Bool) (numbers : Option (List ℕ)) (basis : Basis) (asked : Asked) (name : Labels) (rtype : ℕ) (result : Result Outcome E)
    → name ≡ asked.name → rtype ≡ asked.rtype
    → IfOk result (λ outcome. IsRefusedOne format why basis (record { name = name; rtype = rtype }) outcome.status (string_bytes outcome.text))
    → IfOk result (λ outcome. IsAnswer format why numbers basis asked outcome.status (string_bytes outcome.text))
refused_so format why numbers basis asked name rtype (Err fault) names types told = tt
refused_so format why numbers basis asked name rtype (Ok outcome) names types told =
    subst (λ (t : ℕ). IsAnswer format why numbers basis (record { name = asked.name; rtype = t }) outcome.status (string_bytes outcome.text)) types
    (subst (λ (n : Labels). IsAnswer format why numbers basis (record { name = n; rtype = rtype }) outcome.status (string_bytes outcome.text)) names (inr told))

-- what is judged by a case is judged by what is known
module _ (name : Labels) (rtype moment : ℕ) (rrsets : List ReceivedRrset) (anchors : List Anchor) (said : Said) (knowing : Ground (At moment) rrsets said) where
  pub told_by : (format : Format) (why : Bool) {E : Type 0} (result : Result Outcome E)
      → IfOk result (λ outcome. IsJudged format why knowing.numbers (basis_of rrsets anchors moment knowing.meaning) name rtype outcome.status (string_bytes outcome.text))
      → IfOk result (λ outcome. (each : Ground (At moment) rrsets said)
      × IsJudged format why each.numbers (basis_of rrsets anchors moment each.meaning) name rtype outcome.status (string_bytes outcome.text))
  told_by format why (Ok outcome) judged = (knowing, judged)
  told_by format why (Err told) judged = tt

  pub refused_by : (P : Refusal → Place → Type 0) {U : Type 0} (result : Result U Fault)
      → IfErr result (IsUnjudged (IsRefusedFor (basis_of rrsets anchors moment knowing.meaning) name rtype))
      → IfErr result (λ told. IsFaultOf P told ⊎ ((each : Ground (At moment) rrsets said) × (error : VerdictError)
      × IsRefusedFor (basis_of rrsets anchors moment each.meaning) name rtype error × (told ≡ verdict_fault error)))
  refused_by P (Ok x) only = tt
  refused_by P (Err told) (inl memory) = inl (subst (IsFaultOf P) (sym memory) tt)
  refused_by P (Err told) (inr refused) = inr (knowing, refused.0, refused.1, refused.2)
