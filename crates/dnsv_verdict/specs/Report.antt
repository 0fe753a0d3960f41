-- What is told of a question, what it is refused for, and what is kept with it.
pub mod Hashed
use Rattle.std.specs.Prelude.{◌≡◌, ◌⊎◌, ℕ, List, IfErr, IsErrOf, Option, Result, map}
use Rattle.dnsv_names.specs.Name.{Labels}
use Rattle.dnsv_canonical.specs.Rrsets.{ReceivedRrset}
use Rattle.dnsv_questions.specs.Question.{IsQuestion}
use Rattle.dnsv_chain.specs.Trusted.{IsSecured}
use Rattle.dnsv_proof_forms.specs.QuestionHashes.{HashedQuestion}
use Rattle.dnsv_verifier.specs.Asked.{IsNumberAsked}
use Rattle.dnsv_verdict.specs.Complete.{TellsWholeChains}
use Rattle.dnsv_verdict.specs.Hope.{HasHope}
use Rattle.dnsv_verdict.specs.Report.Hashed.{IsFewHashedOn, IsNumberHashedOn}
use Rattle.dnsv_verdict.specs.Meaning.{AreOwnOrFromWildcards, IsTrueOfZones}
use Rattle.dnsv_chain.specs.Basis.{Basis, CaseContents}
use Rattle.dnsv_verdict.specs.Way.{IsRefusal, IsVerdictOf, names_on}
use Rattle.dnsv_verdict.specs.declared.error.VerdictError.{VerdictError}
use Rattle.dnsv_verdict.specs.declared.error.VerdictError.TheVariants.{BadQuestion, OutOfMemory}
use Rattle.dnsv_verdict.specs.declared.at_name.Hope.{Hope}
use Rattle.dnsv_verdict.specs.declared.link.Link.{Link}
use Rattle.dnsv_verdict.specs.declared.report.Judged.{Judged}
use Rattle.dnsv_verdict.specs.declared.report.Report.{Report}
use Rattle.dnsv_verdict.specs.declared.verdict.Verdict.{Verdict}

-- ---- what is told

-- the verdict on the question, what it and the aliases before it say of zones, and how much was asked and hashed
pub record IsReport (basis : Basis) (name : Labels) (t : ℕ) (report : Report) : Type 0 where
  pub verdict : IsVerdictOf basis name t report.links report.last report.verdict
  pub meaning : IsTrueOfZones (IsSecured basis.meaning basis.moment basis.rrsets basis.anchors) basis.rrsets
      report.last t report.verdict
  pub aliases : AreOwnOrFromWildcards (IsSecured basis.meaning basis.moment basis.rrsets basis.anchors) basis.rrsets
      report.links
  pub whole_chains : TellsWholeChains basis report.last t report.verdict
  pub asked : IsNumberAsked basis.moment basis.rrsets report.asked
  pub hashed : IsNumberHashedOn basis.rrsets (names_on report.links report.last) report.hashed
  pub few : IsFewHashedOn basis.rrsets (names_on report.links report.last) report.hashed

-- It is refused just for what keeps the question from having a verdict, unless memory runs out; where the type can't be
-- asked at the name, always.
pub record Refuses {T : Type 0} (basis : Basis) (name : Labels) (t : ℕ) (result : Result T VerdictError) : Type 0 where
  pub question : ¬ IsQuestion name t → IsErrOf result BadQuestion
  pub told : IfErr result (λ error. (error ≡ OutOfMemory) ⊎ IsRefusal basis name t error)
  pub refused : (error : VerdictError) → IsRefusal basis name t error
      → IsErrOf result error ⊎ IsErrOf result OutOfMemory

-- ---- what is kept

-- the hashes for a question of the name, with the parameters of the evidence
abbrev pub hashed_in : List ReceivedRrset → Labels → HashedQuestion
hashed_in rrsets name = record { rrsets = rrsets; name = name }

-- the hashes that are kept with a report, whoever else has a share of them
abbrev pub hashes_in : Judged → List HashedQuestion
hashes_in judged = map (λ hashes. hashes.value) judged.hashes.items

-- the hashes for each name of the way, and what the verdict at the last one is hoped by
pub record IsKept
    (case : CaseContents) (t : ℕ) (links : List Link) (last : Labels) (verdict : Verdict) (hashes : List HashedQuestion)
    (hope : Option Hope) : Type 0 where
  pub each_name : hashes ≡ map (hashed_in case.rrsets) (names_on links last)
  pub hoped : HasHope case last t verdict hope
