-- The check of a question over files that were all taken.
use Rattle.std.proofs.Common.{ℕ, Bool, List, Option, subst, string_bytes}
use Rattle.std.specs.Prelude.{Result, Ok, Err, IfOk}
use Rattle.dnsv_names.specs.Name.{Labels}
use Rattle.dnsv_anchors.specs.declared.anchor.Anchor.{Anchor}
use Rattle.dnsv_canonical.specs.Rrsets.{ReceivedRrset}
use Rattle.dnsv_chain.specs.Basis.{Basis, basis_of}
use Rattle.dnsv_answers.specs.declared.heading.Moments.TheVariants.{At}
use Rattle.dnsv_work.specs.InOrder.{AreReadFrom, basis_in}
use Rattle.dnsv_asking.specs.Checking.{IsCheck, IsJudged}
use Rattle.dnsv_work.specs.Known.{Ground}
use Rattle.dnsv_work.specs.declared.given.Said.{Said}
use Rattle.dnsv_files.specs.Files.{Files}
use Rattle.dnsv_work.specs.declared.judged.Outcome.{Outcome}
use Rattle.dnsv_questions.specs.declared.format.Format.{Format}
use Rattle.dnsv_files.specs.declared.status.Fault.{Fault}
use Rattle.dnsv_work.proofs.WorkLemmas.InOrder.{all_given}

-- what is judged by what the files say is judged over them
pub all_checked : (format : Format) (why : Bool) (name : Labels) (rtype moment : ℕ) (files : Files) {rrsets : List ReceivedRrset} {anchors : List Anchor} {said : Said}
    → AreReadFrom (At moment) files rrsets anchors said → (result : Result Outcome Fault)
    → IfOk result (λ outcome. (knowing : Ground (At moment) rrsets said)
    × IsJudged format why knowing.numbers (basis_of rrsets anchors moment knowing.meaning) name rtype outcome.status (string_bytes outcome.text))
    → IfOk result (λ outcome. IsCheck format why name rtype moment files outcome.status (string_bytes outcome.text))
all_checked format why name rtype moment files read (Err told) judged = tt
all_checked format why name rtype moment files read (Ok outcome) judged =
    let knowing = judged.0 in
    let are = all_given (At moment) files read knowing.meaning knowing.numbers knowing.knows in record {
      given = are.given;
      judged = subst (λ (each : Option (List ℕ)). IsJudged format why each (basis_in are.given) name rtype outcome.status (string_bytes outcome.text)) are.told
          (subst (λ (basis : Basis). IsJudged format why knowing.numbers basis name rtype outcome.status (string_bytes outcome.text)) are.is judged.1);
    }
