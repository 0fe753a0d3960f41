use Rattle.std.proofs.Common.{List, ⊎_elim}
use Rattle.dnsv_names.specs.Name.{Labels}
use Rattle.dnsv_verdict.proofs.WayLemmas.RefusalLemmas.{never_both, one_refused_for, some_answer}
use Rattle.dnsv_verdict.proofs.WayLemmas.{one_way}
use Rattle.dnsv_verdict.specs.Way.{IsRefusedFor, IsVerdictOf}
use Rattle.dnsv_verdict.specs.declared.error.VerdictError.{VerdictError}
use Rattle.dnsv_verdict.specs.declared.link.Link.{Link}
use Rattle.dnsv_verdict.specs.declared.verdict.Verdict.{Verdict}
use Rattle.dnsv_verdict.proofs.laws.ways.a_question_leads_one_way.Goals as goal

pub returns-clause-verdict : goal.returns-clause-verdict
returns-clause-verdict c = one_way

pub returns-clause-refusal : goal.returns-clause-refusal
returns-clause-refusal c = one_refused_for

pub returns-clause-not_both : goal.returns-clause-not_both
returns-clause-not_both c = never_both

pub returns-clause-some : goal.returns-clause-some
returns-clause-some c = λ basis name t no_verdict no_refusal. some_answer basis name t (λ found. ⊎_elim
    (λ (told : (links : List Link) × (last : Labels) × (verdict : Verdict) × IsVerdictOf basis name t links last verdict).
    no_verdict told.0 told.1 told.2 told.3)
    (λ (refused : (error : VerdictError) × IsRefusedFor basis name t error). no_refusal refused.0 refused.1) found)
