use Rattle.std.proofs.Common.{◌∙◌, sym}
use Rattle.dnsv_program.proofs.ProgramLemmas.{began, ended_failed, ended_well, wrote}
use Rattle.dnsv_program.proofs.ProgramLemmas.Refusals.{first_wrote, refused_ends, refused_wrote}
use Rattle.dnsv_program.proofs.ProgramLemmas.Told.{quiet_at_end, request_told, words_quiet, words_told}
use Rattle.dnsv_program.proofs.ProgramLemmas.Words.{at_most_7, began_so, words_done, words_failed, words_misused, words_refused, words_untouched}
use Rattle.dnsv_program.proofs.program.exit_status.Goals as goal

pub returns-in-Ok-clause-done : goal.returns-in-Ok-clause-done
returns-in-Ok-clause-done g c = λ ends.
    wrote _ _ _ _ _ _ _ c.in-Ok.ensures.accepted (λ files are. ended_well _ _ (sym c.finish.ensures.code) ends (c.answer-outcome.ensures.done files are))

pub returns-in-Ok-clause-refused : goal.returns-in-Ok-clause-refused
returns-in-Ok-clause-refused g c = λ is_7.
    refused_ends _ _ _ _ _ _ c.in-Ok.ensures.accepted (sym c.finish.ensures.code ∙ is_7) c.answer-outcome.ensures.untouched c.answer-outcome.ensures.refused
    c.finish.ensures.quiet c.answer-outcome.ensures.refused_one c.answer-outcome.ensures.done

pub returns-in-Ok-clause-failed : goal.returns-in-Ok-clause-failed
returns-in-Ok-clause-failed g c = λ is_1.
    ended_failed _ (sym c.finish.ensures.code ∙ is_1) c.answer-outcome.ensures.untouched (λ failed.
    (c.answer-outcome.ensures.write failed, began_so _ _ _ _ (began _ _ _ _ _ c.in-Ok.ensures.accepted (λ files are. c.answer-outcome.ensures.begun files are failed))))
    (λ memory. first_wrote _ _ _ _ _ c.in-Ok.ensures.accepted (c.answer-outcome.ensures.whole memory))

pub returns-in-Err-clause-done : goal.returns-in-Err-clause-done
returns-in-Err-clause-done g c = words_done _ c.in-Err.error _ _ _ _ _ c.in-Err.ensures.refused c.refuse.ensures.code c.refuse.ensures.helped

pub returns-in-Err-clause-refused : goal.returns-in-Err-clause-refused
returns-in-Err-clause-refused g c = words_refused (g.M.Machine.given_words c.args.machine.now) c.in-Err.error _ c.refuse.ensures.code

pub returns-in-Err-clause-misused : goal.returns-in-Err-clause-misused
returns-in-Err-clause-misused g c = words_misused _ c.in-Err.error _ c.in-Err.ensures.refused c.refuse.ensures.code

pub returns-in-Err-clause-untouched : goal.returns-in-Err-clause-untouched
returns-in-Err-clause-untouched g c = words_untouched c.in-Err.error _ c.refuse.ensures.untouched

pub returns-in-Err-clause-failed : goal.returns-in-Err-clause-failed
returns-in-Err-clause-failed g c = words_failed _ c.in-Err.error _ _ _ _ c.in-Err.ensures.refused c.refuse.ensures.untouched

pub returns-in-Err-clause-codes : goal.returns-in-Err-clause-codes
returns-in-Err-clause-codes g c = at_most_7 c.in-Err.error _ c.refuse.ensures.code

pub returns-in-Ok-clause-told : goal.returns-in-Ok-clause-told
returns-in-Ok-clause-told g c =
    request_told _ _ _ _ _ _ _ _ (sym c.finish.ensures.code) c.in-Ok.ensures.accepted c.answer-outcome.ensures.first c.answer-outcome.ensures.reached
    c.answer-outcome.ensures.question c.answer-outcome.ensures.unopened c.answer-outcome.ensures.untouched c.answer-outcome.ensures.write
    (λ memory. first_wrote _ _ _ _ _ c.in-Ok.ensures.accepted (c.answer-outcome.ensures.whole memory)) c.finish.ensures.told c.finish.ensures.quiet
    (λ refused. refused_wrote _ _ _ _ _ _ c.in-Ok.ensures.accepted refused c.answer-outcome.ensures.refused_one c.answer-outcome.ensures.done)

pub returns-in-Ok-clause-quiet : goal.returns-in-Ok-clause-quiet
returns-in-Ok-clause-quiet g c = λ ends. quiet_at_end _ _ (sym c.finish.ensures.code) ends c.finish.ensures.quiet

pub returns-in-Err-clause-told : goal.returns-in-Err-clause-told
returns-in-Err-clause-told g c = words_told c.in-Err.error _ c.refuse.ensures.code _ _ _ _ _ c.in-Err.ensures.refused c.refuse.ensures.told

pub returns-in-Err-clause-quiet : goal.returns-in-Err-clause-quiet
returns-in-Err-clause-quiet g c = words_quiet c.in-Err.error _ c.refuse.ensures.code c.refuse.ensures.quiet
