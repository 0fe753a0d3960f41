use Rattle.std.specs.Prelude.{string_bytes}
use Rattle.dnsv_evidence_texts.specs.Showing.{question_line}
use Rattle.dnsv_lines.proofs.JsonLemmas.{Joined}
use Rattle.dnsv_evidence_texts.proofs.showing.push_questions.Given as goal

abbrev pub invariant-loop-question : goal.invariant-loop-question
invariant-loop-question l = Joined question_line l.questions l.question-index (string_bytes l.fn.text) (string_bytes l.text)
