use Rattle.std.proofs.Common.{◌≤◌, length}
use Rattle.dnsv_message.specs.Grammar.{QuestionAt, QuestionFaultAt}
use Rattle.dnsv_message.proofs.Sequences.{Reading}
use Rattle.dnsv_message.proofs.section.questions_at.Given as goal

abbrev pub invariant-loop-read : goal.invariant-loop-read
invariant-loop-read l =
    Reading (QuestionAt l.octets) (QuestionFaultAt l.octets) l.count 1 l.place l.questions.items l.next l.read
    × (l.fn.place ≤ length l.octets → l.next ≤ length l.octets)
