use Rattle.dnsv_lines.specs.Rows.{sentence_of}
use Rattle.dnsv_line_laws.proofs.Types.{sentence_said}
use Rattle.dnsv_line_laws.proofs.laws.says_what_types_allow.Goals as goal

pub returns : goal.returns
returns c =
    sentence_said c.sentence-sentence.result c.deref.result.now (sentence_of c.args.line.now) c.sentence-sentence.ensures
    c.deref.ensures.0 c.are_of_their_types.ensures
