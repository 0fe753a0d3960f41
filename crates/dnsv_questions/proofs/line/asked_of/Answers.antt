use Rattle.std.proofs.lemmas.Option.{MatchOption-at_none}
use Rattle.std.proofs.Common.{arith}
use Rattle.dnsv_questions.proofs.LineLemmas.{no_name, no_type}
use Rattle.dnsv_questions.proofs.line.asked_of.Goals as goal

pub returns-in_default : goal.returns-in_default
returns-in_default c = λ asked is. MatchOption-at_none _ _ c.in_default.is c.two_fields.ensures is.text is.digits is.fields

pub returns-in_default-parse : goal.returns-in_default-parse
returns-in_default-parse c =
    no_name c.args.line.now.octets c.in-Some.name.now c.in-Some.rtype.now c.in-Some.ensures
    (λ labels is_name spelling. c.in_default-parse.not-Ok labels (c.parse.ensures.every labels is_name spelling))

pub returns-in_default-decimal_u16 : goal.returns-in_default-decimal_u16
returns-in_default-decimal_u16 c =
    no_type c.args.line.now.octets c.in-Some.name.now c.in-Some.rtype.now c.in-Some.ensures
    (MatchOption-at_none _ _ c.in_default-decimal_u16.is c.decimal_u16.ensures)

pub returns : goal.returns
returns c =
    record {
      text = c.in-Some.name.now;
      digits = c.in-Some.rtype.now;
      fields = c.in-Some.ensures;
      is_name = c.in-Ok.ensures.name.0;
      name = c.in-Ok.ensures.name.1;
      rtype = c.in-Some-decimal_u16.ensures;
      fits = omega arith;
    }
