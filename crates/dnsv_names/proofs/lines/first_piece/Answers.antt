use Rattle.std.proofs.Common.{◌∙◌, ap}
use Rattle.dnsv_names.specs.Lines.LineReading.{pieces_in}
use Rattle.dnsv_names.specs.Lines.LineLaws.{pieces_in-field, pieces_in-last}
use Rattle.dnsv_names.proofs.lines.first_piece.Goals as goal

pub returns-in-Some : goal.returns-in-Some
returns-in-Some c =
    ap pieces_in c.in-Some.ensures.0
    ∙ pieces_in-field c.in-Some.first.now c.in-Some.rest.now c.in-Some.ensures.1

pub returns-in-None : goal.returns-in-None
returns-in-None c = pieces_in-last c.args.text.now c.in-None.ensures
