use Rattle.std.proofs.Common.{◌∙◌, ap}
use Rattle.dnsv_names.specs.Lines.LineReading.{lines_in}
use Rattle.dnsv_names.specs.Lines.LineLaws.{lines_in-ended, lines_in-whole}
use Rattle.dnsv_names.proofs.lines.first_line.Goals as goal

pub returns-in-Some-clause-first : goal.returns-in-Some-clause-first
returns-in-Some-clause-first c =
    ap lines_in c.in-Some.ensures.0
    ∙ lines_in-ended c.in-Some.found.0.now c.in-Some.found.1.now c.in-Some.ensures.1

pub returns-in-None-clause-first : goal.returns-in-None-clause-first
returns-in-None-clause-first c = lines_in-whole c.args.text.now c.requires c.in-None.ensures
