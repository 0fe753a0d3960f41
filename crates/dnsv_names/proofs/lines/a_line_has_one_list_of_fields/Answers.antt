use Rattle.dnsv_names.specs.Lines.LineLaws.{AreFields-only}
use Rattle.dnsv_names.proofs.lines.a_line_has_one_list_of_fields.Goals as goal

pub returns : goal.returns
returns c = AreFields-only
