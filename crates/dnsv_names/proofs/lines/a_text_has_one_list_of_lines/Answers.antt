use Rattle.dnsv_names.specs.Lines.{kept_from}
use Rattle.dnsv_names.specs.Lines.LineReading.{lines_in}
use Rattle.dnsv_names.specs.Lines.LineLaws.{HasLines-read, HasLines-only}
use Rattle.dnsv_names.proofs.lines.a_text_has_one_list_of_lines.Goals as goal

pub returns-clause-some : goal.returns-clause-some
returns-clause-some c = λ text. (kept_from 1 (lines_in text), HasLines-read text)

pub returns-clause-only : goal.returns-clause-only
returns-clause-only c = HasLines-only
