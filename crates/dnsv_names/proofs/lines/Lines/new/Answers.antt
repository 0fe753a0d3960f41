use Rattle.dnsv_names.specs.Lines.LineLaws.{HasLines-read}
use Rattle.dnsv_names.proofs.lines.Lines.new.Goals as goal

pub returns : goal.returns
returns c = HasLines-read c.args.text.now
