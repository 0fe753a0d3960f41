use Rattle.dnsv_names.proofs.LineLemmas.{first_place}
use Rattle.dnsv_names.proofs.lines.place_of.Goals as goal

pub returns : goal.returns
returns c = first_place c.args.octet c.args.text.now c.memchr.result c.memchr.ensures
