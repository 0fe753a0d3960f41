use Rattle.dnsv_answers.proofs.HeadingLemmas.{heading_told}
use Rattle.dnsv_answers.proofs.heading.heading_of.Goals as goal

pub returns-in-Some : goal.returns-in-Some
returns-in-Some c = heading_told c.args.line.now.octets _ c.heading_at.result c.in-Some.ensures c.heading_at.ensures

pub returns : goal.returns
returns c = heading_told c.args.line.now.octets _ c.heading_between.result c.in-Some-four_fields.ensures c.heading_between.ensures
