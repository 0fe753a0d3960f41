use Rattle.dnsv_names.proofs.Base64Lemmas.{not_three, three}
use Rattle.dnsv_names.proofs.lines.base64_field.says_three.Goals as goal

pub returns-in-Some : goal.returns-in-Some
returns-in-Some c = three c.in-Some.count c.args.group.now c.in-Some.ensures.said c.in-Some.ensures.every

pub returns-in-None : goal.returns-in-None
returns-in-None c = not_three c.args.group.now c.in-None.ensures.every
