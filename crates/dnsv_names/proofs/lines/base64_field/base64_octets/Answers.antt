use Rattle.dnsv_names.proofs.Base64Lemmas.{exact}
use Rattle.dnsv_names.proofs.lines.base64_field.base64_octets.Goals as goal

pub returns-in-Ok : goal.returns-in-Ok
returns-in-Ok c = exact c.args.field.now c.in-Ok.octets.items c.in-Ok.ensures.bytes c.in-Ok.ensures.exact
