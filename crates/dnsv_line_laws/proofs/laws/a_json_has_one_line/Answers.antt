use Rattle.dnsv_line_laws.proofs.OneLine.{same_by_json}
use Rattle.dnsv_line_laws.proofs.Texts.{json_of_same}
use Rattle.dnsv_line_laws.proofs.laws.a_json_has_one_line.Goals as goal

pub returns : goal.returns
returns c =
    (same_by_json c.args.a.now c.args.b.now c.says_what_types_allow.ensures c.says_what_types_allow-2.ensures, json_of_same c.args.a.now c.args.b.now)
