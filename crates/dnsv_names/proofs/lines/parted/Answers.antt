use Rattle.std.proofs.Common.{sym, ◌∙◌}
use Rattle.std.proofs.lemmas.List.{take_rest}
use Rattle.dnsv_names.proofs.LineLemmas.{cut, uncut}
use Rattle.dnsv_names.proofs.lines.parted.Goals as goal

pub returns-in_err-place : goal.returns-in_err-place
returns-in_err-place c =
    rw c.from_residual.ensures (uncut c.args.octet c.args.text.now (sym c.place_of.ensures ∙ c.in_err-place.was))

pub returns : goal.returns
returns c =
    rw take_rest (cut c.args.octet c.args.text.now c.in_ok-place.place (sym c.place_of.ensures ∙ c.in_ok-place.was))
