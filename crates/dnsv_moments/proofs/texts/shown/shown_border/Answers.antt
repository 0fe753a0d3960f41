use Rattle.std.proofs.lemmas.Option.{MatchOption-at_none}
use Rattle.dnsv_moments.proofs.texts.shown.shown_border.Goals as goal

pub returns-in_default : goal.returns-in_default
returns-in_default c =
    let none = MatchOption-at_none _ _ c.in_default.is c.shown_signature.ensures in λ shown is. none shown.signature is.signature
