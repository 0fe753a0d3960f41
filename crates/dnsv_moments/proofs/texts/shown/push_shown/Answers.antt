use Rattle.std.proofs.Common.{[], inr, refl, sym}
use Rattle.std.proofs.lemmas.List.{append-nil}
use Rattle.std.proofs.lemmas.Option.{MatchOption-at_none}
use Rattle.dnsv_moments.proofs.texts.shown.push_shown.Goals as goal

pub returns-in_default : goal.returns-in_default
returns-in_default c = record {
  some = [];
  is = sym (append-nil c.args.all.now.items);
  are = inr (MatchOption-at_none _ _ c.in_default.is c.shown_border.ensures, refl);
}
