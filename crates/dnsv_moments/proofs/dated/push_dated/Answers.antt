use Rattle.std.proofs.Common.{[], inr, refl, sym}
use Rattle.std.proofs.lemmas.List.{append-nil}
use Rattle.dnsv_moments.proofs.dated.push_dated.Goals as goal

pub returns-in_default : goal.returns-in_default
returns-in_default c = record {
  some = [];
  is = sym (append-nil c.args.all.now.items);
  are = inr (c.in_default.ensures, refl);
}
