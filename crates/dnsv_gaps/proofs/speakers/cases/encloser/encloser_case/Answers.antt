use Rattle.std.proofs.Common.{refl}
use Rattle.dnsv_gaps.proofs.speakers.cases.encloser.encloser_case.Goals as goal

pub returns-in_default : goal.returns-in_default
returns-in_default c = (c.requires.before, c.in_default.ensures)

pub returns : goal.returns
returns c = (
  c.requires.before,
  record {
    longest = c.in-Some.ensures;
    next = refl;
    shown = c.in_ok-shown.ensures;
    covers = c.in_ok-covers.ensures;
    wildcard = c.in_ok-wildcard.ensures;
  },
)
