use Rattle.std.specs.FinSet as set
use Rattle.std.proofs.Common.{ap, ◌∙◌}
use Rattle.dnsv_gaps.specs.Cases.{why_held}
use Rattle.dnsv_gaps.proofs.speakers.cases.at_name.held_by.Goals as goal

pub returns : goal.returns
returns c = record {
  types = λ t. set.contains c.types.result.now t;
  types_at = c.types.ensures;
  held = c.held.result;
  is_held = c.held.ensures;
  is_told = c.why_held.ensures ∙ ap (λ n. why_held n c.held.result) c.number.ensures;
}
