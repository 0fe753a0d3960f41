use Rattle.std.specs.Prelude.{string_bytes}
use Rattle.dnsv_asking.proofs.asking.tell_one.Goals as goal

pub returns-clause-begun : goal.returns-clause-begun
returns-clause-begun g c = λ basis is same at failed. (
  c.in_ok-outcome.outcome.status,
  string_bytes c.in_ok-outcome.outcome.text,
  c.in_ok-outcome.ensures.answer basis is same at,
  rw c.as_bytes.ensures.value at c.in-Err.ensures.begun,
)
