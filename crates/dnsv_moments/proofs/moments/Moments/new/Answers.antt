use Rattle.std.proofs.Common.{◌∙◌}
use Rattle.dnsv_moments.proofs.moments.Moments.new.Goals as goal

pub of-requires : goal.of-requires
of-requires g c = (g.V.Verifier.meaning c.args.verifier.now, c.args.capture.now.rrsets, c.in_ok-table.ensures.table)

pub returns-clause-of : goal.returns-clause-of
returns-clause-of g c =
    let within = c.in_ok-table.ensures.table in
    let are = c.of.ensures.of in record {
      evidence = are.evidence ∙ within.of_rrsets;
      given = are.given;
      first = are.first;
      last = are.last;
      said = c.of.ensures.by (g.V.Verifier.meaning c.args.verifier.now) c.args.capture.now.rrsets within;
    }

pub returns-clause-count : goal.returns-clause-count
returns-clause-count g c = rw c.of.ensures.of.answers c.in_ok-table.ensures.count
