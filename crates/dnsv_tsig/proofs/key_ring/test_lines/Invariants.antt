use Rattle.std.proofs.Common.{◌++◌, List}
use Rattle.dnsv_names.proofs.LineFileLemmas.{SayTogether}
use Rattle.dnsv_names.specs.Lines.{HasLines}
use Rattle.dnsv_tsig.specs.Key.{SharedKey}
use Rattle.dnsv_tsig.specs.KeyFile.{HaveOwnNames, IsKeyLine}
use Rattle.dnsv_tsig.specs.KeyNames.{AreNamesOf}
use Rattle.dnsv_tsig.proofs.key_ring.test_lines.Given as goal

abbrev pub invariant-loop-line : goal.invariant-loop-line
invariant-loop-line l =
    record {
      has : HasLines l.text (l.yielded ++ l.line-iterator);
      ring : (ring : List SharedKey) × SayTogether IsKeyLine HaveOwnNames l.yielded ring × AreNamesOf l.names ring;
    }
