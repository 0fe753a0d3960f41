use Rattle.std.proofs.Common.{◌++◌}
use Rattle.dnsv_names.specs.Lines.LineFile.{SayEach}
use Rattle.dnsv_names.specs.Lines.{HasLines}
use Rattle.dnsv_tsig.specs.KeyFile.{IsKeyLine}
use Rattle.dnsv_tsig.proofs.key_ring.keys_of.Given as goal

abbrev pub invariant-loop-line : goal.invariant-loop-line
invariant-loop-line l =
    record {
      has : HasLines l.text (l.yielded ++ l.line-iterator);
      each : SayEach IsKeyLine l.yielded l.keys.items;
    }
