use Rattle.std.proofs.Common.{◌≡◌, ◌<◌, ◌≤◌, ◌-◌, length}
use Rattle.std.specs.Io.KnownBytes.{Consumes}
use Rattle.dnsv_message.specs.declared.TheConstants.{FILE_LIMIT}
use Rattle.dnsv_message.proofs.streams.file.read_all.Given as goal

-- no read failed, and the octets are what was read
abbrev pub invariant-loop-octets : goal.invariant-loop-octets
invariant-loop-octets g l = record {
  room : 0 < length l.piece;
  piece : length l.piece ≤ 4096;
  none_failed : l.reader.failures ≡ l.fn.reader.failures;
  read : Consumes (g.R.Read.remaining l.fn.reader.inner) (g.R.Read.remaining l.reader.inner) l.octets.items;
  within : length l.octets.items ≤ FILE_LIMIT;
}

abbrev pub decreases-loop-octets : goal.decreases-loop-octets
decreases-loop-octets g l = FILE_LIMIT - length l.octets.items
