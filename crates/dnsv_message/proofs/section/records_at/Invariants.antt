use Rattle.std.proofs.Common.{◌≤◌, length}
use Rattle.dnsv_message.specs.Grammar.{RecordAt, RecordFaultAt}
use Rattle.dnsv_message.specs.Tail.{LastAt}
use Rattle.dnsv_message.proofs.Sequences.{Reading}
use Rattle.dnsv_message.proofs.section.records_at.Given as goal

abbrev pub invariant-loop-read : goal.invariant-loop-read
invariant-loop-read l = record {
  reading : Reading (RecordAt l.octets) (RecordFaultAt l.octets) l.count l.first l.place l.records.items l.end l.read;
  last : LastAt (RecordAt l.octets) l.place l.records.items l.end l.tail;
  within : l.fn.place ≤ length l.octets → l.end ≤ length l.octets;
}
