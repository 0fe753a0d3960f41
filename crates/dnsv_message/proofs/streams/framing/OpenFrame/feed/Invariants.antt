use Rattle.std.proofs.Common.{length, ◌-◌, ◌++◌, ◌≤◌, take}
use Rattle.dnsv_message.specs.Streams.Frames.{octets_of_each, IsZero}
use Rattle.dnsv_message.specs.Streams.Framer.{Gains}
use Rattle.dnsv_message.proofs.streams.framing.OpenFrame.feed.Given as goal

-- the piece is read up to the place
abbrev pub invariant-loop-place : goal.invariant-loop-place
invariant-loop-place l = record {
  within : l.place ≤ length l.piece;
  gains : Gains (octets_of_each l.initial.out.items) (octets_of_each l.out.items) (l.initial.self ++ take l.place l.piece) l.self;
  not_zero : ¬ IsZero l.self;
  bounded : length l.self ≤ 65536;
}

abbrev pub decreases-loop-place : goal.decreases-loop-place
decreases-loop-place l = length l.piece - l.place
