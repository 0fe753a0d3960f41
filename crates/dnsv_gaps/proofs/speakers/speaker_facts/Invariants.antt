use Rattle.std.proofs.Common.{◌+◌, ◌-◌}
use Rattle.dnsv_gaps.specs.Asking.{asking}
use Rattle.dnsv_gaps.proofs.SpeakerLemmas.{AreFrom}
use Rattle.dnsv_gaps.proofs.speakers.speaker_facts.Given as goal

-- the known zones with more labels
abbrev pub invariant-loop-above : goal.invariant-loop-above
invariant-loop-above l = AreFrom (asking l.question) (l.count + 1 - l.above) l.speakers.items
