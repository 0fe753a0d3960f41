use Rattle.std.proofs.Common.{◌≤◌, ◌-◌, length}
use Rattle.dnsv_names.specs.Name.Spelling.{labels_of}
use Rattle.dnsv_names.proofs.NameLemmas.{Stands}
use Rattle.dnsv_names.proofs.wire.label_count.Given as goal

-- what stands at the place is the wire form of the labels that are not counted yet
abbrev pub invariant-loop-place : goal.invariant-loop-place
invariant-loop-place l =
    Stands l.octets l.place (labels_of l.octets) l.count × (l.count ≤ length (labels_of l.octets))

abbrev pub decreases-loop-place : goal.decreases-loop-place
decreases-loop-place l = length l.octets - l.place
