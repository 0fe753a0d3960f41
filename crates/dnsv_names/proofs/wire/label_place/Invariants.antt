use Rattle.dnsv_names.specs.Name.Spelling.{labels_of}
use Rattle.dnsv_names.proofs.NameLemmas.{Stands}
use Rattle.dnsv_names.proofs.wire.label_place.Given as goal

-- what stands at the place is the wire form of the labels that are left
abbrev pub invariant-loop-left : goal.invariant-loop-left
invariant-loop-left l = Stands l.octets l.place (labels_of l.octets) l.left
