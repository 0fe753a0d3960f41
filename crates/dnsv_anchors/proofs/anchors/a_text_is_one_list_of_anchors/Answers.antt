use Rattle.dnsv_anchors.proofs.AnchorLaws.{AreAnchorsOf-only, AreAnchorsOf-no_fault, IsFaultOf-only, anchors_or_fault}
use Rattle.dnsv_anchors.proofs.anchors.a_text_is_one_list_of_anchors.Goals as goal

pub returns-clause-anchors : goal.returns-clause-anchors
returns-clause-anchors c = AreAnchorsOf-only

pub returns-clause-fault : goal.returns-clause-fault
returns-clause-fault c = IsFaultOf-only

pub returns-clause-apart : goal.returns-clause-apart
returns-clause-apart c = AreAnchorsOf-no_fault

pub returns-clause-either : goal.returns-clause-either
returns-clause-either c = anchors_or_fault
