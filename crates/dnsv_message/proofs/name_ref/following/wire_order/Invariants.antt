use Rattle.std.proofs.Common.{◌≡◌, length}
use Rattle.dnsv_names.specs.Name.{wire, lower_case}
use Rattle.dnsv_names.specs.Octets.{octets_cmp}
use Rattle.dnsv_message.specs.Following.{StandsAt, labels_at}
use Rattle.dnsv_message.proofs.name_ref.following.wire_order.Given as goal

-- the labels so far are the same in lower case, so what is left decides
abbrev pub invariant-loop-a_place : goal.invariant-loop-a_place
invariant-loop-a_place l = record {
  first : StandsAt l.a l.a_place;
  second : StandsAt l.b l.b_place;
  so_far : octets_cmp (wire (lower_case (labels_at l.a l.a_start))) (wire (lower_case (labels_at l.b l.b_start)))
      ≡ octets_cmp (wire (lower_case (labels_at l.a l.a_place))) (wire (lower_case (labels_at l.b l.b_place)));
}

abbrev pub decreases-loop-a_place : goal.decreases-loop-a_place
decreases-loop-a_place l = length (labels_at l.a l.a_place)
