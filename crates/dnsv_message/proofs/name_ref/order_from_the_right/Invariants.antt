use Rattle.std.proofs.Common.{◌≡◌, drop, map}
use Rattle.std.specs.Cmp.Lexicographic.{slice_cmp}
use Rattle.dnsv_names.specs.Order.{canonical_cmp, from_the_right, label_cmp}
use Rattle.dnsv_message.proofs.name_ref.order_from_the_right.Given as goal

-- the labels so far are the same in lower case, so what is left decides
abbrev pub invariant-loop-passed : goal.invariant-loop-passed
invariant-loop-passed l =
    canonical_cmp (map (λ label. label.now) l.a) (map (λ label. label.now) l.b)
    ≡ slice_cmp label_cmp (drop l.passed (from_the_right (map (λ label. label.now) l.a))) (drop l.passed (from_the_right (map (λ label. label.now) l.b)))
