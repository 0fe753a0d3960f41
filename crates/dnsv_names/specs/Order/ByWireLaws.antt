-- What the order to search by keeps. The impls of the comparing traits cite it, and no public clause does.
use Rattle.std.specs.Prelude.{◌≡◌, [], ◌∷◌, ◌++◌, length, take, drop, nat_eq}
use Rattle.std.proofs.Common.{refl, sym, ap, ◌∙◌, arith, length-append}
use Rattle.std.proofs.lemmas.List.{take_at, drop_at}
use Rattle.std.proofs.lemmas.Cmp.{nat_eq_equiv}
use Rattle.std.specs.Bool.{Decides, one_answer}
use Rattle.std.specs.Cmp.{IsEquivalence, IsTotalOrder, on_equiv}
use Rattle.std.specs.Cmp.Lexicographic.{lists_equiv, on_texts, texts_ties, bytes_decides, pointwise}
use Rattle.std.specs.Ordering.{eq_by_cmp}
use Rattle.dnsv_names.specs.Name.{Labels, wire, lower_case, SameName, same_name}
use Rattle.dnsv_names.specs.Tree.AncestorLaws.{length_lower_wire}
use Rattle.dnsv_names.specs.Name.WireLaws.{wire_not_empty}
use Rattle.dnsv_names.specs.Order.ByWire.{search_octets, search_cmp}
use Rattle.dnsv_names.specs.Order.OrderLaws.{same_name_Decides}

pub same_name_equiv : IsEquivalence same_name
same_name_equiv = on_equiv lower_case (lists_equiv (lists_equiv nat_eq_equiv))

pub search_cmp_total : IsTotalOrder search_cmp
search_cmp_total = on_texts search_octets

-- two lists of labels of one wire form are one
pub same_wire : (a b : Labels) → wire a ≡ wire b → a ≡ b
same_wire [] [] same = refl
same_wire [] (y ∷ b) same = absurd (omega (arith, ap length same, length-append y (wire b), wire_not_empty b))
same_wire (x ∷ a) [] same = absurd (omega (arith, ap length same, length-append x (wire a), wire_not_empty a))
same_wire (x ∷ a) (y ∷ b) same =
    let size : length x ≡ length y = cc in
    let parts : x ++ wire a ≡ y ++ wire b = cc in
    let first : x ≡ y = sym (take_at x (wire a) (length x) refl) ∙ ap (take (length x)) parts ∙ take_at y (wire b) (length x) (sym size) in
    let rest : wire a ≡ wire b = sym (drop_at x (wire a) (length x) refl) ∙ ap (drop (length x)) parts ∙ drop_at y (wire b) (length x) (sym size) in
    λ i. first i ∷ same_wire a b rest i

search_octets_Decides : (a b : Labels) → Decides (eq_by_cmp search_cmp a b) (SameName a b)
search_octets_Decides a b =
    let ties : pointwise nat_eq (search_octets a) (search_octets b) ≡ eq_by_cmp search_cmp a b = texts_ties (search_octets a) (search_octets b) in
    let decides : Decides (pointwise nat_eq (search_octets a) (search_octets b)) (search_octets a ≡ search_octets b) = bytes_decides (search_octets a) (search_octets b) in (
      λ yes. same_wire (lower_case a) (lower_case b) (ap (drop 1) (decides.0 (ties ∙ yes))),
      λ same. sym ties ∙ decides.1 (λ i. (sym (length_lower_wire a) ∙ ap (λ name. length (wire name)) same ∙ length_lower_wire b) i ∷ wire (same i)),
    )

-- the order ties just the names that are equal
pub search_ties : (a b : Labels) → same_name a b ≡ eq_by_cmp search_cmp a b
search_ties a b = one_answer (same_name a b) (eq_by_cmp search_cmp a b) (same_name_Decides a b) (search_octets_Decides a b)
