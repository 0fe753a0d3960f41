-- What the comparisons of names keep. The impls of the comparing traits cite it, and no public clause does.
use Rattle.std.specs.Prelude.{◌≡◌, true, List, nat_eq, reverse}
use Rattle.std.proofs.Common.{sym, ap, ◌∙◌}
use Rattle.std.proofs.lemmas.List.{reverse-reverse}
use Rattle.std.proofs.lemmas.Bool.Decides.{Decides-eqb}
use Rattle.std.proofs.lemmas.Cmp.{on_total, lists_total, nat_list_cmp_total}
use Rattle.std.specs.Bool.{Decides, one_answer}
use Rattle.std.specs.Cmp.{IsTotalOrder, Equal-is}
use Rattle.std.specs.Cmp.Lexicographic.{lists_ties, texts_ties}
use Rattle.std.specs.declared.cmp.Ordering.TheVariants.{Equal}
use Rattle.std.specs.Ordering.{eq_by_cmp}
use Rattle.std.specs.Hash.{HashWrites, u8, slice}
use lib.Pointwise.{pointwise, pointwise_decides}
use Rattle.dnsv_names.specs.Name.{Labels, wire, lower_case, SameName, same_name}
use Rattle.dnsv_names.specs.Order.{label_cmp, from_the_right, canonical_cmp}

pub canonical_cmp_total : IsTotalOrder canonical_cmp
canonical_cmp_total = on_total from_the_right (lists_total nat_list_cmp_total)

-- the test of equal names
pub same_name_Decides : (a b : Labels) → Decides (same_name a b) (SameName a b)
same_name_Decides a b = pointwise_decides (pointwise_decides Decides-eqb) (lower_case a) (lower_case b)

reverse_injective : {X : Type 0} (xs ys : List X) → reverse xs ≡ reverse ys → xs ≡ ys
reverse_injective xs ys same = sym (reverse-reverse xs) ∙ ap reverse same ∙ reverse-reverse ys

-- the order tells apart just the names that aren't equal
pub canonical_ties_Decides : (a b : Labels) → Decides (eq_by_cmp canonical_cmp a b) (SameName a b)
canonical_ties_Decides a b =
    let ties : pointwise (pointwise nat_eq) (from_the_right a) (from_the_right b) ≡ eq_by_cmp canonical_cmp a b =
    lists_ties label_cmp texts_ties (from_the_right a) (from_the_right b) in
    let decides : Decides (pointwise (pointwise nat_eq) (from_the_right a) (from_the_right b)) (from_the_right a ≡ from_the_right b) =
    pointwise_decides (pointwise_decides Decides-eqb) (from_the_right a) (from_the_right b) in (
      λ yes. reverse_injective _ _ (decides.0 (ties ∙ yes)),
      λ same. sym ties ∙ decides.1 (ap reverse same),
    )

pub same_name_ties : (a b : Labels) → same_name a b ≡ eq_by_cmp canonical_cmp a b
same_name_ties a b = one_answer (same_name a b) (eq_by_cmp canonical_cmp a b) (same_name_Decides a b) (canonical_ties_Decides a b)

pub canonical_Equal : (a b : Labels) → canonical_cmp a b ≡ Equal → SameName a b
canonical_Equal a b same = (canonical_ties_Decides a b).0 ((Equal-is (canonical_cmp a b)).1 same)

pub SameName_Equal : (a b : Labels) → SameName a b → canonical_cmp a b ≡ Equal
SameName_Equal a b same = (Equal-is (canonical_cmp a b)).0 ((canonical_ties_Decides a b).1 same)

-- what a name feeds a hasher: its wire form in lower case
abbrev pub hash_input_of : Labels → HashWrites
hash_input_of name = slice u8 (wire (lower_case name))

pub hash_respects_eq : (a b : Labels) → same_name a b ≡ true → hash_input_of a ≡ hash_input_of b
hash_respects_eq a b same = ap (λ name. slice u8 (wire name)) ((same_name_Decides a b).0 same)
