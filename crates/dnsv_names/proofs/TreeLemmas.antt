-- When the labels of one name end those of another, and what a wildcard is.
use Rattle.std.proofs.Common.{◌≡◌, ℕ, ◌-◌, ◌≤◌, List, [], ◌∷◌, length, drop, map, sym, ap, ◌∙◌, arith, Bool}
use Rattle.std.specs.Bool.{Decides}
use Rattle.std.specs.Char.{to_ascii_lowercase}
use Rattle.std.specs.Cmp.Lexicographic.{bytes_decides}
use Rattle.dnsv_names.specs.Name.{Labels, IsName, wire, lower_case, IsAtOrBelow}
use Rattle.dnsv_names.specs.Name.Spelling.{labels_of, SpellsName}
use Rattle.dnsv_names.specs.Tree.AncestorLaws.{at_or_below_ends, ends_at_or_below, IsName-drop, IsLabel-asterisk}
use Rattle.dnsv_names.specs.Tree.{asterisk, wildcard_of, IsWildcard, is_wildcard}
use Rattle.dnsv_names.specs.Name.WireLaws.{lower_case-wire, lower_labels, wire-injective, labels_of-wire}
use Rattle.dnsv_names.proofs.NameLemmas.{SpellsName-wire}

-- the test on the octets of the two wire forms
pub at_or_below_Decides : (name above : Labels) (k : ℕ) (octets : List ℕ) (answer : Bool) → IsName name → IsName above → k ≡ length name - length above → length above ≤ length name → octets ≡ wire (drop k name) → Decides answer (map to_ascii_lowercase octets ≡ map to_ascii_lowercase (wire above)) → Decides answer (IsAtOrBelow name above)
at_or_below_Decides name above k octets answer is_name is_above from within form decides =
    let end : IsName (drop k name) = IsName-drop k name is_name in
    let lower_end : map to_ascii_lowercase octets ≡ wire (lower_case (drop k name)) = ap (map to_ascii_lowercase) form ∙ lower_case-wire (drop k name) end.each in
    let lower_above : map to_ascii_lowercase (wire above) ≡ wire (lower_case above) = lower_case-wire above is_above.each in (
      λ yes. at_or_below_ends name above k
          (wire-injective _ _ (lower_labels (drop k name) end.each) (lower_labels above is_above.each) (sym lower_end ∙ decides.0 yes ∙ lower_above)),
      λ below. decides.1 (lower_end ∙ ap wire (ends_at_or_below name above k from below) ∙ sym lower_above),
    )

-- octets of a wildcard's wire form that are few enough spell it
pub record SpellsWildcard (name : Labels) (octets : List ℕ) : Type 0 where
  pub spells : SpellsName octets
  pub labels : labels_of octets ≡ wildcard_of name
  pub is_name : IsName (labels_of octets)

pub spells_wildcard : (name : Labels) (octets : List ℕ) → IsName name → octets ≡ 1 ∷ 42 ∷ wire name → length octets ≤ 255 → SpellsWildcard name octets
spells_wildcard name octets is_name form within =
    let wildcard : IsName (wildcard_of name) = record { each = (IsLabel-asterisk, is_name.each); at_most_255 = omega (arith, ap length form) } in
    let spells : SpellsName octets = SpellsName-wire (wildcard_of name) octets wildcard form in
    record {
      spells = spells;
      labels = ap labels_of form ∙ labels_of-wire (wildcard_of name) wildcard.each;
      is_name = spells.name;
    }

pub is_wildcard_Decides : (name : Labels) → Decides (is_wildcard name) (IsWildcard name)
is_wildcard_Decides [] = (λ is. absurd (cc), λ wildcard. absurd (let e = wildcard.1 in cc))
is_wildcard_Decides (label ∷ labels) = (
  λ is. (labels, ap (λ first. first ∷ labels) ((bytes_decides label asterisk).0 is)),
  λ wildcard. (bytes_decides label asterisk).1 (let e = wildcard.1 in cc),
)
