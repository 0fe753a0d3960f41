-- The owner as it is signed comes of the owner in lower case too (RFC 4034 3.1.3, RFC 4035 5.3.2).
use Rattle.std.proofs.Common.{◌≡◌, ◌+◌, ◌-◌, ◌&&◌, ℕ, Bool, true, false, cond, List, [], ◌∷◌, length, drop, map, refl, ap, ap₂, ◌∙◌, arith}
use Rattle.std.proofs.lemmas.Bool.Decides.{nat_tests}
use Rattle.std.proofs.lemmas.List.{drop-map, length-map}
use Rattle.std.specs.Char.{to_ascii_lowercase}
use Rattle.std.specs.Prelude.{if◌then◌else◌, nat_eq, nat_lt}
use Rattle.std.specs.Str.{bytes_eq}
use Rattle.dnsv_names.specs.Name.{Labels, lower_case, rightmost}
use Rattle.dnsv_names.specs.Tree.{asterisk, is_wildcard, wildcard_of}
use Rattle.dnsv_names.proofs.LowerLemmas.{lower_twice}
use Rattle.dnsv_canonical.specs.SignedData.{signed_label_count, signed_owner}

-- ---- the label `*`

octet_star : (octet : ℕ) → nat_eq (to_ascii_lowercase octet) 42 ≡ nat_eq octet 42
octet_star octet =
    elim (nat_lt octet 65) as (λ b. nat_lt octet 65 ≡ b → nat_eq (cond b octet (cond (nat_lt octet 91) (octet + 32) octet)) 42 ≡ nat_eq octet 42) [
      | true ↦ λ low. refl
      | false ↦ λ high. elim (nat_lt octet 91) as (λ b. nat_eq (cond b (octet + 32) octet) 42 ≡ nat_eq octet 42) [
        | true ↦ grind (arith, nat_tests)
        | false ↦ refl
      ]
    ] refl

label_star : (label : List ℕ) → bytes_eq (map to_ascii_lowercase label) asterisk ≡ bytes_eq label asterisk
label_star [] = refl
label_star (octet ∷ []) = ap (λ b. b && true) (octet_star octet)
label_star (octet ∷ other ∷ label) = ap (λ b. b && false) (octet_star octet)

wildcard_lower : (name : Labels) → is_wildcard (lower_case name) ≡ is_wildcard name
wildcard_lower [] = refl
wildcard_lower (label ∷ name) = label_star label

count_lower : (name : Labels) → signed_label_count (lower_case name) ≡ signed_label_count name
count_lower name =
    ap₂ (λ (wild : Bool) (n : ℕ). if wild then n - 1 else n) (wildcard_lower name) (length-map name (λ label. map to_ascii_lowercase label))

-- ---- lower case of lower case

rightmost_lower : (name : Labels) (n : ℕ) → rightmost (lower_case name) n ≡ lower_case (rightmost name n)
rightmost_lower name n =
    ap (λ (k : ℕ). drop (k - n) (lower_case name)) (length-map name (λ label. map to_ascii_lowercase label))
    ∙ drop-map (λ label. map to_ascii_lowercase label) (length name - n) name

-- ---- the owner

picked : (owner : Labels) (labels : ℕ) (b : Bool)
    → lower_case (if b then wildcard_of (rightmost (lower_case owner) labels) else lower_case owner)
    ≡ lower_case (if b then wildcard_of (rightmost owner labels) else owner)
picked owner labels true =
    ap (λ (name : Labels). lower_case (wildcard_of name)) (rightmost_lower owner labels)
    ∙ ap wildcard_of (lower_twice (rightmost owner labels))
picked owner labels false = lower_twice owner

pub owner_lower : (owner : Labels) (labels : ℕ) → signed_owner (lower_case owner) labels ≡ signed_owner owner labels
owner_lower owner labels =
    ap (λ (count : ℕ). lower_case (if nat_lt labels count then wildcard_of (rightmost (lower_case owner) labels) else lower_case owner)) (count_lower owner)
    ∙ picked owner labels (nat_lt labels (signed_label_count owner))
