-- How far two wire forms are alike from the right, and walks along their labels. No public clause cites this module.
use Rattle.std.specs.Prelude.{◌≡◌, ℕ, zero, suc, ◌-◌, ◌<◌, ◌≤◌, List, length, drop, map, Option, Some, None, IfSome}
use denote.Ref.{Bor}
use Rattle.std.specs.Char.{to_ascii_lowercase}
use Rattle.dnsv_names.specs.Name.{Labels, wire}
use Rattle.dnsv_names.specs.Name.Spelling.{labels_of}

-- the last n octets of both are the same in lower case
abbrev pub EndAlike : List ℕ → List ℕ → ℕ → Type 0
EndAlike a b n =
    (n ≤ length a) × (n ≤ length b)
    × (map to_ascii_lowercase (drop (length a - n) a) ≡ map to_ascii_lowercase (drop (length b - n) b))

-- the wire form of the label before the k-th place and of what follows it, where there is one
abbrev pub LabelBefore : Labels → ℕ → Option (Bor (List ℕ)) → Type 0
LabelBefore labels zero None = Unit {0}
LabelBefore labels zero (Some octets) = ⊥
LabelBefore labels (suc k) None = ⊥
LabelBefore labels (suc k) (Some octets) = octets.now ≡ wire (drop k labels)

-- of a name, the rest is the wire form of the labels from some place on, and the label stands right before them
pub record Walked (octets rest : List ℕ) (label : Option (Bor (List ℕ))) : Type 0 where
  pub k : ℕ
  pub within : k ≤ length (labels_of octets)
  pub form : rest ≡ wire (drop k (labels_of octets))
  pub before : LabelBefore (labels_of octets) k label

-- the rest is the first that has at most `reach` octets
pub record WalkedTo (octets : List ℕ) (reach : ℕ) (rest : List ℕ) (label : Option (Bor (List ℕ))) : Type 0 where
  pub walked : Walked octets rest label
  pub near : length rest ≤ reach
  pub far : IfSome label (λ before. reach < length before.now)
