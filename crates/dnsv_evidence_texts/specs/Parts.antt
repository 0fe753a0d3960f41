-- A list as it is written: in lines, or as values of JSON.
use Rattle.std.specs.Prelude.{ℕ, Bool, List, map}
use Rattle.std.specs.List.{flat_map}
use Rattle.dnsv_lines.specs.Json.{parted}
use Rattle.dnsv_questions.specs.declared.format.Format.{Format}
use Rattle.dnsv_questions.specs.declared.format.Format.TheVariants.{Json, Lines}

-- a part of it: behind others, or as the first
abbrev pub part : {X : Type 0} → (X → List ℕ) → (X → List ℕ) → Format → Bool → List X → List ℕ
part line json Lines first xs = flat_map line xs
part line json Json first xs = parted first (map json xs)
