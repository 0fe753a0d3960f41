-- How the reader of a name goes on at a place. No public clause cites this module.
use Rattle.std.specs.Prelude.{◌≡◌, ℕ, ◌+◌, ◌<◌, ◌≤◌, List, length}
use Rattle.dnsv_message.specs.declared.name_at.Step.{Step}
use Rattle.dnsv_message.specs.declared.name_at.Step.TheVariants.{Root, Label, Pointer}
use Rattle.dnsv_message.specs.declared.name_at.Walk.{Walk}
use Rattle.dnsv_message.specs.NameAt.{NumberAt, LabelAt, PointerAt}

-- the step is the one that the octets ask for, where `size` octets of the name are written out already
abbrev pub StepAt : List ℕ → Walk → ℕ → Step → Type 0
StepAt octets walk size Root = NumberAt octets walk.place 1 0
StepAt octets walk size (Label n) =
    (label : List ℕ) × LabelAt octets walk.place label × (n ≡ length label) × (size + (1 + n) + 1 ≤ 255)
StepAt octets walk size (Pointer target) =
    PointerAt octets walk.place target × (target < walk.run) × (0 < walk.pointers)
