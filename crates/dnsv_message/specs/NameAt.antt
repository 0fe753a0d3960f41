-- Names in a message (RFC 1035 3.1, 4.1.4): which name the octets spell at a place, and the fault that comes first where
-- they spell none.
pub mod Steps
use Rattle.std.specs.Prelude.{◌≡◌, ◌⊎◌, ℕ, suc, ◌+◌, ◌*◌, ◌^◌, ◌<◌, ◌≤◌, List, [], ◌∷◌, length, take, drop}
use Rattle.dnsv_names.specs.Name.{Labels, IsLabel, wire}
use Rattle.dnsv_names.specs.Octets.{number_at}
use Rattle.dnsv_message.specs.declared.errors.NameFault.{NameFault}
use Rattle.dnsv_message.specs.declared.errors.NameFault.TheVariants.{Short, BadLabel, BadPointer, TooManyPointers, LongName}

-- the octets from the place on begin with this part
abbrev pub PartAt : List ℕ → ℕ → List ℕ → Type 0
PartAt octets place part = take (length part) (drop place octets) ≡ part

-- the number stands in `width` octets from the place on, the highest octet first
abbrev pub NumberAt : List ℕ → ℕ → ℕ → ℕ → Type 0
NumberAt octets place width number = (place + width ≤ length octets) × (number ≡ number_at octets place width)

-- a label stands at the place, behind its length
abbrev pub LabelAt : List ℕ → ℕ → List ℕ → Type 0
LabelAt octets place label = IsLabel label × PartAt octets place (length label ∷ label)

-- a pointer stands at the place: two octets whose top bits are 11 and whose other 14 bits are its target,
-- counted from the message's first octet
abbrev pub PointerAt : List ℕ → ℕ → ℕ → Type 0
PointerAt octets place target = (target < 2 ^ 14) × NumberAt octets place 2 (3 * 2 ^ 14 + target)

-- In a run of labels that began at `run`, with that many pointers left to follow, the octets from the place
-- on spell the labels, and what follows them in the run stands at `end`.
pub data NameAt (octets : List ℕ) : ℕ → ℕ → ℕ → Labels → ℕ → Type 0 where
  root : {place run pointers : ℕ} → NumberAt octets place 1 0 → NameAt octets place run pointers [] (place + 1)
  label : {place run pointers : ℕ} {first : List ℕ} {labels : Labels} {end : ℕ}
      → LabelAt octets place first
      → NameAt octets (place + (1 + length first)) run pointers labels end
      → NameAt octets place run pointers (first ∷ labels) end
  pointer : {place run pointers target : ℕ} {labels : Labels} {end : ℕ}
      → PointerAt octets place target
      → target < run
      → NameAt octets target target pointers labels end
      → NameAt octets place run (suc pointers) labels (place + 2)

-- how many pointers a name follows at most
abbrev pub pointer_limit : ℕ
pointer_limit = 32

-- a name at a place has at most 255 octets written out, and follows at most 32 pointers
abbrev pub NameFrom : List ℕ → ℕ → Labels → ℕ → Type 0
NameFrom octets place name end = NameAt octets place place pointer_limit name end × (length (wire name) ≤ 255)

-- what a length octet announces is not all there
abbrev pub IsTorn : List ℕ → ℕ → Type 0
IsTorn octets place = (octet : ℕ) × NumberAt octets place 1 octet
    × (((0 < octet) × (octet < 64) × (length octets < place + (1 + octet)))
    ⊎ ((192 ≤ octet) × (length octets < place + 2)))

-- No case of `NameAt` goes on at the place, where `size` octets of the name are written out already. Each
-- fault leaves out those before it.
abbrev pub FaultHere : List ℕ → ℕ → ℕ → ℕ → ℕ → NameFault → Type 0
FaultHere octets place run pointers size Short = (length octets ≤ place) ⊎ IsTorn octets place
FaultHere octets place run pointers size BadLabel =
    (octet : ℕ) × NumberAt octets place 1 octet × (64 ≤ octet) × (octet < 192)
FaultHere octets place run pointers size BadPointer =
    (target : ℕ) × PointerAt octets place target × (run ≤ target)
FaultHere octets place run pointers size TooManyPointers =
    (target : ℕ) × PointerAt octets place target × (target < run) × (pointers ≡ 0)
FaultHere octets place run pointers size LongName =
    (label : List ℕ) × LabelAt octets place label × (255 < size + (1 + length label) + 1)

-- the fault of the first place on the spelling where no case goes on
pub data NameFaultAt (octets : List ℕ) : ℕ → ℕ → ℕ → ℕ → NameFault → Type 0 where
  here : {place run pointers size : ℕ} {fault : NameFault}
      → FaultHere octets place run pointers size fault
      → NameFaultAt octets place run pointers size fault
  after_label : {place run pointers size : ℕ} {first : List ℕ} {fault : NameFault}
      → LabelAt octets place first
      → size + (1 + length first) + 1 ≤ 255
      → NameFaultAt octets (place + (1 + length first)) run pointers (size + (1 + length first)) fault
      → NameFaultAt octets place run pointers size fault
  after_pointer : {place run pointers size target : ℕ} {fault : NameFault}
      → PointerAt octets place target
      → target < run
      → NameFaultAt octets target target pointers size fault
      → NameFaultAt octets place run (suc pointers) size fault

-- the fault of a name at a place
abbrev pub NameFaultFrom : List ℕ → ℕ → NameFault → Type 0
NameFaultFrom octets place fault = NameFaultAt octets place place pointer_limit 0 fault
