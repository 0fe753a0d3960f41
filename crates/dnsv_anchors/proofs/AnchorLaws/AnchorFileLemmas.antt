-- Reading a file of anchors, line by line.
use Rattle.std.proofs.Common.{◌≡◌, ◌<◌, ◌⊎◌, inl, inr, ℕ, Result, Err, List, [], ◌∷◌, ◌++◌, length, subst, arith, length-append}
use Rattle.dnsv_names.proofs.LineFileLemmas.{SayTogether, begins, first_fault, first_fault_told, say_more}
use Rattle.dnsv_names.specs.Lines.{HasLines, NumberedLine}
use Rattle.dnsv_anchors.specs.AnchorFile.{AreFew, BeginsWithAnchor, IsAnchorLine, IsFaultOf, IsFaultOfLine}
use Rattle.dnsv_anchors.specs.declared.anchor.Anchor.{Anchor}
use Rattle.dnsv_anchors.specs.declared.anchors.AnchorsError.{AnchorsError}
use Rattle.dnsv_anchors.specs.declared.anchors.AnchorsError.TheVariants.{OutOfMemory}
use Rattle.dnsv_anchors.proofs.AnchorLaws.{anchor_file}

pub anchors_more : {lines : List NumberedLine} {old : List Anchor} (new : List Anchor) (line : NumberedLine) → SayTogether IsAnchorLine AreFew lines old
    → (anchor : Anchor) × IsAnchorLine line.octets anchor × (length old < 64) × (new ≡ old ++ anchor ∷ [])
    → SayTogether IsAnchorLine AreFew (lines ++ line ∷ []) new
anchors_more {lines} {old} new line so_far (anchor, is, room, same) =
    say_more new line so_far (anchor, is, omega (arith, room, length-append old (anchor ∷ [])), same)

pub fault_or_memory : (text : List ℕ) (before : List NumberedLine) (line : NumberedLine) (after : List NumberedLine) (anchors : List Anchor)
    (error : AnchorsError) → HasLines text (before ++ line ∷ after) → SayTogether IsAnchorLine AreFew before anchors
    → ((error ≡ OutOfMemory) × (length anchors < 64) × ((anchor : Anchor) × IsAnchorLine line.octets anchor)) ⊎ IsFaultOfLine error line anchors
    → (error ≡ OutOfMemory) ⊎ IsFaultOf text error
fault_or_memory text before line after anchors error has so_far (inl (out, room, is)) = inl out
fault_or_memory text before line after anchors error has so_far (inr refused) =
    inr (first_fault text before line after anchors error has so_far refused)

pub fault_told : {T : Type 0} (text : List ℕ) (before : List NumberedLine) (line : NumberedLine) (after : List NumberedLine) (anchors : List Anchor)
    (error : AnchorsError) → HasLines text (before ++ line ∷ after) → SayTogether IsAnchorLine AreFew before anchors
    → ((error ≡ OutOfMemory) × (length anchors < 64) × ((anchor : Anchor) × IsAnchorLine line.octets anchor)) ⊎ IsFaultOfLine error line anchors
    → (fault : AnchorsError) → IsFaultOf text fault
    → (◌≡◌ {A = Result T AnchorsError} (Err error) (Err fault)) ⊎ ((◌≡◌ {A = Result T AnchorsError} (Err error) (Err OutOfMemory)) × BeginsWithAnchor text)
fault_told text before line after anchors error has so_far (inl (out, room, is)) =
    first_fault_told anchor_file OutOfMemory text before line after anchors error has so_far (inl (out, is))
fault_told text before line after anchors error has so_far (inr refused) =
    first_fault_told anchor_file OutOfMemory text before line after anchors error has so_far (inr refused)

-- memory is refused to an anchor alone
pub memory_wanted : (text : List ℕ) (before : List NumberedLine) (line : NumberedLine) (after : List NumberedLine) (anchors : List Anchor)
    (error : AnchorsError) → HasLines text (before ++ line ∷ after) → SayTogether IsAnchorLine AreFew before anchors
    → ((error ≡ OutOfMemory) × (length anchors < 64) × ((anchor : Anchor) × IsAnchorLine line.octets anchor)) ⊎ IsFaultOfLine error line anchors
    → error ≡ OutOfMemory → BeginsWithAnchor text
memory_wanted text before line after anchors error has so_far (inl (out, room, is)) same =
    begins IsAnchorLine text before line after anchors has so_far.each is
memory_wanted text before line after anchors error has so_far (inr refused) same =
    absurd (subst (λ (found : AnchorsError). IsFaultOfLine found line anchors) same refused)
