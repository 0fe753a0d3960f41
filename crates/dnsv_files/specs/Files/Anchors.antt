-- Files of trust anchors: what they say, and what they are refused for.
use Rattle.std.specs.Prelude.{◌≡◌, ◌≤◌, ℕ, List, length}
use Rattle.dnsv_message.specs.Streams.Frames.{file_limit}
use Rattle.dnsv_anchors.specs.AnchorFile.{AreAnchorsOf, IsFaultOf}
use Rattle.dnsv_anchors.specs.declared.anchor.Anchor.{Anchor}
use Rattle.dnsv_anchors.specs.declared.anchors.AnchorsError.{AnchorsError}
use Rattle.dnsv_anchors.specs.declared.anchors.AnchorsError.TheVariants as anchors
use Rattle.dnsv_files.specs.declared.status.Fault.{Fault}
use Rattle.dnsv_files.specs.declared.status.InputFile.TheVariants.{Anchors}
use Rattle.dnsv_files.specs.declared.status.Place.{Place}
use Rattle.dnsv_files.specs.declared.status.Refusal.{Refusal}
use Rattle.dnsv_files.specs.declared.status.Refusal.TheVariants as refusal
use Rattle.dnsv_files.specs.Files.Faults.{IsTextFault}
use Rattle.dnsv_files.specs.Files.Statements.{IsAtLine}

-- the trust anchors of a text within the limit
pub record HasAnchors (text : List ℕ) (said : List Anchor) : Type 0 where
  pub within : length text ≤ file_limit
  pub are : AreAnchorsOf text said

-- a fault of trust anchors is told as this refusal, with the number of the line
abbrev pub TellsAnchorsError : AnchorsError → Refusal → Place → Type 0
TellsAnchorsError anchors.OutOfMemory why place = ⊥
TellsAnchorsError (anchors.Syntax number) why place =
    (why ≡ refusal.AnchorLine (anchors.Syntax number)) × IsAtLine number place
TellsAnchorsError (anchors.TooMany number) why place =
    (why ≡ refusal.AnchorLine (anchors.TooMany number)) × IsAtLine number place

-- the text is refused for its first fault
abbrev pub AreAnchorsRefused : List ℕ → Refusal → Place → Type 0
AreAnchorsRefused text why place = (error : AnchorsError) × IsFaultOf text error × TellsAnchorsError error why place

abbrev pub IsFaultOfAnchors : List ℕ → Fault → Type 0
IsFaultOfAnchors = IsTextFault Anchors AreAnchorsRefused
