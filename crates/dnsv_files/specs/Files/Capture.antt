-- Files of captured messages: which messages a file holds, and what it is refused for.
use Rattle.std.specs.Prelude.{◌≡◌, ◌⊎◌, ⊤, ℕ, suc, List, [], ◌∷◌, Option, Some, None}
use Rattle.dnsv_message.specs.Streams.Frames.{IsCapture, HasZeroLength, EndsTorn, IsTooLong}
use Rattle.dnsv_message.specs.Message.{Contents}
use Rattle.dnsv_canonical.specs.declared.capture.CaptureError.{CaptureError}
use Rattle.dnsv_canonical.specs.Evidence.{Evidence, IsEvidence, no_evidence, with_message}
use Rattle.dnsv_canonical.specs.Evidence as evidence
use Rattle.dnsv_files.specs.declared.opening.Opening.{Opening}
use Rattle.dnsv_files.specs.declared.status.Fault.{Fault}
use Rattle.dnsv_files.specs.declared.status.Fault.TheVariants as fault
use Rattle.dnsv_files.specs.declared.status.InputFile.TheVariants.{Capture}
use Rattle.dnsv_files.specs.declared.status.Refusal.{Refusal}
use Rattle.dnsv_files.specs.declared.status.Refusal.TheVariants as refusal
use Rattle.dnsv_files.specs.declared.status.Place.{Place}
use Rattle.dnsv_files.specs.Opening.{HasItsMacs, HoldsNoMessage, IsInFrame}
use Rattle.dnsv_files.specs.Status.{TellsCaptureError}

-- what a request asks of each message: nothing, or that a capture takes it besides those before it
pub data Demand : Type 0 where
  AnyMessage : Demand
  NewEvidence : Demand

-- ---- what a file holds

-- the message is as it is asked to be, besides the evidence of those before it
abbrev pub Meets : Demand → Evidence → Contents → Type 0
Meets AnyMessage held message = ⊤
Meets NewEvidence held message = IsEvidence held message

-- besides the evidence of those before, these frames, the first of which has the number, hold these messages, each as
-- it is asked to be
abbrev pub AllTaken : Demand → Opening → Evidence → ℕ → List (List ℕ) → List Contents → Type 0
AllTaken demand opening held number [] [] = ⊤
AllTaken demand opening held number [] (message ∷ messages) = ⊥
AllTaken demand opening held number (frame ∷ frames) [] = ⊥
AllTaken demand opening held number (frame ∷ frames) (message ∷ messages) =
    (IsInFrame opening number frame message × Meets demand held message)
    × AllTaken demand opening (with_message held message) (suc number) frames messages

-- the file is frames of captured messages, which are these, and each is as it is asked to be
pub record Holds (demand : Demand) (opening : Opening) (file : List ℕ) (messages : List Contents) : Type 0 where
  pub frames : List (List ℕ)
  pub framing : IsCapture file frames
  pub counted : HasItsMacs opening frames
  pub taken : AllTaken demand opening no_evidence 1 frames messages

-- ---- what is refused instead

-- the message isn't as it is asked to be, and is refused as this, with the number of the record at fault
abbrev pub Fails : Demand → Evidence → Contents → Refusal → Option ℕ → Type 0
Fails AnyMessage held message why record_number = ⊥
Fails NewEvidence held message why record_number =
    (error : CaptureError) × evidence.IsReasonAgainst held message error × TellsCaptureError error why record_number

-- the frame with this number holds no message, or one that isn't as it is asked to be, and is refused as this, with
-- the number of the record at fault
abbrev pub FrameRefused : Demand → Opening → Evidence → ℕ → List ℕ → Refusal → Option ℕ → Type 0
FrameRefused demand opening held number frame why record_number =
    HoldsNoMessage opening number frame why record_number
    ⊎ ((message : Contents) × IsInFrame opening number frame message × Fails demand held message why record_number)

-- of these frames, the first of which has the number, the first whose message isn't taken is refused so
abbrev pub FirstRefused : Demand → Opening → Evidence → ℕ → List (List ℕ) → Refusal → Place → Type 0
FirstRefused demand opening held number [] why place = ⊥
FirstRefused demand opening held number (frame ∷ frames) why place =
    (FrameRefused demand opening held number frame why place.«record» × (place.message ≡ Some number)
    × (place.line ≡ None))
    ⊎ ((message : Contents) × (IsInFrame opening number frame message × Meets demand held message)
    × FirstRefused demand opening (with_message held message) (suc number) frames why place)

-- no place in particular
abbrev pub IsNowhere : Place → Type 0
IsNowhere place = (place.message ≡ None) × (place.«record» ≡ None) × (place.line ≡ None)

-- there are more or fewer MACs of requests than frames; or there are as many, and a frame's message isn't taken
abbrev pub AreFramesRefused : Demand → Opening → List (List ℕ) → Refusal → Place → Type 0
AreFramesRefused demand opening frames why place =
    ((HasItsMacs opening frames → ⊥) × (why ≡ refusal.MacCount) × IsNowhere place)
    ⊎ (HasItsMacs opening frames × FirstRefused demand opening no_evidence 1 frames why place)

-- the file is refused so: its framing is torn, or its frames are refused
abbrev pub IsRefusal : Demand → Opening → List ℕ → Refusal → Place → Type 0
IsRefusal demand opening file why place =
    (HasZeroLength file × (why ≡ refusal.ZeroLength) × IsNowhere place)
    ⊎ (EndsTorn file × (why ≡ refusal.TornFrame) × IsNowhere place)
    ⊎ ((frames : List (List ℕ)) × IsCapture file frames × AreFramesRefused demand opening frames why place)

-- the file has this fault: it is refused so, or it is too long
abbrev pub IsFaultOfCapture : Demand → Opening → List ℕ → Fault → Type 0
IsFaultOfCapture demand opening file (fault.Refused why place) = IsRefusal demand opening file why place
IsFaultOfCapture demand opening file (fault.TooLong Capture) = IsTooLong file
IsFaultOfCapture demand opening file _ = ⊥
