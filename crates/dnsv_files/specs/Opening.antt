-- What a frame of a capture is opened by before its message is read: nothing, or the keys by which the message was
-- signed for its receiver (TSIG, RFC 8945).
pub mod Given
pub mod Keys
pub mod Macs
use Rattle.std.specs.Prelude.{◌≡◌, ◌⊎◌, ⊤, ℕ, ◌-◌, List, Option, Some, None, Ok, Err, get_or, length}
use Rattle.dnsv_message.specs.declared.errors.DecodeError.{DecodeError}
use Rattle.dnsv_message.specs.Grammar.{MessageOf, FaultOf}
use Rattle.dnsv_message.specs.Message.{Contents}
use Rattle.dnsv_tsig.specs.declared.error.TsigError.{TsigError}
use Rattle.dnsv_tsig.specs.Answer.{tsig_answer_of}
use Rattle.dnsv_tsig.specs.Opened.{OpenedMessage}
use Rattle.dnsv_files.specs.declared.opening.Opening.{Opening}
use Rattle.dnsv_files.specs.declared.opening.Opening.TheVariants.{Plain, Signed}
use Rattle.dnsv_files.specs.declared.status.Refusal.{Refusal}
use Rattle.dnsv_files.specs.Status.{TellsMessageError, TellsTsigError}

-- the MACs of requests, where they are given: one for each message, in order, and none for one whose request had none
abbrev pub RequestMacs : Type 0
RequestMacs = Option (List (Option (List ℕ)))

-- the MAC of the request that the message with this number answers
abbrev pub request_mac : RequestMacs → ℕ → Option (List ℕ)
request_mac None number = None
request_mac (Some macs) number = get_or macs (number - 1) None

-- where MACs of requests are given, each frame has its own, and no other is there
abbrev pub HasItsMacs : Opening → List (List ℕ) → Type 0
HasItsMacs Plain frames = ⊤
HasItsMacs (Signed keys moment None) frames = ⊤
HasItsMacs (Signed keys moment (Some macs)) frames = length macs ≡ length frames

-- the frame with this number holds the message, as it is or in what it opens to
abbrev pub IsInFrame : Opening → ℕ → List ℕ → Contents → Type 0
IsInFrame Plain number frame message = MessageOf frame message
IsInFrame (Signed keys moment macs) number frame message =
    (opened : OpenedMessage) × tsig_answer_of frame keys moment (request_mac macs number) (Ok opened)
    × MessageOf opened.message message

-- the octets are no message, and are refused as this, with the number of the record at fault
abbrev pub IsUnreadable : List ℕ → Refusal → Option ℕ → Type 0
IsUnreadable octets why record_number =
    (error : DecodeError) × FaultOf octets error × TellsMessageError error why record_number

-- the frame with this number doesn't open, or opens to what is no message, and is refused as this
abbrev pub HoldsNoMessage : Opening → ℕ → List ℕ → Refusal → Option ℕ → Type 0
HoldsNoMessage Plain number frame why record_number = IsUnreadable frame why record_number
HoldsNoMessage (Signed keys moment macs) number frame why record_number =
    ((error : TsigError) × tsig_answer_of frame keys moment (request_mac macs number) (Err error)
    × TellsTsigError error why record_number)
    ⊎ ((opened : OpenedMessage) × tsig_answer_of frame keys moment (request_mac macs number) (Ok opened)
    × IsUnreadable opened.message why record_number)
