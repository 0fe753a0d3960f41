-- Octets that are no message, and a frame that isn't opened, are refused, or memory was wanting.
use Rattle.std.proofs.Common.{◌≡◌, ◌⊎◌, ℕ, List, Option, Some, None, inl, inr, subst, sym}
use Rattle.std.specs.Prelude.{Err, Result}
use Rattle.dnsv_message.specs.Grammar.{FaultOf}
use Rattle.dnsv_message.specs.declared.errors.DecodeError.{DecodeError}
use Rattle.dnsv_message.specs.declared.errors.DecodeError.TheVariants as decode
use Rattle.dnsv_tsig.specs.Answer.{tsig_answer_of}
use Rattle.dnsv_tsig.specs.Key.{SharedKey}
use Rattle.dnsv_tsig.specs.Opened.{OpenedMessage}
use Rattle.dnsv_tsig.specs.declared.error.TsigError.{TsigError}
use Rattle.dnsv_tsig.specs.declared.error.TsigError.TheVariants as tsig
use Rattle.dnsv_files.specs.declared.status.Fault.{Fault}
use Rattle.dnsv_files.specs.declared.status.Fault.TheVariants as fault
use Rattle.dnsv_files.specs.declared.status.InputFile.{InputFile}
use Rattle.dnsv_files.specs.declared.status.Place.{Place}
use Rattle.dnsv_files.specs.declared.status.Refusal.{Refusal}
use Rattle.dnsv_files.specs.Status.{TellsMessageError, TellsTsigError}
use Rattle.dnsv_files.specs.Told.{IsDecodeFault, IsFaultOf, IsTsigFault, IsUnopenedAt, IsUnreadableAt}

module _ (number : ℕ) where
  -- ---- octets that are no message

  message_told_as : (error : DecodeError) (why : Refusal) (place : Place) → IsDecodeFault error number (fault.Refused why place)
      → TellsMessageError error why place.«record» × (place.message ≡ Some number) × (place.line ≡ None)
  message_told_as decode.OutOfMemory why place is = cc
  message_told_as error why place is = is

  -- no fault of another kind is told
  abbrev IsNotOfMessage : Fault → Type 0
  IsNotOfMessage told = (error : DecodeError) → IsDecodeFault error number told → ⊥

  no_message_read : (file : InputFile) → IsNotOfMessage (fault.ReadFailed file)
  no_message_read file decode.OutOfMemory is = cc
  no_message_read file message is = is

  no_message_long : (file : InputFile) → IsNotOfMessage (fault.TooLong file)
  no_message_long file decode.OutOfMemory is = cc
  no_message_long file message is = is

  no_message_unopened : (file : InputFile) → IsNotOfMessage (fault.OpenFailed file)
  no_message_unopened file decode.OutOfMemory is = cc
  no_message_unopened file message is = is

  no_message_unwritten : IsNotOfMessage fault.WriteFailed
  no_message_unwritten decode.OutOfMemory is = cc
  no_message_unwritten message is = is

  unreadable_told : (octets : List ℕ) (error : DecodeError) (told : Fault) → FaultOf octets error → IsDecodeFault error number told
      → IsFaultOf (IsUnreadableAt octets number) told
  unreadable_told octets error (fault.Refused why place) at is =
      let said = message_told_as error why place is in ((error, at, said.0), said.1, said.2)
  unreadable_told octets error fault.OutOfMemory at is = tt
  unreadable_told octets error (fault.ReadFailed file) at is = no_message_read file error is
  unreadable_told octets error (fault.TooLong file) at is = no_message_long file error is
  unreadable_told octets error (fault.OpenFailed file) at is = no_message_unopened file error is
  unreadable_told octets error fault.WriteFailed at is = no_message_unwritten error is

  pub not_read : (octets : List ℕ) (error : DecodeError) (told : Fault) → (error ≡ decode.OutOfMemory) ⊎ FaultOf octets error
      → IsDecodeFault error number told → IsFaultOf (IsUnreadableAt octets number) told
  not_read octets error told (inl memory) is =
      let same : told ≡ fault.OutOfMemory = subst (λ e. IsDecodeFault e number told) memory is in
      subst (IsFaultOf (IsUnreadableAt octets number)) (sym same) tt
  not_read octets error told (inr at) is = unreadable_told octets error told at is

  -- ---- frames that aren't opened

  frame_told_as : (error : TsigError) (why : Refusal) (place : Place) → IsTsigFault error number (fault.Refused why place)
      → TellsTsigError error why place.«record» × (place.message ≡ Some number) × (place.line ≡ None)
  frame_told_as tsig.OutOfMemory why place is = cc
  frame_told_as (tsig.Unreadable error) why place is = message_told_as error why place is
  frame_told_as error why place is = is

  abbrev IsNotOfFrame : Fault → Type 0
  IsNotOfFrame told = (error : TsigError) → IsTsigFault error number told → ⊥

  no_frame_read : (file : InputFile) → IsNotOfFrame (fault.ReadFailed file)
  no_frame_read file tsig.OutOfMemory is = cc
  no_frame_read file (tsig.Unreadable error) is = no_message_read file error is
  no_frame_read file frame is = is

  no_frame_long : (file : InputFile) → IsNotOfFrame (fault.TooLong file)
  no_frame_long file tsig.OutOfMemory is = cc
  no_frame_long file (tsig.Unreadable error) is = no_message_long file error is
  no_frame_long file frame is = is

  no_frame_unopened : (file : InputFile) → IsNotOfFrame (fault.OpenFailed file)
  no_frame_unopened file tsig.OutOfMemory is = cc
  no_frame_unopened file (tsig.Unreadable error) is = no_message_unopened file error is
  no_frame_unopened file frame is = is

  no_frame_unwritten : IsNotOfFrame fault.WriteFailed
  no_frame_unwritten tsig.OutOfMemory is = cc
  no_frame_unwritten (tsig.Unreadable error) is = no_message_unwritten error is
  no_frame_unwritten frame is = is

  unopened_told : (keys : List SharedKey) (now : ℕ) (request : Option (List ℕ)) (frame : List ℕ) (error : TsigError) (told : Fault)
      → tsig_answer_of frame keys now request (Err error) → IsTsigFault error number told
      → IsFaultOf (IsUnopenedAt keys now request frame number) told
  unopened_told keys now request frame error (fault.Refused why place) answer is =
      let said = frame_told_as error why place is in ((error, answer, said.0), said.1, said.2)
  unopened_told keys now request frame error fault.OutOfMemory answer is = tt
  unopened_told keys now request frame error (fault.ReadFailed file) answer is = no_frame_read file error is
  unopened_told keys now request frame error (fault.TooLong file) answer is = no_frame_long file error is
  unopened_told keys now request frame error (fault.OpenFailed file) answer is = no_frame_unopened file error is
  unopened_told keys now request frame error fault.WriteFailed answer is = no_frame_unwritten error is

  wanting : (error : TsigError) (told : Fault) → Path (Result OpenedMessage TsigError) (Err error) (Err tsig.OutOfMemory) → IsTsigFault error number told
      → told ≡ fault.OutOfMemory
  wanting error told memory is = let same : error ≡ tsig.OutOfMemory = cc in subst (λ e. IsTsigFault e number told) same is

  pub not_opened : (keys : List SharedKey) (now : ℕ) (request : Option (List ℕ)) (frame : List ℕ) (error : TsigError) (told : Fault)
      → Path (Result OpenedMessage TsigError) (Err error) (Err tsig.OutOfMemory) ⊎ tsig_answer_of frame keys now request (Err error)
      → IsTsigFault error number told → IsFaultOf (IsUnopenedAt keys now request frame number) told
  not_opened keys now request frame error told (inl memory) is =
      subst (IsFaultOf (IsUnopenedAt keys now request frame number)) (sym (wanting error told memory is)) tt
  not_opened keys now request frame error told (inr answer) is = unopened_told keys now request frame error told answer is
