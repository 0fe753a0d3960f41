-- Every file of octets has an answer: messages as a request asks for them, a refusal, or an octet too many.
use Rattle.std.proofs.Common.{◌⊎◌, ℕ, suc, List, [], ◌∷◌, Option, Some, None, refl, inl, inr}
use Rattle.std.specs.List.{AllByRecursion}
use Rattle.dnsv_names.specs.Octets.{AreOctets}
use Rattle.dnsv_message.specs.declared.errors.DecodeError.{DecodeError}
use Rattle.dnsv_message.specs.declared.errors.DecodeError.TheVariants as decode
use Rattle.dnsv_message.specs.Streams.Frames.{IsCapture, HasZeroLength, EndsTorn, IsTooLong}
use Rattle.dnsv_message.specs.Grammar.{MessageOf, IsMessage, FaultOf}
use Rattle.dnsv_message.specs.Message.{Contents}
use Rattle.dnsv_canonical.specs.Evidence.{Evidence, no_evidence, with_message}
use Rattle.dnsv_files.specs.declared.status.Place.{Place}
use Rattle.dnsv_files.specs.declared.status.Refusal.{Refusal}
use Rattle.dnsv_files.specs.declared.status.Refusal.TheVariants as refusal
use Rattle.dnsv_files.specs.declared.opening.Opening.TheVariants.{Plain}
use Rattle.dnsv_files.specs.Files.Capture.{AnyMessage, Demand, Meets, Fails, AllTaken, FirstRefused, Holds, IsRefusal}
use Rattle.dnsv_files.specs.Status.{TellsMessageError}
use Rattle.dnsv_evidence_texts.specs.Showing.{message_text, texts_from}
use Rattle.dnsv_work.specs.Showing.{IsShowing}
use Rattle.dnsv_files.specs.Told.{nowhere}

-- each fault of octets is told as some refusal
message_told : (octets : List ℕ) → (FaultOf octets decode.OutOfMemory → ⊥) → (error : DecodeError) → FaultOf octets error
    → (why : Refusal) × (k : Option ℕ) × TellsMessageError error why k
message_told octets no_fault decode.OutOfMemory fault = absurd (no_fault fault)
message_told octets no_fault (decode.BadRdata k) fault = (refusal.Message (decode.BadRdata k), Some k, (refl, refl))
message_told octets no_fault error fault = (refusal.Message error, None, (refl, refl))

-- octets are a message or have a fault, and a message is as it is asked to be or is refused
module _ (demand : Demand)
    (message_or_fault : (octets : List ℕ) → AreOctets octets → ((message : Contents) × MessageOf octets message) ⊎ ((error : DecodeError) × FaultOf octets error))
    (no_fault_of_memory : (octets : List ℕ) → FaultOf octets decode.OutOfMemory → ⊥)
    (meets_or_fails : (held : Evidence) (message : Contents) → IsMessage message
    → Meets demand held message ⊎ ((why : Refusal) × (k : Option ℕ) × Fails demand held message why k)) where
  -- the frames are messages as is asked, or the first that isn't is refused
  abbrev Answer : Evidence → ℕ → List (List ℕ) → Type 0
  Answer held number frames = ((messages : List Contents) × AllTaken demand Plain held number frames messages)
      ⊎ ((why : Refusal) × (place : Place) × FirstRefused demand Plain held number frames why place)

  abbrev at_message : ℕ → Option ℕ → Place
  at_message number k = record { message = Some number; «record» = k; line = None }

  unread : (held : Evidence) (number : ℕ) (octets : List ℕ) (frames : List (List ℕ)) (error : DecodeError) → FaultOf octets error
      → (why : Refusal) × (k : Option ℕ) × TellsMessageError error why k → Answer held number (octets ∷ frames)
  unread held number octets frames error fault told =
      inr (told.0, at_message number told.1, inl (inl (error, fault, told.2), refl, refl))

  read : (held : Evidence) (number : ℕ) (octets : List ℕ) (frames : List (List ℕ)) (message : Contents) → MessageOf octets message
      → Meets demand held message ⊎ ((why : Refusal) × (k : Option ℕ) × Fails demand held message why k)
      → Answer (with_message held message) (suc number) frames → Answer held number (octets ∷ frames)
  read held number octets frames message is (inr fails) rest =
      inr (fails.0, at_message number fails.1, inl (inr (message, is, fails.2), refl, refl))
  read held number octets frames message is (inl meets) (inl taken) = inl (message ∷ taken.0, ((is, meets), taken.1))
  read held number octets frames message is (inl meets) (inr refused) = inr (refused.0, refused.1, inr (message, (is, meets), refused.2))

  joined : (held : Evidence) (number : ℕ) (octets : List ℕ) (frames : List (List ℕ)) → AreOctets octets
      → ((held : Evidence) (number : ℕ) → Answer held number frames)
      → ((message : Contents) × MessageOf octets message) ⊎ ((error : DecodeError) × FaultOf octets error) → Answer held number (octets ∷ frames)
  joined held number octets frames are rest (inr fault) = unread held number octets frames fault.0 fault.1 (message_told octets (no_fault_of_memory octets) fault.0 fault.1)
  joined held number octets frames are rest (inl found) =
      read held number octets frames found.0 found.1 (meets_or_fails held found.0 (octets, are, found.1)) (rest (with_message held found.0) (suc number))

  frames_answer : (frames : List (List ℕ)) → AllByRecursion AreOctets frames → (held : Evidence) (number : ℕ) → Answer held number frames
  frames_answer [] each held number = inl ([], tt)
  frames_answer (octets ∷ frames) each held number =
      joined held number octets frames each.0 (frames_answer frames each.1) (message_or_fault octets each.0)

  of_frames : (file : List ℕ) (frames : List (List ℕ)) → IsCapture file frames → Answer no_evidence 1 frames
      → ((messages : List Contents) × Holds demand Plain file messages) ⊎ ((why : Refusal) × (place : Place) × IsRefusal demand Plain file why place)
  of_frames file frames is (inl taken) = inl (taken.0, record { frames = frames; framing = is; counted = tt; taken = taken.1 })
  of_frames file frames is (inr refused) = inr (refused.0, refused.1, inr (inr (frames, is, inr (tt, refused.2))))

  either : {A B C : Type 0} → A ⊎ B → A ⊎ (B ⊎ C)
  either (inl a) = inl a
  either (inr b) = inr (inl b)

  -- the file holds messages as is asked, or is refused, or is too long
  pub file_answer : (file : List ℕ)
      → ((frames : List (List ℕ)) × IsCapture file frames) ⊎ (HasZeroLength file ⊎ (EndsTorn file ⊎ IsTooLong file))
      → ((frames : List (List ℕ)) → IsCapture file frames → AllByRecursion AreOctets frames)
      → ((messages : List Contents) × Holds demand Plain file messages)
      ⊎ (((why : Refusal) × (place : Place) × IsRefusal demand Plain file why place) ⊎ IsTooLong file)
  file_answer file (inl found) are = either (of_frames file found.0 found.1 (frames_answer found.0 (are found.0 found.1) no_evidence 1))
  file_answer file (inr (inl zero_length)) are = inr (inl (refusal.ZeroLength, nowhere, inl (zero_length, refl, (refl, refl, refl))))
  file_answer file (inr (inr (inl torn))) are = inr (inl (refusal.TornFrame, nowhere, inr (inl (torn, refl, (refl, refl, refl)))))
  file_answer file (inr (inr (inr too_long))) are = inr (inr too_long)

-- a file that holds messages has the text of show
pub shown : (file : List ℕ) (Else : Type 0) → ((messages : List Contents) × Holds AnyMessage Plain file messages) ⊎ Else
    → ((text : List ℕ) × IsShowing file text) ⊎ Else
shown file Else (inl held) = inl (texts_from message_text 1 held.0, (held.0, held.1, refl))
shown file Else (inr otherwise) = inr otherwise
