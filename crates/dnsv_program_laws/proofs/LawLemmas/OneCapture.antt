-- A file of captured messages holds one list of them, or has one fault.
use Rattle.std.proofs.Common.{◌≡◌, ◌≢◌, ℕ, suc, List, [], ◌∷◌, refl, sym, ap, subst, ◌∙◌, inl, inr, Option}
use Rattle.std.specs.List.{AllByRecursion}
use Rattle.std.specs.Prelude.{length}
use Rattle.dnsv_message.specs.Streams.Frames.{IsTooLong, file_limit}
use Rattle.dnsv_message.specs.Message.{Contents}
use Rattle.dnsv_names.specs.Octets.{AreOctets}
use Rattle.dnsv_canonical.specs.declared.capture.CaptureError.{CaptureError}
use Rattle.dnsv_canonical.specs.declared.capture.CaptureError.TheVariants as capture
use Rattle.dnsv_canonical.specs.Evidence.{Evidence, no_evidence, with_message}
use Rattle.dnsv_files.specs.declared.opening.Opening.{Opening}
use Rattle.dnsv_files.specs.declared.status.Fault.{Fault}
use Rattle.dnsv_files.specs.declared.status.Fault.TheVariants as fault
use Rattle.dnsv_files.specs.declared.status.InputFile.TheVariants.{Anchors, Answers, Capture, Keys, Macs, Questions, Statements}
use Rattle.dnsv_files.specs.declared.status.Place.{Place}
use Rattle.dnsv_files.specs.declared.status.Refusal.{Refusal}
use Rattle.dnsv_files.specs.Files.Capture.{AreFramesRefused, Demand, AnyMessage, NewEvidence, Meets, Fails, AllTaken, Holds, FrameRefused, FirstRefused, IsFaultOfCapture, IsRefusal}
use Rattle.dnsv_files.specs.Opening.{HasItsMacs, IsInFrame}
use Rattle.dnsv_program_laws.specs.Layers.{LayerLaws}
use Rattle.dnsv_files.specs.Status.{TellsCaptureError}
use Rattle.dnsv_program_laws.proofs.LawLemmas.Held.{in_frame_stands, no_message_once, one_in_frame}
use Rattle.dnsv_files.proofs.FileLemmas.Text.{too_many}
use Rattle.dnsv_work.proofs.PlaceLemmas.{same_nowhere, same_place}

-- ---- the messages that are asked for

no_want_of_memory : (error : CaptureError) (why : Refusal) (n : Option ℕ) → TellsCaptureError error why n → error ≢ capture.OutOfMemory
no_want_of_memory capture.OutOfMemory why n told = absurd told
no_want_of_memory error why n told = λ same. cc

capture_told_once : (error : CaptureError) (a b : Refusal) (m n : Option ℕ) → TellsCaptureError error a m → TellsCaptureError error b n → (a ≡ b) × (m ≡ n)
capture_told_once capture.OutOfMemory a b m n x y = absurd x
capture_told_once error a b m n x y = (x.0 ∙ sym y.0, x.1 ∙ sym y.1)

module _ (laws : LayerLaws) where
  meets_or_fails : (demand : Demand) (held : Evidence) (message : Contents) (why : Refusal) (n : Option ℕ) → Meets demand held message → Fails demand held message why n → ⊥
  meets_or_fails AnyMessage held message why n meets fails = fails
  meets_or_fails NewEvidence held message why n meets fails =
      laws.evidence.no_reason_against_evidence held message fails.0 (no_want_of_memory fails.0 why n fails.2) meets fails.1

  fails_once : (demand : Demand) (held : Evidence) (message : Contents) (a b : Refusal) (m n : Option ℕ) → Fails demand held message a m → Fails demand held message b n → (a ≡ b) × (m ≡ n)
  fails_once AnyMessage held message a b m n x y = absurd x
  fails_once NewEvidence held message a b m n x y =
      let same : x.0 ≡ y.0 = laws.evidence.one_reason held message x.0 y.0 (no_want_of_memory x.0 a m x.2) (no_want_of_memory y.0 b n y.2) x.1 y.1 in
      capture_told_once y.0 a b m n (subst (λ (error : CaptureError). TellsCaptureError error a m) same x.2) y.2

  module _ (demand : Demand) (opening : Opening) where
    -- ---- a frame

    module _ (held : Evidence) (number : ℕ) (frame : List ℕ) (are : AreOctets frame) where
      -- a message that is taken isn't refused
      taken_stands : (message : Contents) (why : Refusal) (n : Option ℕ) → IsInFrame opening number frame message × Meets demand held message → FrameRefused demand opening held number frame why n → ⊥
      taken_stands message why n taken (inl none) = in_frame_stands laws number frame are opening message why n taken.0 none
      taken_stands message why n taken (inr failed) =
          meets_or_fails demand held message why n taken.1
          (subst (λ (m : Contents). Fails demand held m why n) (one_in_frame laws number frame are opening failed.0 message failed.1 taken.0) failed.2)

      refused_once : (a b : Refusal) (m n : Option ℕ) → FrameRefused demand opening held number frame a m → FrameRefused demand opening held number frame b n → (a ≡ b) × (m ≡ n)
      refused_once a b m n (inl x) (inl y) = no_message_once laws number frame are opening a b m n x y
      refused_once a b m n (inl x) (inr y) = absurd (in_frame_stands laws number frame are opening y.0 a m y.1 x)
      refused_once a b m n (inr x) (inl y) = absurd (in_frame_stands laws number frame are opening x.0 b n x.1 y)
      refused_once a b m n (inr x) (inr y) =
          fails_once demand held x.0 a b m n x.2
          (subst (λ (message : Contents). Fails demand held message b n) (one_in_frame laws number frame are opening y.0 x.0 y.1 x.1) y.2)

    -- ---- all frames

    one_taken : (held : Evidence) (number : ℕ) (frames : List (List ℕ)) (a b : List Contents) → AllByRecursion AreOctets frames
        → AllTaken demand opening held number frames a → AllTaken demand opening held number frames b → a ≡ b
    one_taken held number [] [] [] are x y = refl
    one_taken held number [] [] (n ∷ b) are x y = absurd y
    one_taken held number [] (m ∷ a) b are x y = absurd x
    one_taken held number (frame ∷ frames) [] b are x y = absurd x
    one_taken held number (frame ∷ frames) (m ∷ a) [] are x y = absurd y
    one_taken held number (frame ∷ frames) (m ∷ a) (n ∷ b) are x y =
        let first : m ≡ n = one_in_frame laws number frame are.0 opening m n x.0.0 y.0.0 in
        ap (λ message. message ∷ a) first
        ∙ ap (λ messages. n ∷ messages)
        (one_taken (with_message held n) (suc number) frames a b are.1
        (subst (λ (message : Contents). AllTaken demand opening (with_message held message) (suc number) frames a) first x.1) y.1)

    all_stand : (held : Evidence) (number : ℕ) (frames : List (List ℕ)) (messages : List Contents) (why : Refusal) (place : Place) → AllByRecursion AreOctets frames
        → AllTaken demand opening held number frames messages → FirstRefused demand opening held number frames why place → ⊥
    all_stand held number [] messages why place are taken refused = refused
    all_stand held number (frame ∷ frames) [] why place are taken refused = taken
    all_stand held number (frame ∷ frames) (message ∷ messages) why place are taken (inl here) =
        taken_stands held number frame are.0 message why place.record taken.0 here.0
    all_stand held number (frame ∷ frames) (message ∷ messages) why place are taken (inr later) =
        all_stand (with_message held message) (suc number) frames messages why place are.1 taken.1
        (subst (λ (m : Contents). FirstRefused demand opening (with_message held m) (suc number) frames why place)
        (one_in_frame laws number frame are.0 opening later.0 message later.1.0 taken.0.0) later.2)

    first_once : (held : Evidence) (number : ℕ) (frames : List (List ℕ)) (a b : Refusal) (p q : Place) → AllByRecursion AreOctets frames
        → FirstRefused demand opening held number frames a p → FirstRefused demand opening held number frames b q → (a ≡ b) × (p ≡ q)
    first_once held number [] a b p q are x y = absurd x
    first_once held number (frame ∷ frames) a b p q are (inl x) (inl y) =
        let same = refused_once held number frame are.0 a b p.record q.record x.0 y.0 in
        (same.0, same_place p q (x.1 ∙ sym y.1) same.1 (x.2 ∙ sym y.2))
    first_once held number (frame ∷ frames) a b p q are (inl x) (inr y) = absurd (taken_stands held number frame are.0 y.0 a p.record y.1 x.0)
    first_once held number (frame ∷ frames) a b p q are (inr x) (inl y) = absurd (taken_stands held number frame are.0 x.0 b q.record x.1 y.0)
    first_once held number (frame ∷ frames) a b p q are (inr x) (inr y) =
        first_once (with_message held x.0) (suc number) frames a b p q are.1 x.2
        (subst (λ (m : Contents). FirstRefused demand opening (with_message held m) (suc number) frames b q)
        (one_in_frame laws number frame are.0 opening y.0 x.0 y.1.0 x.1.0) y.2)

    frames_stand : (frames : List (List ℕ)) (messages : List Contents) (why : Refusal) (place : Place) → AllByRecursion AreOctets frames
        → HasItsMacs opening frames → AllTaken demand opening no_evidence 1 frames messages → AreFramesRefused demand opening frames why place → ⊥
    frames_stand frames messages why place are counted taken (inl miscounted) = miscounted.0 counted
    frames_stand frames messages why place are counted taken (inr refused) = all_stand no_evidence 1 frames messages why place are taken refused.1

    frames_once : (frames : List (List ℕ)) (a b : Refusal) (p q : Place) → AllByRecursion AreOctets frames
        → AreFramesRefused demand opening frames a p → AreFramesRefused demand opening frames b q → (a ≡ b) × (p ≡ q)
    frames_once frames a b p q are (inl x) (inl y) = (x.1 ∙ sym y.1, same_nowhere p q x.2 y.2)
    frames_once frames a b p q are (inl x) (inr y) = absurd (x.0 y.0)
    frames_once frames a b p q are (inr x) (inl y) = absurd (y.0 x.0)
    frames_once frames a b p q are (inr x) (inr y) = first_once no_evidence 1 frames a b p q are x.1 y.1

    -- ---- a file

    module _ (file : List ℕ) (are : AreOctets file) where
      -- a file holds its messages alone
      pub one_holding : (a b : List Contents) → Holds demand opening file a → Holds demand opening file b → a ≡ b
      one_holding a b x y =
          let frames = laws.messages.one_capture file y.frames x.frames y.framing x.framing in
          one_taken no_evidence 1 x.frames a b (laws.messages.capture_octets file x.frames are x.framing) x.taken
          (subst (λ frames. AllTaken demand opening no_evidence 1 frames b) frames y.taken)

      -- a file whose messages are taken isn't refused
      holding_stands : (messages : List Contents) (why : Refusal) (place : Place) → Holds demand opening file messages → IsRefusal demand opening file why place → ⊥
      holding_stands messages why place x (inl zero) = (laws.messages.messages_alone file x.frames x.framing).0 zero.0
      holding_stands messages why place x (inr (inl torn)) = (laws.messages.messages_alone file x.frames x.framing).1 torn.0
      holding_stands messages why place x (inr (inr y)) =
          frames_stand x.frames messages why place (laws.messages.capture_octets file x.frames are x.framing) x.counted x.taken
          (subst (λ frames. AreFramesRefused demand opening frames why place) (laws.messages.one_capture file y.0 x.frames y.1 x.framing) y.2)

      -- a file has one refusal
      one_refusal : (a b : Refusal) (p q : Place) → IsRefusal demand opening file a p → IsRefusal demand opening file b q → (a ≡ b) × (p ≡ q)
      one_refusal a b p q (inl x) (inl y) = (x.1 ∙ sym y.1, same_nowhere p q x.2 y.2)
      one_refusal a b p q (inl x) (inr (inl y)) = absurd ((laws.messages.zero_length_alone file x.0).0 y.0)
      one_refusal a b p q (inl x) (inr (inr y)) = absurd ((laws.messages.messages_alone file y.0 y.1).0 x.0)
      one_refusal a b p q (inr (inl x)) (inl y) = absurd ((laws.messages.zero_length_alone file y.0).0 x.0)
      one_refusal a b p q (inr (inl x)) (inr (inl y)) = (x.1 ∙ sym y.1, same_nowhere p q x.2 y.2)
      one_refusal a b p q (inr (inl x)) (inr (inr y)) = absurd ((laws.messages.messages_alone file y.0 y.1).1 x.0)
      one_refusal a b p q (inr (inr x)) (inl y) = absurd ((laws.messages.messages_alone file x.0 x.1).0 y.0)
      one_refusal a b p q (inr (inr x)) (inr (inl y)) = absurd ((laws.messages.messages_alone file x.0 x.1).1 y.0)
      one_refusal a b p q (inr (inr x)) (inr (inr y)) =
          frames_once x.0 a b p q (laws.messages.capture_octets file x.0 are x.1) x.2
          (subst (λ frames. AreFramesRefused demand opening frames b q) (laws.messages.one_capture file y.0 x.0 y.1 x.1) y.2)

      -- a file whose messages are taken has no fault
      pub no_capture_fault : (messages : List Contents) (told : Fault) → Holds demand opening file messages → IsFaultOfCapture demand opening file told → ⊥
      no_capture_fault messages (fault.Refused why place) x refused = holding_stands messages why place x refused
      no_capture_fault messages (fault.TooLong Capture) x long = too_many (length file) file_limit x.framing.within long.0
      no_capture_fault messages (fault.TooLong Statements) x long = long
      no_capture_fault messages (fault.TooLong Answers) x long = long
      no_capture_fault messages (fault.TooLong Anchors) x long = long
      no_capture_fault messages (fault.TooLong Keys) x long = long
      no_capture_fault messages (fault.TooLong Macs) x long = long
      no_capture_fault messages (fault.TooLong Questions) x long = long
      no_capture_fault messages fault.OutOfMemory x fault = fault
      no_capture_fault messages (fault.ReadFailed other) x fault = fault
      no_capture_fault messages (fault.OpenFailed other) x fault = fault
      no_capture_fault messages fault.WriteFailed x fault = fault

      -- a file that is refused isn't too long
      no_long_refusal : (why : Refusal) (place : Place) → IsRefusal demand opening file why place → IsTooLong file → ⊥
      no_long_refusal why place (inl zero) long = long.1 zero.0
      no_long_refusal why place (inr (inl torn)) long = too_many (length file) file_limit torn.0.0 long.0
      no_long_refusal why place (inr (inr framed)) long = too_many (length file) file_limit framed.1.within long.0

      same_refusal : (a b : Refusal) (p q : Place) → (a ≡ b) × (p ≡ q) → fault.Refused a p ≡ fault.Refused b q
      same_refusal a b p q same = λ i. fault.Refused (same.0 i) (same.1 i)

      pub one_capture_fault : (a b : Fault) → IsFaultOfCapture demand opening file a → IsFaultOfCapture demand opening file b → a ≡ b
      one_capture_fault (fault.Refused a p) (fault.Refused b q) x y = same_refusal a b p q (one_refusal a b p q x y)
      one_capture_fault (fault.Refused a p) (fault.TooLong Capture) x y = absurd (no_long_refusal a p x y)
      one_capture_fault (fault.TooLong Capture) (fault.Refused b q) x y = absurd (no_long_refusal b q y x)
      one_capture_fault (fault.TooLong Capture) (fault.TooLong Capture) x y = refl
      one_capture_fault (fault.TooLong Statements) b x y = absurd x
      one_capture_fault (fault.TooLong Answers) b x y = absurd x
      one_capture_fault (fault.TooLong Anchors) b x y = absurd x
      one_capture_fault (fault.TooLong Keys) b x y = absurd x
      one_capture_fault (fault.TooLong Macs) b x y = absurd x
      one_capture_fault (fault.TooLong Questions) b x y = absurd x
      one_capture_fault a (fault.TooLong Statements) x y = absurd y
      one_capture_fault a (fault.TooLong Answers) x y = absurd y
      one_capture_fault a (fault.TooLong Anchors) x y = absurd y
      one_capture_fault a (fault.TooLong Keys) x y = absurd y
      one_capture_fault a (fault.TooLong Macs) x y = absurd y
      one_capture_fault a (fault.TooLong Questions) x y = absurd y
      one_capture_fault fault.OutOfMemory b x y = absurd x
      one_capture_fault (fault.ReadFailed other) b x y = absurd x
      one_capture_fault (fault.OpenFailed other) b x y = absurd x
      one_capture_fault fault.WriteFailed b x y = absurd x
      one_capture_fault a fault.OutOfMemory x y = absurd y
      one_capture_fault a (fault.ReadFailed other) x y = absurd y
      one_capture_fault a (fault.OpenFailed other) x y = absurd y
      one_capture_fault a fault.WriteFailed x y = absurd y
