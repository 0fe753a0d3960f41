-- The messages of frames, one after another.
use Rattle.std.proofs.Common.{◌≡◌, ℕ, suc, ◌+◌, ◌<◌, List, [], ◌∷◌, ◌++◌, length, get_or, take, drop, refl, sym, ap, subst, ◌∙◌, inl, inr, arith}
use Rattle.std.proofs.lemmas.List.{drop_more, take_more, length-map, length-take-le, get_or-map}
use Rattle.std.specs.List.{fold}
use Rattle.std.specs.Prelude.{Result, Err}
use Rattle.std.specs.Borrow.{Bor}
use Rattle.dnsv_message.specs.Streams.Frames.{octets_at_each}
use Rattle.dnsv_message.specs.Message.{Contents}
use Rattle.dnsv_canonical.specs.declared.capture.CaptureError.{CaptureError}
use Rattle.dnsv_canonical.specs.declared.capture.CaptureError.TheVariants as capture
use Rattle.dnsv_canonical.specs.Evidence.{Evidence, IsReasonAgainst, IsWhole, evidence_of, no_evidence, with_message}
use Rattle.dnsv_files.specs.declared.status.Fault.{Fault}
use Rattle.dnsv_files.specs.declared.status.Fault.TheVariants as fault
use Rattle.dnsv_files.specs.declared.status.Place.{Place}
use Rattle.dnsv_files.specs.declared.status.Refusal.{Refusal}
use Rattle.dnsv_files.specs.declared.opening.Opening.{Opening}
use Rattle.dnsv_files.specs.Files.Capture.{Demand, NewEvidence, Meets, AllTaken, FirstRefused}
use Rattle.dnsv_files.specs.Opening.{IsInFrame}
use Rattle.dnsv_files.specs.Told.{IsFaultOf, IsNoMessageAt, IsRefusedAt, IsCaptureFault}

-- one message more at the end
fold-push : (held : Evidence) (messages : List Contents) (message : Contents) → fold with_message held (messages ++ message ∷ []) ≡ with_message (fold with_message held messages) message
fold-push held [] message = refl
fold-push held (m ∷ messages) message = fold-push (with_message held m) messages message

AllTaken-push : (demand : Demand) (opening : Opening) (held : Evidence) (number at : ℕ) (xs : List (List ℕ)) (ys : List Contents) (x : List ℕ) (y : Contents)
    → at ≡ number + length xs → AllTaken demand opening held number xs ys
    → IsInFrame opening at x y × Meets demand (fold with_message held ys) y → AllTaken demand opening held number (xs ++ x ∷ []) (ys ++ y ∷ [])
AllTaken-push demand opening held number at [] [] x y same all taken =
    let here : at ≡ number = omega (arith, same) in
    ((subst (λ n. IsInFrame opening n x y) here taken.0, taken.1), tt)
AllTaken-push demand opening held number at [] (y' ∷ ys) x y same all taken = absurd all
AllTaken-push demand opening held number at (x' ∷ xs) [] x y same all taken = absurd all
AllTaken-push demand opening held number at (x' ∷ xs) (y' ∷ ys) x y same all taken =
    (all.0, AllTaken-push demand opening (with_message held y') (suc number) at xs ys x y (omega (arith, same)) all.1 taken)

-- a refusal that means another
pub IsFaultOf-weaker : (P Q : Refusal → Place → Type 0) (told : Fault) → ((why : Refusal) (place : Place) → P why place → Q why place) → IsFaultOf P told → IsFaultOf Q told
IsFaultOf-weaker P Q (fault.Refused why place) weaker holds = weaker why place holds
IsFaultOf-weaker P Q fault.OutOfMemory weaker holds = tt
IsFaultOf-weaker P Q told weaker holds = holds

-- what a capture doesn't take is refused
module _ (opening : Opening) (held : Evidence) (frame : List ℕ) (number : ℕ) (message : Contents) (is : IsInFrame opening number frame message) where
  pub capture_refused : (error : CaptureError) (told : Fault) → IsReasonAgainst held message error → IsCaptureFault error number told → IsFaultOf (IsRefusedAt NewEvidence opening held frame number) told
  capture_refused capture.OutOfMemory told refused tells = subst (IsFaultOf (IsRefusedAt NewEvidence opening held frame number)) (sym tells) tt
  capture_refused capture.NotAResponse (fault.Refused why place) refused tells = (inr (message, is, (capture.NotAResponse, refused, tells.0)), tells.1, tells.2)
  capture_refused capture.Truncated (fault.Refused why place) refused tells = (inr (message, is, (capture.Truncated, refused, tells.0)), tells.1, tells.2)
  capture_refused (capture.BadRdata k) (fault.Refused why place) refused tells = (inr (message, is, (capture.BadRdata k, refused, tells.0)), tells.1, tells.2)
  capture_refused capture.Limit (fault.Refused why place) refused tells = (inr (message, is, (capture.Limit, refused, tells.0)), tells.1, tells.2)
  capture_refused error told refused tells = absurd tells

-- memory is wanted for a whole response alone
pub whole_wanted : {T : Type 0} (held : Evidence) (message : Contents) (number : ℕ) (error : CaptureError) (told : Fault) → IsReasonAgainst held message error
    → IsCaptureFault error number told → Path (Result T Fault) (Err told) (Err fault.OutOfMemory) → IsWhole message
whole_wanted held message number capture.OutOfMemory told refused tells is = refused
whole_wanted held message number error told refused tells is = let same : told ≡ fault.OutOfMemory = cc in absurd (subst (IsCaptureFault error number) same tells)

-- the messages before the place are taken, and what is refused from there on is the first that is
pub record MessagesSoFar (demand : Demand) (opening : Opening) (frames : List (List ℕ)) (done : ℕ) (messages : List Contents) : Type 0 where
  pub taken : AllTaken demand opening no_evidence 1 (take done frames) messages
  pub refused : (why : Refusal) (place : Place) → FirstRefused demand opening (evidence_of messages) (done + 1) (drop done frames) why place → FirstRefused demand opening no_evidence 1 frames why place

module _ {demand : Demand} {opening : Opening} {frames : List (List ℕ)} {done : ℕ} {messages : List Contents} (judged : MessagesSoFar demand opening frames done messages) (octets : List ℕ) (within : done < length frames) (here : get_or frames done [] ≡ octets) where
  next : drop done frames ≡ octets ∷ drop (done + 1) frames
  next = drop_more frames done [] within ∙ ap (λ xs. xs ∷ drop (done + 1) frames) here

  before : done + 1 ≡ 1 + length (take done frames)
  before =
      let many : length (take done frames) ≡ done = length-take-le done frames (omega (arith, within)) in
      omega (arith, many)

  pub MessagesSoFar-next : (message : Contents) → IsInFrame opening (done + 1) octets message × Meets demand (evidence_of messages) message → MessagesSoFar demand opening frames (done + 1) (messages ++ message ∷ [])
  MessagesSoFar-next message taken = record {
    taken = subst (λ xs. AllTaken demand opening no_evidence 1 xs (messages ++ message ∷ []))
        (sym (take_more frames done [] within ∙ ap (λ xs. take done frames ++ xs ∷ []) here))
        (AllTaken-push demand opening no_evidence 1 (done + 1) (take done frames) messages octets message before judged.taken taken);
    refused = λ why place refused. judged.refused why place
        (subst (λ xs. FirstRefused demand opening (evidence_of messages) (done + 1) xs why place) (sym next)
        (inr (
          message,
          taken,
          subst (λ n. FirstRefused demand opening (with_message (evidence_of messages) message) n (drop (done + 1) frames) why place) (omega arith)
              (subst (λ held. FirstRefused demand opening held ((done + 1) + 1) (drop (done + 1) frames) why place) (fold-push no_evidence messages message) refused),
        )));
  }

  pub MessagesSoFar-refused : (why : Refusal) (place : Place) → IsRefusedAt demand opening (evidence_of messages) octets (done + 1) why place → FirstRefused demand opening no_evidence 1 frames why place
  MessagesSoFar-refused why place refused = judged.refused why place (subst (λ xs. FirstRefused demand opening (evidence_of messages) (done + 1) xs why place) (sym next) (inl refused))

  -- a frame that holds no message is refused, whatever is asked of messages
  pub MessagesSoFar-no_message : (why : Refusal) (place : Place) → IsNoMessageAt opening octets (done + 1) why place → FirstRefused demand opening no_evidence 1 frames why place
  MessagesSoFar-no_message why place refused = MessagesSoFar-refused why place (inl refused.0, refused.1, refused.2)

-- the evidence is that of the messages before the place
pub record EvidenceSoFar (opening : Opening) (frames : List (List ℕ)) (done : ℕ) (held : Evidence) : Type 0 where
  pub messages : List Contents
  pub judged : MessagesSoFar NewEvidence opening frames done messages
  pub same : held ≡ evidence_of messages

module _ {opening : Opening} {frames : List (List ℕ)} {done : ℕ} {held : Evidence} (gathered : EvidenceSoFar opening frames done held) (octets : List ℕ) (within : done < length frames) (here : get_or frames done [] ≡ octets) where
  pub EvidenceSoFar-next : (after : Evidence) → (message : Contents) × (IsInFrame opening (done + 1) octets message × Meets NewEvidence held message) × (after ≡ with_message held message) → EvidenceSoFar opening frames (done + 1) after
  EvidenceSoFar-next after taken = record {
    messages = gathered.messages ++ taken.0 ∷ [];
    judged = MessagesSoFar-next gathered.judged octets within here taken.0 (taken.1.0, subst (λ held. Meets NewEvidence held taken.0) gathered.same taken.1.1);
    same = taken.2 ∙ ap (λ held. with_message held taken.0) gathered.same ∙ sym (fold-push no_evidence gathered.messages taken.0);
  }

  pub EvidenceSoFar-refused : (why : Refusal) (place : Place) → IsRefusedAt NewEvidence opening held octets (done + 1) why place → FirstRefused NewEvidence opening no_evidence 1 frames why place
  EvidenceSoFar-refused why place refused =
      MessagesSoFar-refused gathered.judged octets within here why place (subst (λ held. IsRefusedAt NewEvidence opening held octets (done + 1) why place) gathered.same refused)

-- the octets of the frame at a place
pub frame_at : (frames : List (Bor (List ℕ))) (i : ℕ) (other : Bor (List ℕ)) → i < length frames → (i < length (octets_at_each frames)) × (get_or (octets_at_each frames) i [] ≡ (get_or frames i other).now)
frame_at frames i other within = (
  omega (arith, within, length-map frames (λ (v : Bor (List ℕ)). v.now)),
  get_or-map (λ (v : Bor (List ℕ)). v.now) frames i other [] within,
)
