-- The messages of a file that are shown, one after another.
use Rattle.std.proofs.Common.{◌≡◌, ℕ, ◌+◌, ◌<◌, List, [], ◌∷◌, ◌++◌, length, get_or, sym, ap, ◌∙◌, arith, length-append}
use Rattle.std.proofs.lemmas.List.{append-nil}
use Rattle.dnsv_message.specs.Message.{Contents}
use Rattle.dnsv_files.specs.Files.Capture.{AnyMessage}
use Rattle.dnsv_files.specs.Opening.{IsInFrame}
use Rattle.dnsv_files.specs.declared.opening.Opening.TheVariants.{Plain}
use Rattle.dnsv_files.proofs.FileLemmas.Capture.{MessagesSoFar, MessagesSoFar-next}
use Rattle.dnsv_evidence_texts.specs.Showing.{message_text, texts_from}
use Rattle.dnsv_evidence_texts.proofs.ShowingLemmas.{texts_from-append}

-- the messages before the place are taken, and their lines are written
pub record ShownSoFar (frames : List (List ℕ)) (done : ℕ) (text : List ℕ) : Type 0 where
  pub messages : List Contents
  pub judged : MessagesSoFar AnyMessage Plain frames done messages
  pub many : length messages ≡ done
  pub written : text ≡ texts_from message_text 1 messages

pub ShownSoFar-next : {frames : List (List ℕ)} {done : ℕ} {text : List ℕ} → ShownSoFar frames done text → (octets : List ℕ) → done < length frames → get_or frames done [] ≡ octets
    → (message : Contents) (after : List ℕ) → IsInFrame Plain (done + 1) octets message → after ≡ text ++ message_text (done + 1) message → ShownSoFar frames (done + 1) after
ShownSoFar-next {frames} {done} {text} shown octets within here message after found line = record {
  messages = shown.messages ++ message ∷ [];
  judged = MessagesSoFar-next shown.judged octets within here message (found, tt);
  many = length-append shown.messages (message ∷ []) ∙ ap (λ n. n + 1) shown.many;
  written = line ∙ ap (λ front. front ++ message_text (done + 1) message) shown.written
      ∙ ap (λ n. texts_from message_text 1 shown.messages ++ message_text n message) (omega (arith, shown.many))
      ∙ ap (λ rest. texts_from message_text 1 shown.messages ++ rest) (sym (append-nil (message_text (1 + length shown.messages) message)))
      ∙ sym (texts_from-append message_text 1 shown.messages (message ∷ []));
}
