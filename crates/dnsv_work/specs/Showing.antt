-- What `show` shows of the file.
use Rattle.std.specs.Prelude.{◌≡◌, ℕ, List}
use Rattle.dnsv_message.specs.Message.{Contents}
use Rattle.dnsv_files.specs.declared.opening.Opening.TheVariants.{Plain}
use Rattle.dnsv_files.specs.Files.Capture.{Holds, AnyMessage}
use Rattle.dnsv_evidence_texts.specs.Showing.{message_text, texts_from}

-- the file holds messages, whatever they are, and the text has the lines of each
abbrev pub IsShowing : List ℕ → List ℕ → Type 0
IsShowing file text =
    (messages : List Contents) × Holds AnyMessage Plain file messages × (text ≡ texts_from message_text 1 messages)
