-- What `list` lists over the files: what each signature signs, or what a verifier still has to check.
use Rattle.std.specs.Prelude.{◌≡◌, ℕ, List}
use Rattle.dnsv_message.specs.Message.{Contents}
use Rattle.dnsv_canonical.specs.Evidence.{evidence_of}
use Rattle.dnsv_canonical.specs.Rrsets.{ReceivedRrset}
use Rattle.dnsv_compact.specs.CompactList.{IsCompactList, ListContents}
use Rattle.dnsv_verifier.specs.declared.answer.Answer.{Answer}
use Rattle.dnsv_verifier.specs.declared.entry.Entry.{Entry}
use Rattle.dnsv_verifier.specs.Table.{TableContents, unknown_entries}
use Rattle.dnsv_verifier.specs.Within.{IsTableWithin}
use Rattle.dnsv_answers.specs.declared.heading.Moments.{Moments}
use Rattle.dnsv_commands.specs.declared.request.Form.{Form}
use Rattle.dnsv_commands.specs.declared.request.Form.TheVariants.{Compact, Whole}
use Rattle.dnsv_files.specs.Bounds.{begin_of, end_of}
use Rattle.dnsv_files.specs.declared.opening.Opening.TheVariants.{Plain}
use Rattle.dnsv_files.specs.Files.Capture.{Holds, NewEvidence}
use Rattle.dnsv_files.specs.Files.{Files, octets_or_none}
use Rattle.dnsv_files.specs.Files.Statements.{IsMeaningOf}
use Rattle.dnsv_questions.specs.declared.format.Format.{Format}
use Rattle.dnsv_evidence_texts.specs.Compact.{compact_text}
use Rattle.dnsv_evidence_texts.specs.Listing.{ListsRrsets, SignedOctets, listing_text}
use Rattle.dnsv_evidence_texts.specs.Todo.{todo_text}
use Rattle.dnsv_answers.specs.declared.heading.Moments.TheVariants.{At}
use Rattle.dnsv_commands.specs.declared.request.Listing.{Listing}
use Rattle.dnsv_commands.specs.declared.request.Listing.TheVariants as listing

-- the file holds messages, each of them evidence besides those before it, and the text lists their signatures
abbrev pub IsListing : Format → ℕ → List ℕ → List ℕ → Type 0
IsListing format moment file text =
    (messages : List Contents) × Holds NewEvidence Plain file messages × (listed : List SignedOctets)
    × ListsRrsets 1 (evidence_of messages).rrsets listed × (text ≡ listing_text format moment listed)

-- the text lists entries that are asked of the RRsets at some of the moments: each whole, or each octet once
abbrev pub ListsEntries : Form → Format → Moments → List ReceivedRrset → List Entry → List ℕ → Type 0
ListsEntries Whole format moments rrsets entries text = text ≡ todo_text format moments entries
ListsEntries Compact format moments rrsets entries text =
    (list : ListContents) × IsCompactList (begin_of moments) (end_of moments) rrsets entries list
    × (text ≡ compact_text format moments list)

-- The capture holds messages, each of them evidence besides those before it, and the text has an entry for each
-- signature that some key of theirs may be used to verify at the moment, or at some moment of the range, and of which the
-- statements say nothing.
pub record IsTodo (form : Form) (format : Format) (moments : Moments) (files : Files) (text : List ℕ) : Type 0 where
  pub messages : List Contents
  pub holds : Holds NewEvidence Plain files.capture messages
  pub meaning : Entry → Answer
  pub said : IsMeaningOf (octets_or_none files.statements) meaning
  pub table : TableContents
  pub is_table : IsTableWithin meaning (begin_of moments) (end_of moments) (evidence_of messages).rrsets table
  pub lines : ListsEntries form format moments (evidence_of messages).rrsets (unknown_entries table) text

-- what each signature signs, or what a verifier still has to check
abbrev pub IsListed : Listing → Format → ℕ → Files → List ℕ → Type 0
IsListed listing.All format moment files text = IsListing format moment files.capture text
IsListed (listing.Todo form) format moment files text = IsTodo form format (At moment) files text
