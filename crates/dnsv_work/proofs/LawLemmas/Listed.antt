-- A file of messages that are evidence has the text of list.
use Rattle.std.proofs.Common.{◌≡◌, ◌⊎◌, ◌↔◌, ◌<◌, ◌≤◌, ℕ, suc, List, [], ◌∷◌, ◌++◌, Option, Some, None, refl, inl, inr}
use Rattle.std.proofs.lemmas.Bool.{cases_lt}
use Rattle.std.specs.List.{AllByRecursion, fold}
use Rattle.dnsv_names.specs.Name.{Labels}
use Rattle.dnsv_names.specs.Octets.{AreOctets}
use Rattle.dnsv_message.specs.Streams.Frames.{IsCapture}
use Rattle.dnsv_message.specs.Grammar.{IsMessage}
use Rattle.dnsv_message.specs.Message.{Contents, records_of}
use Rattle.dnsv_records.specs.declared.rrsig.Rrsig.{Rrsig}
use Rattle.dnsv_canonical.specs.declared.capture.CaptureError.{CaptureError}
use Rattle.dnsv_canonical.specs.declared.capture.CaptureError.TheVariants as capture
use Rattle.dnsv_canonical.specs.Evidence.{Evidence, IsEvidence, IsReadable, IsReasonAgainst, evidence_of, no_evidence, with_message}
use Rattle.dnsv_canonical.specs.Rdata.{IsSignatureOver, IsWellFormed}
use Rattle.dnsv_canonical.specs.Rrsets.{ReceivedRrset, message_rrsets}
use Rattle.dnsv_canonical.specs.SignedData.{IsSignedData, signed_label_count}
use Rattle.dnsv_files.specs.declared.status.Refusal.{Refusal}
use Rattle.dnsv_files.specs.declared.status.Refusal.TheVariants as refusal
use Rattle.dnsv_files.specs.declared.opening.Opening.TheVariants.{Plain}
use Rattle.dnsv_questions.specs.declared.format.Format.{Format}
use Rattle.dnsv_files.specs.Files.Capture.{AllTaken, Fails, Holds, Meets, NewEvidence}
use Rattle.dnsv_evidence_texts.specs.Listing.{ListsRrsets, ListsSignatures, SignedOctets, listing_text}
use Rattle.dnsv_work.specs.Listing.{IsListing}
use Rattle.dnsv_files.specs.Status.{TellsCaptureError}

-- ---- a message is evidence, or is refused for a reason that is told

reason_told : (error : CaptureError) → (error ≡ capture.OutOfMemory → ⊥) → (why : Refusal) × (k : Option ℕ) × TellsCaptureError error why k
reason_told capture.OutOfMemory other = absurd (other refl)
reason_told (capture.BadRdata k) other = (refusal.Evidence (capture.BadRdata k), Some k, (refl, refl))
reason_told error other = (refusal.Evidence error, None, (refl, refl))

reason_fails : (held : Evidence) (message : Contents) (error : CaptureError) → IsReasonAgainst held message error
    → (why : Refusal) × (k : Option ℕ) × TellsCaptureError error why k → (why : Refusal) × (k : Option ℕ) × Fails NewEvidence held message why k
reason_fails held message error reason told = (told.0, told.1, (error, reason, told.2))

pub evidence_or_fails : (held : Evidence) (message : Contents)
    → IsEvidence held message ⊎ ((error : CaptureError) × (error ≡ capture.OutOfMemory → ⊥) × IsReasonAgainst held message error)
    → Meets NewEvidence held message ⊎ ((why : Refusal) × (k : Option ℕ) × Fails NewEvidence held message why k)
evidence_or_fails held message (inl evidence) = inl evidence
evidence_or_fails held message (inr reason) = inr (reason_fails held message reason.0 reason.2 (reason_told reason.0 reason.1))

-- ---- the list

-- what signatures sign, and what is true of the RRsets of a message
module _
    (signed : (owner : Labels) (rtype : ℕ) (received : List (List ℕ)) (rrsig : Rrsig)
    → ((octets : List ℕ) × IsSignedData owner rtype received rrsig (Some octets)) ↔ (rrsig.labels ≤ signed_label_count owner))
    (formed : (number : ℕ) (message : Contents) → IsMessage message
    → AllByRecursion IsReadable (records_of message) → AllByRecursion IsWellFormed (message_rrsets number message)) where
  signed_or_none : (owner : Labels) (rtype : ℕ) (received : List (List ℕ)) (rrsig : Rrsig)
      → (signed_label_count owner < rrsig.labels) ⊎ (rrsig.labels ≤ signed_label_count owner)
      → (octets : Option (List ℕ)) × IsSignedData owner rtype received rrsig octets
  signed_or_none owner rtype received rrsig (inl above) = (None, above)
  signed_or_none owner rtype received rrsig (inr within) =
      let octets = (signed owner rtype received rrsig).1 within in (Some octets.0, octets.1)

  signatures_listed : (number : ℕ) (rrset : ReceivedRrset) (signature : ℕ) (signatures : List (List ℕ))
      → AllByRecursion (IsSignatureOver rrset.rtype) signatures → (listed : List SignedOctets) × ListsSignatures number rrset signature signatures listed
  signatures_listed number rrset signature [] each = ([], refl)
  signatures_listed number rrset signature (rdata ∷ others) each =
      let rest = signatures_listed number rrset (suc signature) others each.1 in
      let octets = signed_or_none rrset.owner rrset.rtype rrset.rdata each.0.rrsig (cases_lt (signed_label_count rrset.owner) each.0.rrsig.labels) in
      (record { rrset = number; signature = signature; octets = octets.0 } ∷ rest.0, (each.0.rrsig, octets.0, rest.0, each.0.is, octets.1, rest.1, refl))

  rrsets_listed : (number : ℕ) (rrsets : List ReceivedRrset) → AllByRecursion IsWellFormed rrsets → (listed : List SignedOctets) × ListsRrsets number rrsets listed
  rrsets_listed number [] each = ([], refl)
  rrsets_listed number (rrset ∷ rrsets) each =
      let front = signatures_listed number rrset 1 rrset.signatures each.0.each_signature in
      let rest = rrsets_listed (suc number) rrsets each.1 in
      (front.0 ++ rest.0, (front.0, rest.0, front.1, rest.1, refl))

  append_each : (xs ys : List ReceivedRrset) → AllByRecursion IsWellFormed xs → AllByRecursion IsWellFormed ys → AllByRecursion IsWellFormed (xs ++ ys)
  append_each [] ys each others = others
  append_each (x ∷ xs) ys each others = (each.0, append_each xs ys each.1 others)

  all_formed : (held : Evidence) (number : ℕ) (frames : List (List ℕ)) (messages : List Contents) → AllByRecursion AreOctets frames
      → AllTaken NewEvidence Plain held number frames messages → AllByRecursion IsWellFormed held.rrsets
      → AllByRecursion IsWellFormed (fold with_message held messages).rrsets
  all_formed held number [] [] are taken each = each
  all_formed held number [] (message ∷ messages) are taken each = absurd taken
  all_formed held number (octets ∷ frames) [] are taken each = absurd taken
  all_formed held number (octets ∷ frames) (message ∷ messages) are taken each =
      all_formed (with_message held message) (suc number) frames messages are.1 taken.1
      (append_each held.rrsets (message_rrsets (suc held.messages) message) each
      (formed (suc held.messages) message (octets, are.0, taken.0.0) taken.0.1.1))

  -- a file that holds evidence has the text of list
  pub listed : (format : Format) (moment : ℕ) (file : List ℕ) (Else : Type 0) → ((frames : List (List ℕ)) → IsCapture file frames → AllByRecursion AreOctets frames)
      → ((messages : List Contents) × Holds NewEvidence Plain file messages) ⊎ Else → ((text : List ℕ) × IsListing format moment file text) ⊎ Else
  listed format moment file Else are (inr otherwise) = inr otherwise
  listed format moment file Else are (inl held) =
      let lines = rrsets_listed 1 (evidence_of held.0).rrsets (all_formed no_evidence 1 held.1.frames held.0 (are held.1.frames held.1.framing) held.1.taken tt) in
      inl (listing_text format moment lines.0, (held.0, held.1, lines.0, lines.1, refl))
