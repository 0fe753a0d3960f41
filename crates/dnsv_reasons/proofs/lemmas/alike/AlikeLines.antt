-- What a line says, read back from it with its names in lower case: all but the place of a key in its RRset and of a source in its
-- zone, and whether a name is a wildcard.
use Rattle.std.proofs.Common.{◌≡◌, ◌-◌, ℕ, suc, List, Option, Some, None, length, map, ap, ap₂, ◌∙◌, arith}
use Rattle.std.proofs.lemmas.List.{length-map}
use Rattle.std.specs.Char.{to_ascii_lowercase}
use Rattle.dnsv_names.specs.Name.{Labels, lower_case, rightmost}
use Rattle.dnsv_names.specs.Tree.AncestorLaws.{rightmost_length}
use Rattle.dnsv_records.specs.declared.nsec3.Nsec3Parameters.{Nsec3Parameters}
use Rattle.dnsv_canonical.specs.Rrsets.{ReceivedRrset}
use Rattle.dnsv_canonical.specs.declared.number.RecordNumber.{RecordNumber}
use Rattle.dnsv_canonical.specs.declared.number.SignatureNumber.{SignatureNumber}
use Rattle.dnsv_anchors.specs.declared.anchor.Anchor.{Anchor}
use Rattle.dnsv_lines.specs.declared.line.Line.{Line}
use Rattle.dnsv_lines.specs.declared.line.Line.TheVariants as line
use Rattle.dnsv_lines.specs.declared.line.fault.Reason.{Reason}
use Rattle.dnsv_lines.specs.declared.line.fault.Reason.TheVariants as reason
use Rattle.dnsv_lines.specs.declared.line.fault.signature.ShownSignature.{ShownSignature}
use Rattle.dnsv_lines.specs.declared.line.fault.zone.Entry.{Entry}
use Rattle.dnsv_lines.specs.declared.line.fault.zone.EntryNumber.{EntryNumber}
use Rattle.dnsv_lines.specs.declared.line.fault.zone.EntryNumber.TheVariants as number
use Rattle.dnsv_line_laws.specs.Lower.{lower_line, lower_name}
use Rattle.dnsv_mending.specs.declared.told.Told.{Told}
use Rattle.dnsv_mending.specs.declared.told.Told.TheVariants as told
use Rattle.dnsv_gaps.specs.Asking.{Asking}
use Rattle.dnsv_reasons.specs.Lines.{IsDnameLine, IsSaidLine, IsZoneTold}
use Rattle.dnsv_trust_reasons.specs.TrustLines.{IsTrustLine}
use Rattle.dnsv_trust_reasons.specs.Places.{IsAbove, IsEntry, IsShown}
use Rattle.dnsv_reasons.specs.Sources.{IsAskedName}
use Rattle.dnsv_remedies.specs.declared.facts.name.AskedName.{AskedName}
use Rattle.dnsv_remedies.specs.declared.facts.name.AskedName.TheVariants.{At, Wildcard}
use Rattle.dnsv_remedies.specs.declared.facts.name.SourceNumber.{SourceNumber}
use Rattle.dnsv_remedies.specs.declared.said.Said.{Said}
use Rattle.dnsv_remedies.specs.declared.said.Said.TheVariants as said

-- ---- reading

-- a record of an RRset, and a source of a zone, of which the place isn't known
abbrev pub some_record : ℕ → RecordNumber
some_record k = record { rrset = k; place = 0 }

abbrev pub some_source : ℕ → SourceNumber
some_source zone = record { zone = zone; place = 0 }

abbrev counted : Option Labels → Option ℕ
counted None = None
counted (Some name) = Some (length name)

abbrev read_dname : ℕ → ℕ → Option ℕ → Said
read_dname labels k None = said.Dname (record { labels = labels; rrset = k })
read_dname labels k (Some place) = said.DnameHeld labels (record { rrset = k; place = place })

abbrev read_reason : Reason → Said
read_reason (reason.Zone fault) = said.Trust (told.Zone fault.why (length fault.zone))
read_reason (reason.Entry fault) = said.Trust (told.Entry fault.why fault.entry.number)
read_reason (reason.NotSelfSigned key) = said.Trust (told.NotSelfSigned (some_record key.rrset))
read_reason (reason.Unsigned rrset) = said.Trust (told.Unsigned rrset.rrset)
read_reason (reason.Signature fault) = said.Trust (told.Signature fault.why fault.signature.number)
read_reason (reason.NoCloser closer) = said.NoCloser closer.signature.number (length closer.name)
read_reason (reason.Dname dname) = read_dname (length dname.name) dname.rrset dname.place
read_reason (reason.Nsec3 fault) = said.Nsec3 fault.why fault.number
read_reason (reason.Source fault) = said.Source fault.why (some_source (length fault.source.zone)) (At (length fault.name))
read_reason (reason.AnswerMissing missing) = said.AnswerMissing (counted missing.zone)
read_reason (reason.DenialUnproved denial) = said.DenialUnproved (length denial.zone)
read_reason (reason.NotVouched keys) = said.Trust (told.NotVouched keys.rrset)
read_reason (reason.DsUnproved cut) = said.DsUnproved (record { name = length cut.name; zone = length cut.zone })

-- of another line nothing is read
abbrev pub read : Line → Said
read (line.Reason each) = read_reason each
read (line.Follows untrusted) = said.Trust (told.Follows untrusted.signature.number)
read other = said.AnswerMissing None

-- what the hashes of a source are made with
abbrev read_parameters_of : Reason → Option Nsec3Parameters
read_parameters_of (reason.Source fault) = fault.source.parameters
read_parameters_of other = None

abbrev pub read_parameters : Line → Option Nsec3Parameters
read_parameters (line.Reason each) = read_parameters_of each
read_parameters other = None

-- what is told, as far as lines tell it
abbrev pub labels_of : AskedName → ℕ
labels_of (At n) = n
labels_of (Wildcard n) = suc n

abbrev read_trust : Told → Told
read_trust (told.Zone why n) = told.Zone why n
read_trust (told.Entry why n) = told.Entry why n
read_trust (told.NotSelfSigned n) = told.NotSelfSigned (some_record n.rrset)
read_trust (told.NotVouched k) = told.NotVouched k
read_trust (told.Unsigned k) = told.Unsigned k
read_trust (told.Signature why n) = told.Signature why n
read_trust (told.Follows n) = told.Follows n

abbrev pub as_read : Said → Said
as_read (said.Trust each) = said.Trust (read_trust each)
as_read (said.NoCloser number n) = said.NoCloser number n
as_read (said.Dname above) = said.Dname above
as_read (said.DnameHeld n number) = said.DnameHeld n number
as_read (said.Nsec3 why number) = said.Nsec3 why number
as_read (said.Source why number asked) = said.Source why (some_source number.zone) (At (labels_of asked))
as_read (said.AnswerMissing n) = said.AnswerMissing n
as_read (said.DenialUnproved n) = said.DenialUnproved n
as_read (said.DsUnproved cut) = said.DsUnproved cut

-- ---- a line tells it

pub lower_count : (name : Labels) → length (lower_case name) ≡ length name
lower_count name = length-map name (λ label. map to_ascii_lowercase label)

above_count : (name : Labels) (n : ℕ) (zone : Labels) → IsAbove name n zone → length (lower_case zone) ≡ n
above_count name n zone above = lower_count zone ∙ ap length above.is ∙ rightmost_length name n above.within

asked_count : (name : Labels) (asked : AskedName) (x : Labels) → IsAskedName name asked x → length (lower_case x) ≡ labels_of asked
asked_count name (At n) x is = above_count name n x is
asked_count name (Wildcard n) x is =
    let size : length (rightmost name n) ≡ n = rightmost_length name n (omega arith) in
    lower_count x ∙ ap length is.1 ∙ ap suc size

shown_number : (rrsets : List ReceivedRrset) (n : SignatureNumber) (shown : ShownSignature) → IsShown rrsets n shown → shown.number ≡ n
shown_number rrsets n shown is = ap (λ (each : ShownSignature). each.number) is.is

entry_number : (rrsets : List ReceivedRrset) (anchors : List Anchor) (n : EntryNumber) (entry : Entry) → IsEntry rrsets anchors n entry
    → entry.number ≡ n
entry_number rrsets anchors (number.Anchor a) entry is = ap (λ (each : Entry). each.number) is.is
entry_number rrsets anchors (number.Ds n) entry is = ap (λ (each : Entry). each.number) is.is

module _ (a : Asking) where
  trust_read : (each : Told) (x : Line) → IsTrustLine a.basis a.name each x → read (lower_line x) ≡ said.Trust (read_trust each)
  trust_read (told.Zone why n) x is =
      ap (λ (l : Line). read (lower_line l)) is.2 ∙ ap (λ (k : ℕ). said.Trust (told.Zone why k)) (above_count a.name n is.0 is.1)
  trust_read (told.Entry why n) x is =
      ap (λ (l : Line). read (lower_line l)) is.2
      ∙ ap (λ (k : EntryNumber). said.Trust (told.Entry why k)) (entry_number a.basis.rrsets a.basis.anchors n is.0 is.1)
  trust_read (told.NotSelfSigned n) x is = ap (λ (l : Line). read (lower_line l)) is.4
  trust_read (told.Signature why n) x is =
      ap (λ (l : Line). read (lower_line l)) is.2
      ∙ ap (λ (k : SignatureNumber). said.Trust (told.Signature why k)) (shown_number a.basis.rrsets n is.0 is.1)
  trust_read (told.Follows n) x is =
      ap (λ (l : Line). read (lower_line l)) is.2
      ∙ ap (λ (k : SignatureNumber). said.Trust (told.Follows k)) (shown_number a.basis.rrsets n is.0 is.1)
  trust_read each x is = ap (λ (l : Line). read (lower_line l)) is.2

  dname_read : (n k : ℕ) (place : Option ℕ) (x : Line) → IsDnameLine a n k place x → read (lower_line x) ≡ read_dname n k place
  dname_read n k place x is =
      ap (λ (l : Line). read (lower_line l)) is.2 ∙ ap (λ (labels : ℕ). read_dname labels k place) (above_count a.name n is.0 is.1)

  zone_counted : (n : Option ℕ) (its : Option Labels) → IsZoneTold a n its → counted (lower_name its) ≡ n
  zone_counted None its is = ap (λ (each : Option Labels). counted (lower_name each)) is
  zone_counted (Some n) its is =
      ap (λ (each : Option Labels). counted (lower_name each)) is.2 ∙ ap (λ (k : ℕ). Some k) (above_count a.name n is.0 is.1)

  pub said_read : (each : Said) (x : Line) → IsSaidLine a each x → read (lower_line x) ≡ as_read each
  said_read (said.Trust each) x is = trust_read each x is
  said_read (said.NoCloser number n) x is =
      ap (λ (l : Line). read (lower_line l)) is.4
      ∙ ap₂ (λ (k : SignatureNumber) (labels : ℕ). said.NoCloser k labels) (shown_number a.basis.rrsets number is.1 is.3)
      (above_count a.name n is.0 is.2)
  said_read (said.Dname above) x is = dname_read above.labels above.rrset None x is
  said_read (said.DnameHeld n number) x is = dname_read n number.rrset (Some number.place) x is
  said_read (said.Nsec3 why number) x is = ap (λ (l : Line). read (lower_line l)) is.2
  said_read (said.Source why number asked) x is =
      let zone : length (lower_case is.0.zone) ≡ number.zone =
      ap (λ (each : Labels). length (lower_case each)) is.2.its_zone ∙ above_count a.name number.zone is.2.zone is.2.above in
      ap (λ (l : Line). read (lower_line l)) is.4
      ∙ ap₂ (λ (k labels : ℕ). said.Source why (some_source k) (At labels)) zone (asked_count a.name asked is.1 is.3)
  said_read (said.AnswerMissing n) x is =
      ap (λ (l : Line). read (lower_line l)) is.2 ∙ ap (λ (zone : Option ℕ). said.AnswerMissing zone) (zone_counted n is.0 is.1)
  said_read (said.DenialUnproved n) x is =
      ap (λ (l : Line). read (lower_line l)) is.2 ∙ ap (λ (k : ℕ). said.DenialUnproved k) (above_count a.name n is.0 is.1)
  said_read (said.DsUnproved cut) x is =
      ap (λ (l : Line). read (lower_line l)) is.4
      ∙ ap₂ (λ (name zone : ℕ). said.DsUnproved (record { name = name; zone = zone })) (above_count a.name cut.name is.0 is.2)
      (above_count a.name cut.zone is.1 is.3)
