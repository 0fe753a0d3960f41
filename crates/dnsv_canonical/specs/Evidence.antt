-- Evidence: which messages a capture takes, and what it holds of them.
use Rattle.std.specs.Prelude.{◌≡◌, ◌↔◌, ℕ, suc, ◌+◌, ◌≤◌, ⊤, ◌==◌, if◌then◌else◌, List, [], ◌∷◌, ◌++◌, length, Contains, flat_map}
use Rattle.std.specs.List.{AllByRecursion, enumerate_from, filter, fold}
use Rattle.dnsv_message.specs.Message.{Contents, records_of}
use Rattle.dnsv_message.specs.declared.record.Record.{Record}
use Rattle.dnsv_records.specs.declared.nsec3.Nsec3.{Nsec3}
use Rattle.dnsv_records.specs.declared.nsec3.Nsec3Parameters.{Nsec3Parameters}
use Rattle.dnsv_records.specs.Nsec3.{IsNsec3, IsUsable}
use Rattle.dnsv_message.specs.Flags.{HasQR, HasTC}
use Rattle.dnsv_canonical.specs.Rdata.{IsLaidOut}
use Rattle.dnsv_canonical.specs.Rrsets.{ReceivedRrset, message_rrsets}
use Rattle.dnsv_canonical.specs.declared.capture.CaptureError.{CaptureError}
use Rattle.dnsv_canonical.specs.declared.capture.CaptureError.TheVariants.{OutOfMemory, NotAResponse, Truncated, BadRdata, Limit}

-- ---- the message

-- the message is a response that wasn't cut to fit
abbrev pub IsWhole : Contents → Type 0
IsWhole message = HasQR message.flags × ¬ HasTC message.flags

-- the record's RDATA can be read; that of another class than IN means nothing here
abbrev pub IsReadable : Record → Type 0
IsReadable r = r.class.0 ≡ 1 → IsLaidOut r.rtype.0 r.rdata

-- the k-th of the records, from 1 on, is the first that can't be read
abbrev pub IsFirstBad : List Record → ℕ → Type 0
IsFirstBad records k =
    (before : List Record) × (bad : Record) × (behind : List Record) × (records ≡ before ++ bad ∷ behind)
    × AllByRecursion IsReadable before × ¬ IsReadable bad × (k ≡ suc (length before))

-- ---- what is held

-- how many messages and records were taken, and the RRsets of those messages: the k-th of them, from 1 on, is RRset k
pub record Evidence : Type 0 where
  pub messages : ℕ
  pub records : ℕ
  pub rrsets : List ReceivedRrset

abbrev pub no_evidence : Evidence
no_evidence = record { messages = 0; records = 0; rrsets = [] }

-- one message more
abbrev pub with_message : Evidence → Contents → Evidence
with_message held message = record {
  messages = suc held.messages;
  records = held.records + length (records_of message);
  rrsets = held.rrsets ++ message_rrsets (suc held.messages) message;
}

-- the evidence of messages that are added one by one
abbrev pub evidence_of : List Contents → Evidence
evidence_of messages = fold with_message no_evidence messages

-- ---- limits

-- there are at most so many: some list of so many has each
abbrev pub AtMost : {X : Type 0} → ℕ → (X → Type 0) → Type 0
AtMost {X} limit P = (all : List X) × (length all ≤ limit) × ((x : X) → P x → Contains all x)

-- an RRset has at most 16 distinct keys, by their whole RDATA, and at most 16 signatures, of which none is listed twice
pub record IsSmall (rrset : ReceivedRrset) : Type 0 where
  pub keys : rrset.rtype ≡ 48 → AtMost 16 (Contains rrset.rdata)
  pub signatures : length rrset.signatures ≤ 16

-- the RDATA of the NSEC3 records
abbrev pub nsec3_rdata : List ReceivedRrset → List (List ℕ)
nsec3_rdata rrsets = flat_map (λ rrset. if rrset.rtype == 50 then rrset.rdata else []) rrsets

-- the parameters of a usable NSEC3 record (RFC 5155 3.1.3, 3.1.5)
abbrev pub AreUsableParameters : List ℕ → Nsec3Parameters → Type 0
AreUsableParameters rdata parameters =
    (nsec3 : Nsec3) × IsNsec3 rdata nsec3 × IsUsable nsec3 × (parameters ≡ nsec3.parameters)

-- the parameters of one of these NSEC3 records, if it is usable
abbrev pub AreParametersAmong : List (List ℕ) → Nsec3Parameters → Type 0
AreParametersAmong received parameters =
    (rdata : List ℕ) × Contains received rdata × AreUsableParameters rdata parameters

-- no element stands in the list twice
abbrev pub IsDistinct : {X : Type 0} → List X → Type 0
IsDistinct [] = ⊤
IsDistinct (x ∷ xs) = ¬ Contains xs x × IsDistinct xs

-- the list has the parameters of these NSEC3 records, those of usable ones alone, each once
pub record AreParameters (received : List (List ℕ)) (all : List Nsec3Parameters) : Type 0 where
  pub distinct : IsDistinct all
  pub members : (parameters : Nsec3Parameters) → Contains all parameters ↔ AreParametersAmong received parameters

-- at most 64 messages, 4,096 records of all classes and types, and 8 distinct parameters of usable NSEC3 records, and
-- each RRset within its own limits
pub record IsWithinLimits (held : Evidence) : Type 0 where
  pub messages : held.messages ≤ 64
  pub records : held.records ≤ 4096
  pub rrsets : AllByRecursion IsSmall held.rrsets
  pub parameters : AtMost 8 (AreParametersAmong (nsec3_rdata held.rrsets))

-- the message is evidence besides what is held
abbrev pub IsEvidence : Evidence → Contents → Type 0
IsEvidence held message =
    IsWhole message × AllByRecursion IsReadable (records_of message) × IsWithinLimits (with_message held message)

-- ---- what is refused

-- why the message isn't taken besides what is held; each reason leaves out those before it, and memory can be wanting
-- only for a response that wasn't cut to fit
abbrev pub IsReasonAgainst : Evidence → Contents → CaptureError → Type 0
IsReasonAgainst held message OutOfMemory = IsWhole message
IsReasonAgainst held message NotAResponse = ¬ HasQR message.flags
IsReasonAgainst held message Truncated = HasQR message.flags × HasTC message.flags
IsReasonAgainst held message (BadRdata k) = IsWhole message × IsFirstBad (records_of message) k
IsReasonAgainst held message Limit =
    IsWhole message × AllByRecursion IsReadable (records_of message) × ¬ IsWithinLimits (with_message held message)

-- ---- signatures

-- the RDATA of the signatures of the RRset with the number, where RRsets are numbered from 1 on
abbrev pub signatures_at : List ReceivedRrset → ℕ → List (List ℕ)
signatures_at rrsets number =
    flat_map (λ numbered. numbered.1.signatures) (filter (λ numbered. numbered.0 == number) (enumerate_from 1 rrsets))
