-- The table of what a verifier says of the evidence: each entry that is asked, with the answer.
use Rattle.std.specs.Prelude.{◌≡◌, ◌↔◌, ◌<◌, ℕ, Bool, true, false, List, Contains, filter, map, unwrap_or}
use Rattle.std.specs.List.{zip}
use Rattle.std.specs.List.Sorted.{IsStrictlySortedBy}
use Rattle.std.specs.Map.{lookup}
use Rattle.std.specs.Ordering.{is_eq}
use Rattle.dnsv_records.specs.Rrsig.{IsRrsig}
use Rattle.dnsv_records.specs.declared.rrsig.Rrsig.{Rrsig}
use Rattle.dnsv_canonical.specs.Rrsets.{IsNumbered, ReceivedRrset}
use Rattle.dnsv_canonical.specs.SignedData.{signed_label_count}
use Rattle.dnsv_canonical.specs.declared.number.SignatureNumber.{SignatureNumber}
use Rattle.dnsv_verifier.specs.Admissible.{DnskeyRecord, IsAsked, IsEntryOf}
use Rattle.dnsv_verifier.specs.Entry.{entry_cmp}
use Rattle.dnsv_verifier.specs.declared.answer.Answer.{Answer}
use Rattle.dnsv_verifier.specs.declared.answer.Answer.TheVariants.{Valid, Invalid, Unknown}
use Rattle.dnsv_verifier.specs.declared.entry.Entry.{Entry}

-- a moment, the RRsets of the evidence, and entries with what was said of them
pub record TableContents : Type 0 where
  pub moment : ℕ
  pub rrsets : List ReceivedRrset
  pub answers : List (Entry × Answer)

-- the answer that is listed for the entry, Unknown where none is
abbrev pub table_answer : TableContents → Entry → Answer
table_answer contents entry = unwrap_or (lookup (λ each. is_eq (entry_cmp entry each)) contents.answers) Unknown

abbrev pub is_unknown : Answer → Bool
is_unknown Unknown = true
is_unknown Valid = false
is_unknown Invalid = false

-- the entries that are listed as Unknown, in order
abbrev pub unknown_entries : TableContents → List Entry
unknown_entries contents = map (λ each. each.0) (filter (λ each. is_unknown each.1) contents.answers)

-- the best that may come of an answer: Unknown may turn out Valid
abbrev pub hoped_answer : Answer → Answer
hoped_answer Unknown = Valid
hoped_answer Valid = Valid
hoped_answer Invalid = Invalid

-- the same with each Unknown one Valid
abbrev pub hopeful : TableContents → TableContents
hopeful contents = record {
  moment = contents.moment;
  rrsets = contents.rrsets;
  answers = map (λ each. (each.0, hoped_answer each.1)) contents.answers;
}

-- the same moment, evidence and entries, with other answers: the first is that of the first entry, and so on
abbrev pub with_answers : TableContents → List Answer → TableContents
with_answers contents answers = record {
  moment = contents.moment;
  rrsets = contents.rrsets;
  answers = zip (map (λ each. each.0) contents.answers) answers;
}

-- The contents are the moment, the evidence, and what a verifier of this meaning says of just those entries that are
-- asked, each once, by rising algorithm, key, signed data and signature.
pub record IsTableOf (meaning : Entry → Answer) (moment : ℕ) (rrsets : List ReceivedRrset) (contents : TableContents)
    : Type 0 where
  pub of_moment : contents.moment ≡ moment
  pub of_rrsets : contents.rrsets ≡ rrsets
  pub entries : List Entry
  pub rising : IsStrictlySortedBy entry_cmp entries
  pub asked : (entry : Entry) → Contains entries entry ↔ IsAsked moment rrsets entry
  pub answers : contents.answers ≡ map (λ entry. (entry, meaning entry)) entries

-- the RRset of the evidence and its signature that have these numbers
pub record HasNumber (rrsets : List ReceivedRrset) (number : SignatureNumber) (rrset : ReceivedRrset) (rrsig : Rrsig)
    : Type 0 where
  pub numbered : IsNumbered rrsets number.rrset rrset
  pub rdata : List ℕ
  pub signature : IsNumbered rrset.signatures number.signature rdata
  pub is : IsRrsig rdata rrsig

-- A verifier is asked nothing of these numbers: no signature has them, or its Labels is above the count of its owner's
-- labels (RFC 4035 5.3.2).
abbrev pub SignsNothing : List ReceivedRrset → SignatureNumber → Type 0
SignsNothing rrsets number =
    (rrset : ReceivedRrset) (rrsig : Rrsig) → HasNumber rrsets number rrset rrsig
    → signed_label_count rrset.owner < rrsig.labels

-- The answer is the one to what a verifier is asked of the signature with these numbers, of the evidence of the contents,
-- under the key.
pub record IsAnswerAt (contents : TableContents) (number : SignatureNumber) (key : DnskeyRecord) (answer : Answer)
    : Type 0 where
  pub rrset : ReceivedRrset
  pub rrsig : Rrsig
  pub has_number : HasNumber contents.rrsets number rrset rrsig
  pub entry : Entry
  pub asked : IsEntryOf rrset rrsig key entry
  pub says : answer ≡ table_answer contents entry
