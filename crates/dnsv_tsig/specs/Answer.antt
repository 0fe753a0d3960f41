-- What is answered to octets that somebody kept as a signed message: the message inside of them, or the first test
-- that they fail (RFC 8945 5.2).
use Rattle.std.specs.Prelude.{◌≡◌, ◌≢◌, ℕ, ◌+◌, ◌≤◌, ◌==◌, nat_le, Bool, not, ◌&&◌, if◌then◌else◌, List, [], ◌∷◌, ◌++◌, length, take, codes, Option, Some, None, Result, Ok, Err}
use Rattle.std.specs.List.{AllByRecursion}
use Rattle.std.specs.Str.{bytes_eq}
use Rattle.dnsv_names.specs.Name.{Labels, same_name}
use Rattle.dnsv_message.specs.declared.errors.DecodeError.{DecodeError}
use Rattle.dnsv_message.specs.declared.record.Record.{Record}
use Rattle.dnsv_message.specs.Message.{Contents, records_of}
use Rattle.dnsv_message.specs.Grammar.{MessageOf, FaultOf}
use Rattle.dnsv_message.specs.Tail.{TailAt}
use Rattle.dnsv_tsig.specs.declared.error.TsigError.{TsigError}
use Rattle.dnsv_tsig.specs.declared.error.TsigError.TheVariants.{NoTsig, Form, BadKey, BadMac, BadTime, TruncatedMac, PeerError}
use Rattle.dnsv_tsig.specs.Errors.{unreadable_as}
use Rattle.dnsv_tsig.specs.Key.{SharedKey, key_named}
use Rattle.dnsv_tsig.specs.Tsig.{TsigFields, IsTsig}
use Rattle.dnsv_tsig.specs.Mac.{stripped, tsig_mac_of}
use Rattle.dnsv_tsig.specs.Opened.{OpenedMessage}

-- no record is a TSIG record, which have the type 250 (RFC 8945 4.2)
abbrev pub LacksTsig : List Record → Type 0
LacksTsig records = AllByRecursion (λ each. each.rtype.0 ≢ 250) records

-- a TSIG record of class ANY and with TTL 0, whose MAC has 16 to 32 octets (RFC 8945 4.2, 5.2.2.1)
pub record Signs (resource : Record) (tsig : TsigFields) : Type 0 where
  pub rtype : resource.rtype.0 ≡ 250
  pub class : resource.class.0 ≡ 255
  pub ttl : resource.ttl.0 ≡ 0
  pub rdata : IsTsig resource.rdata tsig
  pub at_least : 16 ≤ length tsig.mac
  pub at_most : length tsig.mac ≤ 32

-- The owner of a message's TSIG record, and what that says. The record is the only one, and the last of the
-- additional section (RFC 8945 5.1, 5.2).
pub record IsSigned (message : Contents) (owner : Labels) (tsig : TsigFields) : Type 0 where
  pub others : List Record
  pub last : Record
  pub ends : message.additional ≡ others ++ last ∷ []
  pub only : LacksTsig (message.answer ++ message.authority ++ others)
  pub owned : owner ≡ last.name
  pub signs : Signs last tsig

-- the name of the one algorithm that is supported, HMAC-SHA256 (RFC 8945 6)
abbrev pub hmac_sha256_name : Labels
hmac_sha256_name = codes "hmac-sha256" ∷ []

-- the MAC is the right one, or a beginning of it
abbrev pub begins_mac : List ℕ → List ℕ → Bool
begins_mac mac right = bytes_eq mac (take (length mac) right)

-- the moment is at most so many seconds before or after the time signed (RFC 8945 5.2.3)
abbrev pub is_in_time : ℕ → ℕ → ℕ → Bool
is_in_time now time_signed fudge = nat_le now (time_signed + fudge) && nat_le time_signed (now + fudge)

-- the first that fails of the tests of the MAC and of what it protects (RFC 8945 5.2.2, 5.2.3, 5.2.4, 5.4)
abbrev pub failed_test : TsigFields → List ℕ → ℕ → Option TsigError
failed_test tsig right now =
    if not (begins_mac tsig.mac right) then Some BadMac
    else if not (is_in_time now tsig.time_signed tsig.fudge) then Some BadTime
    else if not (length tsig.mac == 32) then Some TruncatedMac
    else if not (tsig.error == 0) then Some PeerError
    else None

-- what the tests say of a message under a key: that the first fails, or the message inside and the key's name
abbrev pub answer_under : Option TsigError → List ℕ → Labels → Result OpenedMessage TsigError
answer_under (Some error) message key = Err error
answer_under None message key = Ok (record { message = message; key = key })

-- the key and the algorithm have to be known first (RFC 8945 5.2.1)
abbrev pub answer_by : Option SharedKey → ℕ → Option (List ℕ) → List ℕ → ℕ → Labels → TsigFields
    → Result OpenedMessage TsigError
answer_by None now request octets place owner tsig = Err BadKey
answer_by (Some key) now request octets place owner tsig =
    if same_name tsig.algorithm hmac_sha256_name
    then answer_under (failed_test tsig (tsig_mac_of key.secret request octets place owner tsig) now)
    (stripped octets place tsig.original_id) key.name
    else Err BadKey

-- a message that is read is answered so: by its signature, whose record begins at the place where the last record
-- does, by the ring's keys, the moment, and the MAC of the request
pub data MessageAnswer
    (octets : List ℕ) (message : Contents) (keys : List SharedKey) (now : ℕ) (request : Option (List ℕ))
    : Result OpenedMessage TsigError → Type 0 where
  unsigned : LacksTsig (records_of message) → MessageAnswer octets message keys now request (Err NoTsig)
  misformed : (LacksTsig (records_of message) → ⊥)
      → ((owner : Labels) (tsig : TsigFields) → IsSigned message owner tsig → ⊥)
      → MessageAnswer octets message keys now request (Err Form)
  signed : {owner : Labels} {tsig : TsigFields} {place : ℕ}
      → IsSigned message owner tsig
      → TailAt octets message place
      → MessageAnswer octets message keys now request
      (answer_by (key_named owner keys) now request octets place owner tsig)

-- What is answered to octets: that they are no message, for their first fault, or what is answered to the message.
pub data tsig_answer_of (octets : List ℕ) (keys : List SharedKey) (now : ℕ) (request : Option (List ℕ))
    : Result OpenedMessage TsigError → Type 0 where
  unreadable : {fault : DecodeError} → FaultOf octets fault
      → tsig_answer_of octets keys now request (Err (unreadable_as fault))
  readable : {message : Contents} {answer : Result OpenedMessage TsigError} → MessageOf octets message
      → MessageAnswer octets message keys now request answer
      → tsig_answer_of octets keys now request answer
