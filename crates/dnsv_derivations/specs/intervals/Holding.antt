-- From when to when signatures are valid (RFC 4034 3.1.5).
use Rattle.std.specs.Prelude.{◌≡◌, ℕ, ◌≤◌, List, Option, Some, None, All, Contains, max}
use Rattle.dnsv_records.specs.Rrsig.{IsRrsig}
use Rattle.dnsv_records.specs.Rrsig.Time.{ValidAt}
use Rattle.dnsv_records.specs.declared.rrsig.Rrsig.{Rrsig}
use Rattle.dnsv_canonical.specs.Rrsets.{IsNumbered, ReceivedRrset}
use Rattle.dnsv_lines.specs.declared.line.interval.Interval.{Interval}
use Rattle.dnsv_derivations.specs.declared.interval.Times.{Times}
use Rattle.dnsv_lines.specs.declared.line.Line.{Line}
use Rattle.dnsv_lines.specs.declared.line.Line.TheVariants as line
use Rattle.dnsv_canonical.specs.declared.number.SignatureNumber.{SignatureNumber}

-- ---- intervals

-- the last moment that can be asked of: 48 bits of seconds since 1970, as TSIG has them (RFC 8945 4.2)
abbrev pub last_moment : ℕ
last_moment = 281474976710655

-- it holds at each moment from the first one to the last one
abbrev pub HoldsFrom : (ℕ → Type 0) → ℕ → ℕ → Type 0
HoldsFrom Holds from to = (moment : ℕ) → from ≤ moment → moment ≤ to → Holds moment

-- The greatest interval around the moment in which it holds: none around it that ends by the last moment, or by this
-- one where it is greater, begins before it or ends behind it.
pub record IsGreatestAround (Holds : ℕ → Type 0) (moment : ℕ) (interval : Interval) : Type 0 where
  pub begins : interval.from ≤ moment
  pub ends : moment ≤ interval.to
  pub last : interval.to ≤ max moment last_moment
  pub holds : HoldsFrom Holds interval.from interval.to
  pub greatest : (from to : ℕ) → from ≤ moment → moment ≤ to → to ≤ max moment last_moment
      → HoldsFrom Holds from to → (interval.from ≤ from) × (to ≤ interval.to)

-- ---- signatures

-- each of the signatures is valid at the moment
abbrev pub AreValidAt : List Times → ℕ → Type 0
AreValidAt signatures moment = All (λ times. ValidAt times.inception.0 times.expiration.0 moment) signatures

-- the greatest interval in which each of the signatures is valid
abbrev pub IsHolding : List Times → ℕ → Interval → Type 0
IsHolding signatures moment interval = IsGreatestAround (AreValidAt signatures) moment interval

-- ---- lines

-- the signature that a line shows: one says that it is good
abbrev pub signature_shown : Line → Option SignatureNumber
signature_shown (line.Trusted keys) = Some keys.signature
signature_shown (line.Signed signed) = Some signed.signature
signature_shown _ = None

-- the signature with the number has these times
pub record HasTimes (rrsets : List ReceivedRrset) (number : SignatureNumber) (times : Times) : Type 0 where
  pub rrset : ReceivedRrset
  pub is_rrset : IsNumbered rrsets number.rrset rrset
  pub rdata : List ℕ
  pub is_signature : IsNumbered rrset.signatures number.signature rdata
  pub rrsig : Rrsig
  pub read : IsRrsig rdata rrsig
  pub inception : times.inception ≡ rrsig.inception
  pub expiration : times.expiration ≡ rrsig.expiration

-- the line shows a signature with these times
abbrev pub ShowsTimes : List ReceivedRrset → Line → Times → Type 0
ShowsTimes rrsets line times =
    (number : SignatureNumber) × (signature_shown line ≡ Some number) × HasTimes rrsets number times

-- each signature that the lines show is valid at the moment
abbrev pub AreShownValidAt : List ReceivedRrset → List Line → ℕ → Type 0
AreShownValidAt rrsets lines moment =
    (line : Line) (times : Times) → Contains lines line → ShowsTimes rrsets line times
    → ValidAt times.inception.0 times.expiration.0 moment

-- the greatest interval in which each signature that the lines show is valid
abbrev pub IsHoldingOf : List ReceivedRrset → List Line → ℕ → Interval → Type 0
IsHoldingOf rrsets lines moment interval = IsGreatestAround (AreShownValidAt rrsets lines) moment interval
