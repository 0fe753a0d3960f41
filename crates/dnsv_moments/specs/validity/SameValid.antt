-- Moments at which the same signatures of the evidence are valid.
use Rattle.std.specs.Prelude.{◌↔◌, ℕ, List, Contains}
use Rattle.dnsv_records.specs.Rrsig.Time.{ValidAt}
use Rattle.dnsv_records.specs.declared.rrsig.Rrsig.{Rrsig}
use Rattle.dnsv_canonical.specs.Rrsets.{ReceivedRrset}
use Rattle.dnsv_verifier.specs.Admissible.{IsSignatureOf}
use Rattle.dnsv_timeline.specs.declared.times.Times.{Times}
use Rattle.dnsv_chain.specs.Basis.{Basis, basis_of}

-- each signature of the RRsets is valid at both moments, or at neither
abbrev pub AreSignaturesSameValid : List ReceivedRrset → ℕ → ℕ → Type 0
AreSignaturesSameValid rrsets moment other = (rrset : ReceivedRrset) (rrsig : Rrsig)
    → Contains rrsets rrset → IsSignatureOf rrset rrsig
    → ValidAt rrsig.inception.0 rrsig.expiration.0 moment ↔ ValidAt rrsig.inception.0 rrsig.expiration.0 other

-- the same evidence, anchors and verifier at another moment
abbrev pub at_moment : Basis → ℕ → Basis
at_moment basis moment = basis_of basis.rrsets basis.anchors moment basis.meaning

-- the times are those of each signature of the RRsets
abbrev pub HaveTimes : List ReceivedRrset → List Times → Type 0
HaveTimes rrsets signatures = (rrset : ReceivedRrset) (rrsig : Rrsig) → Contains rrsets rrset → IsSignatureOf rrset rrsig
    → Contains signatures (record { inception = rrsig.inception; expiration = rrsig.expiration })
