-- How what wildcards' signatures ask for is looked for. No public clause cites this module.
use Rattle.std.specs.Prelude.{◌≡◌, ℕ}
use Rattle.dnsv_records.specs.declared.rrsig.Rrsig.{Rrsig}
use Rattle.dnsv_canonical.specs.Rrsets.{ReceivedRrset}
use Rattle.dnsv_denial.specs.Viewed.{Viewed}
use Rattle.dnsv_faults.specs.Signatures.{IsSignatureAt}
use Rattle.dnsv_chain.specs.Basis.{HasTrust}
use Rattle.dnsv_mending.specs.declared.facts.signature.SignatureFacts.{SignatureFacts}
use Rattle.dnsv_gaps.specs.declared.asked.AskedQuestion.{AskedQuestion}

-- what the evidence shows of the name that is asked for
abbrev pub viewed : AskedQuestion → Viewed
viewed question = record {
  rrsets = question.facts.now.rrsets;
  trust = question.facts.now.trust;
  name = question.name.now;
}

-- it is what the view shows, by the trust that the case gives
pub record IsViewOf (question : AskedQuestion) (view : Viewed) : Type 0 where
  pub is : view ≡ viewed question
  pub trust : HasTrust question.facts.now

-- the number is that of a signature of the RRset
abbrev pub IsSignatureNumber : ReceivedRrset → ℕ → Type 0
IsSignatureNumber rrset number = (rrsig : Rrsig) × IsSignatureAt rrset number rrsig

-- the signature is one of the RRset
abbrev pub IsOneOf : ReceivedRrset → SignatureFacts → Type 0
IsOneOf rrset facts = IsSignatureNumber rrset facts.number.signature
