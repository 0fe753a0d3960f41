-- How the signatures of an RRset are put in order. No public clause cites this module.
use Rattle.std.specs.Prelude.{ℕ}
use Rattle.dnsv_records.specs.declared.rrsig.Rrsig.{Rrsig}
use Rattle.dnsv_canonical.specs.Rrsets.{ReceivedRrset}
use Rattle.dnsv_faults.specs.Rrsets.{Rank, rank_of}
use Rattle.dnsv_faults.specs.Signatures.{IsSignatureAt}
use Rattle.dnsv_faults.specs.declared.rrset.NumberedSignature.{NumberedSignature}

abbrev pub seen_signature : NumberedSignature → ℕ × Rrsig
seen_signature signature = (signature.number, signature.rrsig.now)

abbrev pub rank : NumberedSignature → Rank
rank signature = rank_of (seen_signature signature)

-- it is one of the RRset's, with its number
abbrev pub IsSignatureOf : ReceivedRrset → NumberedSignature → Type 0
IsSignatureOf rrset signature = IsSignatureAt rrset signature.number signature.rrsig.now
