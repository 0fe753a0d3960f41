-- At most one record of the evidence has a number.
use Rattle.std.proofs.Common.{◌≡◌, ℕ, List, ◌∷◌, map, sym, ap, ◌∙◌, subst, arith}
use Rattle.std.specs.FinSet as set
use Rattle.dnsv_names.specs.Name.{Labels}
use Rattle.dnsv_records.specs.Nsec3.{IsNsec3}
use Rattle.dnsv_records.specs.declared.nsec3.Nsec3.{Nsec3}
use Rattle.dnsv_records.proofs.OneRecord.{one_nsec3}
use Rattle.dnsv_records.proofs.Base32Lemmas.{same_octets}
use Rattle.std.specs.Char.{to_ascii_lowercase}
use Rattle.dnsv_records.specs.Base32Hex.{Base32Hex}
use Rattle.dnsv_zones.specs.chains.Nsec3Chain.{Nsec3Record}
use Rattle.dnsv_zones.specs.chains.NsecChain.{NsecRecord}
use Rattle.dnsv_zones.specs.chains.Rdata.{parameters_of}
use Rattle.dnsv_canonical.specs.Rrsets.{ReceivedRrset}
use Rattle.dnsv_denial.specs.gathering.Evidence.{IsNsecOf, IsNsec3Of, IsHashedOwner}
use Rattle.dnsv_canonical.specs.declared.number.RecordNumber.{RecordNumber}
use Rattle.dnsv_denial.proofs.lemmas.gathering.EvidenceLemmas.{one_record}

-- one owner spells one hash
one_hash : (first second owner other : Labels) (a b : List ℕ) → owner ≡ other → IsHashedOwner first owner a → IsHashedOwner second other b → a ≡ b
one_hash first second owner other a b same is_a is_b =
    let heads : is_a.label ∷ is_a.parent ≡ is_b.label ∷ is_b.parent = sym is_a.parts ∙ same ∙ is_b.parts in
    let label : is_a.label ≡ is_b.label = cc in
    same_octets (map to_ascii_lowercase is_b.label) a b is_a.is_hash.eight_bits is_b.is_hash.eight_bits
    (subst (λ text. Base32Hex (map to_ascii_lowercase text) a) label is_a.spelled) is_b.spelled

-- whatever the zones
pub one_nsec3_of : (rrsets : List ReceivedRrset) (first second : Labels) (n : RecordNumber) (a b : Nsec3Record) → IsNsec3Of rrsets first n a → IsNsec3Of rrsets second n b → a ≡ b
one_nsec3_of rrsets first second n a b is_a is_b =
    let one = one_record rrsets n is_a.rrset is_b.rrset is_a.rdata is_b.rdata is_a.at is_b.at in
    let fields : is_a.fields ≡ is_b.fields = one_nsec3 is_b.rdata is_a.fields is_b.fields (subst (λ x. IsNsec3 x is_a.fields) one.1 is_a.read) is_b.read in
    let hash : a.hash ≡ b.hash = one_hash first second is_a.rrset.owner is_b.rrset.owner a.hash b.hash (ap (λ (r : ReceivedRrset). r.owner) one.0) is_a.owner is_b.owner in
    let next : a.next ≡ b.next = is_a.next ∙ ap (λ (f : Nsec3). f.next_hash) fields ∙ sym is_b.next in
    let flags : a.flags ≡ b.flags = is_a.flags ∙ ap (λ (f : Nsec3). f.flags.0) fields ∙ sym is_b.flags in
    let types : a.types ≡ b.types = is_a.types ∙ ap (λ (f : Nsec3). λ t. set.contains f.types t) fields ∙ sym is_b.types in
    let parameters : a.parameters ≡ b.parameters = is_a.parameters ∙ ap (λ (f : Nsec3). parameters_of f.parameters) fields ∙ sym is_b.parameters in
    λ i. record { hash = hash i; next = next i; flags = flags i; types = types i; parameters = parameters i }

-- no record is both
pub nsec_or_nsec3 : (rrsets : List ReceivedRrset) (zone : Labels) (n : RecordNumber) (a : NsecRecord) (b : Nsec3Record) → IsNsecOf rrsets n a → IsNsec3Of rrsets zone n b → ⊥
nsec_or_nsec3 rrsets zone n a b is_a is_b =
    let one = one_record rrsets n is_a.rrset is_b.rrset is_a.rdata is_b.rdata is_a.at is_b.at in
    let types : 47 ≡ 50 = sym is_a.rtype ∙ ap (λ (r : ReceivedRrset). r.rtype) one.0 ∙ is_b.rtype in
    omega (arith, types)
