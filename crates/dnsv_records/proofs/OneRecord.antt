-- RDATA is read in one way.
use Rattle.std.proofs.Common.{◌≡◌, ℕ, List, drop, refl, sym, subst, ◌∙◌, arith}
use Rattle.dnsv_names.specs.Octets.{AreOctets}
use Rattle.dnsv_names.specs.Name.WireLaws.{wire-front}
use Rattle.dnsv_records.specs.declared.dnskey.Dnskey.{Dnskey}
use Rattle.dnsv_records.specs.declared.ds.Ds.{Ds}
use Rattle.dnsv_records.specs.declared.nsec.Nsec.{Nsec}
use Rattle.dnsv_records.specs.declared.nsec3.Nsec3.{Nsec3}
use Rattle.dnsv_records.specs.declared.rrsig.Rrsig.{Rrsig}
use Rattle.dnsv_records.specs.Bitmap.{Bitmap}
use Rattle.dnsv_records.specs.Dnskey.{IsDnskey}
use Rattle.dnsv_records.specs.Ds.{IsDs}
use Rattle.dnsv_records.specs.Nsec.{IsNsec}
use Rattle.dnsv_records.specs.Nsec3.{IsNsec3}
use Rattle.dnsv_records.specs.Rrsig.{IsRrsig}
use Rattle.dnsv_records.proofs.BitmapLemmas.{same_types}
use Rattle.dnsv_records.proofs.RecordLemmas.{same_counted, same_field, same_front, same_whole}

pub one_dnskey : (rdata : List ℕ) (a b : Dnskey) → IsDnskey rdata a → IsDnskey rdata b → a ≡ b
one_dnskey rdata a b p q =
    let flags : a.flags.0 ≡ b.flags.0 = p.flags ∙ sym q.flags in
    let protocol : a.protocol ≡ b.protocol = p.protocol ∙ sym q.protocol in
    let algorithm : a.algorithm.0 ≡ b.algorithm.0 = p.algorithm ∙ sym q.algorithm in
    let key : a.key ≡ b.key = p.key ∙ sym q.key in
    λ i. record { flags = record { 0 = flags i }; protocol = protocol i; algorithm = record { 0 = algorithm i }; key = key i }

-- a DNSKEY is the RDATA of one spelling
pub one_dnskey_spelling : (a b : List ℕ) (dnskey : Dnskey) → AreOctets a → AreOctets b → IsDnskey a dnskey → IsDnskey b dnskey → a ≡ b
one_dnskey_spelling a b dnskey low_a low_b p q =
    let long_a = p.head in
    let long_b = q.head in
    let to_2 = same_front 0 2 2 a b refl refl (same_field 0 2 a b low_a low_b (omega (arith, long_a)) (omega (arith, long_b)) (sym p.flags ∙ q.flags)) in
    let to_3 = same_front 2 1 3 a b refl to_2 (same_field 2 1 a b low_a low_b (omega (arith, long_a)) (omega (arith, long_b)) (sym p.protocol ∙ q.protocol)) in
    let to_4 = same_front 3 1 4 a b refl to_3 (same_field 3 1 a b low_a low_b (omega (arith, long_a)) (omega (arith, long_b)) (sym p.algorithm ∙ q.algorithm)) in
    same_whole 4 a b to_4 (sym p.key ∙ q.key)

pub one_ds : (rdata : List ℕ) (a b : Ds) → IsDs rdata a → IsDs rdata b → a ≡ b
one_ds rdata a b p q =
    let key_tag : a.key_tag.0 ≡ b.key_tag.0 = p.key_tag ∙ sym q.key_tag in
    let algorithm : a.algorithm.0 ≡ b.algorithm.0 = p.algorithm ∙ sym q.algorithm in
    let digest_type : a.digest_type.0 ≡ b.digest_type.0 = p.digest_type ∙ sym q.digest_type in
    let digest : a.digest ≡ b.digest = p.digest ∙ sym q.digest in
    λ i. record { key_tag = record { 0 = key_tag i }; algorithm = record { 0 = algorithm i }; digest_type = record { 0 = digest_type i }; digest = digest i }

-- an RRSIG is its fields
pub same_rrsig : (a b : Rrsig) → a.type_covered.0 ≡ b.type_covered.0 → a.algorithm.0 ≡ b.algorithm.0 → a.labels ≡ b.labels
    → a.original_ttl.0 ≡ b.original_ttl.0 → a.expiration.0 ≡ b.expiration.0 → a.inception.0 ≡ b.inception.0
    → a.key_tag.0 ≡ b.key_tag.0 → a.signer ≡ b.signer → a.signature ≡ b.signature → a ≡ b
same_rrsig a b type_covered algorithm labels original_ttl expiration inception key_tag signer signature =
    λ i. record {
      type_covered = record { 0 = type_covered i };
      algorithm = record { 0 = algorithm i };
      labels = labels i;
      original_ttl = record { 0 = original_ttl i };
      expiration = record { 0 = expiration i };
      inception = record { 0 = inception i };
      key_tag = record { 0 = key_tag i };
      signer = signer i;
      signature = signature i;
    }

pub one_rrsig : (rdata : List ℕ) (a b : Rrsig) → IsRrsig rdata a → IsRrsig rdata b → a ≡ b
one_rrsig rdata a b p q =
    let behind = wire-front a.signer b.signer a.signature b.signature p.name.each q.name.each (sym p.rest ∙ q.rest) in
    same_rrsig a b (p.type_covered ∙ sym q.type_covered) (p.algorithm ∙ sym q.algorithm) (p.labels ∙ sym q.labels)
    (p.original_ttl ∙ sym q.original_ttl) (p.expiration ∙ sym q.expiration) (p.inception ∙ sym q.inception)
    (p.key_tag ∙ sym q.key_tag) behind.0 behind.1

pub one_nsec : (rdata : List ℕ) (a b : Nsec) → IsNsec rdata a → IsNsec rdata b → a ≡ b
one_nsec rdata a b p q =
    let parts = wire-front a.next b.next p.bits q.bits p.name.each q.name.each (sym p.whole ∙ q.whole) in
    let types : a.types ≡ b.types = same_types q.bits a.types b.types (subst (λ bits. Bitmap bits a.types) parts.1 p.bitmap) q.bitmap in
    λ i. record { next = parts.0 i; types = types i }

pub one_nsec3 : (rdata : List ℕ) (a b : Nsec3) → IsNsec3 rdata a → IsNsec3 rdata b → a ≡ b
one_nsec3 rdata a b p q =
    let salt = same_counted (drop 4 rdata) a.parameters.salt b.parameters.salt p.behind_salt q.behind_salt p.salt q.salt in
    let hash = same_counted p.behind_salt a.next_hash b.next_hash p.bits q.bits p.next_hash (salt.1 ∙ q.next_hash) in
    let types : a.types ≡ b.types = same_types q.bits a.types b.types (subst (λ bits. Bitmap bits a.types) hash.1 p.bitmap) q.bitmap in
    let algorithm : a.algorithm.0 ≡ b.algorithm.0 = p.algorithm ∙ sym q.algorithm in
    let flags : a.flags.0 ≡ b.flags.0 = p.flags ∙ sym q.flags in
    let iterations : a.parameters.iterations.0 ≡ b.parameters.iterations.0 = p.iterations ∙ sym q.iterations in
    λ i. record {
      algorithm = record { 0 = algorithm i };
      flags = record { 0 = flags i };
      parameters = record { iterations = record { 0 = iterations i }; salt = salt.0 i };
      next_hash = hash.0 i;
      types = types i;
    }
