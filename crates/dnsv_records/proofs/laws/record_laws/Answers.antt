use Rattle.std.proofs.Common.{◌++◌, ◌∷◌, length, refl, sym, ap, ◌∙◌, arith}
use Rattle.dnsv_names.specs.Name.{wire}
use Rattle.dnsv_records.proofs.BitmapLemmas.{same_spelling}
use Rattle.dnsv_records.proofs.RecordLemmas.{same_field, same_front, same_whole}
use Rattle.dnsv_records.proofs.OneRecord as one
use Rattle.dnsv_records.proofs.laws.record_laws.Goals as goal

pub returns-clause-dnskey : goal.returns-clause-dnskey
returns-clause-dnskey c = one.one_dnskey_spelling

pub returns-clause-ds : goal.returns-clause-ds
returns-clause-ds c = λ a b ds low_a low_b p q.
    let long_a = p.head in
    let long_b = q.head in
    let to_2 = same_front 0 2 2 a b refl refl (same_field 0 2 a b low_a low_b (omega arith) (omega arith) (sym p.key_tag ∙ q.key_tag)) in
    let to_3 = same_front 2 1 3 a b refl to_2 (same_field 2 1 a b low_a low_b (omega arith) (omega arith) (sym p.algorithm ∙ q.algorithm)) in
    let to_4 = same_front 3 1 4 a b refl to_3 (same_field 3 1 a b low_a low_b (omega arith) (omega arith) (sym p.digest_type ∙ q.digest_type)) in
    same_whole 4 a b to_4 (sym p.digest ∙ q.digest)

pub returns-clause-rrsig : goal.returns-clause-rrsig
returns-clause-rrsig c = λ a b rrsig low_a low_b p q.
    let long_a = p.head in
    let long_b = q.head in
    let to_2 = same_front 0 2 2 a b refl refl (same_field 0 2 a b low_a low_b (omega arith) (omega arith) (sym p.type_covered ∙ q.type_covered)) in
    let to_3 = same_front 2 1 3 a b refl to_2 (same_field 2 1 a b low_a low_b (omega arith) (omega arith) (sym p.algorithm ∙ q.algorithm)) in
    let to_4 = same_front 3 1 4 a b refl to_3 (same_field 3 1 a b low_a low_b (omega arith) (omega arith) (sym p.labels ∙ q.labels)) in
    let to_8 = same_front 4 4 8 a b refl to_4 (same_field 4 4 a b low_a low_b (omega arith) (omega arith) (sym p.original_ttl ∙ q.original_ttl)) in
    let to_12 = same_front 8 4 12 a b refl to_8 (same_field 8 4 a b low_a low_b (omega arith) (omega arith) (sym p.expiration ∙ q.expiration)) in
    let to_16 = same_front 12 4 16 a b refl to_12 (same_field 12 4 a b low_a low_b (omega arith) (omega arith) (sym p.inception ∙ q.inception)) in
    let to_18 = same_front 16 2 18 a b refl to_16 (same_field 16 2 a b low_a low_b (omega arith) (omega arith) (sym p.key_tag ∙ q.key_tag)) in
    same_whole 18 a b to_18 (p.rest ∙ sym q.rest)

pub returns-clause-nsec : goal.returns-clause-nsec
returns-clause-nsec c = λ a b nsec p q.
    p.whole ∙ ap (λ bits. wire nsec.next ++ bits) (same_spelling nsec.types p.bits q.bits p.bitmap q.bitmap) ∙ sym q.whole

pub returns-clause-nsec3 : goal.returns-clause-nsec3
returns-clause-nsec3 c = λ a b nsec3 low_a low_b p q.
    let long_a = p.head in
    let long_b = q.head in
    let to_1 = same_front 0 1 1 a b refl refl (same_field 0 1 a b low_a low_b (omega arith) (omega arith) (sym p.algorithm ∙ q.algorithm)) in
    let to_2 = same_front 1 1 2 a b refl to_1 (same_field 1 1 a b low_a low_b (omega arith) (omega arith) (sym p.flags ∙ q.flags)) in
    let to_4 = same_front 2 2 4 a b refl to_2 (same_field 2 2 a b low_a low_b (omega arith) (omega arith) (sym p.iterations ∙ q.iterations)) in
    let bits = same_spelling nsec3.types p.bits q.bits p.bitmap q.bitmap in
    let behind = p.next_hash ∙ ap (λ bits. length nsec3.next_hash ∷ (nsec3.next_hash ++ bits)) bits ∙ sym q.next_hash in
    same_whole 4 a b to_4 (p.salt ∙ ap (λ rest. length nsec3.parameters.salt ∷ (nsec3.parameters.salt ++ rest)) behind ∙ sym q.salt)

pub returns-clause-one_dnskey : goal.returns-clause-one_dnskey
returns-clause-one_dnskey c = one.one_dnskey

pub returns-clause-one_ds : goal.returns-clause-one_ds
returns-clause-one_ds c = one.one_ds

pub returns-clause-one_rrsig : goal.returns-clause-one_rrsig
returns-clause-one_rrsig c = one.one_rrsig

pub returns-clause-one_nsec : goal.returns-clause-one_nsec
returns-clause-one_nsec c = one.one_nsec

pub returns-clause-one_nsec3 : goal.returns-clause-one_nsec3
returns-clause-one_nsec3 c = one.one_nsec3
