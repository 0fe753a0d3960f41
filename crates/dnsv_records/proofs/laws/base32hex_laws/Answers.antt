use Rattle.dnsv_records.proofs.Base32Lemmas.{same_octets, same_text}
use Rattle.dnsv_records.proofs.laws.base32hex_laws.Goals as goal

pub returns-clause-one_hash : goal.returns-clause-one_hash
returns-clause-one_hash c = λ text a b is_a is_b. same_octets text a b is_a.eight_bits is_b.eight_bits

pub returns-clause-one_text : goal.returns-clause-one_text
returns-clause-one_text c = λ hash a b is. same_text hash a b
