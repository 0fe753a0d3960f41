use Rattle.dnsv_records.proofs.Decided.{bitmap_or, dnskey_or, ds_or, nsec3_or}
use Rattle.dnsv_records.proofs.laws.records_are_decided.Goals as goal

pub returns-clause-dnskey : goal.returns-clause-dnskey
returns-clause-dnskey c = dnskey_or

pub returns-clause-ds : goal.returns-clause-ds
returns-clause-ds c = ds_or

pub returns-clause-nsec3 : goal.returns-clause-nsec3
returns-clause-nsec3 c = nsec3_or

pub returns-clause-bitmap : goal.returns-clause-bitmap
returns-clause-bitmap c = bitmap_or
