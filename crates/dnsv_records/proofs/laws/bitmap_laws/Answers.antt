use Rattle.dnsv_records.proofs.BitmapLemmas.{same_types, same_spelling}
use Rattle.dnsv_records.proofs.laws.bitmap_laws.Goals as goal

pub returns-clause-one_set : goal.returns-clause-one_set
returns-clause-one_set c = same_types

pub returns-clause-one_spelling : goal.returns-clause-one_spelling
returns-clause-one_spelling c = same_spelling
