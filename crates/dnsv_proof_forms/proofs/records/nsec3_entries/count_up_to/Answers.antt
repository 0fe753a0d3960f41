use Rattle.std.proofs.Common.{rules}
use Rattle.std.proofs.lemmas.Fn.{always_returns_same}
use Rattle.std.specs.Ordering.{is_le}
use Rattle.dnsv_names.specs.Octets.{octets_cmp}
use Rattle.dnsv_proof_forms.specs.declared.records.hash_places.HashPlace.{HashPlace}
use Rattle.dnsv_proof_forms.proofs.lemmas.records.HashIndexLemmas.{le_parts, le_point}
use Rattle.dnsv_proof_forms.proofs.records.nsec3_entries.count_up_to.Goals as goal

pub returns-clause-parted : goal.returns-clause-parted
returns-clause-parted c =
    le_point (λ (each : HashPlace). each.hash) c.args.places.now c.args.hash.now c.partition_point.result
    (c.partition_point.ensures.partitioned (λ (each : HashPlace). is_le (octets_cmp each.hash c.args.hash.now)) (always_returns_same _ _ _ (λ a r f called. search rules))
    (le_parts (λ (each : HashPlace). each.hash) c.args.places.now c.args.hash.now c.requires))
