-- the sets so far, and how many hashes were made for them
use Rattle.std.proofs.Common.{◌≡◌, map}
use Rattle.dnsv_names.specs.Count.{counted}
use Rattle.dnsv_zones.specs.chains.HashedNames.{hashes_for}
use Rattle.dnsv_proof_forms.proofs.lemmas.records.OrderedLemmas.{AreSetsTo}
use Rattle.dnsv_proof_forms.proofs.records.name_hashes.sets_of.Given as goal

abbrev pub invariant-loop-each : goal.invariant-loop-each
invariant-loop-each l =
    AreSetsTo l.name l.each-items l.each-index l.sets.items
    × (l.count ≡ counted l.initial.count (hashes_for l.name (map (λ set. set.parameters.now) l.sets.items)))
