use Rattle.std.proofs.Common.{◌≢◌, ◌+◌, ⊎_elim}
use Rattle.dnsv_names.specs.Name.{rightmost}
use Rattle.dnsv_zones.specs.forms.Nsec3.{Covers, OptOutForm, OptedOutNextCloserForm}
use Rattle.dnsv_zones.proofs.lemmas.AnyLemmas.{any_map}
use Rattle.dnsv_zones.proofs.lemmas.meaning.Nsec3Truth.{covered_end, opted_out_wildcard}
use Rattle.dnsv_zones.proofs.nsec3_meaning.opted_out_nodes_are_unsigned_ends.Goals as goal

pub returns-clause-covered : goal.returns-clause-covered
returns-clause-covered c = λ zone apex name hash records has.
    covered_end zone hash has.names records has.in_chain has.chain_names name

pub returns-clause-next_closer : goal.returns-clause-next_closer
returns-clause-next_closer c = λ zone apex name labels hash records has form.
    covered_end zone hash has.names records has.in_chain has.chain_names (rightmost name (labels + 1))
    (⊎_elim (λ (cut : OptOutForm hash records apex name labels). cut.next_closer)
    (λ (next_closer : OptedOutNextCloserForm hash records apex name labels).
    any_map (λ nsec3. Covers hash nsec3 (rightmost name (labels + 1)) × (nsec3.flags ≢ 0))
    (λ nsec3. Covers hash nsec3 (rightmost name (labels + 1))) records (λ nsec3 both. both.0) next_closer.opted_out)
    form)

pub returns-clause-wildcard : goal.returns-clause-wildcard
returns-clause-wildcard c = λ zone apex name labels hash records has.
    opted_out_wildcard zone hash has.names records has.in_chain has.chain_names apex name labels
