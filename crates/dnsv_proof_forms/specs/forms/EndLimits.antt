-- Between which numbers of labels the closest encloser of a name has its number. No public clause cites this module.
use Rattle.std.specs.Prelude.{◌≡◌, ◌<◌, ◌≤◌, ℕ, List, Some, length, slice_get}
use Rattle.dnsv_names.specs.Name.{Labels, rightmost}
use Rattle.dnsv_zones.specs.forms.Forms.{EndsAt}
use Rattle.dnsv_zones.specs.forms.Nsec.{IsAbsentBy, IsNodeBy}
use Rattle.dnsv_zones.specs.forms.RecordWords.{RecordWords, words}
use Rattle.dnsv_proof_forms.specs.records.Record.{read_entry}
use Rattle.dnsv_proof_forms.specs.declared.forms.end_limits.EndLimits.{EndLimits}
use Rattle.dnsv_proof_forms.specs.declared.records.entry.NsecEntry.{NsecEntry}

-- wherever the search for the name may end is between the limits
abbrev pub AreEndLimits : RecordWords ℕ → Labels → Labels → EndLimits → Type 0
AreEndLimits said apex name limits =
    (labels : ℕ) → EndsAt (words said) apex name labels → (limits.fewest ≤ labels) × (labels < limits.limit)

-- the record shows none of the name's ancestors with more labels than so many to be a node
abbrev pub ShowsNoMore : Labels → ℕ → NsecEntry → Type 0
ShowsNoMore name shown entry =
    (labels : ℕ) → shown < labels → labels ≤ length name → ¬ IsNodeBy (read_entry entry) (rightmost name labels)

-- the record shows none of the name's ancestors with fewer labels than so many to be no node
abbrev pub DeniesNoFewer : Labels → ℕ → NsecEntry → Type 0
DeniesNoFewer name absent entry =
    (labels : ℕ) → labels < absent → ¬ IsAbsentBy (read_entry entry) (rightmost name labels)

-- it is so of the first entries
abbrev pub HoldsOfFirst : (NsecEntry → Type 0) → List NsecEntry → ℕ → Type 0
HoldsOfFirst Holds entries count =
    (k : ℕ) (entry : NsecEntry) → k < count → slice_get entries k ≡ Some entry → Holds entry
