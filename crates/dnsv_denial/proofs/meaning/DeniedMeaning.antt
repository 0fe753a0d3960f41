-- What a record that denies the next closer name means for an answer from the wildcard.
use Rattle.std.proofs.Common.{◌+◌, ℕ, List}
use Rattle.dnsv_names.specs.Name.{Labels, SameName, rightmost}
use Rattle.dnsv_names.specs.Tree.{wildcard_of}
use Rattle.dnsv_zones.specs.forms.Forms.{IsAbove, Words}
use Rattle.dnsv_zones.specs.zones.Lookup.{IsLookup}
use Rattle.dnsv_zones.specs.zones.Lookup.Answer.{Held}
use Rattle.dnsv_zones.specs.zones.Zone.{Zone, Holds, IsNode, IsWellFormed}
use Rattle.dnsv_zones.proofs.lemmas.meaning.MeaningLemmas.{held_at_wildcard}
use Rattle.dnsv_canonical.specs.Rrsets.{ReceivedRrset}
use Rattle.dnsv_denial.specs.proving.ProofMeaning.HasProofRecords.{by_nsec, by_nsec3}
use Rattle.dnsv_denial.specs.unsigned_cuts.CutMeaning.{HasRecord}
use Rattle.dnsv_denial.specs.gathering.EvidenceWords.{Chain, evidence_said}
use Rattle.dnsv_canonical.specs.declared.number.RecordNumber.{RecordNumber}
use Rattle.dnsv_denial.proofs.meaning.CutMeaningLemmas.{absent_end}

-- what is so of the zone's nodes
abbrev absence_in : Zone → Words
absence_in zone = record { Encloser = λ name. Unit {0}; Absent = λ name. ¬ IsNode zone name; EmptyNonTerminal = λ name. ⊥; TypesAt = λ name Says. ⊥ }

-- a zone that has a record is well formed, and has the record's name
zone_of_record : (rrsets : List ReceivedRrset) (apex : Labels) (n : RecordNumber) (zone : Zone) → HasRecord rrsets apex n zone
    → IsWellFormed zone × SameName apex zone.apex
zone_of_record rrsets apex n zone (by_nsec records all has) = (has.well_formed, has.same_apex)
zone_of_record rrsets apex n zone (by_nsec3 parameters records all has) = (has.well_formed, has.same_apex)

pub denied_means : (Secured : ℕ → ℕ → Type 0) (rrsets : List ReceivedRrset) (name apex : Labels) (labels : ℕ) (chain : Chain) (n : RecordNumber)
    → IsAbove apex name labels → (evidence_said Secured rrsets apex chain).Absent (rightmost name (labels + 1)) n
    → (zone : Zone) (t : ℕ) → HasRecord rrsets apex n zone → Holds zone (wildcard_of (rightmost name labels)) t
    → IsLookup zone name t (Held (wildcard_of (rightmost name labels)))
denied_means Secured rrsets name apex labels chain n above said zone t has holds =
    let its = zone_of_record rrsets apex n zone has in
    held_at_wildcard zone (absence_in zone) apex name labels t its.0 its.1 (λ x absent. absent)
    (record { above = above; next_closer = absent_end Secured rrsets apex n zone (rightmost name (labels + 1)) chain said has }) holds
