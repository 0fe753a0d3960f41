-- The places of the records that show where a search ends, and what they show. No public clause cites this module.
use Rattle.std.specs.Prelude.{◌+◌, ℕ, List, [], ◌∷◌, ◌++◌}
use Rattle.std.specs.Ordering.{nat_cmp}
use Rattle.dnsv_names.specs.Name.{Labels, rightmost}
use Rattle.dnsv_zones.specs.forms.Forms.{IsAbove}
use Rattle.dnsv_zones.specs.forms.Parts.{IsFirstToSay}
use Rattle.dnsv_zones.specs.forms.RecordWords.{RecordWords}
use Rattle.dnsv_proof_forms.specs.forms.ProofForms.{ShowsEncloser}
use Rattle.dnsv_proof_forms.specs.records.RecordsAt.{listed}
use Rattle.dnsv_proof_forms.specs.declared.forms.ends.EndPlaces.{EndPlaces}

-- the closest encloser's, if it needs one, and then the next closer name's
abbrev pub end_places : EndPlaces → List ℕ
end_places ends = listed ends.encloser ++ ends.next_closer ∷ []

-- these show that the search for the name ends at its so many rightmost labels
pub record ShowsEnd (said : RecordWords ℕ) (apex name : Labels) (labels : ℕ) (ends : EndPlaces) : Type 0 where
  pub above : IsAbove apex name labels
  pub encloser : ShowsEncloser nat_cmp said (rightmost name labels) ends.encloser
  pub next_closer : IsFirstToSay nat_cmp (said.Absent (rightmost name (labels + 1))) ends.next_closer
