-- How the lowest signature of a zone is looked for. No public clause cites this module.
use Rattle.std.specs.Prelude.{◌≡◌, ◌<◌, ℕ, List, get_or}
use Rattle.dnsv_names.specs.Name.{Labels}
use Rattle.dnsv_canonical.specs.Rrsets.{ReceivedRrset}
use Rattle.dnsv_denial.specs.gathering.Evidence.{HasZoneSignature}

-- none of the first n signatures with these numbers is the zone's own
abbrev pub IsNoneOwn : ReceivedRrset → Labels → List ℕ → ℕ → Type 0
IsNoneOwn rrset zone numbers n = (j : ℕ) → j < n → ¬ HasZoneSignature (λ s. s ≡ get_or numbers j 0) rrset zone
