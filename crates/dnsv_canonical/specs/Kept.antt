-- Steps of taking a message. No public clause cites this module.
use Rattle.std.specs.Prelude.{◌≡◌, ℕ, ◌+◌, List, ⊤}
use Rattle.std.specs.List.{AllByRecursion}
use Rattle.dnsv_message.specs.declared.record.Record.{Record}
use Rattle.dnsv_canonical.specs.declared.capture.CaptureError.{CaptureError}
use Rattle.dnsv_canonical.specs.declared.capture.CaptureError.TheVariants.{OutOfMemory, BadRdata, Limit}
use Rattle.dnsv_records.specs.declared.nsec3.Nsec3Parameters.{Nsec3Parameters}
use Rattle.dnsv_canonical.specs.Evidence.{Evidence, AtMost, IsFirstBad, AreParameters, AreParametersAmong, IsWithinLimits, nsec3_rdata}
use Rattle.dnsv_canonical.specs.Index.Grouping.{IsIndexOf}
use Rattle.dnsv_canonical.specs.Rdata.{IsWellFormed}

-- behind so many records, the error tells the first of these that can't be read
abbrev pub IsBadAfter : ℕ → List Record → CaptureError → Type 0
IsBadAfter earlier records (BadRdata k) = (place : ℕ) × IsFirstBad records place × (k ≡ earlier + place)
IsBadAfter earlier records _ = ⊥

-- why the parameters of the NSEC3 records aren't kept
abbrev pub IsParametersRefusal : List (List ℕ) → CaptureError → Type 0
IsParametersRefusal received OutOfMemory = ⊤
IsParametersRefusal received Limit = ¬ AtMost 8 (AreParametersAmong received)
IsParametersRefusal received _ = ⊥

-- what a capture keeps with what it holds: its RRsets are well formed and within their limits, and these are the
-- parameters of their usable NSEC3 records, and their index
pub record IsHeld (held : Evidence) (all : List Nsec3Parameters) (numbers starts : List ℕ) : Type 0 where
  pub limits : IsWithinLimits held
  pub well_formed : AllByRecursion IsWellFormed held.rrsets
  pub parameters : AreParameters (nsec3_rdata held.rrsets) all
  pub index : IsIndexOf held.rrsets numbers starts
