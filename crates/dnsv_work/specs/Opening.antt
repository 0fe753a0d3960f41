-- How the frames of the capture are opened: at a moment by the keys, where these are given. Of a range they are read as they
-- are, and no keys are: a TSIG says within minutes when a message was sent (RFC 8945 5.2.3).
use Rattle.std.specs.Prelude.{◌≡◌, ℕ, List, Option}
use Rattle.dnsv_answers.specs.declared.heading.Moments.{Moments}
use Rattle.dnsv_answers.specs.declared.heading.Moments.TheVariants.{At, Between}
use Rattle.dnsv_files.specs.declared.opening.Opening.{Opening}
use Rattle.dnsv_files.specs.declared.opening.Opening.TheVariants.{Plain}
use Rattle.dnsv_files.specs.declared.status.Fault.{Fault}
use Rattle.dnsv_files.specs.declared.status.InputFile.{InputFile}
use Rattle.dnsv_files.specs.Opening.Given.{IsFaultOfOpening, IsOpeningOf, IsOpeningReached}

-- by these files of keys and MACs they are opened so
abbrev pub IsOpeningAt : Option (List ℕ) → Option (List ℕ) → Moments → Opening → Type 0
IsOpeningAt keys_file macs_file (At moment) opening = IsOpeningOf keys_file macs_file moment opening
IsOpeningAt keys_file macs_file (Between from to) opening = opening ≡ Plain

-- these files have this fault
abbrev pub IsFaultOfOpeningAt : Option (List ℕ) → Option (List ℕ) → Moments → Fault → Type 0
IsFaultOfOpeningAt keys_file macs_file (At moment) fault = IsFaultOfOpening keys_file macs_file fault
IsFaultOfOpeningAt keys_file macs_file (Between from to) fault = ⊥

-- this one is read, and given, and what comes before it is in order
abbrev pub IsOpeningReachedAt : Option (List ℕ) → Option (List ℕ) → Moments → InputFile → Type 0
IsOpeningReachedAt keys_file macs_file (At moment) file = IsOpeningReached keys_file macs_file file
IsOpeningReachedAt keys_file macs_file (Between from to) file = ⊥
