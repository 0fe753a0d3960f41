-- What the files of keys and of the MACs of requests open the frames of a capture by, and what they are refused for.
use Rattle.std.specs.Prelude.{◌≡◌, ◌⊎◌, ℕ, List, Option, Some, None}
use Rattle.dnsv_tsig.specs.Key.{SharedKey}
use Rattle.dnsv_files.specs.declared.opening.Opening.{Opening}
use Rattle.dnsv_files.specs.declared.opening.Opening.TheVariants.{Plain, Signed}
use Rattle.dnsv_files.specs.declared.status.Fault.{Fault}
use Rattle.dnsv_files.specs.declared.status.InputFile.{InputFile}
use Rattle.dnsv_files.specs.declared.status.InputFile.TheVariants.{Keys, Macs}
use Rattle.dnsv_files.specs.Files.{IsGiven, octets_or_none}
use Rattle.dnsv_files.specs.Opening.Keys.{IsFaultOfKeys, MayHaveKeys}
use Rattle.dnsv_files.specs.Opening.Macs.{IsFaultOfMacs, MayHaveMacs}

-- by these files of keys and MACs frames are opened so at the moment: as they are where no keys are given, whatever
-- the other file holds
abbrev pub IsOpeningOf : Option (List ℕ) → Option (List ℕ) → ℕ → Opening → Type 0
IsOpeningOf keys_file macs_file moment Plain = MayHaveKeys keys_file None
IsOpeningOf keys_file macs_file moment (Signed keys at macs) =
    MayHaveKeys keys_file (Some keys) × (at ≡ moment) × MayHaveMacs macs_file macs

-- the first fault is in the keys, and then, where keys are given, in the MACs
abbrev pub IsFaultOfOpening : Option (List ℕ) → Option (List ℕ) → Fault → Type 0
IsFaultOfOpening keys_file macs_file fault =
    IsFaultOfKeys (octets_or_none keys_file) fault
    ⊎ (((keys : List SharedKey) × MayHaveKeys keys_file (Some keys)) × IsFaultOfMacs (octets_or_none macs_file) fault)

-- the file is given, and what comes before it in the order of the work is in order: the keys, before the MACs
abbrev pub IsOpeningReached : Option (List ℕ) → Option (List ℕ) → InputFile → Type 0
IsOpeningReached keys_file macs_file Keys = IsGiven keys_file
IsOpeningReached keys_file macs_file Macs =
    IsGiven macs_file × ((keys : List SharedKey) × MayHaveKeys keys_file (Some keys))
IsOpeningReached keys_file macs_file _ = ⊥
