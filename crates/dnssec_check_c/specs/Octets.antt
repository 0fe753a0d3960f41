-- The octets of a call as the files of a request.
use Rattle.std.specs.Prelude.{Bool, true, false, ℕ, List, Option, Some, None}
use Rattle.std.specs.Option.{option_map}
use Rattle.dnsv_files.specs.Files.{Files}
use Rattle.dnssec_check_c.specs.declared.octets.Octets.{Octets}

-- octets that are given where this is so
abbrev pub given_octets : List ℕ → Bool → Option (List ℕ)
given_octets octets true = Some octets
given_octets octets false = None

-- the octets in the place of each file
abbrev pub files_of : Octets → Files
files_of octets = record {
  capture = octets.capture.now;
  anchors = option_map (λ each. each.now) octets.anchors;
  statements = option_map (λ each. each.now) octets.statements;
  answers = option_map (λ each. each.now) octets.answers;
  keys = option_map (λ each. each.now) octets.keys;
  macs = option_map (λ each. each.now) octets.macs;
  questions = option_map (λ each. each.now) octets.questions;
}
