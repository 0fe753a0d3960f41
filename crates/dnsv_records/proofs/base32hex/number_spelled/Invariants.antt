use Rattle.std.proofs.Common.{take, map}
use Rattle.std.specs.Char.{to_ascii_lowercase}
use Rattle.dnsv_records.specs.Base32Hex.{Base32Number}
use Rattle.dnsv_records.proofs.base32hex.number_spelled.Given as goal

abbrev pub invariant-loop-character : goal.invariant-loop-character
invariant-loop-character l = Base32Number (take l.character-index (map to_ascii_lowercase l.characters)) l.number
