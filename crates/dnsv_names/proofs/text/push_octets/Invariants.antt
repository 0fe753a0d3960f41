use Rattle.std.proofs.Common.{◌≡◌, ◌+◌, ◌*◌, ◌≤◌, ◌++◌, take}
use Rattle.arrayvec.specs.ArrayString.{array_string_len}
use Rattle.dnsv_names.specs.Text.{label_text}
use Rattle.dnsv_names.proofs.text.push_octets.Given as goal

-- the octets so far are written, in four octets at most each
abbrev pub invariant-loop-octet : goal.invariant-loop-octet
invariant-loop-octet g l =
    (l.text.bytes ≡ l.initial.text.bytes ++ label_text (take l.octet-index l.octets))
    × (array_string_len l.text ≤ array_string_len l.initial.text + 4 * l.octet-index)
