use Rattle.std.proofs.Common.{◌≡◌, true, take}
use Rattle.dnsv_names.specs.Text.{label_text}
use Rattle.dnsv_names.proofs.text.are_plain.Given as goal

-- while none was found that doesn't, the octets so far stand as they are
abbrev pub invariant-loop-octet : goal.invariant-loop-octet
invariant-loop-octet l =
    l.plain ≡ true → label_text (take l.octet-index l.octets) ≡ take l.octet-index l.octets
