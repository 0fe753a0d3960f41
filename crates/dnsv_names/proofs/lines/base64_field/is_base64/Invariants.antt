use Rattle.std.proofs.Common.{◌↔◌, length}
use Rattle.dnsv_names.specs.Lines.Base64Field.{IsBase64}
use Rattle.dnsv_names.proofs.lines.base64_field.is_base64.Given as goal

-- the field is base64 where the rest is
abbrev pub invariant-loop-rest : goal.invariant-loop-rest
invariant-loop-rest l = IsBase64 l.field ↔ IsBase64 l.rest

abbrev pub decreases-loop-rest : goal.decreases-loop-rest
decreases-loop-rest l = length l.rest
