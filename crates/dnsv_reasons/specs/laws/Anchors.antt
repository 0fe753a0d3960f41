-- The line that says that no trust anchor is at or above a name.
use Rattle.dnsv_names.specs.Name.{Labels}
use Rattle.dnsv_lines.specs.declared.line.Line.{Line}
use Rattle.dnsv_lines.specs.declared.line.Line.TheVariants as line
use Rattle.dnsv_lines.specs.declared.line.fault.Reason.TheVariants as reason
use Rattle.dnsv_lines.specs.declared.line.fault.zone.WhyZone.TheVariants as why

abbrev pub no_anchor_line : Labels → Line
no_anchor_line name = line.Reason (reason.Zone (record { why = why.NoAnchor; zone = name }))
