-- Which signatures lines show, by numbers that have an order. No public clause cites this module.
use Rattle.std.specs.Prelude.{◌≡◌, Some}
use Rattle.std.specs.Ordering.{nat_cmp, ordering_then}
use Rattle.std.specs.declared.cmp.Ordering.{Ordering}
use Rattle.dnsv_canonical.specs.declared.number.SignatureNumber.{SignatureNumber}
use Rattle.dnsv_derivations.specs.intervals.Holding.{signature_shown}
use Rattle.dnsv_lines.specs.declared.line.Line.{Line}
use Rattle.dnsv_moments.specs.declared.shown.Shown.{Shown}

-- by the number of the RRset, and then by that of the signature
abbrev pub shown_cmp : Shown → Shown → Ordering
shown_cmp a b = ordering_then (nat_cmp a.rrset b.rrset) (nat_cmp a.signature b.signature)

abbrev pub number_of : Shown → SignatureNumber
number_of shown = record { rrset = shown.rrset; signature = shown.signature }

-- the line shows this one
abbrev pub Shows : Line → Shown → Type 0
Shows line shown = signature_shown line ≡ Some (number_of shown)
