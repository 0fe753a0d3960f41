-- Which class of fault a line tells of. Prices are those of `Price`.
use Rattle.dnsv_lines.specs.declared.line.fault.signature.WhySignature.{WhySignature}
use Rattle.dnsv_lines.specs.declared.line.fault.signature.WhySignature.TheVariants as signature
use Rattle.dnsv_lines.specs.declared.line.fault.zone.EntryNumber.{EntryNumber}
use Rattle.dnsv_lines.specs.declared.line.fault.zone.EntryNumber.TheVariants as number
use Rattle.dnsv_lines.specs.declared.line.fault.zone.WhyEntry.{WhyEntry}
use Rattle.dnsv_lines.specs.declared.line.fault.zone.WhyEntry.TheVariants as entry
use Rattle.dnsv_mending.specs.Price.{none, one}
use Rattle.dnsv_mending.specs.declared.price.Class.TheVariants as class
use Rattle.dnsv_mending.specs.declared.price.Price.{Price}
use Rattle.dnsv_mending.specs.declared.told.Told.{Told}
use Rattle.dnsv_mending.specs.declared.told.Told.TheVariants as told

-- Keys that an anchor doesn't fit are dearer than those that a DS record doesn't: a zone's operator mends the second alone.
abbrev pub not_fitting_cost : EntryNumber → Price
not_fitting_cost (number.Anchor n) = one class.Lacking
not_fitting_cost (number.Ds n) = one class.NotFitting

-- a trust anchor or a DS record that is of no use, or that fits no key (RFC 4035 5.2)
abbrev pub entry_cost : WhyEntry → EntryNumber → Price
entry_cost entry.Algorithm n = one class.Stripped
entry_cost entry.DigestType n = one class.Stripped
entry_cost entry.DigestIgnored n = one class.Stripped
entry_cost entry.KeyMissing n = not_fitting_cost n
entry_cost entry.KeyAlgorithm n = not_fitting_cost n
entry_cost entry.DigestDiffers n = not_fitting_cost n

-- a signature (RFC 4035 5.3.1, 5.3.3); that its key stands in no trusted RRset is mended with that RRset
abbrev pub signature_cost : WhySignature → Price
signature_cost signature.Labels = one class.Unfit
signature_cost signature.Signer = one class.Unfit
signature_cost signature.Expanded = one class.Unfit
signature_cost signature.Algorithm = one class.Lacking
signature_cost (signature.NotYet times) = one class.Time
signature_cost (signature.Expired times) = one class.Time
signature_cost signature.KeyMissing = one class.Lacking
signature_cost signature.NotZoneKey = one class.NotFitting
signature_cost signature.Bad = one class.Bad
signature_cost signature.Unanswered = one class.Unanswered
signature_cost signature.KeyUntrusted = none

-- what it costs to mend what a line says
abbrev pub cost : Told → Price
cost (told.Zone why labels) = one class.Missing
cost (told.Entry why n) = entry_cost why n
cost (told.NotSelfSigned key) = one class.NotSigning
cost (told.NotVouched rrset) = one class.NotFitting
cost (told.Unsigned rrset) = one class.Stripped
cost (told.Signature why n) = signature_cost why
cost (told.Follows n) = none
