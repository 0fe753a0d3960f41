-- Which line says what keeps a zone from being trusted, or an RRset from being signed, of what is told by numbers.
use Rattle.std.specs.Prelude.{◌≡◌}
use Rattle.dnsv_names.specs.Name.{Labels}
use Rattle.dnsv_canonical.specs.Rrsets.{IsNumbered, ReceivedRrset}
use Rattle.dnsv_lines.specs.declared.line.Line.{Line}
use Rattle.dnsv_lines.specs.declared.line.Line.TheVariants as line
use Rattle.dnsv_lines.specs.declared.line.derivation.KeyName.{KeyName}
use Rattle.dnsv_lines.specs.declared.line.fault.Reason.TheVariants as reason
use Rattle.dnsv_lines.specs.declared.line.fault.signature.ShownSignature.{ShownSignature}
use Rattle.dnsv_lines.specs.declared.line.fault.zone.Entry.{Entry}
use Rattle.dnsv_mending.specs.declared.told.Told.{Told}
use Rattle.dnsv_mending.specs.declared.told.Told.TheVariants as told
use Rattle.dnsv_chain.specs.Basis.{Basis}
use Rattle.dnsv_trust_reasons.specs.Places.{IsAbove, IsEntry, IsKeyAt, IsShown}

-- the line says what is told, of the names above the one that is asked for
abbrev pub IsTrustLine : Basis → Labels → Told → Line → Type 0
IsTrustLine basis name (told.Zone why n) said =
    (zone : Labels) × IsAbove name n zone × (said ≡ line.Reason (reason.Zone (record { why = why; zone = zone })))
IsTrustLine basis name (told.Entry why number) said =
    (entry : Entry) × IsEntry basis.rrsets basis.anchors number entry
    × (said ≡ line.Reason (reason.Entry (record { why = why; entry = entry })))
IsTrustLine basis name (told.NotSelfSigned number) said =
    (set : ReceivedRrset) × (key : KeyName) × IsNumbered basis.rrsets number.rrset set × IsKeyAt set number.place key
    × (said ≡ line.Reason (reason.NotSelfSigned (record { zone = set.owner; rrset = number.rrset; key = key })))
IsTrustLine basis name (told.NotVouched k) said =
    (set : ReceivedRrset) × IsNumbered basis.rrsets k set
    × (said ≡ line.Reason (reason.NotVouched (record { zone = set.owner; rrset = k })))
IsTrustLine basis name (told.Unsigned k) said =
    (rrset : ReceivedRrset) × IsNumbered basis.rrsets k rrset
    × (said ≡ line.Reason (reason.Unsigned (record { owner = rrset.owner; rtype = record { 0 = rrset.rtype }; rrset = k })))
IsTrustLine basis name (told.Signature why number) said =
    (shown : ShownSignature) × IsShown basis.rrsets number shown
    × (said ≡ line.Reason (reason.Signature (record { why = why; signature = shown })))
IsTrustLine basis name (told.Follows number) said =
    (shown : ShownSignature) × IsShown basis.rrsets number shown
    × (said ≡ line.Follows (record { signature = shown }))
