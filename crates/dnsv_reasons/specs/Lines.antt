-- Which line says what is told by numbers.
use Rattle.std.specs.Prelude.{◌≡◌, ◌⊎◌, ℕ, List, [], ◌∷◌, ◌++◌, Option, Some, None}
use Rattle.dnsv_names.specs.Name.{Labels}
use Rattle.dnsv_canonical.specs.Rrsets.{IsNumbered, ReceivedRrset}
use Rattle.dnsv_lines.specs.declared.line.Line.{Line}
use Rattle.dnsv_lines.specs.declared.line.Line.TheVariants as line
use Rattle.dnsv_lines.specs.declared.line.fault.Reason.TheVariants as reason
use Rattle.dnsv_lines.specs.declared.line.fault.denial.Source.{Source}
use Rattle.dnsv_lines.specs.declared.line.fault.signature.ShownSignature.{ShownSignature}
use Rattle.dnsv_mending.specs.declared.told.Told.{Told}
use Rattle.dnsv_mending.specs.declared.told.Told.TheVariants as told
use Rattle.dnsv_gaps.specs.Asking.{Asking}
use Rattle.dnsv_trust_reasons.specs.TrustLines.{IsTrustLine}
use Rattle.dnsv_trust_reasons.specs.Places.{IsAbove, IsShown}
use Rattle.dnsv_reasons.specs.Sources.{IsAskedName, IsSource}
use Rattle.dnsv_remedies.specs.declared.said.Said.{Said}
use Rattle.dnsv_remedies.specs.declared.said.Said.TheVariants as told_of

-- ---- what keeps the question from being answered or denied

-- the name with so many labels owns the DNAME RRset, or is that of the record at the place
abbrev pub IsDnameLine : Asking → ℕ → ℕ → Option ℕ → Line → Type 0
IsDnameLine a n k place said =
    (name : Labels) × IsAbove a.name n name
    × (said ≡ line.Reason (reason.Dname (record { name = name; rrset = k; place = place })))

-- the zone with so many labels, if there is one
abbrev pub IsZoneTold : Asking → Option ℕ → Option Labels → Type 0
IsZoneTold a None zone = zone ≡ None
IsZoneTold a (Some n) zone = (above : Labels) × IsAbove a.name n above × (zone ≡ Some above)

abbrev pub IsSaidLine : Asking → Said → Line → Type 0
IsSaidLine a (told_of.Trust told) said = IsTrustLine a.basis a.name told said
IsSaidLine a (told_of.NoCloser number n) said =
    (name : Labels) × (shown : ShownSignature) × IsAbove a.name n name × IsShown a.basis.rrsets number shown
    × (said ≡ line.Reason (reason.NoCloser (record { signature = shown; name = name })))
IsSaidLine a (told_of.Dname above) said = IsDnameLine a above.labels above.rrset None said
IsSaidLine a (told_of.DnameHeld n number) said = IsDnameLine a n number.rrset (Some number.place) said
IsSaidLine a (told_of.Nsec3 why number) said =
    (rrset : ReceivedRrset) × IsNumbered a.basis.rrsets number.rrset rrset
    × (said ≡ line.Reason (reason.Nsec3 (record { why = why; owner = rrset.owner; number = number })))
IsSaidLine a (told_of.Source why number asked) said =
    (source : Source) × (name : Labels) × IsSource a number source × IsAskedName a.name asked name
    × (said ≡ line.Reason (reason.Source (record { why = why; source = source; name = name })))
IsSaidLine a (told_of.AnswerMissing n) said =
    (zone : Option Labels) × IsZoneTold a n zone
    × (said ≡ line.Reason (reason.AnswerMissing (record { name = a.name; rtype = record { 0 = a.rtype }; zone = zone })))
IsSaidLine a (told_of.DenialUnproved n) said =
    (zone : Labels) × IsAbove a.name n zone
    × (said ≡ line.Reason (reason.DenialUnproved (record { name = a.name; rtype = record { 0 = a.rtype }; zone = zone })))
IsSaidLine a (told_of.DsUnproved cut) said =
    (name : Labels) × (zone : Labels) × IsAbove a.name cut.name name × IsAbove a.name cut.zone zone
    × (said ≡ line.Reason (reason.DsUnproved (record { name = name; zone = zone })))

-- ---- the lines

-- each that says what is told, in that order; nothing of what the evidence doesn't have
abbrev pub AreSaidLines : Asking → List Said → List Line → Type 0
AreSaidLines a [] lines = lines ≡ []
AreSaidLines a (told ∷ others) lines =
    ((first : Line) × (rest : List Line) × IsSaidLine a told first × AreSaidLines a others rest × (lines ≡ first ∷ rest))
    ⊎ (((first : Line) → ¬ IsSaidLine a told first) × AreSaidLines a others lines)

-- the line that says it was added, where there is one
abbrev pub AddsLine : Asking → Said → List Line → List Line → Type 0
AddsLine a told old new =
    ((line : Line) × IsSaidLine a told line × (new ≡ old ++ line ∷ [])) ⊎ (((line : Line) → ¬ IsSaidLine a told line) × (new ≡ old))
