-- What the records of a source lack to deny a question (RFC 4035 5.4, RFC 5155 8.3 to 8.7).
use Rattle.std.specs.Prelude.{ℕ, List, [], ◌∷◌, if◌then◌else◌, map}
use Rattle.dnsv_lines.specs.declared.line.denial.Role.TheVariants as role
use Rattle.dnsv_lines.specs.declared.line.fault.denial.WhySource.{WhySource}
use Rattle.dnsv_lines.specs.declared.line.fault.denial.WhySource.TheVariants as why
use Rattle.dnsv_mending.specs.Level.{Leveled}
use Rattle.dnsv_mending.specs.Mend.{is_none}
use Rattle.dnsv_mending.specs.declared.facts.signature.RrsetFacts.{RrsetFacts}
use Rattle.dnsv_mending.specs.declared.price.Class.TheVariants as class
use Rattle.dnsv_remedies.specs.Parts.{part, part_of_one}
use Rattle.dnsv_remedies.specs.Remedy.{Remedied, both, missing, nothing}
use Rattle.dnsv_remedies.specs.declared.facts.denial.ClosedFacts.{ClosedFacts}
use Rattle.dnsv_remedies.specs.declared.facts.denial.EncloserFacts.{EncloserFacts}
use Rattle.dnsv_remedies.specs.declared.facts.denial.RecordsAt.{RecordsAt}
use Rattle.dnsv_remedies.specs.declared.facts.denial.RecordsAt.TheVariants as records
use Rattle.dnsv_remedies.specs.declared.facts.denial.SourceCase.{SourceCase}
use Rattle.dnsv_remedies.specs.declared.facts.denial.SourceCase.TheVariants as case
use Rattle.dnsv_remedies.specs.declared.facts.denial.SourceFacts.{SourceFacts}
use Rattle.dnsv_remedies.specs.declared.facts.denial.WildcardFacts.{WildcardFacts}
use Rattle.dnsv_remedies.specs.declared.facts.denial.WildcardFacts.TheVariants as wildcard
use Rattle.dnsv_remedies.specs.declared.facts.name.AskedName.{AskedName}
use Rattle.dnsv_remedies.specs.declared.facts.name.AskedName.TheVariants as name
use Rattle.dnsv_remedies.specs.declared.facts.name.SourceNumber.{SourceNumber}
use Rattle.dnsv_remedies.specs.declared.said.Said.{Said}
use Rattle.dnsv_remedies.specs.declared.said.Said.TheVariants as said

-- what is in the way in a record at the name
unfoldable pub held_line : SourceNumber → AskedName → WhySource → Said
held_line n x w = said.Source w n x

-- records at a name: by those that deny the type; where none does, all of them, and what each has instead
abbrev pub at_remedy : List Leveled → SourceNumber → AskedName → RecordsAt → Remedied
at_remedy levels n x (records.Denying rrsets) = part levels n.zone rrsets.items []
at_remedy levels n x (records.Holding h) =
    both (part levels n.zone h.rrsets.items []) (missing class.Lacking (map (held_line n x) h.held.items))

-- a record above the name that denies nothing below it (RFC 6840 4.1)
abbrev pub closed_line : SourceNumber → ClosedFacts → Said
closed_line n c = if c.is_dname then said.DnameHeld c.name c.number else said.Source (why.Delegation c.number) n (name.At c.name)

abbrev pub closed_remedy : List Leveled → SourceNumber → ClosedFacts → Remedied
closed_remedy levels n c = both (part_of_one levels n.zone c.rrset) (missing class.Missing (closed_line n c ∷ []))

-- that no wildcard answers
abbrev pub wildcard_remedy : List Leveled → SourceNumber → ℕ → WildcardFacts → Remedied
wildcard_remedy levels n ce wildcard.OptedOut = nothing
wildcard_remedy levels n ce (wildcard.At r) = at_remedy levels n (name.Wildcard ce) r
wildcard_remedy levels n ce (wildcard.Covered rrsets) =
    part levels n.zone rrsets.items (said.Source (why.CoverMissing role.Wildcard) n (name.Wildcard ce) ∷ [])

-- that the ancestor is there; a zone is, by its own NSEC records
abbrev pub shown_remedy : List Leveled → SourceNumber → List RrsetFacts → Remedied
shown_remedy levels n rrsets = if is_none rrsets then nothing else part levels n.zone rrsets []

-- that the next closer name isn't; labels are those of the name that is asked for
abbrev pub next_remedy : List Leveled → ℕ → SourceNumber → EncloserFacts → Remedied
next_remedy levels labels n e = part levels n.zone e.covers.items
    (said.Source (why.CoverMissing role.NextCloser) n (name.At e.next) ∷ said.Source why.MatchMissing n (name.At labels) ∷ [])

abbrev pub encloser_remedy : List Leveled → ℕ → SourceNumber → EncloserFacts → Remedied
encloser_remedy levels labels n e =
    both (shown_remedy levels n e.shown.items) (both (next_remedy levels labels n e) (wildcard_remedy levels n e.name e.wildcard))

-- by the case that is so
abbrev pub case_remedy : List Leveled → ℕ → SourceNumber → SourceCase → Remedied
case_remedy levels labels n (case.Closed c) = closed_remedy levels n c
case_remedy levels labels n (case.At r) = at_remedy levels n (name.At labels) r
case_remedy levels labels n case.Apex = missing class.Lacking (said.Source why.MatchMissing n (name.At labels) ∷ [])
case_remedy levels labels n (case.NonTerminal rrsets) = part levels n.zone rrsets.items []
case_remedy levels labels n case.NoEncloser = missing class.Lacking
    (said.Source why.EncloserMissing n (name.At labels) ∷ said.Source why.MatchMissing n (name.At labels) ∷ [])
case_remedy levels labels n (case.Encloser e) = encloser_remedy levels labels n e

-- a source of the zone
abbrev pub number_of : ℕ → SourceFacts → SourceNumber
number_of zone s = record { zone = zone; place = s.place }

unfoldable pub source_ways : List Leveled → ℕ → ℕ → SourceFacts → List Remedied
source_ways levels labels zone s = case_remedy levels labels (number_of zone s) s.case ∷ []
