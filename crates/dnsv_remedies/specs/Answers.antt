-- The ways on which a question is answered: by a signature of an RRset that has the name and the type, or is its CNAME RRset.
use Rattle.std.specs.Prelude.{List, ◌&&◌, Option, Some, None, Bool, if◌then◌else◌, flat_map}
use Rattle.dnsv_mending.specs.Level.{Leveled}
use Rattle.dnsv_mending.specs.Mend.{Mended, cheapest, is_none}
use Rattle.dnsv_mending.specs.Rrset.{signature_ways}
use Rattle.dnsv_mending.specs.declared.facts.signature.SignatureFacts.{SignatureFacts}
use Rattle.dnsv_mending.specs.declared.price.Class.TheVariants as class
use Rattle.dnsv_mending.specs.declared.told.Told.TheVariants as told
use Rattle.dnsv_remedies.specs.Parts.{part}
use Rattle.dnsv_remedies.specs.Remedy.{Remedied, after, beside, ended, fault, nothing, untold, unusable_lines}
use Rattle.dnsv_remedies.specs.declared.facts.answer.AnswerSignature.{AnswerSignature}
use Rattle.dnsv_remedies.specs.declared.facts.answer.CloserFacts.{CloserFacts}
use Rattle.dnsv_remedies.specs.declared.facts.answer.GoalFacts.{GoalFacts}
use Rattle.dnsv_remedies.specs.declared.said.Said.TheVariants as said

-- That no closer name is there than the wildcard of the signature (RFC 4035 5.3.4), by its signer, which is taken as trusted.
-- Where no record covers that name, all is missing, and which records can't be used is told.
abbrev pub closer_remedy : List Leveled → SignatureFacts → Option CloserFacts → Remedied
closer_remedy levels s None = nothing
closer_remedy levels s (Some c) =
    ended (said.NoCloser s.number c.name) (part levels s.signer c.covers.items (unusable_lines c.unusable.items))

-- by a signature: that it is good, and what it asks for beside it
unfoldable pub answer_ways : List Leveled → Option Mended → AnswerSignature → List Remedied
answer_ways levels above s = beside (cheapest (signature_ways levels above s.signature)) (closer_remedy levels s.signature s.closer)

-- Without signatures: that costs as what is missing altogether. Of a CNAME RRset that a DNAME RRset stands for nothing is told: none is expected to be there (RFC 6672 5.3.1).
abbrev pub stripped : Bool → GoalFacts → Remedied
stripped is_dname g = if is_dname && g.is_cname then untold class.Missing else fault class.Missing (said.Trust (told.Unsigned g.number))

-- by an RRset; above is the zone above the name
unfoldable pub goal_ways : List Leveled → Option Mended → Bool → GoalFacts → List Remedied
goal_ways levels above is_dname g = if is_none g.signatures.items then after above (stripped is_dname g)
    else flat_map (answer_ways levels above) g.signatures.items
