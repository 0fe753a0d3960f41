-- What is told of a signature: what is wrong with it, in this order, or else what it follows from.
use Rattle.std.specs.Prelude.{List, [], ◌∷◌, ◌++◌, Option, Some, None, Bool, true, false, not}
use Rattle.dnsv_canonical.specs.declared.number.SignatureNumber.{SignatureNumber}
use Rattle.dnsv_lines.specs.declared.line.fault.signature.SignatureTimes.{SignatureTimes}
use Rattle.dnsv_lines.specs.declared.line.fault.signature.WhySignature.TheVariants as why
use Rattle.dnsv_mending.specs.declared.facts.keys.HeldKey.{HeldKey}
use Rattle.dnsv_mending.specs.declared.facts.keys.SelfSignature.{SelfSignature}
use Rattle.dnsv_mending.specs.declared.facts.signature.KeyAnswer.{KeyAnswer}
use Rattle.dnsv_mending.specs.declared.facts.signature.KeyAnswer.TheVariants as answer
use Rattle.dnsv_mending.specs.declared.facts.signature.NamedKey.{NamedKey}
use Rattle.dnsv_mending.specs.declared.facts.signature.SignatureFacts.{SignatureFacts}
use Rattle.dnsv_mending.specs.declared.facts.signature.SignatureFaults.{SignatureFaults}
use Rattle.dnsv_mending.specs.declared.told.Told.{Told}
use Rattle.dnsv_mending.specs.declared.told.Told.TheVariants as told

-- a line where something is so
abbrev pub when : Bool → Told → List Told
when true line = line ∷ []
when false line = []

-- lines, and others where there are none
abbrev pub or_else : List Told → List Told → List Told
or_else [] others = others
or_else (line ∷ lines) others = line ∷ lines

abbrev pub not_yet_lines : SignatureNumber → Option SignatureTimes → List Told
not_yet_lines n None = []
not_yet_lines n (Some times) = told.Signature (why.NotYet times) n ∷ []

abbrev pub expired_lines : SignatureNumber → Option SignatureTimes → List Told
expired_lines n None = []
expired_lines n (Some times) = told.Signature (why.Expired times) n ∷ []

-- all that is wrong with a signature, whichever key made it (RFC 4035 5.3.1)
abbrev pub fault_lines : SignatureNumber → SignatureFaults → List Told
fault_lines n f = when f.labels (told.Signature why.Labels n) ++ when f.signer (told.Signature why.Signer n)
    ++ when f.expanded (told.Signature why.Expanded n) ++ when f.algorithm (told.Signature why.Algorithm n)
    ++ not_yet_lines n f.not_yet ++ expired_lines n f.expired

-- what is wrong with it under a key (RFC 4035 5.3.3)
abbrev pub answer_lines : SignatureNumber → KeyAnswer → List Told
answer_lines n answer.Good = []
answer_lines n answer.Bad = told.Signature why.Bad n ∷ []
answer_lines n answer.Unanswered = told.Signature why.Unanswered n ∷ []

-- all that is wrong with a signature, but for what a verifier says
abbrev pub signature_lines : SignatureFacts → List Told
signature_lines s = fault_lines s.number s.faults ++ when s.key_missing (told.Signature why.KeyMissing s.number)
    ++ when s.not_zone_key (told.Signature why.NotZoneKey s.number)

-- Nothing is wrong with it: its signer is trusted, and the key isn't in a trusted RRset; or the signer isn't trusted.
abbrev pub consequence : Bool → SignatureNumber → Told
consequence true n = told.Signature why.KeyUntrusted n
consequence false n = told.Follows n

-- of a signature that names no zone key of its signer
abbrev pub unnamed_lines : SignatureFacts → List Told
unnamed_lines s = or_else (signature_lines s) (told.Follows s.number ∷ [])

-- of a signature under a zone key of its signer, which is trusted or isn't
abbrev pub lines_under : Bool → SignatureFacts → NamedKey → List Told
lines_under is_trusted s k = or_else (or_else (signature_lines s) (answer_lines s.number k.answer)) (consequence is_trusted s.number ∷ [])

-- of a signature of a DNSKEY RRset, as one by a key in it
abbrev pub self_lines : HeldKey → SelfSignature → List Told
self_lines key s = or_else (fault_lines s.number s.faults ++ when (not key.is_zone_key) (told.Signature why.NotZoneKey s.number))
    (answer_lines s.number s.answer)
