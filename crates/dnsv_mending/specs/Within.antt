-- The ways on which an RRset is signed by a zone that is taken as trusted.
use Rattle.std.specs.Prelude.{ℕ, List, [], ◌∷◌, ◌&&◌, Option, Some, None, Bool, true, false, not, if◌then◌else◌, flat_map, nat_eq, slice_get}
use Rattle.std.specs.List.{list_any}
use Rattle.dnsv_lines.specs.declared.line.fault.signature.WhySignature.TheVariants as why
use Rattle.dnsv_mending.specs.Faults.{answer_lines, or_else, signature_lines}
use Rattle.dnsv_mending.specs.Level.{Leveled}
use Rattle.dnsv_mending.specs.Mend.{Mended, both, fault, is_none, nothing, telling, untold}
use Rattle.dnsv_mending.specs.declared.facts.signature.KeyAnswer.{KeyAnswer}
use Rattle.dnsv_mending.specs.declared.facts.signature.KeyAnswer.TheVariants as answer
use Rattle.dnsv_mending.specs.declared.facts.signature.NamedKey.{NamedKey}
use Rattle.dnsv_mending.specs.declared.facts.signature.RrsetFacts.{RrsetFacts}
use Rattle.dnsv_mending.specs.declared.facts.signature.SignatureFacts.{SignatureFacts}
use Rattle.dnsv_mending.specs.declared.price.Class.TheVariants as class
use Rattle.dnsv_mending.specs.declared.told.Told.{Told}
use Rattle.dnsv_mending.specs.declared.told.Told.TheVariants as told

-- a signature by the zone with so many labels
abbrev pub is_by : ℕ → SignatureFacts → Bool
is_by zone s = not s.faults.signer && nat_eq s.signer zone

-- the answer of two under which less is wrong: nothing; else that a verifier doesn't know the signature; else that it is bad
abbrev pub milder : KeyAnswer → KeyAnswer → KeyAnswer
milder answer.Good b = answer.Good
milder answer.Bad b = b
milder answer.Unanswered answer.Good = answer.Good
milder answer.Unanswered answer.Bad = answer.Unanswered
milder answer.Unanswered answer.Unanswered = answer.Unanswered

abbrev pub mildest_from : KeyAnswer → List NamedKey → KeyAnswer
mildest_from a [] = a
mildest_from a (k ∷ ks) = mildest_from (milder a k.answer) ks

-- the least that is wrong under one of the keys that it names; where it names none, nothing
abbrev pub mildest : SignatureFacts → KeyAnswer
mildest s = if is_none s.keys.items then answer.Good else mildest_from answer.Bad s.keys.items

-- what is wrong with the signature itself
abbrev pub own_lines : SignatureFacts → List Told
own_lines s = or_else (signature_lines s) (answer_lines s.number (mildest s))

-- nothing is: its signer is trusted, and its key in no trusted RRset, so the keys don't fit; or the signer isn't trusted
abbrev pub unfounded : Bool → SignatureFacts → Mended
unfounded true s = both (fault (told.Signature why.KeyUntrusted s.number)) (untold class.NotFitting)
unfounded false s = fault (told.Follows s.number)

abbrev pub is_signer_trusted : Option Leveled → Bool
is_signer_trusted None = false
is_signer_trusted (Some level) = level.is_trusted

abbrev pub own_way : List Leveled → SignatureFacts → Mended
own_way levels s = if is_none (own_lines s) then unfounded (is_signer_trusted (slice_get levels s.signer)) s else telling (own_lines s)

unfoldable pub own_ways : List Leveled → SignatureFacts → List Mended
own_ways levels s = own_way levels s ∷ []

unfoldable pub zone_signature_ways : List Leveled → ℕ → SignatureFacts → List Mended
zone_signature_ways levels zone s = if is_by zone s then own_way levels s ∷ [] else []

-- an RRset: by its signatures by the zone, where there are such
abbrev pub within_ways : List Leveled → ℕ → RrsetFacts → List Mended
within_ways levels zone r = if list_any (λ (s : SignatureFacts). is_by zone s && s.is_signed) r.signatures.items then nothing ∷ []
    else (if is_none r.signatures.items then fault (told.Unsigned r.number) ∷ []
    else (if list_any (is_by zone) r.signatures.items then flat_map (zone_signature_ways levels zone) r.signatures.items
    else flat_map (own_ways levels) r.signatures.items))
