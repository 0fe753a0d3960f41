-- The ways on which a signature is good under a trusted key, and an RRset is signed. `levels` are those of the zones at or
-- above the owner, from the root down, for a DS RRset those above it; `above` is the zone above.
use Rattle.std.specs.Prelude.{List, [], ◌∷◌, ◌++◌, Option, Some, None, Bool, if◌then◌else◌, flat_map, slice_get}
use Rattle.dnsv_mending.specs.Faults.{lines_under, signature_lines, unnamed_lines}
use Rattle.dnsv_mending.specs.Level.{Held, Leveled}
use Rattle.dnsv_mending.specs.Mend.{Mended, after, both, fault, is_none, nothing, telling, untold}
use Rattle.dnsv_mending.specs.declared.facts.signature.NamedKey.{NamedKey}
use Rattle.dnsv_mending.specs.declared.facts.signature.RrsetFacts.{RrsetFacts}
use Rattle.dnsv_mending.specs.declared.facts.signature.SignatureFacts.{SignatureFacts}
use Rattle.dnsv_mending.specs.declared.price.Class.TheVariants as class
use Rattle.dnsv_mending.specs.declared.told.Told.TheVariants as told

-- by a DNSKEY RRset that holds the key
abbrev pub held_way : Bool → SignatureFacts → NamedKey → Option Held → List Mended
held_way is_trusted s k None = []
held_way is_trusted s k (Some held) = after held.mend (telling (lines_under is_trusted s k))

-- by the zone, of a key that no trusted RRset holds: its keys don't fit
abbrev pub unheld_way : Leveled → SignatureFacts → NamedKey → Option Held → List Mended
unheld_way level s k None = []
unheld_way level s k (Some held) = if held.is_trusted then []
    else after level.zone (both (telling (lines_under level.is_trusted s k)) (untold class.NotFitting))

unfoldable pub held_ways : Leveled → SignatureFacts → NamedKey → List Mended
held_ways level s k = held_way level.is_trusted s k (slice_get level.keys k.key)

unfoldable pub unheld_ways : Leveled → SignatureFacts → NamedKey → List Mended
unheld_ways level s k = unheld_way level s k (slice_get level.keys k.key)

-- by the zone keys that it names; where it names none, by the signer
abbrev pub named_ways : Leveled → SignatureFacts → List NamedKey → List Mended
named_ways level s keys = if is_none keys then after level.zone (telling (unnamed_lines s))
    else flat_map (held_ways level s) keys ++ flat_map (unheld_ways level s) keys

abbrev pub signer_ways : SignatureFacts → Option Leveled → List Mended
signer_ways s None = []
signer_ways s (Some level) = named_ways level s s.keys.items

-- a signature (RFC 4035 5.3): where its signer can't be the zone, the zone above is what it would have to be
unfoldable pub signature_ways : List Leveled → Option Mended → SignatureFacts → List Mended
signature_ways levels above s = if s.is_signed then nothing ∷ []
    else (if s.faults.signer then after above (telling (signature_lines s)) else signer_ways s (slice_get levels s.signer))

-- an RRset: by one of its signatures
abbrev pub rrset_ways : List Leveled → Option Mended → RrsetFacts → List Mended
rrset_ways levels above r = if is_none r.signatures.items then after above (fault (told.Unsigned r.number))
    else flat_map (signature_ways levels above) r.signatures.items
