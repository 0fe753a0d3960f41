-- The ways on which a question that nothing answers is denied.
use Rattle.std.specs.Prelude.{ℕ, List, [], ◌∷◌, ◌++◌, Some, None, Bool, false, if◌then◌else◌, flat_map}
use Rattle.dnsv_mending.specs.Level.{Leveled}
use Rattle.dnsv_mending.specs.declared.price.Class.TheVariants as class
use Rattle.dnsv_remedies.specs.Parts.{zone_kept}
use Rattle.dnsv_remedies.specs.Remedy.{Remedied, after, ended, fault, gap, least, or_gap, with_unusable}
use Rattle.dnsv_remedies.specs.Sources.{source_ways}
use Rattle.dnsv_remedies.specs.declared.facts.denial.SpeakerFacts.{SpeakerFacts}
use Rattle.dnsv_remedies.specs.declared.said.Said.TheVariants as said

-- What a zone lacks to deny the question: the least that a source of it does. Where something is missing, which records can't
-- be used is told. labels are those of the name that is asked for.
abbrev pub lacking : List Leveled → ℕ → SpeakerFacts → Remedied
lacking levels labels z = with_unusable z.unusable.items (or_gap (least (flat_map (source_ways levels labels z.labels) z.sources.items)))

-- The denial by a zone that is taken as trusted. Below a DNAME RRset nothing is denied (RFC 6672 5.3.4).
abbrev pub denial : List Leveled → ℕ → Bool → SpeakerFacts → Remedied
denial levels labels is_dname z = if z.has_denials
    then ended (said.DenialUnproved z.labels) (if is_dname then gap else lacking levels labels z)
    else fault class.Missing (said.AnswerMissing (Some z.labels))

abbrev pub speaker_ways : List Leveled → ℕ → Bool → SpeakerFacts → List Remedied
speaker_ways levels labels is_dname z = after (zone_kept levels z.labels) (denial levels labels is_dname z)

-- by a zone that needn't speak, where its denial is whole, whatever it costs
unfoldable pub other_ways : List Leveled → ℕ → SpeakerFacts → List Remedied
other_ways levels labels z = if (lacking levels labels z).lacks then [] else speaker_ways levels labels false z

-- by the zone that should speak, and by the others, from many labels to few
abbrev pub denial_ways : List Leveled → ℕ → Bool → List SpeakerFacts → List Remedied
denial_ways levels labels is_dname [] = fault class.Missing (said.AnswerMissing None) ∷ []
denial_ways levels labels is_dname (z ∷ zs) = speaker_ways levels labels is_dname z
    ++ (if is_dname then [] else flat_map (other_ways levels labels) zs)
