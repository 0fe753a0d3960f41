-- The forms that ask something of the wildcard at the closest encloser (RFC 4035 5.4, RFC 5155 8.4, 8.7). No public
-- clause cites this module.
use Rattle.std.specs.Prelude.{ℕ, ◌≤◌}
use Rattle.std.specs.Ordering.{nat_cmp}
use Rattle.dnsv_names.specs.Name.{Labels, rightmost}
use Rattle.dnsv_names.specs.Tree.{wildcard_of}
use Rattle.dnsv_zones.specs.forms.Forms.{EndsAt}
use Rattle.dnsv_zones.specs.forms.RecordWords.{RecordWords, words}
use Rattle.dnsv_zones.specs.zones.Types.{Denies}
use Rattle.dnsv_proof_forms.specs.forms.ProofForms.{ShowsWildcard}
use Rattle.dnsv_proof_forms.specs.declared.forms.proof_form.WildcardParts.{WildcardParts}
use Rattle.dnsv_proof_forms.specs.declared.words.asked.AskedWildcard.{AskedWildcard}
use Rattle.dnsv_proof_forms.specs.declared.words.asked.AskedWildcard.TheVariants.{Absent, Empty, Without}

-- the record at the place says it of the wildcard
abbrev pub wildcard_said : AskedWildcard → RecordWords ℕ → Labels → ℕ → Type 0
wildcard_said Absent said wildcard = said.Absent wildcard
wildcard_said Empty said wildcard = said.EmptyNonTerminal wildcard
wildcard_said (Without rtype) said wildcard = said.TypesAt wildcard (λ has. Denies has rtype.0)

-- the form stands, by a closest encloser of so many labels
pub record StandsAt (asked : AskedWildcard) (said : RecordWords ℕ) (apex name : Labels) (labels : ℕ) : Type 0 where
  pub ends : EndsAt (words said) apex name labels
  pub wildcard : (place : ℕ) × wildcard_said asked said (wildcard_of (rightmost name labels)) place

-- these are its records, by the closest encloser with most labels
pub record ShowsWithMostLabels
    (asked : AskedWildcard) (said : RecordWords ℕ) (apex name : Labels) (parts : WildcardParts ℕ) : Type 0 where
  pub shows : ShowsWildcard nat_cmp said apex name (wildcard_said asked said) parts
  pub most_labels : (more : ℕ) → StandsAt asked said apex name more → more ≤ parts.labels
