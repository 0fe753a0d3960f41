-- The forms that ask something of the wildcard at the closest encloser, by its number of labels.
use Rattle.std.proofs.Common.{◌≡◌, ℕ, ◌+◌, ◌-◌, ◌<◌, ◌≤◌, Option, length, subst, arith, ⊎_elim}
use Rattle.std.specs.Prelude.{Some, None, MatchOption}
use Rattle.std.specs.Ordering.{nat_cmp}
use Rattle.std.proofs.lemmas.Bool.{cases_lt}
use Rattle.dnsv_names.specs.Name.{Labels, rightmost}
use Rattle.dnsv_names.specs.Tree.TreeLaws.{at_or_below_length}
use Rattle.dnsv_names.specs.Tree.AncestorLaws.{rightmost_length}
use Rattle.dnsv_zones.specs.forms.Forms.{IsAbove, NoNameForm, NoCloserForm}
use Rattle.dnsv_zones.specs.forms.Parts.{IsNoCloserPart}
use Rattle.dnsv_zones.specs.forms.RecordWords.{RecordWords, words}
use Rattle.dnsv_proof_forms.specs.declared.words.asked.AskedWildcard.TheVariants.{Absent}
use Rattle.dnsv_proof_forms.specs.forms.ByWildcard.{StandsAt, ShowsWithMostLabels}
use Rattle.dnsv_proof_forms.specs.forms.ProofForms.{ShowsNoNameBy}
use Rattle.dnsv_proof_forms.specs.declared.forms.proof_form.WildcardParts.{WildcardParts}
use Rattle.dnsv_proof_forms.specs.words.SaidAt.{IsFirstPlace}

-- what holds of fewer than n only, and not of the last before n
pub fewer_yet : (P : ℕ → Type 0) (n : ℕ) → 0 < n → ((k : ℕ) → P k → k < n) → ¬ P (n - 1) → (k : ℕ) → P k → k < n - 1
fewer_yet P n some fewer last k holds =
    ⊎_elim (λ (less : k < n - 1). less)
    (λ (not_less : n - 1 ≤ k). let same : k ≡ n - 1 = omega (arith, fewer k holds) in absurd (last (subst P same holds)))
    (cases_lt k (n - 1))

-- a closest encloser has no fewer labels than the apex
pub no_fewer_labels : (apex name : Labels) (labels : ℕ) → IsAbove apex name labels → length apex ≤ labels
no_fewer_labels apex name labels above =
    omega (arith, at_or_below_length (rightmost name labels) apex above.within, rightmost_length name labels (omega (arith, above.proper)))

module _ (said : RecordWords ℕ) (apex name : Labels) where
  no_name_stands : (form : NoNameForm (words said) apex name) → StandsAt Absent said apex name form.labels
  no_name_stands form = record { ends = form.ends; wildcard = form.wildcard }

  pub no_name_none : ((labels : ℕ) → ¬ StandsAt Absent said apex name labels) → ¬ NoNameForm (words said) apex name
  no_name_none none form = none form.labels (no_name_stands form)

  pub no_name_shown : (parts : WildcardParts ℕ) → ShowsWithMostLabels Absent said apex name parts → ShowsNoNameBy nat_cmp said apex name parts
  no_name_shown parts most = record {
    shows = record { above = most.shows.above; encloser = most.shows.encloser; next_closer = most.shows.next_closer; wildcard = most.shows.wildcard };
    most_labels = λ form. most.most_labels form.labels (no_name_stands form);
  }

  pub no_closer_found : (labels : ℕ) (found : Option ℕ) → IsAbove apex name labels → IsFirstPlace (said.Absent (rightmost name (labels + 1))) found
      → MatchOption found (¬ NoCloserForm (words said) apex name labels) (IsNoCloserPart nat_cmp said apex name labels)
  no_closer_found labels None above none = λ form. none form.next_closer.0 form.next_closer.1
  no_closer_found labels (Some place) above first = record { above = above; next_closer = first }
