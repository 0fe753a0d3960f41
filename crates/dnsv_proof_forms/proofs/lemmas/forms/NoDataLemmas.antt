-- The forms of a proof that a type isn't there, in their order.
use Rattle.std.proofs.Common.{ℕ, inl, inr}
use Rattle.std.specs.Ordering.{nat_cmp}
use Rattle.dnsv_names.specs.declared.number.RecordType.{RecordType}
use Rattle.dnsv_names.specs.Name.{Labels, IsAtOrBelow, rightmost}
use Rattle.dnsv_names.specs.Tree.TreeLaws.{at_or_below_trans}
use Rattle.dnsv_names.specs.Tree.AncestorLaws.{rightmost_above}
use Rattle.dnsv_zones.specs.forms.Forms.{Words, IsAbove, NoDataForm, EmptyForm, NoWildcardDataForm, EmptyWildcardForm, NoDataForms}
use Rattle.dnsv_zones.specs.forms.RecordWords.{RecordWords, words}
use Rattle.dnsv_zones.specs.zones.Types.{Denies}
use Rattle.dnsv_proof_forms.specs.declared.words.asked.AskedWildcard.TheVariants.{Empty, Without}
use Rattle.dnsv_proof_forms.specs.forms.ByWildcard.{StandsAt, ShowsWithMostLabels}
use Rattle.dnsv_proof_forms.specs.forms.ProofForms.{ShowsEmptyWildcard, ShowsWildcardNoData}
use Rattle.dnsv_proof_forms.specs.declared.forms.proof_form.WildcardParts.{WildcardParts}

-- a name with an ancestor within the zone is within it
pub within_by : (apex name : Labels) (labels : ℕ) → IsAbove apex name labels → IsAtOrBelow name apex
within_by apex name labels above = at_or_below_trans name (rightmost name labels) apex (rightmost_above name labels) above.within

pub none_outside : (all : Words) (apex name : Labels) (t : ℕ) → ¬ IsAtOrBelow name apex → ¬ NoDataForms all apex name t
none_outside all apex name t outside (inl form) = outside form.within
none_outside all apex name t outside (inr (inl form)) = outside form.within
none_outside all apex name t outside (inr (inr (inl form))) = outside (within_by apex name form.labels form.ends.above)
none_outside all apex name t outside (inr (inr (inr form))) = outside (within_by apex name form.labels form.ends.above)

none_of_four : (all : Words) (apex name : Labels) (t : ℕ) → ¬ NoDataForm all apex name t → ¬ EmptyForm all apex name
    → ¬ NoWildcardDataForm all apex name t → ¬ EmptyWildcardForm all apex name → ¬ NoDataForms all apex name t
none_of_four all apex name t a b c d (inl form) = a form
none_of_four all apex name t a b c d (inr (inl form)) = b form
none_of_four all apex name t a b c d (inr (inr (inl form))) = c form
none_of_four all apex name t a b c d (inr (inr (inr form))) = d form

module _ (said : RecordWords ℕ) (apex name : Labels) where
  pub none_at_name : (t : ℕ) → ((place : ℕ) → ¬ said.TypesAt name (λ has. Denies has t) place) → ¬ NoDataForm (words said) apex name t
  none_at_name t none form = none form.types.0 form.types.1

  pub none_empty : ((place : ℕ) → ¬ said.EmptyNonTerminal name place) → ¬ EmptyForm (words said) apex name
  none_empty none form = none form.empty_non_terminal.0 form.empty_non_terminal.1

  data_stands : (rtype : RecordType) (form : NoWildcardDataForm (words said) apex name rtype.0) → StandsAt (Without rtype) said apex name form.labels
  data_stands rtype form = record { ends = form.ends; wildcard = form.types }

  empty_stands : (form : EmptyWildcardForm (words said) apex name) → StandsAt Empty said apex name form.labels
  empty_stands form = record { ends = form.ends; wildcard = form.empty_non_terminal }

  pub none_at_wildcard : (rtype : RecordType) → ((labels : ℕ) → ¬ StandsAt (Without rtype) said apex name labels)
      → ¬ NoWildcardDataForm (words said) apex name rtype.0
  none_at_wildcard rtype none form = none form.labels (data_stands rtype form)

  pub by_wildcard_data : (rtype : RecordType) (parts : WildcardParts ℕ) → ¬ NoDataForm (words said) apex name rtype.0 → ¬ EmptyForm (words said) apex name
      → ShowsWithMostLabels (Without rtype) said apex name parts → ShowsWildcardNoData nat_cmp said apex name rtype.0 parts
  by_wildcard_data rtype parts not_at_name not_empty most = record {
    not_at_name = not_at_name;
    not_empty = not_empty;
    shows = record { above = most.shows.above; encloser = most.shows.encloser; next_closer = most.shows.next_closer; wildcard = most.shows.wildcard };
    most_labels = λ form. most.most_labels form.labels (data_stands rtype form);
  }

  module _ (t : ℕ) (not_at_name : ¬ NoDataForm (words said) apex name t) (not_empty : ¬ EmptyForm (words said) apex name) (not_at_wildcard : ¬ NoWildcardDataForm (words said) apex name t) where
    pub none_at_all : ((labels : ℕ) → ¬ StandsAt Empty said apex name labels) → ¬ NoDataForms (words said) apex name t
    none_at_all none = none_of_four (words said) apex name t not_at_name not_empty not_at_wildcard (λ form. none form.labels (empty_stands form))

    pub empty_wildcard_shown : (parts : WildcardParts ℕ) → ShowsWithMostLabels Empty said apex name parts → ShowsEmptyWildcard nat_cmp said apex name t parts
    empty_wildcard_shown parts most = record {
      not_at_name = not_at_name;
      not_empty = not_empty;
      not_at_wildcard = not_at_wildcard;
      shows = record { above = most.shows.above; encloser = most.shows.encloser; next_closer = most.shows.next_closer; wildcard = most.shows.wildcard };
      most_labels = λ form. most.most_labels form.labels (empty_stands form);
    }
