-- Denials by numbers are denials by places, and what shows a denial carries its form.
use Rattle.std.proofs.Common.{ℕ, ◌+◌, ◌<◌, List, [], ◌∷◌, ◌++◌, Option, inl, inr, subst, ⊎_elim}
use Rattle.std.specs.Prelude.{Some, None}
use Rattle.std.specs.List.{AllByRecursion}
use Rattle.std.specs.Ordering.{nat_cmp}
use Rattle.std.specs.declared.cmp.Ordering.{Ordering}
use Rattle.dnsv_names.specs.Name.{Labels, rightmost}
use Rattle.dnsv_names.specs.Tree.{wildcard_of}
use Rattle.dnsv_records.specs.OctetLaws.{recursion-append}
use Rattle.dnsv_zones.specs.forms.Forms.{EndsAt}
use Rattle.dnsv_zones.specs.forms.Parts.{OptsOut}
use Rattle.dnsv_zones.specs.forms.RecordWords.{RecordWords, words}
use Rattle.dnsv_zones.specs.zones.Types.{Denies, IsUnsignedDelegation}
use Rattle.dnsv_zones.proofs.lemmas.chains.MoreLemmas.{no_name_more, no_data_more, no_closer_more, unsigned_cut_more}
use Rattle.dnsv_proof_forms.specs.forms.Denials.{DenialForm}
use Rattle.dnsv_proof_forms.specs.forms.ProofForms.{ShowsEncloser, ShowsWildcard, form_records, wildcard_records}
use Rattle.dnsv_proof_forms.specs.forms.ProofForms.ShowsNoName.{no_name}
use Rattle.dnsv_proof_forms.specs.forms.ProofForms.ShowsNoData.{at_name, empty, at_wildcard, empty_wildcard}
use Rattle.dnsv_proof_forms.specs.forms.ProofForms.ShowsNoCloser.{no_closer}
use Rattle.dnsv_proof_forms.specs.forms.ShownUnsigned.{ShowsDenial}
use Rattle.dnsv_proof_forms.specs.forms.ShownUnsigned.ShowsDelegation.{delegation}
use Rattle.dnsv_proof_forms.specs.forms.ShownUnsigned.ShowsOptOut.{opt_out, wildcard_opt_out}
use Rattle.dnsv_proof_forms.specs.forms.ShownUnsigned.ShowsOptOutCloser.{opt_out_closer}
use Rattle.dnsv_proof_forms.specs.records.RecordsAt.{listed}
use Rattle.dnsv_proof_forms.specs.declared.forms.denial.Denial.{Denial}
use Rattle.dnsv_proof_forms.specs.declared.forms.denial.Denial.TheVariants as denied
use Rattle.dnsv_proof_forms.specs.declared.forms.proof_form.ProofForm.{ProofForm}
use Rattle.dnsv_proof_forms.specs.declared.forms.proof_form.WildcardParts.{WildcardParts}
use Rattle.dnsv_canonical.specs.declared.number.RecordNumber.{RecordNumber}
use Rattle.dnsv_proof_forms.proofs.lemmas.words.IndexLemmas.{SayAlike, words_from}

-- ---- what shows a denial carries its form

module _ {Index : Type 0} (cmp : Index → Index → Ordering) (said : RecordWords Index) (apex name : Labels) where
  encloser_stands : (enc : Labels) (found : Option Index) → ShowsEncloser cmp said enc found → (words said).Encloser enc
  encloser_stands enc None needs = inl needs
  encloser_stands enc (Some index) shown = inr (index, shown.1.says)

  ends_stand : (Says : Labels → Index → Type 0) (parts : WildcardParts Index) → ShowsWildcard cmp said apex name Says parts → EndsAt (words said) apex name parts.labels
  ends_stand Says parts shows = record {
    above = shows.above;
    encloser = encloser_stands (rightmost name parts.labels) parts.encloser shows.encloser;
    next_closer = (parts.next_closer, shows.next_closer.says);
  }

  pub shown_stands : (denial : Denial) (form : ProofForm Index) → ShowsDenial cmp denial name said apex form → DenialForm denial name said apex
  shown_stands denied.NoName whole (no_name parts shows) = record {
    labels = parts.labels;
    ends = ends_stand (λ wildcard. said.Absent wildcard) parts shows.shows;
    wildcard = (parts.wildcard, shows.shows.wildcard.says);
  }
  shown_stands (denied.NoData rtype) whole (at_name index shows) = inl (record { within = shows.within; types = (index, shows.types.says) })
  shown_stands (denied.NoData rtype) whole (empty index shows) = inr (inl (record { within = shows.within; empty_non_terminal = (index, shows.empty.says) }))
  shown_stands (denied.NoData rtype) whole (at_wildcard parts shows) = inr (inr (inl (record {
    labels = parts.labels;
    ends = ends_stand (λ wildcard. said.TypesAt wildcard (λ has. Denies has rtype.0)) parts shows.shows;
    types = (parts.wildcard, shows.shows.wildcard.says);
  })))
  shown_stands (denied.NoData rtype) whole (empty_wildcard parts shows) = inr (inr (inr (record {
    labels = parts.labels;
    ends = ends_stand (λ wildcard. said.EmptyNonTerminal wildcard) parts shows.shows;
    empty_non_terminal = (parts.wildcard, shows.shows.wildcard.says);
  })))
  shown_stands (denied.NoCloser labels) whole (no_closer index part) = record { above = part.above; next_closer = (index, part.next_closer.says) }
  shown_stands (denied.Delegation labels) whole (delegation index shows) = record {
    fits = shows.fits;
    form = record { at_or_above = shows.at_or_above; below_apex = shows.below_apex; types = (index, shows.types.says) };
  }
  shown_stands (denied.OptOut labels) whole (opt_out by index shows) = record {
    above = shows.above;
    encloser = encloser_stands (rightmost name labels) by shows.encloser;
    next_closer = inr (index, shows.next_closer.says);
    opted_out = inl (index, shows.next_closer.says);
  }
  shown_stands (denied.OptOut labels) whole (wildcard_opt_out parts same shows) =
      subst (λ n. OptsOut said apex name n) same (record {
        above = shows.shows.above;
        encloser = encloser_stands (rightmost name parts.labels) parts.encloser shows.shows.encloser;
        next_closer = inl (parts.next_closer, shows.shows.next_closer.says);
        opted_out = inr (parts.wildcard, shows.shows.wildcard.says);
      })
  shown_stands (denied.OptOutCloser labels) whole (opt_out_closer index shows) =
      record { above = shows.above; opted_out = (index, shows.next_closer.says) }

-- ---- from numbers to places

module _ (numbers : List RecordNumber) (by : RecordWords ℕ) (of : RecordWords RecordNumber) (alike : SayAlike numbers by of) (apex name : Labels) where
  opted_out_back : (x : Labels) → (n : RecordNumber) × of.OptedOut x n → (place : ℕ) × by.OptedOut x place
  opted_out_back x some = let it = (alike.opted_out x).from some.0 some.1 in (it.0, it.2)

  pub form_by_place : (denial : Denial) → DenialForm denial name of apex → DenialForm denial name by apex
  form_by_place denied.NoName form = no_name_more (words of) (words by) (words_from numbers by of alike) apex name form
  form_by_place (denied.NoData rtype) form = no_data_more (words of) (words by) (words_from numbers by of alike) apex name rtype.0 form
  form_by_place (denied.NoCloser labels) form = no_closer_more (words of) (words by) (words_from numbers by of alike) apex name labels form
  form_by_place (denied.Delegation labels) there = record {
    fits = there.fits;
    form = unsigned_cut_more (words of) (words by) (words_from numbers by of alike) apex name (rightmost name labels) there.form;
  }
  form_by_place (denied.OptOut labels) out =
      let next = rightmost name (labels + 1) in
      let star = wildcard_of (rightmost name labels) in
      record {
        above = out.above;
        encloser = (words_from numbers by of alike).encloser (rightmost name labels) out.encloser;
        next_closer = ⊎_elim (λ (absent : (words of).Absent next). inl ((words_from numbers by of alike).absent next absent))
            (λ (left : (n : RecordNumber) × of.OptedOut next n). inr (opted_out_back next left)) out.next_closer;
        opted_out = ⊎_elim (λ (left : (n : RecordNumber) × of.OptedOut next n). inl (opted_out_back next left))
            (λ (left : (n : RecordNumber) × of.OptedOut star n). inr (opted_out_back star left)) out.opted_out;
      }
  form_by_place (denied.OptOutCloser labels) out = record { above = out.above; opted_out = opted_out_back (rightmost name (labels + 1)) out.opted_out }

-- ---- places within the list

pub record AreBound (count : ℕ) (by : RecordWords ℕ) : Type 1 where
  pub encloser : (name : Labels) (place : ℕ) → by.Encloser name place → place < count
  pub absent : (name : Labels) (place : ℕ) → by.Absent name place → place < count
  pub empty_non_terminal : (name : Labels) (place : ℕ) → by.EmptyNonTerminal name place → place < count
  pub types_at : (name : Labels) (Says : (ℕ → Type 0) → Type 0) (place : ℕ) → by.TypesAt name Says place → place < count
  pub opted_out : (name : Labels) (place : ℕ) → by.OptedOut name place → place < count

module _ (count : ℕ) (by : RecordWords ℕ) (bound : AreBound count by) (apex name : Labels) where
  encloser_places : (enc : Labels) (found : Option ℕ) → ShowsEncloser nat_cmp by enc found → AllByRecursion (λ p. p < count) (listed found)
  encloser_places enc None needs = tt
  encloser_places enc (Some place) shown = (bound.encloser enc place shown.1.says, tt)

  wildcard_places : (By : Labels → ℕ → Type 0) → ((x : Labels) (place : ℕ) → By x place → place < count)
      → (parts : WildcardParts ℕ) → ShowsWildcard nat_cmp by apex name By parts → AllByRecursion (λ p. p < count) (wildcard_records parts)
  wildcard_places By says parts shows =
      recursion-append (λ p. p < count) (listed parts.encloser ++ parts.next_closer ∷ []) (parts.wildcard ∷ [])
      (recursion-append (λ p. p < count) (listed parts.encloser) (parts.next_closer ∷ [])
      (encloser_places (rightmost name parts.labels) parts.encloser shows.encloser)
      (bound.absent (rightmost name (parts.labels + 1)) parts.next_closer shows.next_closer.says, tt))
      (says (wildcard_of (rightmost name parts.labels)) parts.wildcard shows.wildcard.says, tt)

  pub shown_places : (denial : Denial) (form : ProofForm ℕ) → ShowsDenial nat_cmp denial name by apex form → AllByRecursion (λ p. p < count) (form_records form)
  shown_places denied.NoName whole (no_name parts shows) = wildcard_places (λ x. by.Absent x) bound.absent parts shows.shows
  shown_places (denied.NoData rtype) whole (at_name place shows) = (bound.types_at name (λ has. Denies has rtype.0) place shows.types.says, tt)
  shown_places (denied.NoData rtype) whole (empty place shows) = (bound.empty_non_terminal name place shows.empty.says, tt)
  shown_places (denied.NoData rtype) whole (at_wildcard parts shows) =
      wildcard_places (λ x. by.TypesAt x (λ has. Denies has rtype.0)) (λ x. bound.types_at x (λ has. Denies has rtype.0)) parts shows.shows
  shown_places (denied.NoData rtype) whole (empty_wildcard parts shows) =
      wildcard_places (λ x. by.EmptyNonTerminal x) bound.empty_non_terminal parts shows.shows
  shown_places (denied.NoCloser labels) whole (no_closer place part) = (bound.absent (rightmost name (labels + 1)) place part.next_closer.says, tt)
  shown_places (denied.Delegation labels) whole (delegation place shows) = (bound.types_at (rightmost name labels) IsUnsignedDelegation place shows.types.says, tt)
  shown_places (denied.OptOut labels) whole (opt_out found place shows) =
      recursion-append (λ p. p < count) (listed found) (place ∷ []) (encloser_places (rightmost name labels) found shows.encloser)
      (bound.opted_out (rightmost name (labels + 1)) place shows.next_closer.says, tt)
  shown_places (denied.OptOut labels) whole (wildcard_opt_out parts same shows) = wildcard_places (λ x. by.OptedOut x) bound.opted_out parts shows.shows
  shown_places (denied.OptOutCloser labels) whole (opt_out_closer place shows) = (bound.opted_out (rightmost name (labels + 1)) place shows.next_closer.says, tt)
