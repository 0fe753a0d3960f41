-- How a denial is shown by places is how it is shown by numbers, and the records of the form are the parts of a proof.
use Rattle.std.proofs.Common.{◌≡◌, ℕ, ◌+◌, List, [], ◌∷◌, ◌++◌, Option, map, refl, sym, ap, ◌∙◌}
use Rattle.std.proofs.lemmas.List.{map-append}
use Rattle.std.specs.Prelude.{Some, None}
use Rattle.std.specs.Ordering.{nat_cmp}
use Rattle.std.specs.declared.cmp.Ordering.{Ordering}
use Rattle.dnsv_names.specs.Name.{Labels, rightmost}
use Rattle.dnsv_names.specs.Tree.{wildcard_of}
use Rattle.dnsv_zones.specs.forms.Forms.{EndsAt, NoNameForm, NoDataForm, EmptyForm, NoWildcardDataForm, EmptyWildcardForm}
use Rattle.dnsv_zones.specs.forms.Parts.{IsEncloserPart, AreNoNameParts, AreNoDataParts, AreWildcardParts}
use Rattle.dnsv_zones.specs.forms.Parts.AreNoDataParts.{at_name as part_at_name, empty as part_empty, at_wildcard as parts_at_wildcard, empty_wildcard as parts_empty_wildcard}
use Rattle.dnsv_zones.specs.forms.Parts.IsEncloserPart.{no_record, a_record}
use Rattle.dnsv_zones.specs.forms.RecordWords.{RecordWords, words}
use Rattle.dnsv_zones.specs.zones.Types.{Denies, IsUnsignedDelegation}
use Rattle.dnsv_zones.proofs.lemmas.chains.MoreLemmas.{SayMore}
use Rattle.dnsv_proof_forms.specs.forms.ProofForms.{ShowsEncloser, ShowsNoData, ShowsNoName, ShowsWildcard, form_by, form_records, option_by, wildcard_by, wildcard_records}
use Rattle.dnsv_proof_forms.specs.forms.ProofForms.ShowsNoName.{no_name}
use Rattle.dnsv_proof_forms.specs.forms.ProofForms.ShowsNoData.{at_name, empty, at_wildcard, empty_wildcard}
use Rattle.dnsv_proof_forms.specs.forms.ProofForms.ShowsNoCloser.{no_closer}
use Rattle.dnsv_proof_forms.specs.forms.ShownUnsigned.{ShowsDenial}
use Rattle.dnsv_proof_forms.specs.forms.ShownUnsigned.ShowsDelegation.{delegation}
use Rattle.dnsv_proof_forms.specs.forms.ShownUnsigned.ShowsOptOut.{opt_out, wildcard_opt_out}
use Rattle.dnsv_proof_forms.specs.forms.ShownUnsigned.ShowsOptOutCloser.{opt_out_closer}
use Rattle.dnsv_proof_forms.specs.records.Numbers.{number_at}
use Rattle.dnsv_proof_forms.specs.records.RecordsAt.{listed}
use Rattle.dnsv_proof_forms.specs.records.Numbers.{number_cmp}
use Rattle.dnsv_proof_forms.specs.declared.forms.denial.Denial.{Denial}
use Rattle.dnsv_proof_forms.specs.declared.forms.denial.Denial.TheVariants as denied
use Rattle.dnsv_proof_forms.specs.declared.forms.proof_form.ProofForm.{ProofForm}
use Rattle.dnsv_proof_forms.specs.declared.forms.proof_form.ProofForm.TheVariants.{NoName, NoData, EmptyNonTerminal, WildcardNoData, EmptyWildcard, NoCloser, Delegation, OptOut, WildcardOptOut, OptOutCloser}
use Rattle.dnsv_proof_forms.specs.declared.forms.proof_form.WildcardParts.{WildcardParts}
use Rattle.dnsv_canonical.specs.declared.number.RecordNumber.{RecordNumber}
use Rattle.dnsv_proof_forms.proofs.lemmas.words.IndexLemmas.{AreInOrder, SaysAlike, SayAlike, first_such_to, words_from}

-- ---- the records of the form are the parts of a proof

module _ {Index : Type 0} (cmp : Index → Index → Ordering) (said : RecordWords Index) (apex name : Labels) where
  encloser_listed : (enc : Labels) (found : Option Index) → ShowsEncloser cmp said enc found → IsEncloserPart cmp said enc (listed found)
  encloser_listed enc None needs = no_record needs
  encloser_listed enc (Some index) shown = a_record index shown.0 shown.1

  wildcard_listed : (Says : Labels → Index → Type 0) (parts : WildcardParts Index) → ShowsWildcard cmp said apex name Says parts
      → AreWildcardParts cmp said apex name parts.labels (Says (wildcard_of (rightmost name parts.labels))) (wildcard_records parts)
  wildcard_listed Says parts shows = record {
    end_parts = listed parts.encloser ++ parts.next_closer ∷ [];
    ends = record {
      above = shows.above;
      encloser_part = listed parts.encloser;
      encloser = encloser_listed (rightmost name parts.labels) parts.encloser shows.encloser;
      covering = parts.next_closer;
      next_closer = shows.next_closer;
      both = refl;
    };
    last = parts.wildcard;
    wildcard = shows.wildcard;
    all = refl;
  }

  pub no_name_parts : (form : ProofForm Index) → ShowsNoName cmp said apex name form → AreNoNameParts cmp said apex name (form_records form)
  no_name_parts whole (no_name found shows) = record {
    labels = found.labels;
    are = wildcard_listed (λ wildcard. said.Absent wildcard) found shows.shows;
    most_labels = shows.most_labels;
  }

  pub no_data_parts : (t : ℕ) (form : ProofForm Index) → ShowsNoData cmp said apex name t form → AreNoDataParts cmp said apex name t (form_records form)
  no_data_parts t whole (at_name index shows) = part_at_name index shows.within shows.types
  no_data_parts t whole (empty index shows) = part_empty index shows.not_at_name shows.within shows.empty
  no_data_parts t whole (at_wildcard found shows) =
      parts_at_wildcard (wildcard_records found) shows.not_at_name shows.not_empty (record {
        labels = found.labels;
        are = wildcard_listed (λ wildcard. said.TypesAt wildcard (λ has. Denies has t)) found shows.shows;
        most_labels = shows.most_labels;
      })
  no_data_parts t whole (empty_wildcard found shows) =
      parts_empty_wildcard (wildcard_records found) shows.not_at_name shows.not_empty shows.not_at_wildcard (record {
        labels = found.labels;
        are = wildcard_listed (λ wildcard. said.EmptyNonTerminal wildcard) found shows.shows;
        most_labels = shows.most_labels;
      })

-- ---- the records by other indices

module _ {I J : Type 0} (by : I → J) where
  option_records : (found : Option I) (rest : List I) → listed (option_by by found) ++ map by rest ≡ map by (listed found ++ rest)
  option_records None rest = refl
  option_records (Some index) rest = refl

  wildcard_mapped : (parts : WildcardParts I) → wildcard_records (wildcard_by by parts) ≡ map by (wildcard_records parts)
  wildcard_mapped parts =
      ap (λ xs. xs ++ by parts.wildcard ∷ []) (option_records parts.encloser (parts.next_closer ∷ []))
      ∙ sym (map-append by (listed parts.encloser ++ parts.next_closer ∷ []) (parts.wildcard ∷ []))

  pub records_mapped : (form : ProofForm I) → form_records (form_by by form) ≡ map by (form_records form)
  records_mapped (NoName parts) = wildcard_mapped parts
  records_mapped (WildcardNoData parts) = wildcard_mapped parts
  records_mapped (EmptyWildcard parts) = wildcard_mapped parts
  records_mapped (OptOut labels encloser index) = option_records encloser (index ∷ [])
  records_mapped (WildcardOptOut parts) = wildcard_mapped parts
  records_mapped form = refl

-- ---- from places to numbers

module _ (numbers : List RecordNumber) (order : AreInOrder numbers) (by : RecordWords ℕ) (of : RecordWords RecordNumber) (alike : SayAlike numbers by of) (apex name : Labels) where
  abbrev at : ℕ → RecordNumber
  at place = number_at numbers place

  back : SayMore (words of) (words by)
  back = words_from numbers by of alike

  encloser_to : (enc : Labels) (found : Option ℕ) → ShowsEncloser nat_cmp by enc found → ShowsEncloser number_cmp of enc (option_by at found)
  encloser_to enc None needs = alike.needs_to enc needs
  encloser_to enc (Some place) shown = (
    λ needs. shown.0 (alike.needs_from enc needs),
    first_such_to numbers order (by.Encloser enc) (of.Encloser enc) (alike.encloser enc) place shown.1,
  )

  wildcard_to : (By : Labels → ℕ → Type 0) (Of : Labels → RecordNumber → Type 0) → ((x : Labels) → SaysAlike numbers (By x) (Of x))
      → (parts : WildcardParts ℕ) → ShowsWildcard nat_cmp by apex name By parts → ShowsWildcard number_cmp of apex name Of (wildcard_by at parts)
  wildcard_to By Of says parts shows =
      let next = rightmost name (parts.labels + 1) in
      let star = wildcard_of (rightmost name parts.labels) in
      record {
        above = shows.above;
        encloser = encloser_to (rightmost name parts.labels) parts.encloser shows.encloser;
        next_closer = first_such_to numbers order (by.Absent next) (of.Absent next) (alike.absent next) parts.next_closer shows.next_closer;
        wildcard = first_such_to numbers order (By star) (Of star) (says star) parts.wildcard shows.wildcard;
      }

  data_back : (t : ℕ) → NoDataForm (words of) apex name t → NoDataForm (words by) apex name t
  data_back t form = record { within = form.within; types = back.types_at name (λ has. Denies has t) form.types }

  empty_back : EmptyForm (words of) apex name → EmptyForm (words by) apex name
  empty_back form = record { within = form.within; empty_non_terminal = back.empty_non_terminal name form.empty_non_terminal }

  ends_back : (labels : ℕ) → EndsAt (words of) apex name labels → EndsAt (words by) apex name labels
  ends_back labels ends = record {
    above = ends.above;
    encloser = back.encloser (rightmost name labels) ends.encloser;
    next_closer = back.absent (rightmost name (labels + 1)) ends.next_closer;
  }

  abbrev name_back : NoNameForm (words of) apex name → NoNameForm (words by) apex name
  name_back form = record {
    labels = form.labels;
    ends = ends_back form.labels form.ends;
    wildcard = back.absent (wildcard_of (rightmost name form.labels)) form.wildcard;
  }

  abbrev wildcard_data_back : (t : ℕ) → NoWildcardDataForm (words of) apex name t → NoWildcardDataForm (words by) apex name t
  wildcard_data_back t form = record {
    labels = form.labels;
    ends = ends_back form.labels form.ends;
    types = back.types_at (wildcard_of (rightmost name form.labels)) (λ has. Denies has t) form.types;
  }

  abbrev empty_wildcard_back : EmptyWildcardForm (words of) apex name → EmptyWildcardForm (words by) apex name
  empty_wildcard_back form = record {
    labels = form.labels;
    ends = ends_back form.labels form.ends;
    empty_non_terminal = back.empty_non_terminal (wildcard_of (rightmost name form.labels)) form.empty_non_terminal;
  }

  pub shown_by_number : (denial : Denial) (form : ProofForm ℕ) → ShowsDenial nat_cmp denial name by apex form
      → ShowsDenial number_cmp denial name of apex (form_by at form)
  shown_by_number denied.NoName whole (no_name parts shows) = no_name (wildcard_by at parts) (record {
    shows = wildcard_to (λ x. by.Absent x) (λ x. of.Absent x) alike.absent parts shows.shows;
    most_labels = λ form. shows.most_labels (name_back form);
  })
  shown_by_number (denied.NoData rtype) whole (at_name place shows) =
      let Says : (ℕ → Type 0) → Type 0 = λ has. Denies has rtype.0 in
      at_name (at place) (record {
        within = shows.within;
        types = first_such_to numbers order (by.TypesAt name Says) (of.TypesAt name Says) (alike.types_at name Says) place shows.types;
      })
  shown_by_number (denied.NoData rtype) whole (empty place shows) = empty (at place) (record {
    not_at_name = λ form. shows.not_at_name (data_back rtype.0 form);
    within = shows.within;
    empty = first_such_to numbers order (by.EmptyNonTerminal name) (of.EmptyNonTerminal name) (alike.empty_non_terminal name) place shows.empty;
  })
  shown_by_number (denied.NoData rtype) whole (at_wildcard parts shows) = at_wildcard (wildcard_by at parts) (record {
    not_at_name = λ form. shows.not_at_name (data_back rtype.0 form);
    not_empty = λ form. shows.not_empty (empty_back form);
    shows = wildcard_to (λ x. by.TypesAt x (λ has. Denies has rtype.0)) (λ x. of.TypesAt x (λ has. Denies has rtype.0))
        (λ x. alike.types_at x (λ has. Denies has rtype.0)) parts shows.shows;
    most_labels = λ form. shows.most_labels (wildcard_data_back rtype.0 form);
  })
  shown_by_number (denied.NoData rtype) whole (empty_wildcard parts shows) = empty_wildcard (wildcard_by at parts) (record {
    not_at_name = λ form. shows.not_at_name (data_back rtype.0 form);
    not_empty = λ form. shows.not_empty (empty_back form);
    not_at_wildcard = λ form. shows.not_at_wildcard (wildcard_data_back rtype.0 form);
    shows = wildcard_to (λ x. by.EmptyNonTerminal x) (λ x. of.EmptyNonTerminal x) alike.empty_non_terminal parts shows.shows;
    most_labels = λ form. shows.most_labels (empty_wildcard_back form);
  })
  shown_by_number (denied.NoCloser labels) whole (no_closer place part) =
      let next = rightmost name (labels + 1) in
      no_closer (at place) (record {
        above = part.above;
        next_closer = first_such_to numbers order (by.Absent next) (of.Absent next) (alike.absent next) place part.next_closer;
      })
  shown_by_number (denied.Delegation labels) whole (delegation place shows) =
      let cut = rightmost name labels in
      delegation (at place) (record {
        fits = shows.fits;
        at_or_above = shows.at_or_above;
        below_apex = shows.below_apex;
        types = first_such_to numbers order (by.TypesAt cut IsUnsignedDelegation) (of.TypesAt cut IsUnsignedDelegation) (alike.types_at cut IsUnsignedDelegation) place shows.types;
      })
  shown_by_number (denied.OptOut labels) whole (opt_out found place shows) =
      let next = rightmost name (labels + 1) in
      opt_out (option_by at found) (at place) (record {
        above = shows.above;
        encloser = encloser_to (rightmost name labels) found shows.encloser;
        next_closer = first_such_to numbers order (by.OptedOut next) (of.OptedOut next) (alike.opted_out next) place shows.next_closer;
      })
  shown_by_number (denied.OptOut labels) whole (wildcard_opt_out parts same shows) = wildcard_opt_out (wildcard_by at parts) same (record {
    none = λ n left. let it = (alike.opted_out (rightmost name (parts.labels + 1))).from n left in shows.none it.0 it.2;
    shows = wildcard_to (λ x. by.OptedOut x) (λ x. of.OptedOut x) alike.opted_out parts shows.shows;
  })
  shown_by_number (denied.OptOutCloser labels) whole (opt_out_closer place shows) =
      let next = rightmost name (labels + 1) in
      opt_out_closer (at place) (record {
        above = shows.above;
        next_closer = first_such_to numbers order (by.OptedOut next) (of.OptedOut next) (alike.opted_out next) place shows.next_closer;
      })
