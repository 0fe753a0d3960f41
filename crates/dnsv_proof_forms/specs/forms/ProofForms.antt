-- How a denial is shown: the form that stands first, and of each of its parts the first record that says so.
use Rattle.std.specs.Prelude.{◌+◌, ◌≤◌, ℕ, List, [], ◌∷◌, ◌++◌, Option, Some, None}
use Rattle.std.specs.declared.cmp.Ordering.{Ordering}
use Rattle.dnsv_names.specs.Name.{Labels, IsAtOrBelow, rightmost}
use Rattle.dnsv_names.specs.Tree.{wildcard_of}
use Rattle.dnsv_zones.specs.forms.Forms.{IsAbove, NoNameForm, NoDataForm, EmptyForm, NoWildcardDataForm, EmptyWildcardForm}
use Rattle.dnsv_zones.specs.forms.Parts.{IsFirstToSay, IsNoCloserPart}
use Rattle.dnsv_zones.specs.forms.RecordWords.{RecordWords, words}
use Rattle.dnsv_zones.specs.zones.Types.{Denies}
use Rattle.dnsv_proof_forms.specs.records.RecordsAt.{listed}
use Rattle.dnsv_proof_forms.specs.declared.forms.proof_form.ProofForm.{ProofForm}
use Rattle.dnsv_proof_forms.specs.declared.forms.proof_form.ProofForm.TheVariants.{NoName, NoData, EmptyNonTerminal, WildcardNoData, EmptyWildcard, NoCloser, Delegation, OptOut, WildcardOptOut, OptOutCloser}
use Rattle.dnsv_proof_forms.specs.declared.forms.proof_form.WildcardParts.{WildcardParts}

-- ---- the records of a form, in the order of its parts

-- the closest encloser's, if it needs one, the next closer name's, and the wildcard's
abbrev pub wildcard_records : {Index : Type 0} → WildcardParts Index → List Index
wildcard_records parts = (listed parts.encloser ++ parts.next_closer ∷ []) ++ parts.wildcard ∷ []

abbrev pub form_records : {Index : Type 0} → ProofForm Index → List Index
form_records (NoName parts) = wildcard_records parts
form_records (NoData index) = index ∷ []
form_records (EmptyNonTerminal index) = index ∷ []
form_records (WildcardNoData parts) = wildcard_records parts
form_records (EmptyWildcard parts) = wildcard_records parts
form_records (NoCloser labels index) = index ∷ []
form_records (Delegation labels index) = index ∷ []
form_records (OptOut labels encloser index) = listed encloser ++ index ∷ []
form_records (WildcardOptOut parts) = wildcard_records parts
form_records (OptOutCloser labels index) = index ∷ []

-- how many of the question's rightmost labels the closest encloser has, where the form speaks of one
abbrev pub form_encloser : {Index : Type 0} → ProofForm Index → Option ℕ
form_encloser (NoName parts) = Some parts.labels
form_encloser (NoData index) = None
form_encloser (EmptyNonTerminal index) = None
form_encloser (WildcardNoData parts) = Some parts.labels
form_encloser (EmptyWildcard parts) = Some parts.labels
form_encloser (NoCloser labels index) = Some labels
form_encloser (Delegation labels index) = None
form_encloser (OptOut labels encloser index) = Some labels
form_encloser (WildcardOptOut parts) = Some parts.labels
form_encloser (OptOutCloser labels index) = Some labels

-- ---- the same form by other indices

abbrev pub option_by : {I J : Type 0} → (I → J) → Option I → Option J
option_by by None = None
option_by by (Some index) = Some (by index)

abbrev pub wildcard_by : {I J : Type 0} → (I → J) → WildcardParts I → WildcardParts J
wildcard_by by parts = record {
  labels = parts.labels;
  encloser = option_by by parts.encloser;
  next_closer = by parts.next_closer;
  wildcard = by parts.wildcard;
}

abbrev pub form_by : {I J : Type 0} → (I → J) → ProofForm I → ProofForm J
form_by by (NoName parts) = NoName (wildcard_by by parts)
form_by by (NoData index) = NoData (by index)
form_by by (EmptyNonTerminal index) = EmptyNonTerminal (by index)
form_by by (WildcardNoData parts) = WildcardNoData (wildcard_by by parts)
form_by by (EmptyWildcard parts) = EmptyWildcard (wildcard_by by parts)
form_by by (NoCloser labels index) = NoCloser labels (by index)
form_by by (Delegation labels index) = Delegation labels (by index)
form_by by (OptOut labels encloser index) = OptOut labels (option_by by encloser) (by index)
form_by by (WildcardOptOut parts) = WildcardOptOut (wildcard_by by parts)
form_by by (OptOutCloser labels index) = OptOutCloser labels (by index)

-- ---- what the parts show. `cmp` is the order of the records' indices.

-- the record shows the closest encloser, or that needs none
abbrev pub ShowsEncloser
    : {Index : Type 0} → (Index → Index → Ordering) → RecordWords Index → Labels → Option Index → Type 0
ShowsEncloser cmp said encloser None = said.NeedsNone encloser
ShowsEncloser cmp said encloser (Some index) =
    ¬ said.NeedsNone encloser × IsFirstToSay cmp (said.Encloser encloser) index

-- The closest encloser of so many labels, and that the next closer name isn't there; and the last record says so of the
-- wildcard at the closest encloser.
pub record ShowsWildcard
    {Index : Type 0} (cmp : Index → Index → Ordering) (said : RecordWords Index) (apex name : Labels)
    (Says : Labels → Index → Type 0) (parts : WildcardParts Index) : Type 0 where
  pub above : IsAbove apex name parts.labels
  pub encloser : ShowsEncloser cmp said (rightmost name parts.labels) parts.encloser
  pub next_closer : IsFirstToSay cmp (said.Absent (rightmost name (parts.labels + 1))) parts.next_closer
  pub wildcard : IsFirstToSay cmp (Says (wildcard_of (rightmost name parts.labels))) parts.wildcard

-- there is no such name (RFC 4035 5.4, RFC 5155 8.4), by the closest encloser with most labels
pub record ShowsNoNameBy
    {Index : Type 0} (cmp : Index → Index → Ordering) (said : RecordWords Index) (apex name : Labels)
    (parts : WildcardParts Index) : Type 0 where
  pub shows : ShowsWildcard cmp said apex name (λ wildcard. said.Absent wildcard) parts
  pub most_labels : (form : NoNameForm (words said) apex name) → form.labels ≤ parts.labels

pub data ShowsNoName
    {Index : Type 0} (cmp : Index → Index → Ordering) (said : RecordWords Index) (apex name : Labels) : ProofForm Index
    → Type 0 where
  no_name : (parts : WildcardParts Index) → ShowsNoNameBy cmp said apex name parts
      → ShowsNoName cmp said apex name (NoName parts)

-- the name is there, without the type (RFC 4035 5.4, RFC 5155 8.5, 8.6)
pub record ShowsNoDataAtName
    {Index : Type 0} (cmp : Index → Index → Ordering) (said : RecordWords Index) (apex name : Labels) (t : ℕ)
    (index : Index) : Type 0 where
  pub within : IsAtOrBelow name apex
  pub types : IsFirstToSay cmp (said.TypesAt name (λ has. Denies has t)) index

-- the name is an empty non-terminal, and the form before doesn't stand
pub record ShowsEmptyNonTerminal
    {Index : Type 0} (cmp : Index → Index → Ordering) (said : RecordWords Index) (apex name : Labels) (t : ℕ)
    (index : Index) : Type 0 where
  pub not_at_name : ¬ NoDataForm (words said) apex name t
  pub within : IsAtOrBelow name apex
  pub empty : IsFirstToSay cmp (said.EmptyNonTerminal name) index

-- The wildcard at the closest encloser is there without the type (RFC 4035 3.1.3.4, RFC 5155 8.7), and none of the forms
-- before stands. The closest encloser is the one with most labels.
pub record ShowsWildcardNoData
    {Index : Type 0} (cmp : Index → Index → Ordering) (said : RecordWords Index) (apex name : Labels) (t : ℕ)
    (parts : WildcardParts Index) : Type 0 where
  pub not_at_name : ¬ NoDataForm (words said) apex name t
  pub not_empty : ¬ EmptyForm (words said) apex name
  pub shows : ShowsWildcard cmp said apex name (λ wildcard. said.TypesAt wildcard (λ has. Denies has t)) parts
  pub most_labels : (form : NoWildcardDataForm (words said) apex name t) → form.labels ≤ parts.labels

-- that wildcard is an empty non-terminal, and none of the forms before stands
pub record ShowsEmptyWildcard
    {Index : Type 0} (cmp : Index → Index → Ordering) (said : RecordWords Index) (apex name : Labels) (t : ℕ)
    (parts : WildcardParts Index) : Type 0 where
  pub not_at_name : ¬ NoDataForm (words said) apex name t
  pub not_empty : ¬ EmptyForm (words said) apex name
  pub not_at_wildcard : ¬ NoWildcardDataForm (words said) apex name t
  pub shows : ShowsWildcard cmp said apex name (λ wildcard. said.EmptyNonTerminal wildcard) parts
  pub most_labels : (form : EmptyWildcardForm (words said) apex name) → form.labels ≤ parts.labels

-- the type isn't there, by the first form that stands
pub data ShowsNoData
    {Index : Type 0} (cmp : Index → Index → Ordering) (said : RecordWords Index) (apex name : Labels) (t : ℕ)
    : ProofForm Index → Type 0 where
  at_name : (index : Index) → ShowsNoDataAtName cmp said apex name t index
      → ShowsNoData cmp said apex name t (NoData index)
  empty : (index : Index) → ShowsEmptyNonTerminal cmp said apex name t index
      → ShowsNoData cmp said apex name t (EmptyNonTerminal index)
  at_wildcard : (parts : WildcardParts Index) → ShowsWildcardNoData cmp said apex name t parts
      → ShowsNoData cmp said apex name t (WildcardNoData parts)
  empty_wildcard : (parts : WildcardParts Index) → ShowsEmptyWildcard cmp said apex name t parts
      → ShowsNoData cmp said apex name t (EmptyWildcard parts)

-- no closer name than the wildcard below so many labels is there (RFC 4035 5.3.4, RFC 5155 8.8)
pub data ShowsNoCloser
    {Index : Type 0} (cmp : Index → Index → Ordering) (said : RecordWords Index) (apex name : Labels) (labels : ℕ)
    : ProofForm Index → Type 0 where
  no_closer : (index : Index) → IsNoCloserPart cmp said apex name labels index
      → ShowsNoCloser cmp said apex name labels (NoCloser labels index)
