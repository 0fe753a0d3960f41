-- A form that is shown stands over what part lines tell, where they tell its parts and lines show its records to be
-- signed.
use Rattle.std.proofs.Common.{◌+◌, ℕ, List, [], ◌∷◌, ◌++◌, Option, Some, None, inl, inr, refl}
use Rattle.std.specs.List.{AllByRecursion}
use Rattle.std.specs.Option.{option_map}
use Rattle.dnsv_names.specs.Name.{Labels, SameName, rightmost}
use Rattle.dnsv_names.specs.Tree.{wildcard_of}
use Rattle.dnsv_zones.specs.forms.Forms.{EndsAt, NoCloserForm}
use Rattle.dnsv_zones.specs.forms.RecordWords.{RecordWords, words}
use Rattle.dnsv_zones.specs.zones.Types.{Denies}
use Rattle.dnsv_canonical.specs.Rrsets.{ReceivedRrset}
use Rattle.dnsv_canonical.specs.declared.number.RecordNumber.{RecordNumber}
use Rattle.dnsv_proof_forms.specs.forms.ProofForms.{ShowsEncloser, ShowsNoCloser, ShowsNoData, ShowsNoName, ShowsWildcard, form_encloser, form_records, wildcard_records}
use Rattle.dnsv_proof_forms.specs.forms.ProofForms.ShowsNoCloser.{no_closer as closer_shown}
use Rattle.dnsv_proof_forms.specs.forms.ProofForms.ShowsNoData.{at_name, empty, at_wildcard, empty_wildcard}
use Rattle.dnsv_proof_forms.specs.forms.ProofForms.ShowsNoName.{no_name as name_shown}
use Rattle.dnsv_proof_forms.specs.forms.ShownUnsigned.{ShowsDelegation, ShowsOptOut, ShowsOptOutCloser}
use Rattle.dnsv_proof_forms.specs.forms.ShownUnsigned.ShowsDelegation.{delegation as delegation_shown}
use Rattle.dnsv_proof_forms.specs.forms.ShownUnsigned.ShowsOptOut.{opt_out as out_shown, wildcard_opt_out as wildcard_out_shown}
use Rattle.dnsv_proof_forms.specs.forms.ShownUnsigned.ShowsOptOutCloser.{opt_out_closer as closer_out_shown}
use Rattle.dnsv_proof_forms.specs.forms.ProofParts.{encloser_part, form_parts, wildcard_parts}
use Rattle.dnsv_denial.specs.proving.ShownDenials.{kind_of}
use Rattle.dnsv_proof_forms.specs.records.RecordsAt.{listed}
use Rattle.dnsv_denial.specs.gathering.EvidenceWords.{Chain, evidence_said}
use Rattle.dnsv_proof_forms.specs.records.Numbers.{number_cmp}
use Rattle.dnsv_denial.specs.gathering.EvidenceWords.Chain.{ByNsec, ByNsec3}
use Rattle.dnsv_proof_forms.specs.declared.forms.proof_form.ProofForm.{ProofForm}
use Rattle.dnsv_proof_forms.specs.declared.forms.proof_form.ProofForm.TheVariants.{NoCloser}
use Rattle.dnsv_proof_forms.specs.declared.forms.proof_form.WildcardParts.{WildcardParts}
use Rattle.dnsv_proof_forms.specs.declared.forms.proof_part.PartRelation.{PartRelation}
use Rattle.dnsv_proof_forms.specs.declared.forms.proof_part.PartRelation.TheVariants as related
use Rattle.dnsv_proof_forms.specs.declared.forms.proof_part.ProofPart.{ProofPart}
use Rattle.dnsv_derivations.specs.Denials.{told_form}
use Rattle.dnsv_derivations.proofs.lemmas.denials.PartLemmas.{nsec_by, nsec3_by, word_by}
use Rattle.dnsv_lines.specs.declared.line.Line.{Line}
use Rattle.dnsv_lines.specs.declared.line.denial.Form.{Form}
use Rattle.dnsv_lines.specs.declared.line.denial.Relation.TheVariants as relation
use Rattle.dnsv_lines.specs.declared.line.denial.Role.TheVariants as role
use Rattle.dnsv_rules.specs.Checked.{Asked, IsOnWay, StandsFor}
use Rattle.dnsv_rules.specs.Told.{IsShownGood, IsTold, shown_said, told_words}
use Rattle.dnsv_rules.proofs.checks.SpellLemmas.{closer_as, out_closer_as}
use Rattle.dnsv_rules.proofs.checks.TellLemmas.{IsOwn, IsPartTellable}

-- where the form has a proof line, what that says stands
abbrev pub StandsIf : Option Form → Asked → Labels → Option Labels → RecordWords RecordNumber → Type 0
StandsIf None asked zone encloser told = Unit {0}
StandsIf (Some form) asked zone encloser told = StandsFor form asked zone encloser told

-- what it says of the name and the shape
abbrev pub Stands : Asked → Labels → Labels → ProofForm RecordNumber → RecordWords RecordNumber → Type 0
Stands asked name zone shape told = StandsIf (told_form shape) asked zone (option_map (rightmost name) (form_encloser shape)) told

module _ (S : ℕ → ℕ → Type 0) (rrsets : List ReceivedRrset) (lines : List Line) (apex name : Labels) where
  -- a signature of the zone over the record's RRset is shown to be good
  abbrev pub Counts : RecordNumber → Type 0
  Counts number = IsOwn rrsets lines apex number.rrset

  abbrev Tells : List ProofPart → Type 0
  Tells parts = AllByRecursion (IsPartTellable lines name) parts

  abbrev CountsIf : Option RecordNumber → Type 0
  CountsIf None = Unit {0}
  CountsIf (Some number) = Counts number

  split : (by : Option RecordNumber) (next last : RecordNumber) → AllByRecursion Counts ((listed by ++ next ∷ []) ++ last ∷ [])
      → CountsIf by × Counts next × Counts last
  split None next last all = (tt, all.0, all.1.0)
  split (Some number) next last all = (all.0, all.1.0, all.1.1.0)

  split_two : (by : Option RecordNumber) (next : RecordNumber) → AllByRecursion Counts (listed by ++ next ∷ []) → CountsIf by × Counts next
  split_two None next all = (tt, all.0)
  split_two (Some number) next all = (all.0, all.1.0)

  module _ (chain : Chain) where
    abbrev told : RecordWords RecordNumber
    told = told_words (shown_said rrsets lines apex chain) lines

    -- ---- words

    absent_told : (of : Labels) (number : RecordNumber) → Counts number → (evidence_said S rrsets apex chain).Absent of number
        → IsTold lines relation.Covered of (Some number) → told.Absent of number
    absent_told of number counts said tells =
        (word_by S rrsets apex number (IsShownGood lines) counts chain role.NextCloser relation.Covered of said, tells)

    empty_told : (of : Labels) (number : RecordNumber) → Counts number → (evidence_said S rrsets apex chain).EmptyNonTerminal of number
        → IsTold lines relation.NonTerminal of (Some number) → told.EmptyNonTerminal of number
    empty_told of number counts said tells =
        (word_by S rrsets apex number (IsShownGood lines) counts chain role.Name relation.NonTerminal of said, tells)

    out_told : (of : Labels) (number : RecordNumber) → Counts number → (evidence_said S rrsets apex chain).OptedOut of number
        → IsTold lines relation.OptOut of (Some number) → told.OptedOut of number
    out_told of number counts said tells =
        (word_by S rrsets apex number (IsShownGood lines) counts chain role.NextCloser relation.OptOut of said, tells)

  -- a record of which lines show a signature to be good denies the type as it did
  pub types_own : (chain : Chain) (t : ℕ) (of : Labels) (number : RecordNumber) → Counts number
      → (evidence_said S rrsets apex chain).TypesAt of (λ has. Denies has t) number
      → (shown_said rrsets lines apex chain).TypesAt of (λ has. Denies has t) number
  types_own ByNsec t of number counts said = nsec_by S rrsets apex number (IsShownGood lines) counts _ said
  types_own (ByNsec3 parameters) t of number counts said = nsec3_by S rrsets apex number (IsShownGood lines) counts _ said

  types_told : (chain : Chain) (t : ℕ) (of : Labels) (number : RecordNumber) → Counts number
      → (evidence_said S rrsets apex chain).TypesAt of (λ has. Denies has t) number → IsTold lines relation.Matched of (Some number)
      → (told chain).TypesAt of (λ has. Denies has t) number
  types_told chain t of number counts said tells = (types_own chain t of number counts said, tells)

  encloser_told : (chain : Chain) (labels : ℕ) (by : Option RecordNumber) → CountsIf by
      → ShowsEncloser number_cmp (evidence_said S rrsets apex chain) (rightmost name labels) by
      → IsPartTellable lines name (encloser_part (kind_of chain) labels by) → (words (told chain)).Encloser (rightmost name labels)
  encloser_told ByNsec labels None counts shows tells = inl (shows, tells)
  encloser_told ByNsec labels (Some number) counts shows tells =
      inr (
        number,
        (
          word_by S rrsets apex number (IsShownGood lines) counts ByNsec role.ClosestEncloser relation.Exists (rightmost name labels) shows.1.says,
          inl tells,
        ),
      )
  encloser_told (ByNsec3 parameters) labels None counts shows tells = absurd shows
  encloser_told (ByNsec3 parameters) labels (Some number) counts shows tells =
      inr (
        number,
        (
          word_by S rrsets apex number (IsShownGood lines) counts (ByNsec3 parameters) role.ClosestEncloser relation.Exists (rightmost name labels) shows.1.says,
          inr tells,
        ),
      )

  -- ---- forms that ask of the wildcard

  ends_told : (chain : Chain) (Says : Labels → RecordNumber → Type 0) (last : PartRelation) (parts : WildcardParts RecordNumber)
      → AllByRecursion Counts (wildcard_records parts) → Tells (wildcard_parts (kind_of chain) parts last)
      → ShowsWildcard number_cmp (evidence_said S rrsets apex chain) apex name Says parts
      → EndsAt (words (told chain)) apex name parts.labels
  ends_told chain Says last parts counts tells x =
      let each = split parts.encloser parts.next_closer parts.wildcard counts in record {
        above = x.above;
        encloser = encloser_told chain parts.labels parts.encloser each.0 x.encloser tells.0;
        next_closer = (
          parts.next_closer,
          absent_told chain (rightmost name (parts.labels + 1)) parts.next_closer each.1 x.next_closer.says tells.1.0,
        );
      }

  pub last_counts : (parts : WildcardParts RecordNumber) → AllByRecursion Counts (wildcard_records parts) → Counts parts.wildcard
  last_counts parts counts = (split parts.encloser parts.next_closer parts.wildcard counts).2

  module _ (aliases : List Labels) (t : ℕ) where
    -- the name is the one at the way's end
    abbrev here : Asked
    here = record { aliases = aliases; name = name; rtype = t }

    pub no_name_stands : (chain : Chain) (shape : ProofForm RecordNumber) → AllByRecursion Counts (form_records shape)
        → Tells (form_parts (kind_of chain) shape) → ShowsNoName number_cmp (evidence_said S rrsets apex chain) apex name shape
        → Stands here name apex shape (told chain)
    no_name_stands chain _ counts tells (name_shown parts x) = (
      record {
        labels = parts.labels;
        ends = ends_told chain _ related.Covered parts counts tells x.shows;
        wildcard = (
          parts.wildcard,
          absent_told chain (wildcard_of (rightmost name parts.labels)) parts.wildcard (last_counts parts counts) x.shows.wildcard.says tells.1.1.0,
        );
      },
      refl,
    )

    pub no_data_stands : (chain : Chain) (shape : ProofForm RecordNumber) → AllByRecursion Counts (form_records shape)
        → Tells (form_parts (kind_of chain) shape) → ShowsNoData number_cmp (evidence_said S rrsets apex chain) apex name t shape
        → Stands here name apex shape (told chain)
    no_data_stands chain _ counts tells (at_name number x) =
        (record { within = x.within; types = (number, types_told chain t name number counts.0 x.types.says tells.0) }, tt)
    no_data_stands chain _ counts tells (empty number x) =
        (record { within = x.within; empty_non_terminal = (number, empty_told chain name number counts.0 x.empty.says tells.0) }, tt)
    no_data_stands chain _ counts tells (at_wildcard parts x) = (
      record {
        labels = parts.labels;
        ends = ends_told chain _ related.Matched parts counts tells x.shows;
        types = (
          parts.wildcard,
          types_told chain t (wildcard_of (rightmost name parts.labels)) parts.wildcard (last_counts parts counts) x.shows.wildcard.says tells.1.1.0,
        );
      },
      refl,
    )
    no_data_stands chain _ counts tells (empty_wildcard parts x) = (
      record {
        labels = parts.labels;
        ends = ends_told chain _ related.NonTerminal parts counts tells x.shows;
        empty_non_terminal = (
          parts.wildcard,
          empty_told chain (wildcard_of (rightmost name parts.labels)) parts.wildcard (last_counts parts counts) x.shows.wildcard.says tells.1.1.0,
        );
      },
      refl,
    )

    -- a delegation without DS has no proof line
    pub delegation_stands : (chain : Chain) (labels : ℕ) (shape : ProofForm RecordNumber)
        → ShowsDelegation number_cmp (evidence_said S rrsets apex chain) apex name labels shape → Stands here name apex shape (told chain)
    delegation_stands chain labels _ (delegation_shown number x) = tt

    pub opt_out_stands : (chain : Chain) (labels : ℕ) (shape : ProofForm RecordNumber) → AllByRecursion Counts (form_records shape)
        → Tells (form_parts (kind_of chain) shape) → ShowsOptOut number_cmp (evidence_said S rrsets apex chain) apex name labels shape
        → Stands here name apex shape (told chain)
    opt_out_stands chain labels _ counts tells (out_shown by number x) =
        let each = split_two by number counts in
        let out = out_told chain (rightmost name (labels + 1)) number each.1 x.next_closer.says tells.1.0 in (
          labels,
          inl (record {
            above = x.above;
            encloser = encloser_told chain labels by each.0 x.encloser tells.0;
            next_closer = inr (number, out);
            opted_out = inl (number, out);
          }),
          refl,
        )
    opt_out_stands chain labels _ counts tells (wildcard_out_shown parts same x) =
        let ends = ends_told chain _ related.OptOut parts counts tells x.shows in (
          parts.labels,
          inl (record {
            above = ends.above;
            encloser = ends.encloser;
            next_closer = inl ends.next_closer;
            opted_out = inr (
              parts.wildcard,
              out_told chain (wildcard_of (rightmost name parts.labels)) parts.wildcard (last_counts parts counts) x.shows.wildcard.says tells.1.1.0,
            );
          }),
          refl,
        )

  -- ---- against answers from wildcards, by a zone in whatever spelling

  pub no_closer_form : (chain : Chain) (labels : ℕ) (shape : ProofForm RecordNumber) → AllByRecursion Counts (form_records shape)
      → Tells (form_parts (kind_of chain) shape) → ShowsNoCloser number_cmp (evidence_said S rrsets apex chain) apex name labels shape
      → NoCloserForm (words (told chain)) apex name labels
  no_closer_form chain labels _ counts tells (closer_shown number x) = record {
    above = x.above;
    next_closer = (number, absent_told chain (rightmost name (labels + 1)) number counts.0 x.next_closer.says tells.0);
  }

  module _ (zone : Labels) (same : SameName apex zone) where
    pub no_closer_stands : (asked : Asked) → IsOnWay asked name → (chain : Chain) (labels : ℕ) (shape : ProofForm RecordNumber)
        → AllByRecursion Counts (form_records shape) → Tells (form_parts (kind_of chain) shape)
        → ShowsNoCloser number_cmp (evidence_said S rrsets apex chain) apex name labels shape
        → Stands asked name zone shape (told_words (shown_said rrsets lines zone chain) lines)
    no_closer_stands asked on_way chain labels _ counts tells (closer_shown number x) = (
      name,
      on_way,
      labels,
      closer_as rrsets lines apex zone same chain name labels
          (no_closer_form chain labels (NoCloser labels number) counts tells (closer_shown number x)),
      refl,
    )

    pub out_closer_stands : (aliases : List Labels) (t : ℕ) (chain : Chain) (labels : ℕ) (shape : ProofForm RecordNumber)
        → AllByRecursion Counts (form_records shape) → Tells (form_parts (kind_of chain) shape)
        → ShowsOptOutCloser number_cmp (evidence_said S rrsets apex chain) apex name labels shape
        → Stands (here aliases t) name zone shape (told_words (shown_said rrsets lines zone chain) lines)
    out_closer_stands aliases t chain labels _ counts tells (closer_out_shown number x) = (
      labels,
      inr (out_closer_as rrsets lines apex zone same chain name labels (record {
        above = x.above;
        opted_out = (number, out_told chain (rightmost name (labels + 1)) number counts.0 x.next_closer.says tells.0);
      })),
      refl,
    )
