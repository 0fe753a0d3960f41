-- A form stands wherever signatures of the records count that show it.
use Rattle.std.proofs.Common.{◌+◌, ℕ, List, [], ◌∷◌, ◌++◌, Option, Some, None, inl, inr, subst}
use Rattle.std.specs.List.{AllByRecursion, Contains}
use Rattle.dnsv_names.specs.Name.{Labels, rightmost}
use Rattle.dnsv_names.specs.Tree.{wildcard_of}
use Rattle.dnsv_zones.specs.forms.Forms.{EndsAt, NoCloserForm, NoDataForms, NoNameForm}
use Rattle.dnsv_zones.specs.forms.Parts.{OptsOut, OptsOutNextCloser}
use Rattle.dnsv_zones.specs.forms.RecordWords.{words}
use Rattle.dnsv_zones.specs.zones.Types.{Denies}
use Rattle.dnsv_canonical.specs.Rrsets.{ReceivedRrset}
use Rattle.dnsv_proof_forms.specs.forms.Denials.{IsDelegationAt}
use Rattle.dnsv_proof_forms.specs.forms.ProofForms.{ShowsEncloser, ShowsNoCloser, ShowsNoData, ShowsNoName, ShowsWildcard, form_records, wildcard_records}
use Rattle.dnsv_proof_forms.specs.forms.ProofForms.ShowsNoCloser.{no_closer as closer_shown}
use Rattle.dnsv_proof_forms.specs.forms.ProofForms.ShowsNoData.{at_name, empty, at_wildcard, empty_wildcard}
use Rattle.dnsv_proof_forms.specs.forms.ProofForms.ShowsNoName.{no_name as name_shown}
use Rattle.dnsv_proof_forms.specs.forms.ShownUnsigned.{ShowsDelegation, ShowsOptOut, ShowsOptOutCloser}
use Rattle.dnsv_proof_forms.specs.forms.ShownUnsigned.ShowsDelegation.{delegation as delegation_shown}
use Rattle.dnsv_proof_forms.specs.forms.ShownUnsigned.ShowsOptOut.{opt_out as out_shown, wildcard_opt_out as wildcard_out_shown}
use Rattle.dnsv_proof_forms.specs.forms.ShownUnsigned.ShowsOptOutCloser.{opt_out_closer as closer_out_shown}
use Rattle.dnsv_denial.specs.gathering.Evidence.{IsSecuredBy}
use Rattle.dnsv_proof_forms.specs.records.RecordsAt.{listed}
use Rattle.dnsv_denial.specs.gathering.EvidenceWords.{Chain, evidence_said}
use Rattle.dnsv_proof_forms.specs.records.Numbers.{number_cmp}
use Rattle.dnsv_denial.specs.gathering.EvidenceWords.Chain.{ByNsec, ByNsec3}
use Rattle.dnsv_proof_forms.specs.declared.forms.proof_form.ProofForm.{ProofForm}
use Rattle.dnsv_proof_forms.specs.declared.forms.proof_form.WildcardParts.{WildcardParts}
use Rattle.dnsv_canonical.specs.declared.number.RecordNumber.{RecordNumber}
use Rattle.dnsv_lines.specs.declared.line.denial.Relation.TheVariants as relation
use Rattle.dnsv_lines.specs.declared.line.denial.Role.TheVariants as role
use Rattle.dnsv_derivations.proofs.lemmas.intervals.MomentLemmas.{is_behind, is_first}
use Rattle.dnsv_derivations.proofs.lemmas.denials.PartLemmas.{nsec_by, nsec3_by, word_by}

pub each_by : {X : Type 0} (P : X → Type 0) (xs : List X) → ((x : X) → Contains xs x → P x) → AllByRecursion P xs
each_by P [] all = tt
each_by P (x ∷ xs) all = (all x (is_first x xs), each_by P xs (λ y there. all y (is_behind x xs y there)))

module _ (S T : ℕ → ℕ → Type 0) (rrsets : List ReceivedRrset) (apex name : Labels) where
  -- a signature of the zone over the record's RRset counts
  abbrev pub Counts : RecordNumber → Type 0
  Counts number = IsSecuredBy T rrsets apex number.rrset

  abbrev CountsIf : Option RecordNumber → Type 0
  CountsIf None = Unit {0}
  CountsIf (Some number) = Counts number

  split : (by : Option RecordNumber) (next last : RecordNumber) → AllByRecursion Counts ((listed by ++ next ∷ []) ++ last ∷ [])
      → CountsIf by × Counts next × Counts last
  split None next last all = (tt, all.0, all.1.0)
  split (Some number) next last all = (all.0, all.1.0, all.1.1.0)

  split_two : (by : Option RecordNumber) (next : RecordNumber) → AllByRecursion Counts (listed by ++ next ∷ []) → CountsIf by × Counts next
  split_two None next all = (tt, all.0)
  split_two (Some number) next all = (all.0, all.1.0)

  encloser_of : (chain : Chain) (encloser : Labels) (by : Option RecordNumber) → CountsIf by
      → ShowsEncloser number_cmp (evidence_said S rrsets apex chain) encloser by → (words (evidence_said T rrsets apex chain)).Encloser encloser
  encloser_of ByNsec encloser None counts shows = inl shows
  encloser_of (ByNsec3 parameters) encloser None counts shows = absurd shows
  encloser_of chain encloser (Some number) counts shows =
      inr (number, word_by S rrsets apex number T counts chain role.ClosestEncloser relation.Exists encloser shows.1.says)

  types_of : (chain : Chain) (t : ℕ) (of : Labels) (number : RecordNumber) → Counts number
      → (evidence_said S rrsets apex chain).TypesAt of (λ has. Denies has t) number
      → (evidence_said T rrsets apex chain).TypesAt of (λ has. Denies has t) number
  types_of ByNsec t of number counts said = nsec_by S rrsets apex number T counts _ said
  types_of (ByNsec3 parameters) t of number counts said = nsec3_by S rrsets apex number T counts _ said

  module _ (chain : Chain) where
    absent_of : (of : Labels) (number : RecordNumber) → Counts number → (evidence_said S rrsets apex chain).Absent of number
        → (evidence_said T rrsets apex chain).Absent of number
    absent_of of number counts said = word_by S rrsets apex number T counts chain role.NextCloser relation.Covered of said

    empty_of : (of : Labels) (number : RecordNumber) → Counts number → (evidence_said S rrsets apex chain).EmptyNonTerminal of number
        → (evidence_said T rrsets apex chain).EmptyNonTerminal of number
    empty_of of number counts said = word_by S rrsets apex number T counts chain role.Name relation.NonTerminal of said

    out_of : (of : Labels) (number : RecordNumber) → Counts number → (evidence_said S rrsets apex chain).OptedOut of number
        → (evidence_said T rrsets apex chain).OptedOut of number
    out_of of number counts said = word_by S rrsets apex number T counts chain role.NextCloser relation.OptOut of said

    ends_of : (Says : Labels → RecordNumber → Type 0) (parts : WildcardParts RecordNumber) → AllByRecursion Counts (wildcard_records parts)
        → ShowsWildcard number_cmp (evidence_said S rrsets apex chain) apex name Says parts
        → EndsAt (words (evidence_said T rrsets apex chain)) apex name parts.labels
    ends_of Says parts all x =
        let each = split parts.encloser parts.next_closer parts.wildcard all in record {
          above = x.above;
          encloser = encloser_of chain (rightmost name parts.labels) parts.encloser each.0 x.encloser;
          next_closer = (parts.next_closer, absent_of (rightmost name (parts.labels + 1)) parts.next_closer each.1 x.next_closer.says);
        }

    last_of : (parts : WildcardParts RecordNumber) → AllByRecursion Counts (wildcard_records parts) → Counts parts.wildcard
    last_of parts all = (split parts.encloser parts.next_closer parts.wildcard all).2

    pub no_name_by : (shape : ProofForm RecordNumber) → AllByRecursion Counts (form_records shape)
        → ShowsNoName number_cmp (evidence_said S rrsets apex chain) apex name shape → NoNameForm (words (evidence_said T rrsets apex chain)) apex name
    no_name_by _ all (name_shown parts x) = record {
      labels = parts.labels;
      ends = ends_of _ parts all x.shows;
      wildcard = (parts.wildcard, absent_of (wildcard_of (rightmost name parts.labels)) parts.wildcard (last_of parts all) x.shows.wildcard.says);
    }

    pub no_data_by : (t : ℕ) (shape : ProofForm RecordNumber) → AllByRecursion Counts (form_records shape)
        → ShowsNoData number_cmp (evidence_said S rrsets apex chain) apex name t shape
        → NoDataForms (words (evidence_said T rrsets apex chain)) apex name t
    no_data_by t _ all (at_name number x) =
        inl (record { within = x.within; types = (number, types_of chain t name number all.0 x.types.says) })
    no_data_by t _ all (empty number x) =
        inr (inl (record { within = x.within; empty_non_terminal = (number, empty_of name number all.0 x.empty.says) }))
    no_data_by t _ all (at_wildcard parts x) = inr (inr (inl (record {
      labels = parts.labels;
      ends = ends_of _ parts all x.shows;
      types = (parts.wildcard, types_of chain t (wildcard_of (rightmost name parts.labels)) parts.wildcard (last_of parts all) x.shows.wildcard.says);
    })))
    no_data_by t _ all (empty_wildcard parts x) = inr (inr (inr (record {
      labels = parts.labels;
      ends = ends_of _ parts all x.shows;
      empty_non_terminal = (
        parts.wildcard,
        empty_of (wildcard_of (rightmost name parts.labels)) parts.wildcard (last_of parts all) x.shows.wildcard.says,
      );
    })))

    module _ (labels : ℕ) where
      pub no_closer_by : (shape : ProofForm RecordNumber) → AllByRecursion Counts (form_records shape)
          → ShowsNoCloser number_cmp (evidence_said S rrsets apex chain) apex name labels shape
          → NoCloserForm (words (evidence_said T rrsets apex chain)) apex name labels
      no_closer_by _ all (closer_shown number x) =
          record { above = x.above; next_closer = (number, absent_of (rightmost name (labels + 1)) number all.0 x.next_closer.says) }

      pub delegation_by : (shape : ProofForm RecordNumber) → AllByRecursion Counts (form_records shape)
          → ShowsDelegation number_cmp (evidence_said S rrsets apex chain) apex name labels shape
          → IsDelegationAt (evidence_said T rrsets apex chain) apex name labels
      delegation_by _ all (delegation_shown number x) = record {
        fits = x.fits;
        form = record {
          at_or_above = x.at_or_above;
          below_apex = x.below_apex;
          types = (number, word_by S rrsets apex number T all.0 chain role.Cut relation.Matched (rightmost name labels) x.types.says);
        };
      }

      pub opt_out_by : (shape : ProofForm RecordNumber) → AllByRecursion Counts (form_records shape)
          → ShowsOptOut number_cmp (evidence_said S rrsets apex chain) apex name labels shape
          → OptsOut (evidence_said T rrsets apex chain) apex name labels
      opt_out_by _ all (out_shown by number x) =
          let each = split_two by number all in
          let out = out_of (rightmost name (labels + 1)) number each.1 x.next_closer.says in record {
            above = x.above;
            encloser = encloser_of chain (rightmost name labels) by each.0 x.encloser;
            next_closer = inr (number, out);
            opted_out = inl (number, out);
          }
      opt_out_by _ all (wildcard_out_shown parts same x) =
          let Out : ℕ → Type 0 = λ count. OptsOut (evidence_said T rrsets apex chain) apex name count in
          let ends = ends_of _ parts all x.shows in
          subst Out same (record {
            above = ends.above;
            encloser = ends.encloser;
            next_closer = inl ends.next_closer;
            opted_out =
                inr (parts.wildcard, out_of (wildcard_of (rightmost name parts.labels)) parts.wildcard (last_of parts all) x.shows.wildcard.says);
          })

      pub opt_out_closer_by : (shape : ProofForm RecordNumber) → AllByRecursion Counts (form_records shape)
          → ShowsOptOutCloser number_cmp (evidence_said S rrsets apex chain) apex name labels shape
          → OptsOutNextCloser (evidence_said T rrsets apex chain) apex name labels
      opt_out_closer_by _ all (closer_out_shown number x) =
          record { above = x.above; opted_out = (number, out_of (rightmost name (labels + 1)) number all.0 x.next_closer.says) }
