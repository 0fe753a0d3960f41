-- Records show a denial in one form.
use Rattle.std.proofs.Common.{◌≡◌, ◌∙◌, inl, inr, ◌+◌, ℕ, Option, Some, None, refl, sym, ap, subst}
use Rattle.std.specs.Ordering.{ordering_reverse}
use Rattle.std.specs.declared.cmp.Ordering.{Ordering}
use Rattle.std.specs.declared.cmp.Ordering.TheVariants.{Less, Equal, Greater}
use Rattle.dnsv_names.specs.Name.{Labels, rightmost}
use Rattle.dnsv_names.specs.Tree.{wildcard_of}
use Rattle.dnsv_zones.specs.forms.Forms.{EndsAt, EmptyWildcardForm, NoNameForm, NoCloserForm, NoDataForms, NoWildcardDataForm}
use Rattle.dnsv_zones.specs.forms.Parts.{IsFirstToSay, OptsOut, OptsOutNextCloser}
use Rattle.dnsv_zones.specs.forms.RecordWords.{RecordWords, words}
use Rattle.dnsv_zones.specs.zones.Types.{Denies, IsUnsignedDelegation}
use Rattle.dnsv_proof_forms.specs.forms.Denials.{IsDelegationAt}
use Rattle.dnsv_proof_forms.specs.forms.ProofForms.{ShowsEncloser, ShowsNoCloser, ShowsNoData, ShowsNoName, ShowsWildcard}
use Rattle.dnsv_proof_forms.specs.forms.ProofForms.ShowsNoCloser.{no_closer}
use Rattle.dnsv_proof_forms.specs.forms.ProofForms.ShowsNoData.{at_name, empty, at_wildcard, empty_wildcard}
use Rattle.dnsv_proof_forms.specs.forms.ProofForms.ShowsNoName.{no_name}
use Rattle.dnsv_proof_forms.specs.forms.ShownUnsigned.{ShowsDelegation, ShowsOptOut, ShowsOptOutCloser}
use Rattle.dnsv_proof_forms.specs.forms.ShownUnsigned.ShowsDelegation.{delegation}
use Rattle.dnsv_proof_forms.specs.forms.ShownUnsigned.ShowsOptOut.{opt_out, wildcard_opt_out}
use Rattle.dnsv_proof_forms.specs.forms.ShownUnsigned.ShowsOptOutCloser.{opt_out_closer}
use Rattle.dnsv_proof_forms.specs.records.Numbers.{number_cmp}
use Rattle.dnsv_proof_forms.specs.declared.forms.proof_form.ProofForm.{ProofForm}
use Rattle.dnsv_proof_forms.specs.declared.forms.proof_form.ProofForm.TheVariants as form
use Rattle.dnsv_proof_forms.specs.declared.forms.proof_form.WildcardParts.{WildcardParts}
use Rattle.dnsv_canonical.specs.declared.number.RecordNumber.{RecordNumber}
use Rattle.dnsv_denial.proofs.lemmas.proving.NumberLemmas.{number_cmp_exact, number_cmp_total}
use Rattle.dnsv_derivations.proofs.lemmas.one.StepLemmas.{even}

first_by : (Says : RecordNumber → Type 0) (a b : RecordNumber) (o : Ordering) → number_cmp a b ≡ o → IsFirstToSay number_cmp Says a
    → IsFirstToSay number_cmp Says b → a ≡ b
first_by Says a b Less is x y = absurd (y.earliest a x.says is)
first_by Says a b Equal is x y = number_cmp_exact a b is
first_by Says a b Greater is x y = absurd (x.earliest b y.says (number_cmp_total.antisymm b a ∙ ap ordering_reverse is))

-- the first record that says something is one
one_first : (Says : RecordNumber → Type 0) (a b : RecordNumber) → IsFirstToSay number_cmp Says a → IsFirstToSay number_cmp Says b → a ≡ b
one_first Says a b x y = first_by Says a b (number_cmp a b) refl x y

module _ (said : RecordWords RecordNumber) (apex name : Labels) where
  one_encloser : (encloser : Labels) (a b : Option RecordNumber) → ShowsEncloser number_cmp said encloser a → ShowsEncloser number_cmp said encloser b
      → a ≡ b
  one_encloser encloser None None x y = refl
  one_encloser encloser None (Some n) x y = absurd (y.0 x)
  one_encloser encloser (Some m) None x y = absurd (x.0 y)
  one_encloser encloser (Some m) (Some n) x y = ap (λ (each : RecordNumber). Some each) (one_first (said.Encloser encloser) m n x.1 y.1)

  encloser_of : (encloser : Labels) (by : Option RecordNumber) → ShowsEncloser number_cmp said encloser by → (words said).Encloser encloser
  encloser_of encloser None x = inl x
  encloser_of encloser (Some n) x = inr (n, x.1.says)

  ends_of : (Says : Labels → RecordNumber → Type 0) (parts : WildcardParts RecordNumber) → ShowsWildcard number_cmp said apex name Says parts
      → EndsAt (words said) apex name parts.labels
  ends_of Says parts x = record {
    above = x.above;
    encloser = encloser_of (rightmost name parts.labels) parts.encloser x.encloser;
    next_closer = (parts.next_closer, x.next_closer.says);
  }

  -- with so many labels the parts are these
  one_wildcard : (Says : Labels → RecordNumber → Type 0) (a b : WildcardParts RecordNumber) → a.labels ≡ b.labels
      → ShowsWildcard number_cmp said apex name Says a → ShowsWildcard number_cmp said apex name Says b → a ≡ b
  one_wildcard Says a b labels x y =
      let Encloser : ℕ → Type 0 = λ n. ShowsEncloser number_cmp said (rightmost name n) a.encloser in
      let Next : ℕ → Type 0 = λ n. IsFirstToSay number_cmp (said.Absent (rightmost name (n + 1))) a.next_closer in
      let Last : ℕ → Type 0 = λ n. IsFirstToSay number_cmp (Says (wildcard_of (rightmost name n))) a.wildcard in
      let encloser = one_encloser (rightmost name b.labels) a.encloser b.encloser (subst Encloser labels x.encloser) y.encloser in
      let next = one_first (said.Absent (rightmost name (b.labels + 1))) a.next_closer b.next_closer (subst Next labels x.next_closer) y.next_closer in
      let last = one_first (Says (wildcard_of (rightmost name b.labels))) a.wildcard b.wildcard (subst Last labels x.wildcard) y.wildcard in
      λ i. record { labels = labels i; encloser = encloser i; next_closer = next i; wildcard = last i }

  -- ---- no such name

  abbrev no_name_of : (parts : WildcardParts RecordNumber) → ShowsWildcard number_cmp said apex name (λ wildcard. said.Absent wildcard) parts
      → NoNameForm (words said) apex name
  no_name_of parts x =
      record { labels = parts.labels; ends = ends_of (λ wildcard. said.Absent wildcard) parts x; wildcard = (parts.wildcard, x.wildcard.says) }

  pub no_name_stands : (shape : ProofForm RecordNumber) → ShowsNoName number_cmp said apex name shape → NoNameForm (words said) apex name
  no_name_stands _ (no_name parts x) = no_name_of parts x.shows

  pub one_no_name : (p q : ProofForm RecordNumber) → ShowsNoName number_cmp said apex name p → ShowsNoName number_cmp said apex name q → p ≡ q
  one_no_name _ _ (no_name a x) (no_name b y) =
      let labels : a.labels ≡ b.labels =
      even a.labels b.labels (y.most_labels (no_name_of a x.shows)) (x.most_labels (no_name_of b y.shows)) in
      ap (λ (parts : WildcardParts RecordNumber). form.NoName parts) (one_wildcard (λ wildcard. said.Absent wildcard) a b labels x.shows y.shows)

  -- ---- no data

  module _ (t : ℕ) where
    abbrev Typed : Labels → RecordNumber → Type 0
    Typed wildcard = said.TypesAt wildcard (λ has. Denies has t)

    abbrev Empty : Labels → RecordNumber → Type 0
    Empty wildcard = said.EmptyNonTerminal wildcard

    abbrev wildcard_data_of : (parts : WildcardParts RecordNumber) → ShowsWildcard number_cmp said apex name Typed parts
        → NoWildcardDataForm (words said) apex name t
    wildcard_data_of parts x = record { labels = parts.labels; ends = ends_of Typed parts x; types = (parts.wildcard, x.wildcard.says) }

    abbrev empty_wildcard_of : (parts : WildcardParts RecordNumber) → ShowsWildcard number_cmp said apex name Empty parts
        → EmptyWildcardForm (words said) apex name
    empty_wildcard_of parts x =
        record { labels = parts.labels; ends = ends_of Empty parts x; empty_non_terminal = (parts.wildcard, x.wildcard.says) }

    pub no_data_stands : (shape : ProofForm RecordNumber) → ShowsNoData number_cmp said apex name t shape → NoDataForms (words said) apex name t
    no_data_stands _ (at_name n x) = inl (record { within = x.within; types = (n, x.types.says) })
    no_data_stands _ (empty n x) = inr (inl (record { within = x.within; empty_non_terminal = (n, x.empty.says) }))
    no_data_stands _ (at_wildcard parts x) = inr (inr (inl (wildcard_data_of parts x.shows)))
    no_data_stands _ (empty_wildcard parts x) = inr (inr (inr (empty_wildcard_of parts x.shows)))

    pub one_no_data : (p q : ProofForm RecordNumber) → ShowsNoData number_cmp said apex name t p → ShowsNoData number_cmp said apex name t q → p ≡ q
    one_no_data _ _ (at_name m x) (at_name n y) = ap (λ (each : RecordNumber). form.NoData each) (one_first (Typed name) m n x.types y.types)
    one_no_data _ _ (at_name m x) (empty n y) = absurd (y.not_at_name (record { within = x.within; types = (m, x.types.says) }))
    one_no_data _ _ (at_name m x) (at_wildcard b y) = absurd (y.not_at_name (record { within = x.within; types = (m, x.types.says) }))
    one_no_data _ _ (at_name m x) (empty_wildcard b y) = absurd (y.not_at_name (record { within = x.within; types = (m, x.types.says) }))
    one_no_data _ _ (empty m x) (at_name n y) = absurd (x.not_at_name (record { within = y.within; types = (n, y.types.says) }))
    one_no_data _ _ (empty m x) (empty n y) = ap (λ (each : RecordNumber). form.EmptyNonTerminal each) (one_first (Empty name) m n x.empty y.empty)
    one_no_data _ _ (empty m x) (at_wildcard b y) = absurd (y.not_empty (record { within = x.within; empty_non_terminal = (m, x.empty.says) }))
    one_no_data _ _ (empty m x) (empty_wildcard b y) = absurd (y.not_empty (record { within = x.within; empty_non_terminal = (m, x.empty.says) }))
    one_no_data _ _ (at_wildcard a x) (at_name n y) = absurd (x.not_at_name (record { within = y.within; types = (n, y.types.says) }))
    one_no_data _ _ (at_wildcard a x) (empty n y) = absurd (x.not_empty (record { within = y.within; empty_non_terminal = (n, y.empty.says) }))
    one_no_data _ _ (at_wildcard a x) (at_wildcard b y) =
        let labels : a.labels ≡ b.labels =
        even a.labels b.labels (y.most_labels (wildcard_data_of a x.shows)) (x.most_labels (wildcard_data_of b y.shows)) in
        ap (λ (parts : WildcardParts RecordNumber). form.WildcardNoData parts) (one_wildcard Typed a b labels x.shows y.shows)
    one_no_data _ _ (at_wildcard a x) (empty_wildcard b y) = absurd (y.not_at_wildcard (wildcard_data_of a x.shows))
    one_no_data _ _ (empty_wildcard a x) (at_name n y) = absurd (x.not_at_name (record { within = y.within; types = (n, y.types.says) }))
    one_no_data _ _ (empty_wildcard a x) (empty n y) = absurd (x.not_empty (record { within = y.within; empty_non_terminal = (n, y.empty.says) }))
    one_no_data _ _ (empty_wildcard a x) (at_wildcard b y) = absurd (x.not_at_wildcard (wildcard_data_of b y.shows))
    one_no_data _ _ (empty_wildcard a x) (empty_wildcard b y) =
        let labels : a.labels ≡ b.labels =
        even a.labels b.labels (y.most_labels (empty_wildcard_of a x.shows)) (x.most_labels (empty_wildcard_of b y.shows)) in
        ap (λ (parts : WildcardParts RecordNumber). form.EmptyWildcard parts) (one_wildcard Empty a b labels x.shows y.shows)

  -- ---- for so many labels

  module _ (labels : ℕ) where
    pub no_closer_stands : (shape : ProofForm RecordNumber) → ShowsNoCloser number_cmp said apex name labels shape
        → NoCloserForm (words said) apex name labels
    no_closer_stands _ (no_closer n x) = record { above = x.above; next_closer = (n, x.next_closer.says) }

    pub one_no_closer : (p q : ProofForm RecordNumber) → ShowsNoCloser number_cmp said apex name labels p
        → ShowsNoCloser number_cmp said apex name labels q → p ≡ q
    one_no_closer _ _ (no_closer m x) (no_closer n y) =
        ap (λ (each : RecordNumber). form.NoCloser labels each) (one_first (said.Absent (rightmost name (labels + 1))) m n x.next_closer y.next_closer)

    pub delegation_stands : (shape : ProofForm RecordNumber) → ShowsDelegation number_cmp said apex name labels shape
        → IsDelegationAt said apex name labels
    delegation_stands _ (delegation n x) =
        record { fits = x.fits; form = record { at_or_above = x.at_or_above; below_apex = x.below_apex; types = (n, x.types.says) } }

    pub one_delegation : (p q : ProofForm RecordNumber) → ShowsDelegation number_cmp said apex name labels p
        → ShowsDelegation number_cmp said apex name labels q → p ≡ q
    one_delegation _ _ (delegation m x) (delegation n y) =
        ap (λ (each : RecordNumber). form.Delegation labels each)
        (one_first (said.TypesAt (rightmost name labels) IsUnsignedDelegation) m n x.types y.types)

    abbrev Loose : Labels → RecordNumber → Type 0
    Loose wildcard = said.OptedOut wildcard

    pub opt_out_stands : (shape : ProofForm RecordNumber) → ShowsOptOut number_cmp said apex name labels shape → OptsOut said apex name labels
    opt_out_stands _ (opt_out by n x) = record {
      above = x.above;
      encloser = encloser_of (rightmost name labels) by x.encloser;
      next_closer = inr (n, x.next_closer.says);
      opted_out = inl (n, x.next_closer.says);
    }
    opt_out_stands _ (wildcard_opt_out parts same x) =
        let Out : ℕ → Type 0 = λ n. OptsOut said apex name n in
        subst Out same (record {
          above = x.shows.above;
          encloser = encloser_of (rightmost name parts.labels) parts.encloser x.shows.encloser;
          next_closer = inl (parts.next_closer, x.shows.next_closer.says);
          opted_out = inr (parts.wildcard, x.shows.wildcard.says);
        })

    pub one_opt_out : (p q : ProofForm RecordNumber) → ShowsOptOut number_cmp said apex name labels p
        → ShowsOptOut number_cmp said apex name labels q → p ≡ q
    one_opt_out _ _ (opt_out by m x) (opt_out other n y) =
        let encloser = one_encloser (rightmost name labels) by other x.encloser y.encloser in
        let next = one_first (said.OptedOut (rightmost name (labels + 1))) m n x.next_closer y.next_closer in
        λ i. form.OptOut labels (encloser i) (next i)
    one_opt_out _ _ (opt_out by m x) (wildcard_opt_out parts same y) =
        let None_ : ℕ → Type 0 = λ n. (index : RecordNumber) → ¬ said.OptedOut (rightmost name (n + 1)) index in
        absurd (subst None_ same y.none m x.next_closer.says)
    one_opt_out _ _ (wildcard_opt_out parts same x) (opt_out by n y) =
        let None_ : ℕ → Type 0 = λ n. (index : RecordNumber) → ¬ said.OptedOut (rightmost name (n + 1)) index in
        absurd (subst None_ same x.none n y.next_closer.says)
    one_opt_out _ _ (wildcard_opt_out a same x) (wildcard_opt_out b other y) =
        ap (λ (parts : WildcardParts RecordNumber). form.WildcardOptOut parts) (one_wildcard Loose a b (same ∙ sym other) x.shows y.shows)

    pub opt_out_closer_stands : (shape : ProofForm RecordNumber) → ShowsOptOutCloser number_cmp said apex name labels shape
        → OptsOutNextCloser said apex name labels
    opt_out_closer_stands _ (opt_out_closer n x) = record { above = x.above; opted_out = (n, x.next_closer.says) }

    pub one_opt_out_closer : (p q : ProofForm RecordNumber) → ShowsOptOutCloser number_cmp said apex name labels p
        → ShowsOptOutCloser number_cmp said apex name labels q → p ≡ q
    one_opt_out_closer _ _ (opt_out_closer m x) (opt_out_closer n y) =
        ap (λ (each : RecordNumber). form.OptOutCloser labels each) (one_first (said.OptedOut (rightmost name (labels + 1))) m n x.next_closer y.next_closer)
