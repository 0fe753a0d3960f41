-- The delegations without DS above a name, by their number of labels.
use Rattle.std.proofs.Common.{◌≡◌, ℕ, ◌+◌, ◌<◌, ◌≤◌, length, subst, sym, ◌∙◌, arith, ⊎_elim}
use Rattle.std.proofs.lemmas.Bool.{cases_lt}
use Rattle.dnsv_names.specs.Name.{Labels, SameName, IsAtOrBelow, rightmost}
use Rattle.dnsv_names.specs.Tree.{wildcard_of}
use Rattle.dnsv_names.specs.Tree.TreeLaws.{ancestors_in_line, at_or_below_length, at_or_below_trans, below_by_length, below_length}
use Rattle.dnsv_names.specs.Tree.AncestorLaws.{rightmost_above, rightmost_length, rightmost_same}
use Rattle.dnsv_zones.specs.forms.Forms.{UnsignedCutForm}
use Rattle.dnsv_zones.specs.forms.Parts.{IsFirstToSay, IsHighestCut, OptsOut}
use Rattle.dnsv_zones.specs.forms.RecordWords.{RecordWords, words}
use Rattle.dnsv_zones.specs.zones.Types.{IsUnsignedDelegation}
use Rattle.std.specs.Ordering.{nat_cmp}
use Rattle.dnsv_proof_forms.specs.forms.ShownUnsigned.{ShowsDelegationBy}
use Rattle.dnsv_proof_forms.specs.declared.records.chain_records.ChainRecords.{ChainRecords}
use Rattle.dnsv_proof_forms.specs.declared.records.chain_records.ChainRecords.TheVariants.{Nsec, Nsec3}
use Rattle.dnsv_proof_forms.specs.records.AskedHash.{hash_of}
use Rattle.dnsv_proof_forms.specs.words.ChainSaid.{chain_said}

-- no record shows the name's so many labels to be a delegation without DS
abbrev pub NoCut : RecordWords ℕ → Labels → ℕ → Type 0
NoCut said name labels = ¬ (words said).TypesAt (rightmost name labels) IsUnsignedDelegation

-- what is said of the types at a name is said of them at an equal one
types_respect : (apex : Labels) (records : ChainRecords) (a b : Labels) (Says : (ℕ → Type 0) → Type 0) → SameName a b
    → (words (chain_said apex records)).TypesAt a Says → (words (chain_said apex records)).TypesAt b Says
types_respect apex (Nsec entries) a b Says same some =
    (some.0, record { entry = some.1.entry; there = some.1.there; says = (some.1.says.0 ∙ same, some.1.says.1) })
types_respect apex (Nsec3 hashed) a b Says same some = (
  some.0,
  record {
    entry = some.1.entry;
    there = some.1.there;
    says = (
      record {
        same_parameters = some.1.says.0.same_parameters;
        same_hash = some.1.says.0.same_hash ∙ (hash_of hashed.now).respects_case a b same;
      },
      some.1.says.1,
    );
  },
)

module _ (apex name : Labels) (records : ChainRecords) where
  -- where none is shown with the labels from the apex to the name, none is shown
  pub no_cut_at_all : (n : ℕ) → length name ≤ n
      → ((k : ℕ) → length apex < k → k < n + 1 → NoCut (chain_said apex records) name k)
      → (cut : Labels) → ¬ UnsignedCutForm (words (chain_said apex records)) apex name cut
  no_cut_at_all n all none cut form =
      none (length cut) (below_length cut apex form.below_apex)
      (omega (arith, at_or_below_length name cut form.at_or_above))
      (types_respect apex records cut (rightmost name (length cut)) IsUnsignedDelegation (sym (rightmost_same name cut form.at_or_above)) form.types)

  pub no_cut_fewer : (n labels : ℕ) → labels < n → n ≤ length name
      → ((k : ℕ) → length apex < k → k < n → NoCut (chain_said apex records) name k)
      → ¬ UnsignedCutForm (words (chain_said apex records)) apex name (rightmost name labels)
  no_cut_fewer n labels fewer within none form =
      none labels
      (omega (arith, below_length (rightmost name labels) apex form.below_apex, rightmost_length name labels (omega arith)))
      fewer form.types

  -- nothing outside of the zone is shown
  pub no_cut_outside : ¬ IsAtOrBelow name apex → (cut : Labels) → ¬ UnsignedCutForm (words (chain_said apex records)) apex name cut
  no_cut_outside outside cut form = outside (at_or_below_trans name cut apex form.at_or_above form.below_apex.0)

  pub highest_cut : (labels : ℕ) → IsAtOrBelow name apex → length apex < labels → labels ≤ length name
      → (words (chain_said apex records)).TypesAt (rightmost name labels) IsUnsignedDelegation
      → ((k : ℕ) → length apex < k → k < labels → NoCut (chain_said apex records) name k)
      → IsHighestCut (chain_said apex records) apex name labels
  highest_cut labels within more fits types none = record {
    at_or_above = fits;
    cut = record {
      at_or_above = rightmost_above name labels;
      below_apex = below_by_length (rightmost name labels) apex
          (ancestors_in_line name apex (rightmost name labels) within (rightmost_above name labels) (omega (arith, rightmost_length name labels fits)))
          (omega (arith, rightmost_length name labels fits));
      types = types;
    };
    fewest = λ fewer less. no_cut_fewer labels fewer less fits none;
  }

  -- the first record that shows it at the name's so many labels
  pub delegation_shown : (labels place : ℕ) → IsAtOrBelow name apex → length apex < labels → labels ≤ length name
      → IsFirstToSay nat_cmp ((chain_said apex records).TypesAt (rightmost name labels) IsUnsignedDelegation) place
      → ShowsDelegationBy nat_cmp (chain_said apex records) apex name labels place
  delegation_shown labels place within more fits first = record {
    fits = fits;
    at_or_above = rightmost_above name labels;
    below_apex = below_by_length (rightmost name labels) apex
        (ancestors_in_line name apex (rightmost name labels) within (rightmost_above name labels) (omega (arith, rightmost_length name labels fits)))
        (omega (arith, rightmost_length name labels fits));
    types = first;
  }

  -- with one number of labels more
  pub none_up_to : (n : ℕ) → ((k : ℕ) → length apex < k → k < n → NoCut (chain_said apex records) name k)
      → NoCut (chain_said apex records) name n
      → (k : ℕ) → length apex < k → k < n + 1 → NoCut (chain_said apex records) name k
  none_up_to n before last k more small =
      ⊎_elim (λ (less : k < n). before k more less)
      (λ (not_less : n ≤ k). let same : n ≡ k = omega arith in subst (NoCut (chain_said apex records) name) same last) (cases_lt k n)

-- NSEC records have no Opt-Out flag
pub none_out_by_nsec : (apex name : Labels) (records : ChainRecords) (labels : ℕ) → (chain_said apex records).NeedsNone (rightmost name labels)
    → ¬ OptsOut (chain_said apex records) apex name labels
none_out_by_nsec apex name (Nsec entries) labels needs out =
    ⊎_elim (λ (next : (place : ℕ) × (chain_said apex (Nsec entries)).OptedOut (rightmost name (labels + 1)) place). next.1)
    (λ (star : (place : ℕ) × (chain_said apex (Nsec entries)).OptedOut (wildcard_of (rightmost name labels)) place). star.1) out.opted_out
none_out_by_nsec apex name (Nsec3 hashed) labels needs out = needs
