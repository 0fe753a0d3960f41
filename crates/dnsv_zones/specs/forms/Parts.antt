-- Which records a proof of denial names where several prove it: of each form the closest encloser with most labels,
-- and for each of its words the first record. `cmp` is the order of the records' indices.
use Rattle.std.specs.Prelude.{◌≡◌, ◌≢◌, ◌⊎◌, ◌+◌, ◌<◌, ◌≤◌, ℕ, List, [], ◌∷◌, ◌++◌, length}
use Rattle.std.specs.declared.cmp.Ordering.{Ordering}
use Rattle.std.specs.declared.cmp.Ordering.TheVariants.{Less}
use Rattle.dnsv_names.specs.Name.{Labels, IsAtOrBelow, rightmost}
use Rattle.dnsv_names.specs.Tree.{wildcard_of}
use Rattle.dnsv_zones.specs.forms.RecordWords.{RecordWords, words}
use Rattle.dnsv_zones.specs.forms.Forms.{
  IsAbove,
  OptedOutNextCloser,
  OptOut,
  NoNameForm,
  NoDataForm,
  EmptyForm,
  NoWildcardDataForm,
  EmptyWildcardForm,
  UnsignedCutForm,
}
use Rattle.dnsv_zones.specs.zones.Types.{Denies}

-- the record says it, and none before it does
pub record IsFirstToSay {Index : Type 0} (cmp : Index → Index → Ordering) (Says : Index → Type 0) (index : Index)
    : Type 0 where
  pub says : Says index
  pub earliest : (other : Index) → Says other → cmp other index ≢ Less

-- the record that shows the closest encloser, if it needs one
pub data IsEncloserPart
    {Index : Type 0} (cmp : Index → Index → Ordering) (said : RecordWords Index) (encloser : Labels)
    : List Index → Type 0 where
  no_record : said.NeedsNone encloser → IsEncloserPart cmp said encloser []
  a_record : (index : Index) → ¬ said.NeedsNone encloser → IsFirstToSay cmp (said.Encloser encloser) index
      → IsEncloserPart cmp said encloser (index ∷ [])

-- these show that the search for the name ends at its so many rightmost labels
pub record AreEndParts
    {Index : Type 0} (cmp : Index → Index → Ordering) (said : RecordWords Index) (apex name : Labels) (labels : ℕ)
    (parts : List Index) : Type 0 where
  pub above : IsAbove apex name labels
  pub encloser_part : List Index
  pub encloser : IsEncloserPart cmp said (rightmost name labels) encloser_part
  pub covering : Index
  pub next_closer : IsFirstToSay cmp (said.Absent (rightmost name (labels + 1))) covering
  pub both : parts ≡ encloser_part ++ covering ∷ []

-- these show it, and the last of them says so of the wildcard there
pub record AreWildcardParts
    {Index : Type 0} (cmp : Index → Index → Ordering) (said : RecordWords Index) (apex name : Labels) (labels : ℕ)
    (Says : Index → Type 0) (parts : List Index) : Type 0 where
  pub end_parts : List Index
  pub ends : AreEndParts cmp said apex name labels end_parts
  pub last : Index
  pub wildcard : IsFirstToSay cmp Says last
  pub all : parts ≡ end_parts ++ last ∷ []

-- these prove that there is no such name
pub record AreNoNameParts
    {Index : Type 0} (cmp : Index → Index → Ordering) (said : RecordWords Index) (apex name : Labels)
    (parts : List Index) : Type 0 where
  pub labels : ℕ
  pub are : AreWildcardParts cmp said apex name labels (said.Absent (wildcard_of (rightmost name labels))) parts
  pub most_labels : (form : NoNameForm (words said) apex name) → form.labels ≤ labels

-- these prove by the wildcard at the closest encloser that the type isn't there
pub record AreWildcardDataParts
    {Index : Type 0} (cmp : Index → Index → Ordering) (said : RecordWords Index) (apex name : Labels) (t : ℕ)
    (parts : List Index) : Type 0 where
  pub labels : ℕ
  pub are : AreWildcardParts cmp said apex name labels
      (said.TypesAt (wildcard_of (rightmost name labels)) (λ has. Denies has t)) parts
  pub most_labels : (form : NoWildcardDataForm (words said) apex name t) → form.labels ≤ labels

-- these prove that the wildcard at the closest encloser is an empty non-terminal
pub record AreEmptyWildcardParts
    {Index : Type 0} (cmp : Index → Index → Ordering) (said : RecordWords Index) (apex name : Labels)
    (parts : List Index) : Type 0 where
  pub labels : ℕ
  pub are : AreWildcardParts cmp said apex name labels (said.EmptyNonTerminal (wildcard_of (rightmost name labels)))
      parts
  pub most_labels : (form : EmptyWildcardForm (words said) apex name) → form.labels ≤ labels

-- these prove that the type isn't there, by the first form that stands
pub data AreNoDataParts
    {Index : Type 0} (cmp : Index → Index → Ordering) (said : RecordWords Index) (apex name : Labels) (t : ℕ)
    : List Index → Type 0 where
  at_name : (index : Index) → IsAtOrBelow name apex → IsFirstToSay cmp (said.TypesAt name (λ has. Denies has t)) index
      → AreNoDataParts cmp said apex name t (index ∷ [])
  empty : (index : Index) → ¬ NoDataForm (words said) apex name t → IsAtOrBelow name apex
      → IsFirstToSay cmp (said.EmptyNonTerminal name) index → AreNoDataParts cmp said apex name t (index ∷ [])
  at_wildcard : (parts : List Index) → ¬ NoDataForm (words said) apex name t → ¬ EmptyForm (words said) apex name
      → AreWildcardDataParts cmp said apex name t parts → AreNoDataParts cmp said apex name t parts
  empty_wildcard : (parts : List Index) → ¬ NoDataForm (words said) apex name t
      → ¬ EmptyForm (words said) apex name → ¬ NoWildcardDataForm (words said) apex name t
      → AreEmptyWildcardParts cmp said apex name parts → AreNoDataParts cmp said apex name t parts

-- this proves that no closer name stands against an answer from the wildcard
pub record IsNoCloserPart
    {Index : Type 0} (cmp : Index → Index → Ordering) (said : RecordWords Index) (apex name : Labels) (labels : ℕ)
    (part : Index) : Type 0 where
  pub above : IsAbove apex name labels
  pub next_closer : IsFirstToSay cmp (said.Absent (rightmost name (labels + 1))) part

-- the records leave open that an unsigned delegation lies at or below the next closer name, or at the wildcard beside it
abbrev pub OptsOut : {Index : Type 0} → RecordWords Index → Labels → Labels → ℕ → Type 0
OptsOut {Index} said =
    OptOut (λ name. (words said).Encloser name)
    (λ name. (words said).Absent name ⊎ ((index : Index) × said.OptedOut name index))
    (λ name. (index : Index) × said.OptedOut name index)

-- they leave open that one stands against an answer from the wildcard
abbrev pub OptsOutNextCloser : {Index : Type 0} → RecordWords Index → Labels → Labels → ℕ → Type 0
OptsOutNextCloser {Index} said = OptedOutNextCloser (λ name. (index : Index) × said.OptedOut name index)

-- the highest delegation without DS, at or above the name, has so many labels
pub record IsHighestCut {Index : Type 0} (said : RecordWords Index) (apex name : Labels) (labels : ℕ) : Type 0 where
  pub at_or_above : labels ≤ length name
  pub cut : UnsignedCutForm (words said) apex name (rightmost name labels)
  pub fewest : (fewer : ℕ) → fewer < labels → ¬ UnsignedCutForm (words said) apex name (rightmost name fewer)

-- the closest encloser with most labels where an unsigned delegation may lie at or below the next closer name, or at the
-- wildcard beside it, has so many
pub record IsOptOutWithMostLabels
    {Index : Type 0} (said : RecordWords Index) (apex name : Labels) (labels : ℕ) : Type 0 where
  pub opts_out : OptsOut said apex name labels
  pub most : (more : ℕ) → OptsOut said apex name more → more ≤ labels
