-- The records that a proof names carry its form alone, since each part of the proof is one of them.
use Rattle.std.proofs.Common.{◌≡◌, ℕ, ◌+◌, List, [], ◌∷◌, ◌++◌, refl, sym, subst, inl, inr, ⊎_elim}
use Rattle.std.specs.declared.cmp.Ordering.{Ordering}
use Rattle.dnsv_names.specs.Name.{Labels, rightmost}
use Rattle.dnsv_names.specs.Tree.{wildcard_of}
use Rattle.dnsv_zones.specs.forms.Forms.{Words, EndsAt, NoNameForm, NoDataForms, NoCloserForm}
use Rattle.dnsv_zones.specs.forms.Parts.{IsEncloserPart, AreEndParts, AreWildcardParts, AreNoNameParts, AreNoDataParts, IsNoCloserPart}
use Rattle.dnsv_zones.specs.forms.Parts.AreNoDataParts.{at_name, empty, at_wildcard, empty_wildcard}
use Rattle.dnsv_zones.specs.forms.Parts.IsEncloserPart.{no_record, a_record}
use Rattle.dnsv_zones.specs.forms.RecordWords.{RecordWords}
use Rattle.dnsv_zones.specs.zones.Types.{Denies}
use Rattle.dnsv_canonical.proofs.CanonicalLemmas.{IsMember}

-- what the records with these indices say is said by the words
pub record SayNoMore {I : Type 0} (said : RecordWords I) (indices : List I) (words : Words) : Type 1 where
  pub needs_none : (name : Labels) → said.NeedsNone name → words.Encloser name
  pub encloser : (name : Labels) (i : I) → IsMember i indices → said.Encloser name i → words.Encloser name
  pub absent : (name : Labels) (i : I) → IsMember i indices → said.Absent name i → words.Absent name
  pub empty_non_terminal : (name : Labels) (i : I) → IsMember i indices → said.EmptyNonTerminal name i → words.EmptyNonTerminal name
  pub types_at : (name : Labels) (Says : (ℕ → Type 0) → Type 0) (i : I) → IsMember i indices → said.TypesAt name Says i → words.TypesAt name Says

pub member_left : {I : Type 0} (i : I) (xs ys : List I) → IsMember i xs → IsMember i (xs ++ ys)
member_left i [] ys there = absurd there
member_left i (x ∷ xs) ys there = ⊎_elim (λ (same : i ≡ x). inl same) (λ (later : IsMember i xs). inr (member_left i xs ys later)) there

pub member_last : {I : Type 0} (i : I) (xs : List I) → IsMember i (xs ++ i ∷ [])
member_last i [] = inl refl
member_last i (x ∷ xs) = inr (member_last i xs)

module _ {I : Type 0} (cmp : I → I → Ordering) (said : RecordWords I) (indices : List I) (words : Words) (say : SayNoMore said indices words) where
  encloser_by : (encloser : Labels) (parts : List I) → IsEncloserPart cmp said encloser parts → ((i : I) → IsMember i parts → IsMember i indices) → words.Encloser encloser
  encloser_by encloser parts (no_record needs) among = say.needs_none encloser needs
  encloser_by encloser parts (a_record i needs earliest) among = say.encloser encloser i (among i (inl refl)) earliest.says

  module _ (apex name : Labels) where
    ends_by : (labels : ℕ) (parts : List I) → AreEndParts cmp said apex name labels parts → ((i : I) → IsMember i parts → IsMember i indices) → EndsAt words apex name labels
    ends_by labels parts ends among =
        let all : (i : I) → IsMember i (ends.encloser_part ++ ends.covering ∷ []) → IsMember i indices = λ i there. among i (subst (IsMember i) (sym ends.both) there) in
        record {
          above = ends.above;
          encloser = encloser_by (rightmost name labels) ends.encloser_part ends.encloser (λ i there. all i (member_left i ends.encloser_part (ends.covering ∷ []) there));
          next_closer = say.absent (rightmost name (labels + 1)) ends.covering (all ends.covering (member_last ends.covering ends.encloser_part)) ends.next_closer.says;
        }

    all_by : (labels : ℕ) (Says : I → Type 0) (parts : List I) → (are : AreWildcardParts cmp said apex name labels Says parts) → ((i : I) → IsMember i parts → IsMember i indices)
        → EndsAt words apex name labels × IsMember are.last indices
    all_by labels Says parts are among =
        let all : (i : I) → IsMember i (are.end_parts ++ are.last ∷ []) → IsMember i indices = λ i there. among i (subst (IsMember i) (sym are.all) there) in (
          ends_by labels are.end_parts are.ends (λ i there. all i (member_left i are.end_parts (are.last ∷ []) there)),
          all are.last (member_last are.last are.end_parts),
        )

    pub no_name_by : (parts : List I) → AreNoNameParts cmp said apex name parts → ((i : I) → IsMember i parts → IsMember i indices) → NoNameForm words apex name
    no_name_by parts are among =
        let star = wildcard_of (rightmost name are.labels) in
        let both = all_by are.labels (said.Absent star) parts are.are among in
        record { labels = are.labels; ends = both.0; wildcard = say.absent star are.are.last both.1 are.are.wildcard.says }

    pub no_data_by : (t : ℕ) (parts : List I) → AreNoDataParts cmp said apex name t parts → ((i : I) → IsMember i parts → IsMember i indices) → NoDataForms words apex name t
    no_data_by t parts (at_name i within earliest) among =
        inl (record { within = within; types = say.types_at name (λ has. Denies has t) i (among i (inl refl)) earliest.says })
    no_data_by t parts (empty i no_form within earliest) among = inr (inl (record { within = within; empty_non_terminal = say.empty_non_terminal name i (among i (inl refl)) earliest.says }))
    no_data_by t parts (at_wildcard _ no_form no_empty are) among =
        let star = wildcard_of (rightmost name are.labels) in
        let both = all_by are.labels (said.TypesAt star (λ has. Denies has t)) parts are.are among in
        inr (inr (inl (record { labels = are.labels; ends = both.0; types = say.types_at star (λ has. Denies has t) are.are.last both.1 are.are.wildcard.says })))
    no_data_by t parts (empty_wildcard _ no_form no_empty no_types are) among =
        let star = wildcard_of (rightmost name are.labels) in
        let both = all_by are.labels (said.EmptyNonTerminal star) parts are.are among in
        inr (inr (inr (record { labels = are.labels; ends = both.0; empty_non_terminal = say.empty_non_terminal star are.are.last both.1 are.are.wildcard.says })))

    pub no_closer_by : (labels : ℕ) (part : I) → IsNoCloserPart cmp said apex name labels part → IsMember part indices → NoCloserForm words apex name labels
    no_closer_by labels part is there = record { above = is.above; next_closer = say.absent (rightmost name (labels + 1)) part there is.next_closer.says }
