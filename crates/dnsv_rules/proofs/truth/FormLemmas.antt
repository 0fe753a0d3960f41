-- A form that stands rests on some records, and stands over whatever says what these do.
use Rattle.std.proofs.Common.{◌≡◌, ◌⊎◌, ◌+◌, ℕ, List, [], ◌∷◌, ◌++◌, inl, inr, refl, sym, subst, ⊎_elim}
use Rattle.dnsv_names.specs.Name.{Labels, rightmost}
use Rattle.dnsv_names.specs.Tree.{wildcard_of}
use Rattle.dnsv_zones.specs.forms.Forms.{EmptyForm, EmptyWildcardForm, EndsAt, NoCloserForm, NoDataForm, NoNameForm, NoWildcardDataForm, Words}
use Rattle.dnsv_zones.specs.forms.RecordWords.{RecordWords, words}
use Rattle.dnsv_zones.specs.zones.Types.{Denies}
use Rattle.dnsv_canonical.specs.declared.number.RecordNumber.{RecordNumber}
use Rattle.dnsv_canonical.proofs.CanonicalLemmas.{IsMember}
use Rattle.dnsv_proof_forms.proofs.lemmas.forms.PartsForm.{SayNoMore, member_left}

-- ---- members

pub member_right : {X : Type 0} (x : X) (xs ys : List X) → IsMember x ys → IsMember x (xs ++ ys)
member_right x [] ys there = there
member_right x (y ∷ xs) ys there = inr (member_right x xs ys there)

pub member_cases : {X : Type 0} (x : X) (xs ys : List X) → IsMember x (xs ++ ys) → IsMember x xs ⊎ IsMember x ys
member_cases x [] ys there = inr there
member_cases x (y ∷ xs) ys there =
    ⊎_elim (λ (same : x ≡ y). inl (inl same))
    (λ (later : IsMember x (xs ++ ys)). ⊎_elim (λ (left : IsMember x xs). inl (inr left)) (λ (right : IsMember x ys). inr right)
    (member_cases x xs ys later)) there

-- fewer records say no more either
say_fewer : (told : RecordWords RecordNumber) (few many : List RecordNumber) (its : Words)
    → ((n : RecordNumber) → IsMember n few → IsMember n many) → SayNoMore told many its → SayNoMore told few its
say_fewer told few many its among say = record {
  needs_none = say.needs_none;
  encloser = λ x n there. say.encloser x n (among n there);
  absent = λ x n there. say.absent x n (among n there);
  empty_non_terminal = λ x n there. say.empty_non_terminal x n (among n there);
  types_at = λ x Says n there. say.types_at x Says n (among n there);
}

-- each record that says something is such
pub record AreSuch (told : RecordWords RecordNumber) (Such : RecordNumber → Type 0) : Type 1 where
  pub encloser : (x : Labels) (n : RecordNumber) → told.Encloser x n → Such n
  pub absent : (x : Labels) (n : RecordNumber) → told.Absent x n → Such n
  pub empty_non_terminal : (x : Labels) (n : RecordNumber) → told.EmptyNonTerminal x n → Such n
  pub types_at : (x : Labels) (Says : (ℕ → Type 0) → Type 0) (n : RecordNumber) → told.TypesAt x Says n → Such n
  pub opted_out : (x : Labels) (n : RecordNumber) → told.OptedOut x n → Such n

-- some such records by which it holds
pub record Rests (told : RecordWords RecordNumber) (Such : RecordNumber → Type 0) (Holds : Words → Type 0) : Type 1 where
  pub records : List RecordNumber
  pub such : (n : RecordNumber) → IsMember n records → Such n
  pub holds : (its : Words) → SayNoMore told records its → Holds its

module _ (told : RecordWords RecordNumber) (Such : RecordNumber → Type 0) (are : AreSuch told Such) where
  -- ---- one record, and several

  one_rests : (Holds : Words → Type 0) (n : RecordNumber) → Such n
      → ((its : Words) → SayNoMore told (n ∷ []) its → Holds its) → Rests told Such Holds
  one_rests Holds n such holds = record {
    records = n ∷ [];
    such = λ m there. ⊎_elim (λ (same : m ≡ n). subst Such (sym same) such) (λ (none : ⊥). absurd none) there;
    holds = holds;
  }

  both_rest : (One Other Holds : Words → Type 0) → Rests told Such One → Rests told Such Other
      → ((its : Words) → One its → Other its → Holds its) → Rests told Such Holds
  both_rest One Other Holds one other then = record {
    records = one.records ++ other.records;
    such = λ n there. ⊎_elim (λ (left : IsMember n one.records). one.such n left)
        (λ (right : IsMember n other.records). other.such n right) (member_cases n one.records other.records there);
    holds = λ its say. then its
        (one.holds its (say_fewer told one.records (one.records ++ other.records) its (λ n there. member_left n one.records other.records there) say))
        (other.holds its (say_fewer told other.records (one.records ++ other.records) its (λ n there. member_right n one.records other.records there) say));
  }

  -- ---- words

  encloser_rests : (x : Labels) → told.NeedsNone x ⊎ ((n : RecordNumber) × told.Encloser x n) → Rests told Such (λ its. its.Encloser x)
  encloser_rests x (inl none) = record {
    records = [];
    such = λ n there. absurd there;
    holds = λ its say. say.needs_none x none;
  }
  encloser_rests x (inr some) =
      one_rests (λ its. its.Encloser x) some.0 (are.encloser x some.0 some.1) (λ its say. say.encloser x some.0 (inl refl) some.1)

  absent_rests : (x : Labels) → (n : RecordNumber) × told.Absent x n → Rests told Such (λ its. its.Absent x)
  absent_rests x some =
      one_rests (λ its. its.Absent x) some.0 (are.absent x some.0 some.1) (λ its say. say.absent x some.0 (inl refl) some.1)

  empty_rests : (x : Labels) → (n : RecordNumber) × told.EmptyNonTerminal x n → Rests told Such (λ its. its.EmptyNonTerminal x)
  empty_rests x some =
      one_rests (λ its. its.EmptyNonTerminal x) some.0 (are.empty_non_terminal x some.0 some.1)
      (λ its say. say.empty_non_terminal x some.0 (inl refl) some.1)

  types_rest : (x : Labels) (Says : (ℕ → Type 0) → Type 0) → (n : RecordNumber) × told.TypesAt x Says n → Rests told Such (λ its. its.TypesAt x Says)
  types_rest x Says some =
      one_rests (λ its. its.TypesAt x Says) some.0 (are.types_at x Says some.0 some.1)
      (λ its say. say.types_at x Says some.0 (inl refl) some.1)

  -- ---- forms

  module _ (apex name : Labels) where
    ends_rest : (labels : ℕ) → EndsAt (words told) apex name labels → Rests told Such (λ its. EndsAt its apex name labels)
    ends_rest labels ends =
        let ce = rightmost name labels in
        let next = rightmost name (labels + 1) in
        both_rest (λ its. its.Encloser ce) (λ its. its.Absent next) (λ its. EndsAt its apex name labels)
        (encloser_rests ce ends.encloser) (absent_rests next ends.next_closer)
        (λ its encloser absent. record { above = ends.above; encloser = encloser; next_closer = absent })

    -- what it says of the wildcard besides
    with_wildcard : (labels : ℕ) (Wildcard : Words → Type 0) → EndsAt (words told) apex name labels → Rests told Such Wildcard
        → Rests told Such (λ its. EndsAt its apex name labels × Wildcard its)
    with_wildcard labels Wildcard ends wildcard =
        both_rest (λ its. EndsAt its apex name labels) Wildcard (λ its. EndsAt its apex name labels × Wildcard its)
        (ends_rest labels ends) wildcard (λ its one other. (one, other))

    pub no_name_rests : (form : NoNameForm (words told) apex name)
        → Rests told Such (λ its. EndsAt its apex name form.labels × its.Absent (wildcard_of (rightmost name form.labels)))
    no_name_rests form =
        let star = wildcard_of (rightmost name form.labels) in
        with_wildcard form.labels (λ its. its.Absent star) form.ends (absent_rests star form.wildcard)

    pub no_data_rests : (t : ℕ) → NoDataForm (words told) apex name t → Rests told Such (λ its. NoDataForm its apex name t)
    no_data_rests t form =
        let rests = types_rest name (λ has. Denies has t) form.types in record {
          records = rests.records;
          such = rests.such;
          holds = λ its say. record { within = form.within; types = rests.holds its say };
        }

    pub empty_rests_at : EmptyForm (words told) apex name → Rests told Such (λ its. EmptyForm its apex name)
    empty_rests_at form =
        let rests = empty_rests name form.empty_non_terminal in record {
          records = rests.records;
          such = rests.such;
          holds = λ its say. record { within = form.within; empty_non_terminal = rests.holds its say };
        }

    pub wildcard_data_rests : (t : ℕ) (form : NoWildcardDataForm (words told) apex name t)
        → Rests told Such (λ its. EndsAt its apex name form.labels × its.TypesAt (wildcard_of (rightmost name form.labels)) (λ has. Denies has t))
    wildcard_data_rests t form =
        let star = wildcard_of (rightmost name form.labels) in
        with_wildcard form.labels (λ its. its.TypesAt star (λ has. Denies has t)) form.ends (types_rest star (λ has. Denies has t) form.types)

    pub empty_wildcard_rests : (form : EmptyWildcardForm (words told) apex name)
        → Rests told Such (λ its. EndsAt its apex name form.labels × its.EmptyNonTerminal (wildcard_of (rightmost name form.labels)))
    empty_wildcard_rests form =
        let star = wildcard_of (rightmost name form.labels) in
        with_wildcard form.labels (λ its. its.EmptyNonTerminal star) form.ends (empty_rests star form.empty_non_terminal)

    pub no_closer_rests : (labels : ℕ) → NoCloserForm (words told) apex name labels → Rests told Such (λ its. NoCloserForm its apex name labels)
    no_closer_rests labels form =
        let rests = absent_rests (rightmost name (labels + 1)) form.next_closer in record {
          records = rests.records;
          such = rests.such;
          holds = λ its say. record { above = form.above; next_closer = rests.holds its say };
        }
