-- What is said of fields one after another.
use Rattle.std.proofs.Common.{◌≡◌, ◌<◌, ◌≤◌, ◌+◌, ℕ, List, [], ◌∷◌, ◌++◌, length, get_or, map, take, ap, subst, sym, ◌∙◌}
use Rattle.std.proofs.lemmas.List.{take_all, take_more}
use Rattle.std.specs.List.{AllByRecursion}
use Rattle.dnsv_names.specs.PartLaws.{recursion-append}
use Rattle.dnsv_lines.specs.Sentence.{SaidSentence, said, said_field, said_sentence}
use Rattle.dnsv_lines.specs.declared.sentence.Sentence.{Sentence}
use Rattle.dnsv_lines.specs.declared.sentence.field.Field.{Field}
use Rattle.dnsv_line_laws.specs.Types.{AreOfTheirTypes, IsOfItsType}

-- one member more
pub first_more : {X : Type 0} (P : X → Type 0) (xs : List X) (i : ℕ) (x : X) → i < length xs → get_or xs i x ≡ x
    → AllByRecursion P (take i xs) → P x → AllByRecursion P (take (i + 1) xs)
first_more {X} P xs i x within here are is =
    subst (AllByRecursion P) (sym (take_more xs i x within ∙ ap (λ y. take i xs ++ y ∷ []) here))
    (recursion-append P (take i xs) (x ∷ []) are (is, tt))

-- all of them
pub first_all : {X : Type 0} (P : X → Type 0) (xs : List X) (n : ℕ) → length xs ≤ n → AllByRecursion P (take n xs) → AllByRecursion P xs
first_all {X} P xs n all are = subst (AllByRecursion P) (take_all n xs all) are

-- fields as they are kept, and what they say
fields_said : (fields : List Field) → AllByRecursion (λ field. IsOfItsType (said field.value)) fields
    → AllByRecursion (λ field. IsOfItsType field.said) (map said_field fields)
fields_said [] are = tt
fields_said (field ∷ fields) are = (are.0, fields_said fields are.1)

-- what a line says, by its fields as they are kept
pub sentence_said : (kept : Sentence) (fields : List Field) (s : SaidSentence) → said_sentence kept ≡ s → fields ≡ kept.fields.items
    → AllByRecursion (λ field. IsOfItsType (said field.value)) fields → AreOfTheirTypes s
sentence_said kept fields s is same are =
    subst AreOfTheirTypes is (fields_said kept.fields.items (subst (AllByRecursion (λ field. IsOfItsType (said field.value))) same are))
