-- What a line states, by its fields.
use Rattle.std.proofs.Common.{◌≡◌, ℕ, ◌<◌, ◌^◌, List, [], ◌∷◌, length, refl, sym, ap, ◌∙◌, Ok, arith, Bool, true, false, cond, Some, None, codes}
use Rattle.std.proofs.lemmas.Slice.Eq.{bytes_eq-Decides}
use Rattle.std.specs.Fmt.{decimal}
use Rattle.std.specs.Str.{bytes_eq}
use Rattle.hex.specs.Hex.{decode_of}
use Rattle.dnsv_names.specs.Lines.{AreFields}
use Rattle.dnsv_names.specs.Lines.LineLaws.{AreFields-only}
use Rattle.dnsv_anchors.specs.HexField.{AreDigitsOf, hex_value}
use Rattle.dnsv_statements.specs.Statements.{States, word_text}
use Rattle.dnsv_statements.specs.StatementsReading.{IsStatement, word_of}
use Rattle.dnsv_verifier.specs.declared.entry.Entry.{Entry}
use Rattle.dnsv_statements.specs.declared.statements.statement.Word.{Word}
use Rattle.dnsv_statements.specs.declared.statements.statement.Word.TheVariants.{Good, Bad}

-- the values that the five fields of a statement have
pub record HaveValues (first second third fourth fifth : List ℕ) (entry : Entry) (word : Word) : Type 0 where
  pub word_is : first ≡ word_text word
  pub algorithm_is : second ≡ decimal entry.algorithm.0
  pub algorithm_fits : entry.algorithm.0 < 256
  pub key_is : hex_value third ≡ Some entry.key
  pub signed_data_is : hex_value fourth ≡ Some entry.signed_data
  pub signature_is : hex_value fifth ≡ Some entry.signature

pub values_of : (line first second third fourth fifth : List ℕ) → AreFields line (first ∷ second ∷ third ∷ fourth ∷ fifth ∷ []) → (entry : Entry) (word : Word) → States line entry word → HaveValues first second third fourth fifth entry word
values_of line first second third fourth fifth are entry word states =
    let same = AreFields-only line (first ∷ second ∷ third ∷ fourth ∷ fifth ∷ []) (word_text word ∷ decimal entry.algorithm.0 ∷ states.key ∷ states.signed_data ∷ states.signature ∷ []) are states.fields in
    let third_is : third ≡ states.key = cc in
    let fourth_is : fourth ≡ states.signed_data = cc in
    let fifth_is : fifth ≡ states.signature = cc in
    record {
      word_is = cc;
      algorithm_is = cc;
      algorithm_fits = states.algorithm_fits;
      key_is = ap hex_value third_is ∙ states.key_is;
      signed_data_is = ap hex_value fourth_is ∙ states.signed_data_is;
      signature_is = ap hex_value fifth_is ∙ states.signature_is;
    }

word_of-word_text : (word : Word) → word_of (word_text word) ≡ Some word
word_of-word_text Good = refl
word_of-word_text Bad = refl

word_by : (first : List ℕ) (good bad : Bool) (word : Word) → bytes_eq first (codes "good") ≡ good → bytes_eq first (codes "bad") ≡ bad → cond good (Some Good) (cond bad (Some Bad) None) ≡ Some word → first ≡ word_text word
word_by first true bad Good is_good is_bad e = (bytes_eq-Decides first (codes "good")).0 is_good
word_by first true bad Bad is_good is_bad e = cc
word_by first false true Bad is_good is_bad e = (bytes_eq-Decides first (codes "bad")).0 is_bad
word_by first false true Good is_good is_bad e = cc
word_by first false false word is_good is_bad e = cc

-- the field is the word's text
pub word_text-word_of : (first : List ℕ) (word : Word) → word_of first ≡ Some word → first ≡ word_text word
word_text-word_of first word e = word_by first (bytes_eq first (codes "good")) (bytes_eq first (codes "bad")) word refl refl e

-- the field says what its digits do
value_of : (field digits octets : List ℕ) → AreDigitsOf field digits → decode_of digits ≡ Ok octets → hex_value field ≡ Some octets
value_of field digits octets are e =
    let same : are.octets ≡ octets = (let first = are.decoded in cc) in are.value ∙ ap Some same

pub no_five : (line : List ℕ) → ((fields : List (List ℕ)) → AreFields line fields → length fields ≡ 5 → ⊥) → (entry : Entry) (word : Word) → States line entry word → ⊥
no_five line none entry word states = none _ states.fields refl

module _ (line first second third fourth fifth : List ℕ) (are : AreFields line (first ∷ second ∷ third ∷ fourth ∷ fifth ∷ [])) where
  pub no_word : None ≡ word_of first → (entry : Entry) (word : Word) → States line entry word → ⊥
  no_word none entry word states =
      let values = values_of line first second third fourth fifth are entry word states in
      let found : word_of first ≡ Some word = ap word_of values.word_is ∙ word_of-word_text word in
      cc

  pub no_algorithm : ((number : ℕ) → number < 2 ^ 8 → second ≡ decimal number → ⊥) → (entry : Entry) (word : Word) → States line entry word → ⊥
  no_algorithm none entry word states =
      let values = values_of line first second third fourth fifth are entry word states in
      none entry.algorithm.0 values.algorithm_fits values.algorithm_is

  pub no_key : None ≡ hex_value third → (entry : Entry) (word : Word) → States line entry word → ⊥
  no_key none entry word states =
      let values = values_of line first second third fourth fifth are entry word states in
      let found = values.key_is in
      cc

  pub no_signed_data : None ≡ hex_value fourth → (entry : Entry) (word : Word) → States line entry word → ⊥
  no_signed_data none entry word states =
      let values = values_of line first second third fourth fifth are entry word states in
      let found = values.signed_data_is in
      cc

  pub no_signature : None ≡ hex_value fifth → (entry : Entry) (word : Word) → States line entry word → ⊥
  no_signature none entry word states =
      let values = values_of line first second third fourth fifth are entry word states in
      let found = values.signature_is in
      cc

  all_stated : (entry : Entry) (word : Word) → HaveValues first second third fourth fifth entry word → States line entry word
  all_stated entry word values =
      record {
        key = third;
        signed_data = fourth;
        signature = fifth;
        fields = (let P : List ℕ → List ℕ → Type 0 = λ f s. AreFields line (f ∷ s ∷ third ∷ fourth ∷ fifth ∷ []) in rw (← values.word_is, ← values.algorithm_is) are);
        algorithm_fits = values.algorithm_fits;
        key_is = values.key_is;
        signed_data_is = values.signed_data_is;
        signature_is = values.signature_is;
      }

  module _ (word : Word) (word_is : first ≡ word_text word) (algorithm : ℕ) (fits : algorithm < 256) (algorithm_is : second ≡ decimal algorithm) {key signed_data signature : List ℕ} (its_key : AreDigitsOf third key) (its_data : AreDigitsOf fourth signed_data) (its_signature : AreDigitsOf fifth signature) where
    pub is_statement : IsStatement line
    is_statement =
        let entry : Entry = record { algorithm = record { 0 = algorithm }; key = its_key.octets; signed_data = its_data.octets; signature = its_signature.octets } in
        record {
          entry = entry;
          word = word;
          states = all_stated entry word record { word_is = word_is; algorithm_is = algorithm_is; algorithm_fits = fits; key_is = its_key.value; signed_data_is = its_data.value; signature_is = its_signature.value };
        }

    pub states : (entry : Entry) → (entry.algorithm.0 ≡ algorithm) × (decode_of key ≡ Ok entry.key) × (decode_of signed_data ≡ Ok entry.signed_data) × (decode_of signature ≡ Ok entry.signature) → States line entry word
    states entry its =
        all_stated entry word
        record {
          word_is = word_is;
          algorithm_is = algorithm_is ∙ ap decimal (sym its.0);
          algorithm_fits = (let same = its.0 in omega (arith, fits, same));
          key_is = value_of third key entry.key its_key its.1;
          signed_data_is = value_of fourth signed_data entry.signed_data its_data its.2;
          signature_is = value_of fifth signature entry.signature its_signature its.3;
        }
