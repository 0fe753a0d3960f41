-- A line of a file of questions, as its two fields are read.
use Rattle.std.proofs.Common.{◌≡◌, ◌<◌, ◌^◌, ℕ, List, [], ◌∷◌, subst, sym}
use Rattle.std.specs.Fmt.{decimal}
use Rattle.dnsv_names.specs.Lines.LineLaws.{AreFields-only}
use Rattle.dnsv_names.specs.Lines.{AreFields}
use Rattle.dnsv_names.specs.Name.{Labels, IsName}
use Rattle.dnsv_names.specs.Text.{IsTextOf}
use Rattle.dnsv_questions.specs.QuestionFile.{IsAskedLine}
use Rattle.dnsv_questions.specs.Question.{Asked}

module _ (line text digits : List ℕ) (fields : AreFields line (text ∷ digits ∷ [])) where
  pub no_name : ((labels : Labels) → IsName labels → IsTextOf text labels → ⊥) → (asked : Asked) → IsAskedLine line asked → ⊥
  no_name none asked is =
      let same = AreFields-only line (is.text ∷ is.digits ∷ []) (text ∷ digits ∷ []) is.fields fields in
      let texts : is.text ≡ text = cc in
      let Spells : List ℕ → Type 0 = λ octets. IsTextOf octets asked.name in
      none asked.name is.is_name (subst Spells texts is.name)

  pub no_type : ((number : ℕ) → number < 2 ^ 16 → digits ≡ decimal number → ⊥) → (asked : Asked) → IsAskedLine line asked → ⊥
  no_type none asked is =
      let same = AreFields-only line (is.text ∷ is.digits ∷ []) (text ∷ digits ∷ []) is.fields fields in
      let numbers : digits ≡ is.digits = cc in
      let Says : List ℕ → Type 0 = λ octets. octets ≡ decimal asked.rtype in
      none asked.rtype is.fits (subst Says (sym numbers) is.rtype)
