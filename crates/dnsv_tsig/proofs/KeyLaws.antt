-- A text is at most one ring, or has one fault.
use Rattle.std.proofs.Common.{◌≡◌, ℕ, List, [], ◌∷◌, ◌++◌, None, Ok, refl, sym, ap, subst, ◌∙◌}
use Rattle.base64.specs.Engines.{standard}
use Rattle.base64.specs.GeneralPurpose.{decode_of}
use Rattle.dnsv_names.proofs.Base64Lemmas.{decoded}
use Rattle.dnsv_names.proofs.OneReading.{one_name}
use Rattle.dnsv_names.specs.Lines.LineFileLaws.{HasFirstFault-only, IsLineFile, SaysValues-no_fault, SaysValues-only}
use Rattle.dnsv_names.specs.Lines.LineLaws.{AreFields-only}
use Rattle.dnsv_names.specs.Lines.{NumberedLine}
use Rattle.dnsv_names.specs.Text.{IsTextOf}
use Rattle.dnsv_tsig.specs.declared.error.KeyFileError.{KeyFileError}
use Rattle.dnsv_tsig.specs.declared.error.KeyFileError.TheVariants.{DuplicateKey, OutOfMemory, Syntax}
use Rattle.dnsv_tsig.specs.Key.{SharedKey, key_named}
use Rattle.dnsv_tsig.specs.KeyFile.{HaveOwnNames, IsFaultOfLine, IsKeyFault, IsKeyLine, IsRingOf}

one_key : (line : List ℕ) (key other : SharedKey) → IsKeyLine line key → IsKeyLine line other → key ≡ other
one_key line key other p q =
    let fields : p.text ∷ p.coded ∷ [] ≡ q.text ∷ q.coded ∷ [] = AreFields-only line (p.text ∷ p.coded ∷ []) (q.text ∷ q.coded ∷ []) p.fields q.fields in
    let texts : p.text ≡ q.text = cc in
    let codes : p.coded ≡ q.coded = cc in
    let Spells : List ℕ → Type 0 = λ text. IsTextOf text key.name in
    let names = one_name q.text key.name other.name p.is_name q.is_name (subst Spells texts p.name) q.name in
    let first : decode_of standard q.coded ≡ Ok key.secret = sym (ap (decode_of standard) codes) ∙ decoded key.secret p.coded p.octets p.secret in
    let second = decoded other.secret q.coded q.octets q.secret in
    let secrets : key.secret ≡ other.secret = cc in
    λ i. record { name = names i; secret = secrets i }

one_fault : (line : NumberedLine) (before : List SharedKey) (a b : KeyFileError) → IsFaultOfLine a line before
    → IsFaultOfLine b line before → a ≡ b
one_fault line before OutOfMemory b p q = absurd p
one_fault line before (Syntax m) (Syntax n) p q = ap (λ k. Syntax k) (p.0 ∙ sym q.0)
one_fault line before (Syntax m) (DuplicateKey n) p q = absurd (p.1 q.1.0 q.1.1)
one_fault line before a OutOfMemory p q = absurd q
one_fault line before (DuplicateKey m) (Syntax n) p q = absurd (q.1 p.1.0 p.1.1)
one_fault line before (DuplicateKey m) (DuplicateKey n) p q = ap (λ k. DuplicateKey k) (p.0 ∙ sym q.0)

no_fault : (line : NumberedLine) (before : List SharedKey) (key : SharedKey) (behind : List SharedKey) → IsKeyLine line.octets key
    → HaveOwnNames (before ++ key ∷ behind) → (fault : KeyFileError) → IsFaultOfLine fault line before → ⊥
no_fault line before key behind is own OutOfMemory there = there
no_fault line before key behind is own (Syntax number) there = there.1 key is
no_fault line before key behind is own (DuplicateKey number) there =
    let IsNew : SharedKey → Type 0 = λ each. key_named each.name before ≡ None in
    there.1.2 (subst IsNew (one_key line.octets key there.1.0 is there.1.1) (own before key behind refl))

pub key_file : IsLineFile IsKeyLine HaveOwnNames IsFaultOfLine
key_file = record { one_value = one_key; one_fault = one_fault; no_fault = no_fault }

-- ---- of texts

pub IsRingOf-only : (text : List ℕ) (a b : List SharedKey) → IsRingOf text a → IsRingOf text b → a ≡ b
IsRingOf-only text a b p q = SaysValues-only key_file text a b p q

pub IsKeyFault-only : (text : List ℕ) (a b : KeyFileError) → IsKeyFault text a → IsKeyFault text b → a ≡ b
IsKeyFault-only text a b p q = HasFirstFault-only key_file text a b p q

pub IsRingOf-no_fault : (text : List ℕ) (ring : List SharedKey) (error : KeyFileError) → IsRingOf text ring → IsKeyFault text error → ⊥
IsRingOf-no_fault text ring error p q = SaysValues-no_fault key_file text ring error p q
