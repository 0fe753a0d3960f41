-- The laws of files of statements, for proofs: a text is one list of statements or has one first fault.
use Rattle.std.proofs.Common.{◌≡◌, ℕ, List, [], ◌∷◌, ◌++◌, length, refl, sym, ap, ◌∙◌, arith, subst, Some, codes}
use Rattle.std.proofs.lemmas.Fmt.{decimal_injective}
use Rattle.std.proofs.lemmas.List.Elements.{Contains-append_left, Contains-append_right}
use Rattle.std.specs.Fmt.{decimal}
use Rattle.std.specs.List.{Contains}
use Rattle.dnsv_names.specs.Lines.{NumberedLine}
use Rattle.dnsv_names.specs.Lines.LineFileLaws.{HasFirstFault-only, IsLineFile, SaysValues-no_fault, SaysValues-only}
use Rattle.dnsv_names.specs.Lines.LineLaws.{AreFields-only}
use Rattle.dnsv_anchors.specs.HexField.{hex_value}
use Rattle.dnsv_statements.specs.Statements.{Agree, AreStatementsOf, IsFaultOf, IsFaultOfLine, IsStatementOf, States, other_word, word_text}
use Rattle.dnsv_verifier.specs.declared.entry.Entry.{Entry}
use Rattle.dnsv_statements.specs.declared.statements.statement.Word.{Word}
use Rattle.dnsv_statements.specs.declared.statements.statement.Word.TheVariants.{Good, Bad}
use Rattle.dnsv_statements.specs.declared.statements.StatementsError.{StatementsError}
use Rattle.dnsv_statements.specs.declared.statements.StatementsError.TheVariants.{OutOfMemory, Syntax, Contradiction}

sizes_differ : (x y : List ℕ) → length x ≡ 4 → length y ≡ 3 → x ≡ y → ⊥
sizes_differ x y four three e =
    let same : length x ≡ length y = ap (λ (text : List ℕ). length text) e in omega arith

word_text-injective : (a b : Word) → word_text a ≡ word_text b → a ≡ b
word_text-injective Good Good e = refl
word_text-injective Good Bad e = absurd (sizes_differ (codes "good") (codes "bad") refl refl e)
word_text-injective Bad Good e = absurd (sizes_differ (codes "good") (codes "bad") refl refl (sym e))
word_text-injective Bad Bad e = refl

field_only : (s t x y : List ℕ) → s ≡ t → hex_value s ≡ Some x → hex_value t ≡ Some y → x ≡ y
field_only s t x y same first second =
    let values : hex_value s ≡ hex_value t = ap hex_value same in cc

-- a line states one thing
pub States-only : (line : List ℕ) (a b : Entry × Word) → States line a.0 a.1 → States line b.0 b.1 → a ≡ b
States-only line a b first second =
    let same = AreFields-only line (word_text a.1 ∷ decimal a.0.algorithm.0 ∷ first.key ∷ first.signed_data ∷ first.signature ∷ []) (word_text b.1 ∷ decimal b.0.algorithm.0 ∷ second.key ∷ second.signed_data ∷ second.signature ∷ []) first.fields second.fields in
    let words : word_text a.1 ≡ word_text b.1 = cc in
    let numbers : decimal a.0.algorithm.0 ≡ decimal b.0.algorithm.0 = cc in
    let keys : first.key ≡ second.key = cc in
    let datas : first.signed_data ≡ second.signed_data = cc in
    let signatures : first.signature ≡ second.signature = cc in
    let word_is : a.1 ≡ b.1 = word_text-injective a.1 b.1 words in
    let algorithm_is : a.0.algorithm.0 ≡ b.0.algorithm.0 =
    decimal_injective a.0.algorithm.0 b.0.algorithm.0 (omega (arith, first.algorithm_fits)) (omega (arith, second.algorithm_fits)) numbers in
    let key_is : a.0.key ≡ b.0.key = field_only first.key second.key a.0.key b.0.key keys first.key_is second.key_is in
    let data_is : a.0.signed_data ≡ b.0.signed_data =
    field_only first.signed_data second.signed_data a.0.signed_data b.0.signed_data datas first.signed_data_is second.signed_data_is in
    let signature_is : a.0.signature ≡ b.0.signature =
    field_only first.signature second.signature a.0.signature b.0.signature signatures first.signature_is second.signature_is in
    λ i. (record { algorithm = record { 0 = algorithm_is i }; key = key_is i; signed_data = data_is i; signature = signature_is i }, word_is i)

clash : (all : List (Entry × Word)) (entry : Entry) (word : Word) → Agree all → Contains all (entry, word)
    → Contains all (entry, other_word word) → ⊥
clash all entry Good agree one other = agree entry one other
clash all entry Bad agree one other = agree entry other one

-- no line of statements that agree is faulty
no_fault : (line : NumberedLine) (before : List (Entry × Word)) (statement : Entry × Word) (behind : List (Entry × Word))
    → IsStatementOf line.octets statement → Agree (before ++ statement ∷ behind) → (fault : StatementsError)
    → IsFaultOfLine fault line before → ⊥
no_fault line before statement behind states agree OutOfMemory there = there
no_fault line before statement behind states agree (Syntax number) there = there.1 statement.0 statement.1 states
no_fault line before statement behind states agree (Contradiction number) there =
    let entry = there.1.0 in
    let word = there.1.1 in
    let same : statement ≡ (entry, word) = States-only line.octets statement (entry, word) states there.1.2 in
    let all = before ++ statement ∷ behind in
    let IsMember : Entry × Word → Type 0 = λ each. Contains all each in
    let itself : Contains (statement ∷ behind) statement = (0, omega arith, refl) in
    clash all entry word agree (subst IsMember same (Contains-append_right before (statement ∷ behind) statement itself))
    (Contains-append_left before (statement ∷ behind) (entry, other_word word) there.1.3)

-- a line has one fault
one_fault : (line : NumberedLine) (before : List (Entry × Word)) (a b : StatementsError) → IsFaultOfLine a line before
    → IsFaultOfLine b line before → a ≡ b
one_fault line before OutOfMemory b first second = absurd first
one_fault line before (Syntax m) OutOfMemory first second = absurd second
one_fault line before (Syntax m) (Syntax n) first second = ap (λ k. Syntax k) (first.0 ∙ sym second.0)
one_fault line before (Syntax m) (Contradiction n) first second = absurd (first.1 second.1.0 second.1.1 second.1.2)
one_fault line before (Contradiction m) OutOfMemory first second = absurd second
one_fault line before (Contradiction m) (Syntax n) first second = absurd (second.1 first.1.0 first.1.1 first.1.2)
one_fault line before (Contradiction m) (Contradiction n) first second = ap (λ k. Contradiction k) (first.0 ∙ sym second.0)

pub statements_file : IsLineFile IsStatementOf Agree IsFaultOfLine
statements_file = record { one_value = States-only; one_fault = one_fault; no_fault = no_fault }

-- a text is one list of statements
pub AreStatementsOf-only : (text : List ℕ) (a b : List (Entry × Word)) → AreStatementsOf text a
    → AreStatementsOf text b → a ≡ b
AreStatementsOf-only text a b first second = SaysValues-only statements_file text a b first second

-- a text of statements has no fault
pub AreStatementsOf-no_fault : (text : List ℕ) (statements : List (Entry × Word)) (fault : StatementsError)
    → AreStatementsOf text statements → IsFaultOf text fault → ⊥
AreStatementsOf-no_fault text statements fault are is = SaysValues-no_fault statements_file text statements fault are is

-- a text has one first fault
pub IsFaultOf-only : (text : List ℕ) (a b : StatementsError) → IsFaultOf text a → IsFaultOf text b → a ≡ b
IsFaultOf-only text a b first second = HasFirstFault-only statements_file text a b first second
