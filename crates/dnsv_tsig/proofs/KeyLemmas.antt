-- Files of keys, a line at a time.
use Rattle.std.proofs.Common.{◌≡◌, ◌⊎◌, ℕ, Result, Err, List, [], ◌∷◌, ◌++◌, None, inl, inr, ⊎_elim, refl, sym, ap, ◌∙◌, subst}
use Rattle.base64.specs.Engines.{standard}
use Rattle.base64.specs.GeneralPurpose.{encode_of}
use Rattle.dnsv_names.proofs.LineFileLemmas.{SaysOrFails, SayTogether, begins, first_fault, first_fault_told, say_more, values_or_fault}
use Rattle.dnsv_names.specs.Lines.LineFile.{SayEach}
use Rattle.dnsv_names.specs.Lines.LineLaws.{HasLines-only}
use Rattle.dnsv_names.specs.Lines.{HasLines, NumberedLine}
use Rattle.dnsv_names.specs.Name.{Labels, IsName}
use Rattle.dnsv_names.specs.Octets.{AreOctets}
use Rattle.dnsv_names.specs.Text.{IsTextOf}
use Rattle.dnsv_tsig.specs.declared.error.KeyFileError.{KeyFileError}
use Rattle.dnsv_tsig.specs.declared.error.KeyFileError.TheVariants.{DuplicateKey, OutOfMemory, Syntax}
use Rattle.dnsv_tsig.specs.Key.{SharedKey, key_named}
use Rattle.dnsv_tsig.specs.KeyFile.{BeginsWithKey, HaveOwnNames, IsFaultOfLine, IsKeyFault, IsKeyLine, IsRingOf}
use Rattle.dnsv_tsig.specs.KeyReading.{IsKeyText}
use Rattle.dnsv_tsig.proofs.KeyLaws.{key_file}

-- ---- a line, before memory is taken for its key

-- the key of the line
pub key_line : {line : List ℕ} {name : Labels} {coded : List ℕ} (key : SharedKey) → IsKeyText line name coded
    → (key.name ≡ name) × AreOctets key.secret × (coded ≡ encode_of standard key.secret) → IsKeyLine line key
key_line {line} {name} {coded} key text (same, are, is) =
    let Spells : Labels → Type 0 = λ name. IsTextOf text.text name in
    record {
      text = text.text;
      coded = coded;
      fields = text.fields;
      is_name = subst IsName (sym same) text.is_name;
      name = subst Spells (sym same) text.spells;
      octets = are;
      secret = is;
    }

pub some_key : {line : List ℕ} {name : Labels} {coded : List ℕ} → IsKeyText line name coded
    → (key : SharedKey) × IsKeyLine line key × (key.name ≡ name)
some_key {line} {name} {coded} text =
    let key : SharedKey = record { name = name; secret = text.is.octets } in
    (key, key_line key text (refl, text.is.are, text.is.coded), refl)

pub new_key : (ring : List SharedKey) {line : List ℕ} {name : Labels} {coded : List ℕ} → IsKeyText line name coded → key_named name ring ≡ None
    → (key : SharedKey) × IsKeyLine line key × (key_named key.name ring ≡ None)
new_key ring text new =
    let some = some_key text in (some.0, some.1, ap (λ (name : Labels). key_named name ring) some.2 ∙ new)

pub named_again : (ring : List SharedKey) (line : NumberedLine) {name : Labels} {coded : List ℕ} → IsKeyText line.octets name coded
    → (key_named name ring ≡ None → ⊥) → IsFaultOfLine (DuplicateKey line.number) line ring
named_again ring line text again =
    let some = some_key text in
    (refl, (some.0, some.1, λ (new : key_named some.0.name ring ≡ None). again (sym (ap (λ (name : Labels). key_named name ring) some.2) ∙ new)))

-- ---- the keys of a ring

no_member : {X : Type 0} (before : List X) (x : X) (after : List X) → ◌≡◌ {A = List X} [] (before ++ x ∷ after) → ⊥
no_member [] x after e = cc
no_member (y ∷ before) x after e = cc

-- an element of a list with one more at its end is that one, or stood in it before
in_front : {X : Type 0} (xs : List X) (last : X) (before : List X) (x : X) (after : List X) → xs ++ last ∷ [] ≡ before ++ x ∷ after
    → ((before ≡ xs) × (x ≡ last)) ⊎ ((behind : List X) × (xs ≡ before ++ x ∷ behind))
in_front [] last [] x after e = inl (refl, cc)
in_front [] last (y ∷ before) x after e = let rest : [] ≡ before ++ x ∷ after = cc in absurd (no_member before x after rest)
in_front (z ∷ xs) last [] x after e = let first : z ≡ x = cc in inr (xs, ap (λ y. y ∷ xs) first)
in_front {X} (z ∷ xs) last (y ∷ before) x after e =
    let first : z ≡ y = cc in
    let rest : xs ++ last ∷ [] ≡ before ++ x ∷ after = cc in
    ⊎_elim (λ (here : (before ≡ xs) × (x ≡ last)). inl (ap (λ ys. y ∷ ys) here.0 ∙ ap (λ w. w ∷ xs) (sym first), here.1))
    (λ (earlier : (behind : List X) × (xs ≡ before ++ x ∷ behind)). inr (earlier.0, ap (λ w. w ∷ xs) first ∙ ap (λ ys. y ∷ ys) earlier.1))
    (in_front xs last before x after rest)

pub none_say : (ring : List SharedKey) → ring ≡ [] → SayTogether IsKeyLine HaveOwnNames [] ring
none_say ring none =
    subst (λ (keys : List SharedKey). SayTogether IsKeyLine HaveOwnNames [] keys) (sym none)
    (record { each = tt; may_stand = λ before key after e. absurd (no_member before key after e) })

-- a key with a new name
own_more : (ring : List SharedKey) (key : SharedKey) → HaveOwnNames ring → key_named key.name ring ≡ None → HaveOwnNames (ring ++ key ∷ [])
own_more ring key own new = λ before each after e.
    ⊎_elim (λ (here : (before ≡ ring) × (each ≡ key)). ap (λ (keys : List SharedKey). key_named each.name keys) here.0 ∙ ap (λ (k : SharedKey). key_named k.name ring) here.1 ∙ new)
    (λ (earlier : (behind : List SharedKey) × (ring ≡ before ++ each ∷ behind)). own before each earlier.0 earlier.1)
    (in_front ring key before each after e)

pub ring_more : {lines : List NumberedLine} {old : List SharedKey} (new : List SharedKey) (line : NumberedLine) → SayTogether IsKeyLine HaveOwnNames lines old
    → (key : SharedKey) × IsKeyLine line.octets key × (key_named key.name old ≡ None) × (new ≡ old ++ key ∷ [])
    → SayTogether IsKeyLine HaveOwnNames (lines ++ line ∷ []) new
ring_more {lines} {old} new line so_far (key, is, unnamed, same) = say_more new line so_far (key, is, own_more old key so_far.may_stand unnamed, same)

-- behind keys with names of their own a line is another's, or at fault
key_or_fault : SaysOrFails IsKeyLine HaveOwnNames IsFaultOfLine
key_or_fault = record {
  nothing = λ before key after e. absurd (no_member before key after e);
  next = λ line before own no_key at_fault. at_fault (Syntax line.number) (
    refl,
    λ key is. at_fault (DuplicateKey line.number) (refl, (key, is, λ new. no_key key is (own_more before key own new))),
  );
}

-- no text is neither a ring nor at fault
pub ring_or_fault : (text : List ℕ) → ((ring : List SharedKey) → IsRingOf text ring → ⊥)
    → ((error : KeyFileError) → IsKeyFault text error → ⊥) → ⊥
ring_or_fault text no_ring no_fault = values_or_fault key_or_fault text no_ring no_fault

-- ---- the text

pub fault_or_memory : (text : List ℕ) (before : List NumberedLine) (line : NumberedLine) (after : List NumberedLine) (ring : List SharedKey) (error : KeyFileError)
    → HasLines text (before ++ line ∷ after) → SayTogether IsKeyLine HaveOwnNames before ring
    → ((error ≡ OutOfMemory) × ((key : SharedKey) × IsKeyLine line.octets key × (key_named key.name ring ≡ None))) ⊎ IsFaultOfLine error line ring
    → (error ≡ OutOfMemory) ⊎ IsKeyFault text error
fault_or_memory text before line after ring error has so_far (inl wanting) = inl wanting.0
fault_or_memory text before line after ring error has so_far (inr refused) = inr (first_fault text before line after ring error has so_far refused)

pub fault_told : {T : Type 0} (text : List ℕ) (before : List NumberedLine) (line : NumberedLine) (after : List NumberedLine) (ring : List SharedKey) (error : KeyFileError)
    → HasLines text (before ++ line ∷ after) → SayTogether IsKeyLine HaveOwnNames before ring
    → ((error ≡ OutOfMemory) × ((key : SharedKey) × IsKeyLine line.octets key × (key_named key.name ring ≡ None))) ⊎ IsFaultOfLine error line ring
    → (fault : KeyFileError) → IsKeyFault text fault
    → (◌≡◌ {A = Result T KeyFileError} (Err error) (Err fault)) ⊎ ((◌≡◌ {A = Result T KeyFileError} (Err error) (Err OutOfMemory)) × BeginsWithKey text)
fault_told text before line after ring error has so_far (inl wanting) = first_fault_told key_file OutOfMemory text before line after ring error has so_far (inl (wanting.0, (wanting.1.0, wanting.1.1)))
fault_told text before line after ring error has so_far (inr refused) = first_fault_told key_file OutOfMemory text before line after ring error has so_far (inr refused)

-- memory is refused to a key alone
pub memory_wanted : (text : List ℕ) (before : List NumberedLine) (line : NumberedLine) (after : List NumberedLine) (ring : List SharedKey) (error : KeyFileError)
    → HasLines text (before ++ line ∷ after) → SayTogether IsKeyLine HaveOwnNames before ring
    → ((error ≡ OutOfMemory) × ((key : SharedKey) × IsKeyLine line.octets key × (key_named key.name ring ≡ None))) ⊎ IsFaultOfLine error line ring
    → error ≡ OutOfMemory → BeginsWithKey text
memory_wanted text before line after ring error has so_far (inl (out, key)) same = begins IsKeyLine text before line after ring has so_far.each (key.0, key.1)
memory_wanted text before line after ring error has so_far (inr refused) same =
    absurd (subst (λ (found : KeyFileError). IsFaultOfLine found line ring) same refused)

-- ---- the keys of a text without a fault

one_list : (lines : List NumberedLine) (a b : List SharedKey) → SayEach IsKeyLine lines a → SayEach IsKeyLine lines b → a ≡ b
one_list [] [] [] first second = refl
one_list [] [] (y ∷ b) first second = absurd second
one_list [] (x ∷ a) b first second = absurd first
one_list (line ∷ lines) [] b first second = absurd first
one_list (line ∷ lines) (x ∷ a) [] first second = absurd second
one_list (line ∷ lines) (x ∷ a) (y ∷ b) first second =
    ap (λ z. z ∷ a) (key_file.one_value line.octets x y first.0 second.0) ∙ ap (λ zs. y ∷ zs) (one_list lines a b first.1 second.1)

says_there : (before : List NumberedLine) (line : NumberedLine) (after : List NumberedLine) (ring : List SharedKey)
    → SayEach IsKeyLine (before ++ line ∷ after) ring → (key : SharedKey) × IsKeyLine line.octets key
says_there [] line after [] each = absurd each
says_there [] line after (key ∷ ring) each = (key, each.0)
says_there (l ∷ before) line after [] each = absurd each
says_there (l ∷ before) line after (key ∷ ring) each = says_there before line after ring each.1

-- each line says a key
pub line_says : (text : List ℕ) (ring : List SharedKey) (before : List NumberedLine) (line : NumberedLine) (after : List NumberedLine)
    → IsRingOf text ring → HasLines text (before ++ line ∷ after) → (key : SharedKey) × IsKeyLine line.octets key
line_says text ring before line after is has =
    says_there before line after ring
    (subst (λ (lines : List NumberedLine). SayEach IsKeyLine lines ring) (HasLines-only text is.lines (before ++ line ∷ after) is.has has) is.each)

-- keys that all lines say are those of the text
pub ring_of : (text : List ℕ) (ring keys : List SharedKey) (lines : List NumberedLine) → IsRingOf text ring → HasLines text lines
    → SayEach IsKeyLine lines keys → IsRingOf text keys
ring_of text ring keys lines is has each =
    let all : SayEach IsKeyLine lines ring = subst (λ (ls : List NumberedLine). SayEach IsKeyLine ls ring) (HasLines-only text is.lines lines is.has has) is.each in
    subst (λ (found : List SharedKey). IsRingOf text found) (one_list lines ring keys all each) is

-- a fault that is told again
pub told_again : {A B : Type 0} (found : Result A KeyFileError) (error fault : KeyFileError) (text : List ℕ) → found ≡ Err error
    → (found ≡ Err fault) ⊎ ((found ≡ Err OutOfMemory) × BeginsWithKey text)
    → (◌≡◌ {A = Result B KeyFileError} (Err error) (Err fault)) ⊎ ((◌≡◌ {A = Result B KeyFileError} (Err error) (Err OutOfMemory)) × BeginsWithKey text)
told_again found error fault text is (inl same) = let one : error ≡ fault = cc in inl (ap Err one)
told_again found error fault text is (inr (same, begins)) = let one : error ≡ OutOfMemory = cc in inr (ap Err one, begins)
