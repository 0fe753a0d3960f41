-- The laws of lines and fields, for proofs: there is one way to read them.
use Rattle.std.proofs.Common.{◌≡◌, ◌≢◌, ℕ, ◌<◌, List, [], ◌∷◌, ◌++◌, length, refl, sym, ap, ◌∙◌, arith, append_assoc, Bool, true, false, cond, ◌==◌}
use Rattle.std.proofs.lemmas.Bool.Decides.{nat_tests}
use Rattle.std.specs.List.{AllByRecursion, flat_map, join_with_byte}
use Rattle.dnsv_names.specs.Lines.{Lacks, last_line, AreLines, HasLines, NumberedLine, kept_from, IsField, AreFields}
use Rattle.dnsv_names.specs.Lines.LineReading.{lengthened, lines_in, pieces_in}

-- a line in front
pub lines_in-ended : (line rest : List ℕ) → Lacks 10 line → lines_in (line ++ 10 ∷ rest) ≡ line ∷ lines_in rest
lines_in-ended [] rest lacks = refl
lines_in-ended (x ∷ line) rest lacks =
    let other : (x == 10) ≡ false = grind (arith, nat_tests, lacks.0) in
    rw (other, lines_in-ended line rest lacks.1) refl

lengthened-last_line : (x : ℕ) (line : List ℕ) → lengthened x (last_line line) ≡ (x ∷ line) ∷ []
lengthened-last_line x [] = refl
lengthened-last_line x (y ∷ line) = refl

-- the last line
pub lines_in-last : (line : List ℕ) → Lacks 10 line → lines_in line ≡ last_line line
lines_in-last [] lacks = refl
lines_in-last (x ∷ line) lacks =
    let other : (x == 10) ≡ false = grind (arith, nat_tests, lacks.0) in
    rw (other, lines_in-last line lacks.1) (lengthened-last_line x line)

-- a text without a newline is one line
pub lines_in-whole : (line : List ℕ) → 0 < length line → Lacks 10 line → lines_in line ≡ line ∷ []
lines_in-whole [] some lacks = absurd (omega (arith, some))
lines_in-whole (x ∷ line) some lacks = lines_in-last (x ∷ line) lacks

lines_in-flat_map : (ended : List (List ℕ)) (behind : List ℕ) → AllByRecursion (Lacks 10) ended → Lacks 10 behind
    → lines_in (flat_map (λ line. line ++ 10 ∷ []) ended ++ behind) ≡ ended ++ last_line behind
lines_in-flat_map [] behind each last = lines_in-last behind last
lines_in-flat_map (line ∷ ended) behind each last =
    rw (append_assoc (line ++ 10 ∷ []) (flat_map (λ line. line ++ 10 ∷ []) ended) behind, append_assoc line (10 ∷ []) (flat_map (λ line. line ++ 10 ∷ []) ended ++ behind), lines_in-ended line (flat_map (λ line. line ++ 10 ∷ []) ended ++ behind) each.0, lines_in-flat_map ended behind each.1 last) refl

-- a text has no other lines
pub AreLines-only : (text : List ℕ) (lines : List (List ℕ)) → AreLines text lines → lines ≡ lines_in text
AreLines-only text lines are =
    are.all ∙ sym (lines_in-flat_map are.ended are.behind are.each are.last) ∙ ap lines_in (sym are.octets)

longer : (x : ℕ) (text : List ℕ) (ended : List (List ℕ)) (behind : List ℕ) → x ≢ 10 → AllByRecursion (Lacks 10) ended
    → Lacks 10 behind → text ≡ flat_map (λ line. line ++ 10 ∷ []) ended ++ behind
    → AreLines (x ∷ text) (lengthened x (ended ++ last_line behind))
longer x text [] behind other each last octets =
    record { ended = []; behind = x ∷ behind; each = tt; last = (other, last); octets = ap (λ ys. x ∷ ys) octets; all = lengthened-last_line x behind }
longer x text (line ∷ ended) behind other each last octets =
    record { ended = (x ∷ line) ∷ ended; behind = behind; each = ((other, each.0), each.1); last = last; octets = ap (λ ys. x ∷ ys) octets; all = refl }

begun : (x : ℕ) (text : List ℕ) (b : Bool) → (x == 10) ≡ b → AreLines text (lines_in text)
    → AreLines (x ∷ text) (cond b ([] ∷ lines_in text) (lengthened x (lines_in text)))
begun x text true newline are =
    let same : x ≡ 10 = grind (arith, nat_tests) in
    record { ended = [] ∷ are.ended; behind = are.behind; each = (tt, are.each); last = are.last; octets = ap (λ y. y ∷ text) same ∙ ap (λ ys. 10 ∷ ys) are.octets; all = ap (λ lines. [] ∷ lines) are.all }
begun x text false other are =
    let differs : x ≢ 10 = grind (arith, nat_tests) in
    let P : List (List ℕ) → Type 0 = λ lines. AreLines (x ∷ text) (lengthened x lines) in
    rw are.all (longer x text are.ended are.behind differs are.each are.last are.octets)

-- each text has lines
pub AreLines-lines_in : (text : List ℕ) → AreLines text (lines_in text)
AreLines-lines_in [] = record { ended = []; behind = []; each = tt; last = tt; octets = refl; all = refl }
AreLines-lines_in (x ∷ text) = begun x text (x == 10) refl (AreLines-lines_in text)

pub HasLines-read : (text : List ℕ) → HasLines text (kept_from 1 (lines_in text))
HasLines-read text = record { lines = lines_in text; all = AreLines-lines_in text; numbered = refl }

pub HasLines-only : (text : List ℕ) (a b : List NumberedLine) → HasLines text a → HasLines text b → a ≡ b
HasLines-only text a b first second =
    first.numbered ∙ ap (kept_from 1) (AreLines-only text first.lines first.all ∙ sym (AreLines-only text second.lines second.all)) ∙ sym second.numbered

-- a field in front
pub pieces_in-field : (field rest : List ℕ) → Lacks 32 field → pieces_in (field ++ 32 ∷ rest) ≡ field ∷ pieces_in rest
pieces_in-field [] rest lacks = refl
pieces_in-field (x ∷ field) rest lacks =
    let other : (x == 32) ≡ false = grind (arith, nat_tests, lacks.0) in
    rw (other, pieces_in-field field rest lacks.1) refl

-- the last field
pub pieces_in-last : (field : List ℕ) → Lacks 32 field → pieces_in field ≡ field ∷ []
pieces_in-last [] lacks = refl
pieces_in-last (x ∷ field) lacks =
    let other : (x == 32) ≡ false = grind (arith, nat_tests, lacks.0) in
    rw (other, pieces_in-last field lacks.1) refl

-- pieces that a text has
pub record HasPieces (text : List ℕ) (first : List ℕ) (more : List (List ℕ)) : Type 0 where
  pub form : pieces_in text ≡ first ∷ more
  pub each : AllByRecursion (Lacks 32) (first ∷ more)
  pub parted : text ≡ join_with_byte 32 (first ∷ more)

join-lengthened : (x : ℕ) (first : List ℕ) (more : List (List ℕ))
    → join_with_byte 32 ((x ∷ first) ∷ more) ≡ x ∷ join_with_byte 32 (first ∷ more)
join-lengthened x first [] = refl
join-lengthened x first (next ∷ more) = refl

pieces_by : (x : ℕ) (text : List ℕ) (b : Bool) → (x == 32) ≡ b → (first : List ℕ) (more : List (List ℕ))
    → HasPieces text first more
    → (f : List ℕ) × (m : List (List ℕ)) × (cond b ([] ∷ pieces_in text) (lengthened x (pieces_in text)) ≡ f ∷ m) × AllByRecursion (Lacks 32) (f ∷ m) × (x ∷ text ≡ join_with_byte 32 (f ∷ m))
pieces_by x text true space first more has =
    let same : x ≡ 32 = grind (arith, nat_tests) in
    ([], first ∷ more, ap (λ pieces. [] ∷ pieces) has.form, (tt, has.each), ap (λ y. y ∷ text) same ∙ ap (λ ys. 32 ∷ ys) has.parted)
pieces_by x text false other first more has =
    let differs : x ≢ 32 = grind (arith, nat_tests) in
    (x ∷ first, more, ap (lengthened x) has.form, ((differs, has.each.0), has.each.1), ap (λ ys. x ∷ ys) has.parted ∙ sym (join-lengthened x first more))

-- each text has pieces
pub pieces_of : (text : List ℕ) → (first : List ℕ) × (more : List (List ℕ)) × HasPieces text first more
pieces_of [] = ([], [], record { form = refl; each = (tt, tt); parted = refl })
pieces_of (x ∷ text) =
    let behind = pieces_of text in
    let all = pieces_by x text (x == 32) refl behind.0 behind.1 behind.2 in
    (all.0, all.1, record { form = all.2; each = all.3; parted = all.4 })

-- fields are the pieces of what they are joined to
pieces_in-joined : (field : List ℕ) (fields : List (List ℕ)) → AllByRecursion IsField (field ∷ fields)
    → pieces_in (join_with_byte 32 (field ∷ fields)) ≡ field ∷ fields
pieces_in-joined field [] each = pieces_in-last field each.0.no_space
pieces_in-joined field (next ∷ fields) each =
    pieces_in-field field (join_with_byte 32 (next ∷ fields)) each.0.no_space
    ∙ ap (λ pieces. field ∷ pieces) (pieces_in-joined next fields each.1)

pub pieces_in-fields : (line : List ℕ) (fields : List (List ℕ)) → line ≢ [] → AreFields line fields
    → pieces_in line ≡ fields
pieces_in-fields line [] some are = absurd (some are.parted)
pieces_in-fields line (field ∷ fields) some are = ap pieces_in are.parted ∙ pieces_in-joined field fields are.each

joined_some : (field : List ℕ) (fields : List (List ℕ)) → AllByRecursion IsField (field ∷ fields)
    → join_with_byte 32 (field ∷ fields) ≢ []
joined_some [] fields each e = absurd (each.0.some refl)
joined_some (x ∷ field) [] each e = cc
joined_some (x ∷ field) (next ∷ fields) each e = cc

-- a line has no other fields
pub AreFields-only : (line : List ℕ) (a b : List (List ℕ)) → AreFields line a → AreFields line b → a ≡ b
AreFields-only line [] [] first second = refl
AreFields-only line [] (y ∷ b) first second = absurd (joined_some y b second.each (sym second.parted ∙ first.parted))
AreFields-only line (x ∷ a) b first second =
    let some : line ≢ [] = λ e. joined_some x a first.each (sym first.parted ∙ e) in
    sym (pieces_in-fields line (x ∷ a) some first) ∙ pieces_in-fields line b some second
