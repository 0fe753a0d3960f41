-- Reading the fields of a line from the left.
use Rattle.std.proofs.Common.{◌≡◌, ◌≢◌, ℕ, List, [], ◌∷◌, ◌++◌, length, refl, sym, ap, ◌∙◌, arith, append_assoc, length-append, true, false, ◌==◌, Option, Some, None, subst}
use Rattle.std.proofs.lemmas.Bool.Decides.{nat_tests}
use Rattle.std.proofs.lemmas.List.{append-nil}
use Rattle.std.specs.List.{AllByRecursion, join_with_byte}
use Rattle.std.specs.Option.{is_some, option_copied}
use denote.Ref.{Bor}
use Rattle.dnsv_names.specs.Lines.{Lacks, IsField, AreFields, is_passed_over}
use Rattle.dnsv_names.specs.Lines.LineReading.{pieces_in, pieces_left}
use Rattle.dnsv_names.specs.Lines.LineLaws.{pieces_of, pieces_in-fields}

-- So much of a line was read: fields, and the pieces that are left.
pub record ReadsFields (line : List ℕ) (found : List (List ℕ)) (rest : Option (List ℕ)) : Type 0 where
  pub pieces : pieces_in line ≡ found ++ pieces_left rest
  pub each : AllByRecursion (λ field. field ≢ []) found

pub reads_none : (line text : List ℕ) → text ≡ line → ReadsFields line [] (Some text)
reads_none line text same = record { pieces = ap pieces_in (sym same); each = tt }

pub some_octets : (field : List ℕ) → false ≡ (length field == 0) → field ≢ []
some_octets field some e = let none : (length field == 0) ≡ true = ap (λ (f : List ℕ). length f == 0) e in cc

pub no_octets : (field : List ℕ) → true ≡ (length field == 0) → field ≡ []
no_octets [] none = refl
no_octets (x ∷ field) none = absurd (grind (arith, nat_tests))

each_more : (found : List (List ℕ)) (field : List ℕ) → AllByRecursion (λ field. field ≢ []) found → field ≢ [] → AllByRecursion (λ field. field ≢ []) (found ++ field ∷ [])
each_more [] field each some = (some, tt)
each_more (x ∷ found) field each some = (each.0, each_more found field each.1 some)

pub reads_more : {line : List ℕ} {found : List (List ℕ)} {text : List ℕ} → ReadsFields line found (Some text) → (field : List ℕ) (behind : Option (List ℕ)) → pieces_in text ≡ field ∷ pieces_left behind → field ≢ [] → ReadsFields line (found ++ field ∷ []) behind
reads_more {line} {found} {text} so_far field behind next some =
    record {
      pieces = so_far.pieces ∙ ap (λ pieces. found ++ pieces) next ∙ sym (append_assoc found (field ∷ []) (pieces_left behind));
      each = each_more found field so_far.each some;
    }

kept_some : (line : List ℕ) → is_passed_over line ≡ false → line ≢ []
kept_some [] kept e = cc
kept_some (x ∷ line) kept e = cc

-- too few pieces
pub reads_few : {line : List ℕ} {found : List (List ℕ)} → ReadsFields line found None → is_passed_over line ≡ false → (n m : ℕ) → length found ≡ m → false ≡ (m == n) → (fields : List (List ℕ)) → AreFields line fields → length fields ≡ n → ⊥
reads_few {line} {found} so_far kept n m length_is few fields are size =
    let same : pieces_in line ≡ fields = pieces_in-fields line fields (kept_some line kept) are in
    let full : length found ≡ n = ap length (sym (append-nil found) ∙ sym so_far.pieces ∙ same) ∙ size in
    let other : m ≢ n = grind (arith, nat_tests) in
    other (sym length_is ∙ full)

some_in : (found : List (List ℕ)) (more : List (List ℕ)) → AllByRecursion IsField (found ++ [] ∷ more) → ⊥
some_in [] more each = each.0.some refl
some_in (x ∷ found) more each = some_in found more each.1

-- an empty piece
pub reads_empty : {line : List ℕ} {found : List (List ℕ)} {text : List ℕ} → ReadsFields line found (Some text) → is_passed_over line ≡ false → (field : List ℕ) (behind : Option (List ℕ)) → pieces_in text ≡ field ∷ pieces_left behind → field ≡ [] → (fields : List (List ℕ)) → AreFields line fields → ⊥
reads_empty {line} {found} {text} so_far kept field behind next empty fields are =
    let same : pieces_in line ≡ fields = pieces_in-fields line fields (kept_some line kept) are in
    let P : List (List ℕ) → Type 0 = λ all. AllByRecursion IsField all in
    let first : pieces_in text ≡ [] ∷ pieces_left behind = next ∙ ap (λ piece. piece ∷ pieces_left behind) empty in
    some_in found (pieces_left behind) (subst P (sym same ∙ so_far.pieces ∙ ap (λ pieces. found ++ pieces) first) are.each)

-- too many pieces
pub reads_many : {line : List ℕ} {found : List (List ℕ)} (rest : Option (Bor (List ℕ))) → ReadsFields line found (option_copied rest) → true ≡ is_some rest → is_passed_over line ≡ false → (n m : ℕ) → length found ≡ m → true ≡ (m == n) → (fields : List (List ℕ)) → AreFields line fields → length fields ≡ n → ⊥
reads_many {line} {found} None so_far left kept n m length_is full fields are size = cc
reads_many {line} {found} (Some text) so_far left kept n m length_is full fields are size =
    let same : pieces_in line ≡ fields = pieces_in-fields line fields (kept_some line kept) are in
    let behind = pieces_of text.now in
    let all : fields ≡ found ++ behind.0 ∷ behind.1 = sym same ∙ so_far.pieces ∙ ap (λ pieces. found ++ pieces) behind.2.form in
    let equal : m ≡ n = grind (arith, nat_tests) in
    omega (arith, ap length all, length-append found (behind.0 ∷ behind.1))

are_fields : (fields : List (List ℕ)) → AllByRecursion (Lacks 32) fields → AllByRecursion (λ field. field ≢ []) fields → AllByRecursion IsField fields
are_fields [] lacks some = tt
are_fields (field ∷ fields) lacks some =
    (record { some = some.0; no_space = lacks.0 }, are_fields fields lacks.1 some.1)

all_pieces : {line : List ℕ} {found : List (List ℕ)} → ReadsFields line found None → AreFields line found
all_pieces {line} {found} so_far =
    let all = pieces_of line in
    let same : all.0 ∷ all.1 ≡ found = sym all.2.form ∙ so_far.pieces ∙ append-nil found in
    let P : List (List ℕ) → Type 0 = λ fields. AllByRecursion (Lacks 32) fields in
    record { each = are_fields found (subst P same all.2.each) so_far.each; parted = all.2.parted ∙ ap (join_with_byte 32) same }

-- all pieces were read
pub reads_all : {line : List ℕ} {found : List (List ℕ)} (rest : Option (Bor (List ℕ))) → ReadsFields line found (option_copied rest) → false ≡ is_some rest → AreFields line found
reads_all {line} {found} None so_far done = all_pieces so_far
reads_all {line} {found} (Some text) so_far done = absurd (cc)
