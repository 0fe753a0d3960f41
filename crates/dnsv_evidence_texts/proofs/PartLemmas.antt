-- Lists that are written one part after another: in lines, or as values of JSON.
use Rattle.std.proofs.Common.{◌≡◌, ℕ, suc, Bool, ◌+◌, ◌<◌, ◌≤◌, List, [], ◌∷◌, ◌++◌, length, get_or, drop, map, refl, sym, ap, subst, ◌∙◌, arith, append_assoc}
use Rattle.std.proofs.lemmas.List.{drop_more, drop_all, append-nil, map-append}
use Rattle.std.proofs.lemmas.List.Concat.{flat_map-append}
use Rattle.dnsv_lines.specs.Json.{parted, still_first}
use Rattle.dnsv_lines.proofs.JsonLemmas.{parted-append, still_first-append}
use Rattle.dnsv_evidence_texts.specs.Parts.{part}
use Rattle.dnsv_questions.specs.declared.format.Format.{Format}
use Rattle.dnsv_questions.specs.declared.format.Format.TheVariants.{Json, Lines}

-- ---- the text of a part

same_first : {X Y : Type 0} (f : X → Y) (first : Bool) (xs : List X) → still_first first (map f xs) ≡ still_first first xs
same_first f first [] = refl
same_first f first (x ∷ xs) = refl

part-append : {X : Type 0} (line json : X → List ℕ) (format : Format) (first : Bool) (xs ys : List X)
    → part line json format first (xs ++ ys) ≡ part line json format first xs ++ part line json format (still_first first xs) ys
part-append line json Lines first xs ys = flat_map-append line xs ys
part-append line json Json first xs ys =
    ap (parted first) (map-append json xs ys) ∙ parted-append first (map json xs) (map json ys)
    ∙ ap (λ b. parted first (map json xs) ++ parted b (map json ys)) (same_first json first xs)

-- the text of this list was added, and what follows is the first, or isn't
pub record Adds {X : Type 0} (line json : X → List ℕ) (format : Format) (start : Bool) (before : List ℕ) (listed : List X) (first : Bool) (now : List ℕ) : Type 0 where
  pub text : now ≡ before ++ part line json format start listed
  pub still : first ≡ still_first start listed

Adds-none : {X : Type 0} (line json : X → List ℕ) (format : Format) (start : Bool) (before : List ℕ) → Adds line json format start before [] start before
Adds-none line json Lines start before = record { text = sym (append-nil before); still = refl }
Adds-none line json Json start before = record { text = sym (append-nil before); still = refl }

Adds-more : {X : Type 0} {line json : X → List ℕ} {format : Format} {start : Bool} {before : List ℕ} {listed : List X} {first : Bool} {now : List ℕ}
    → Adds line json format start before listed first now
    → (others : List X) (firstly : Bool) (after : List ℕ) → after ≡ now ++ part line json format first others → firstly ≡ still_first first others
    → Adds line json format start before (listed ++ others) firstly after
Adds-more {X} {line} {json} {format} {start} {before} {listed} {first} {now} adds others firstly after text is = record {
  text = text ∙ ap (λ xs. xs ++ part line json format first others) adds.text
      ∙ append_assoc before (part line json format start listed) (part line json format first others)
      ∙ ap (λ b. before ++ (part line json format start listed ++ part line json format b others)) adds.still
      ∙ ap (λ t. before ++ t) (sym (part-append line json format start listed others));
  still = is ∙ ap (λ b. still_first b others) adds.still ∙ sym (still_first-append start listed others);
}

-- one more as a line, or as an object
pub one_line : {X : Type 0} (line json : X → List ℕ) (format : Format) (first : Bool) (x : X) (before after : List ℕ) → format ≡ Lines → after ≡ before ++ line x
    → after ≡ before ++ part line json format first (x ∷ [])
one_line line json Lines first x before after is text = text ∙ ap (λ t. before ++ t) (sym (append-nil (line x)))
one_line line json Json first x before after is text = absurd (cc)

pub one_object : {X : Type 0} (line json : X → List ℕ) (format : Format) (first : Bool) (x : X) (before after : List ℕ) → format ≡ Json
    → after ≡ before ++ parted first (json x ∷ []) → after ≡ before ++ part line json format first (x ∷ [])
one_object line json Lines first x before after is text = absurd (cc)
one_object line json Json first x before after is text = text

-- ---- what is listed of each

-- of these, the first of which has the number, that is listed which is listed of each
abbrev pub ListsEach : {X Y : Type 0} → (ℕ → X → List Y → Type 0) → ℕ → List X → List Y → Type 0
ListsEach each number [] listed = listed ≡ []
ListsEach {X} {Y} each number (x ∷ xs) listed =
    (front : List Y) × (rest : List Y) × each number x front × ListsEach each (suc number) xs rest × (listed ≡ front ++ rest)

-- what is listed of those before the place was written, and the rest of the list may follow
pub record Listed {X Y : Type 0} (each : ℕ → X → List Y → Type 0) (line json : Y → List ℕ) (format : Format) (xs : List X) (done : ℕ) (start : Bool) (before : List ℕ) (first : Bool) (now : List ℕ) : Type 0 where
  pub listed : List Y
  pub adds : Adds line json format start before listed first now
  pub lists : (rest : List Y) → ListsEach each (done + 1) (drop done xs) rest → ListsEach each 1 xs (listed ++ rest)

-- one more, of which these are listed
pub Listed-next : {X Y : Type 0} {each : ℕ → X → List Y → Type 0} {line json : Y → List ℕ} {format : Format} {xs : List X} {done : ℕ} {start : Bool} {before : List ℕ} {first : Bool} {now : List ℕ}
    → Listed each line json format xs done start before first now
    → (d x : X) (own : List Y) (firstly : Bool) (after : List ℕ) → done < length xs → get_or xs done d ≡ x → each (done + 1) x own
    → after ≡ now ++ part line json format first own → firstly ≡ still_first first own
    → Listed each line json format xs (done + 1) start before firstly after
Listed-next {X} {Y} {each} {line} {json} {format} {xs} {done} {start} {before} {first} {now} so_far d x own firstly after within here is text still = record {
  listed = so_far.listed ++ own;
  adds = Adds-more so_far.adds own firstly after text still;
  lists = λ rest lists.
      subst (λ ys. ListsEach each 1 xs ys) (sym (append_assoc so_far.listed own rest))
      (so_far.lists (own ++ rest)
      (subst (λ ys. ListsEach each (done + 1) ys (own ++ rest)) (sym (drop_more xs done d within ∙ ap (λ y. y ∷ drop (done + 1) xs) here))
      (own, rest, is, subst (λ n. ListsEach each n (drop (done + 1) xs) rest) (omega arith) lists, refl)));
}

-- one more, of which nothing is listed
pub Listed-none : {X Y : Type 0} {each : ℕ → X → List Y → Type 0} {line json : Y → List ℕ} {format : Format} {xs : List X} {done : ℕ} {start : Bool} {before : List ℕ} {first : Bool} {now : List ℕ}
    → Listed each line json format xs done start before first now
    → (d x : X) → done < length xs → get_or xs done d ≡ x → each (done + 1) x [] → Listed each line json format xs (done + 1) start before first now
Listed-none {X} {Y} {each} {line} {json} {format} {xs} {done} {start} {before} {first} {now} so_far d x within here is =
    let none = Adds-none line json format first now in
    Listed-next so_far d x [] first now within here is none.text none.still

pub Listed-all : {X Y : Type 0} {each : ℕ → X → List Y → Type 0} {line json : Y → List ℕ} {format : Format} {xs : List X} {done : ℕ} {start : Bool} {before : List ℕ} {first : Bool} {now : List ℕ}
    → Listed each line json format xs done start before first now → length xs ≤ done
    → (listed : List Y) × ListsEach each 1 xs listed × (now ≡ before ++ part line json format start listed) × (first ≡ still_first start listed)
Listed-all {X} {Y} {each} {line} {json} {format} {xs} {done} {start} {before} {first} {now} so_far all = (
  so_far.listed,
  subst (λ ys. ListsEach each 1 xs ys) (append-nil so_far.listed)
      (so_far.lists [] (subst (λ ys. ListsEach each (done + 1) ys []) (sym (drop_all done xs all)) refl)),
  so_far.adds.text,
  so_far.adds.still,
)
