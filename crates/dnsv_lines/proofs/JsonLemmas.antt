-- Values one after another, with commas between them, and the texts of names within strings.
use Rattle.std.proofs.Common.{◌≡◌, ◌<◌, ◌≤◌, ◌+◌, ◌/◌, ◌%◌, ◌==◌, ◌||◌, ℕ, suc, zero, Bool, true, false, cond, List, [], ◌∷◌, ◌++◌, length, get_or, drop, refl, sym, ap, ◌∙◌, arith, append_assoc, codes}
use Rattle.std.proofs.lemmas.Bool.Decides.{nat_tests}
use Rattle.std.proofs.lemmas.List.{drop_more, drop_all, append-nil}
use Rattle.std.specs.Char.{is_ascii_graphic}
use Rattle.std.specs.List.{AllByRecursion, flat_map}
use Rattle.dnsv_names.specs.Name.{IsLabel, IsName, Labels}
use Rattle.dnsv_names.specs.PartLaws.{recursion-append}
use Rattle.dnsv_names.specs.Text.{label_text, octet_text, text_of}
use Rattle.dnsv_lines.specs.Json.{AreAscii, comma, parted, still_first}

-- ---- commas

pub never_first : {X : Type 0} (xs : List X) → still_first false xs ≡ false
never_first [] = refl
never_first (x ∷ xs) = refl

pub still_first-append : {X : Type 0} (first : Bool) (xs ys : List X) → still_first first (xs ++ ys) ≡ still_first (still_first first xs) ys
still_first-append first [] ys = refl
still_first-append first (x ∷ xs) ys = sym (never_first ys)

pub parted_behind : (xs ys : List (List ℕ)) → parted false (xs ++ ys) ≡ parted false xs ++ parted false ys
parted_behind [] ys = refl
parted_behind (x ∷ xs) ys =
    ap (λ rest. codes "," ++ x ++ rest) (parted_behind xs ys)
    ∙ ap (λ rest. codes "," ++ rest) (sym (append_assoc x (parted false xs) (parted false ys)))

pub parted-append : (first : Bool) (xs ys : List (List ℕ)) → parted first (xs ++ ys) ≡ parted first xs ++ parted (still_first first xs) ys
parted-append first [] ys = refl
parted-append true (x ∷ xs) ys = ap (λ rest. x ++ rest) (parted_behind xs ys) ∙ sym (append_assoc x (parted false xs) (parted false ys))
parted-append false (x ∷ xs) ys = parted_behind (x ∷ xs) ys

-- a value more, behind others or as the first
pub one_more : (first : Bool) (value : List ℕ) → comma first ++ value ≡ parted first (value ∷ [])
one_more true value = sym (append-nil value)
one_more false value = ap (λ rest. codes "," ++ rest) (sym (append-nil value))

-- the two steps in which a value is written, behind others or as the first
pub one_written : (first : Bool) (before commaed after value : List ℕ) → commaed ≡ before ++ comma first → after ≡ commaed ++ value
    → after ≡ before ++ parted first (value ∷ [])
one_written first before commaed after value is_commaed is_after =
    is_after ∙ ap (λ t. t ++ value) is_commaed ∙ append_assoc before (comma first) value ∙ ap (λ t. before ++ t) (one_more first value)

-- within a list a default is not read
pub any_default : {X : Type 0} (xs : List X) (i : ℕ) (d e : X) → i < length xs → get_or xs i d ≡ get_or xs i e
any_default [] i d e within = absurd (omega (arith, within))
any_default (x ∷ xs) zero d e within = refl
any_default (x ∷ xs) (suc i) d e within = any_default xs i d e (omega (arith, within))

-- what was written and what is left are the whole
pub record Parted {X : Type 0} (values : X → List (List ℕ)) (xs : List X) (done : ℕ) (start : Bool) (before : List ℕ) (first : Bool) (now : List ℕ) : Type 0 where
  pub text : before ++ parted start (flat_map values xs) ≡ now ++ parted first (flat_map values (drop done xs))
  pub still : still_first start (flat_map values xs) ≡ still_first first (flat_map values (drop done xs))

pub Parted-next : {X : Type 0} {values : X → List (List ℕ)} {xs : List X} {done : ℕ} {start : Bool} {before : List ℕ} {first : Bool} {now : List ℕ}
    → Parted values xs done start before first now
    → (x : X) (firstly : Bool) (after : List ℕ) → done < length xs → ((d : X) → get_or xs done d ≡ x)
    → after ≡ now ++ parted first (values x) → firstly ≡ still_first first (values x) → Parted values xs (done + 1) start before firstly after
Parted-next {X} {values} {xs} {done} {start} {before} {first} {now} written x firstly after within here line is =
    let rest : List (List ℕ) = flat_map values (drop (done + 1) xs) in
    let split : flat_map values (drop done xs) ≡ values x ++ rest =
    ap (flat_map values) (drop_more xs done x within ∙ ap (λ y. y ∷ drop (done + 1) xs) (here x)) in
    record {
      text = written.text ∙ ap (λ vs. now ++ parted first vs) split
          ∙ ap (λ t. now ++ t) (parted-append first (values x) rest)
          ∙ sym (append_assoc now (parted first (values x)) (parted (still_first first (values x)) rest))
          ∙ ap (λ t. t ++ parted (still_first first (values x)) rest) (sym line)
          ∙ ap (λ b. after ++ parted b rest) (sym is);
      still = written.still ∙ ap (still_first first) split ∙ still_first-append first (values x) rest
          ∙ ap (λ b. still_first b rest) (sym is);
    }

pub Parted-all : {X : Type 0} {values : X → List (List ℕ)} {xs : List X} {done : ℕ} {start : Bool} {before : List ℕ} {first : Bool} {now : List ℕ}
    → Parted values xs done start before first now → length xs ≤ done → now ≡ before ++ parted start (flat_map values xs)
Parted-all {X} {values} {xs} {done} {start} {before} {first} {now} written all =
    sym (append-nil now) ∙ ap (λ left. now ++ parted first (flat_map values left)) (sym (drop_all done xs all)) ∙ sym written.text

-- ---- texts one after another

-- what was written and what is left are the whole
pub record Joined {X : Type 0} (text : X → List ℕ) (xs : List X) (done : ℕ) (before now : List ℕ) : Type 0 where
  pub whole : before ++ flat_map text xs ≡ now ++ flat_map text (drop done xs)

pub Joined-next : {X : Type 0} {text : X → List ℕ} {xs : List X} {done : ℕ} {before now : List ℕ} → Joined text xs done before now
    → (x : X) (after : List ℕ) → done < length xs → ((d : X) → get_or xs done d ≡ x) → after ≡ now ++ text x → Joined text xs (done + 1) before after
Joined-next {X} {text} {xs} {done} {before} {now} joined x after within here line = record {
  whole = joined.whole
      ∙ ap (λ left. now ++ flat_map text left) (drop_more xs done x within ∙ ap (λ y. y ∷ drop (done + 1) xs) (here x))
      ∙ sym (append_assoc now (text x) (flat_map text (drop (done + 1) xs)))
      ∙ ap (λ t. t ++ flat_map text (drop (done + 1) xs)) (sym line);
}

pub Joined-all : {X : Type 0} {text : X → List ℕ} {xs : List X} {done : ℕ} {before now : List ℕ} → Joined text xs done before now
    → length xs ≤ done → now ≡ before ++ flat_map text xs
Joined-all {X} {text} {xs} {done} {before} {now} joined all =
    sym (append-nil now) ∙ ap (λ left. now ++ flat_map text left) (sym (drop_all done xs all)) ∙ sym joined.whole

-- ---- names

one_of : (b : Bool) (x y : List ℕ) → (b ≡ true → AreAscii x) → (b ≡ false → AreAscii y) → AreAscii (cond b x y)
one_of true x y first second = first refl
one_of false x y first second = second refl

special : (octet : ℕ) → (octet == 46 || octet == 92) ≡ true → AreAscii (92 ∷ octet ∷ [])
special octet is = (omega arith, (grind (arith, nat_tests), tt))

graphic : (octet : ℕ) → is_ascii_graphic octet ≡ true → AreAscii (octet ∷ [])
graphic octet is = (grind (arith, nat_tests), tt)

digits : (octet : ℕ) → octet < 256 → AreAscii (92 ∷ (48 + octet / 100) ∷ (48 + octet / 10 % 10) ∷ (48 + octet % 10) ∷ [])
digits octet small = (omega arith, (omega arith, (omega arith, (omega arith, tt))))

octet_ascii : (octet : ℕ) → octet < 256 → AreAscii (octet_text octet)
octet_ascii octet small =
    one_of (octet == 46 || octet == 92) (92 ∷ octet ∷ []) _ (special octet)
    (λ plain. one_of (is_ascii_graphic octet) (octet ∷ []) _ (graphic octet) (λ other. digits octet small))

label_ascii : (label : List ℕ) → AllByRecursion (λ octet. octet < 256) label → AreAscii (label_text label)
label_ascii [] each = tt
label_ascii (octet ∷ label) each =
    recursion-append (λ octet. octet < 128) (octet_text octet) (label_text label) (octet_ascii octet each.0) (label_ascii label each.1)

labels_ascii : (labels : Labels) → AllByRecursion IsLabel labels → AreAscii (flat_map (λ each. label_text each ++ 46 ∷ []) labels)
labels_ascii [] each = tt
labels_ascii (label ∷ labels) each =
    recursion-append (λ octet. octet < 128) (label_text label ++ 46 ∷ []) (flat_map (λ each. label_text each ++ 46 ∷ []) labels)
    (recursion-append (λ octet. octet < 128) (label_text label) (46 ∷ []) (label_ascii label each.0.octets) (omega arith, tt))
    (labels_ascii labels each.1)

-- what is written for a name is ASCII
pub text_ascii : (name : Labels) → IsName name → AreAscii (text_of name)
text_ascii [] is = (omega arith, tt)
text_ascii (label ∷ labels) is = labels_ascii (label ∷ labels) is.each
