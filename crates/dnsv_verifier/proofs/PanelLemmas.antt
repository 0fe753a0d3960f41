-- What verifiers say together, asked one after another.
use Rattle.std.proofs.Common.{◌≡◌, ℕ, suc, ◌+◌, ◌<◌, ◌≤◌, List, [], ◌∷◌, length, drop, get_or, map, refl, sym, ap, ◌∙◌, add-one, ⊎_elim, arith}
use Rattle.std.proofs.lemmas.List.{drop_all}
use Rattle.std.proofs.lemmas.List.Elements.{Contains-append_left, Contains-append_right, Contains-append_cases, Contains-push, Contains-push_cases}
use Rattle.std.proofs.Math.Seq.{drop-cons}
use Rattle.std.specs.List.{Contains}
use Rattle.dnsv_verifier.specs.declared.answer.Answer.{Answer}
use Rattle.dnsv_verifier.specs.declared.answer.Answer.TheVariants.{Valid, Invalid, Unknown}
use Rattle.dnsv_verifier.specs.Panel.{joined, joint_answer}

pub joined_assoc : (a b c : Answer) → joined a (joined b c) ≡ joined (joined a b) c
joined_assoc Valid Valid Valid = refl
joined_assoc Valid Valid c = refl
joined_assoc Valid b c = refl
joined_assoc a b c = refl

-- one member more is asked
pub asked_more : {M : Type 0} (said : M → Answer) (members : List M) (i : ℕ) (joint next answer : Answer) (member : M) → i < length members → member ≡ get_or members i member → answer ≡ said member → next ≡ joined joint answer → joint_answer (map said members) ≡ joined joint (joint_answer (map said (drop i members))) → joint_answer (map said members) ≡ joined next (joint_answer (map said (drop (i + 1) members)))
asked_more said members i joint next answer member below is says joins so_far =
    so_far
    ∙ ap (λ rest. joined joint (joint_answer (map said rest))) (drop-cons members i member below)
    ∙ ap (λ each. joined joint (joined each (joint_answer (map said (drop (suc i) members))))) (ap said (sym is) ∙ sym says)
    ∙ joined_assoc joint answer (joint_answer (map said (drop (suc i) members)))
    ∙ ap (λ each. joined each (joint_answer (map said (drop (suc i) members)))) (sym joins)
    ∙ ap (λ n. joined next (joint_answer (map said (drop n members)))) (sym (add-one i))

pub asked_all : {M : Type 0} (said : M → Answer) (members : List M) (i : ℕ) (joint : Answer) → length members ≤ i → joint_answer (map said members) ≡ joined joint (joint_answer (map said (drop i members))) → joint_answer (map said members) ≡ joined joint Unknown
asked_all said members i joint past so_far =
    so_far ∙ ap (λ rest. joined joint (joint_answer (map said rest))) (drop_all i members past)

pub joined-Unknown : (a : Answer) → joined a Unknown ≡ a
joined-Unknown Valid = refl
joined-Unknown a = refl

nothing : (x : Answer) → Contains [] x → ⊥
nothing x found = let below = found.1 in omega arith

at_front : (x : Answer) (answers : List Answer) → Contains (x ∷ answers) x
at_front x answers = Contains-append_left (x ∷ []) answers x (Contains-push [] x)

behind : (x y : Answer) (answers : List Answer) → Contains answers y → Contains (x ∷ answers) y
behind x y answers found = Contains-append_right (x ∷ []) answers y found

-- what isn't the first stands behind it
not_first : (x y : Answer) (answers : List Answer) → (x ≡ y → ⊥) → Contains (x ∷ answers) y → Contains answers y
not_first x y answers differ found =
    ⊎_elim (λ (first : Contains (x ∷ []) y). absurd (⊎_elim (λ (none : Contains [] y). nothing y none) differ (Contains-push_cases [] x y first)))
    (λ (later : Contains answers y). later) (Contains-append_cases (x ∷ []) answers y found)

invalid_behind : (b : Answer) → joined Valid b ≡ Invalid → b ≡ Invalid
invalid_behind Invalid is = refl
invalid_behind b is = absurd (cc)

valid_in_front : (b : Answer) → (b ≡ Invalid → ⊥) → joined Valid b ≡ Valid
valid_in_front Invalid not = absurd (not refl)
valid_in_front b not = refl

pub one_is_invalid : (answers : List Answer) → joint_answer answers ≡ Invalid → Contains answers Invalid
one_is_invalid [] is = absurd (cc)
one_is_invalid (Invalid ∷ answers) is = at_front Invalid answers
one_is_invalid (Unknown ∷ answers) is = behind Unknown Invalid answers (one_is_invalid answers is)
one_is_invalid (Valid ∷ answers) is =
    behind Valid Invalid answers (one_is_invalid answers (invalid_behind (joint_answer answers) is))

pub all_are_invalid : (answers : List Answer) → Contains answers Invalid → joint_answer answers ≡ Invalid
all_are_invalid [] found = absurd (nothing Invalid found)
all_are_invalid (Invalid ∷ answers) found = refl
all_are_invalid (Unknown ∷ answers) found =
    all_are_invalid answers (not_first Unknown Invalid answers (λ same. cc) found)
all_are_invalid (Valid ∷ answers) found =
    ap (joined Valid) (all_are_invalid answers (not_first Valid Invalid answers (λ same. cc) found))

pub one_is_valid : (answers : List Answer) → joint_answer answers ≡ Valid → Contains answers Valid
one_is_valid [] is = absurd (cc)
one_is_valid (Invalid ∷ answers) is = absurd (cc)
one_is_valid (Unknown ∷ answers) is = behind Unknown Valid answers (one_is_valid answers is)
one_is_valid (Valid ∷ answers) is = at_front Valid answers

pub all_are_valid : (answers : List Answer) → Contains answers Valid → (Contains answers Invalid → ⊥)
    → joint_answer answers ≡ Valid
all_are_valid [] found none = absurd (nothing Valid found)
all_are_valid (Invalid ∷ answers) found none = absurd (none (at_front Invalid answers))
all_are_valid (Unknown ∷ answers) found none =
    all_are_valid answers (not_first Unknown Valid answers (λ same. cc) found) (λ bad. none (behind Unknown Invalid answers bad))
all_are_valid (Valid ∷ answers) found none =
    valid_in_front (joint_answer answers) (λ is. none (behind Valid Invalid answers (one_is_invalid answers is)))
