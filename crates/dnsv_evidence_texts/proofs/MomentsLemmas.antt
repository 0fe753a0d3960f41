-- The steps in which the object of a list is written, up to what it lists.
use Rattle.std.proofs.Common.{◌≡◌, true, false, List, [], ◌∷◌, ◌++◌, ℕ, refl, sym, ap, ◌∙◌, append_assoc, codes}
use Rattle.std.proofs.lemmas.List.{append-nil}
use Rattle.dnsv_lines.specs.Json.{array, member, parted, quoted}
use Rattle.dnsv_lines.proofs.JsonLemmas.{parted_behind}
use Rattle.dnsv_evidence_texts.specs.Json.{object_line}

-- the member for the subcommand
abbrev pub of_list : List ℕ
of_list = member (codes "command") (quoted (codes "list"))

pub at_written : (s s1 m : List ℕ) → s1 ≡ s ++ (codes "{\"command\":\"list\",\"moment\":" ++ m)
    → s1 ≡ s ++ (codes "{" ++ parted true (of_list ∷ member (codes "moment") m ∷ []))
at_written s s1 m is1 = is1 ∙ ap (λ t. s ++ (codes "{\"command\":\"list\",\"moment\":" ++ t)) (sym (append-nil m))

pub between_written : (s s1 f l : List ℕ) → s1 ≡ s ++ (codes "{\"command\":\"list\",\"from\":" ++ (f ++ (codes ",\"to\":" ++ l)))
    → s1 ≡ s ++ (codes "{" ++ parted true (of_list ∷ member (codes "from") f ∷ member (codes "to") l ∷ []))
between_written s s1 f l is1 = is1 ∙ ap (λ t. s ++ (codes "{\"command\":\"list\",\"from\":" ++ (f ++ (codes ",\"to\":" ++ t)))) (sym (append-nil l))

-- the object is that of these members and of those behind them
pub with_members : (moments others : List (List ℕ))
    → (codes "{" ++ ((of_list ++ (parted false moments ++ parted false others)) ++ codes "}")) ++ codes "\n" ≡ object_line (of_list ∷ moments ++ others)
with_members moments others =
    ap (λ (p : List ℕ). (codes "{" ++ ((of_list ++ p) ++ codes "}")) ++ codes "\n") (sym (parted_behind moments others))

todo_members : (o c p q x b e l : List ℕ) → (((o ++ (c ++ p)) ++ q) ++ x) ++ (b ++ (e ++ l)) ≡ (o ++ ((c ++ (p ++ ((q ++ (x ++ b)) ++ []))) ++ e)) ++ l
todo_members o c p q x b e l = simp append_assoc refl

-- what is still to be checked
pub todo_written : (s s1 s2 s3 : List ℕ) (moments entries : List (List ℕ)) → s ≡ codes "{" ++ parted true (of_list ∷ moments)
    → s1 ≡ s ++ codes ",\"todo\":[" → s2 ≡ s1 ++ parted true entries → s3 ≡ s2 ++ codes "]}\n"
    → s3 ≡ object_line (of_list ∷ moments ++ member (codes "todo") (array entries) ∷ [])
todo_written s s1 s2 s3 moments entries is is1 is2 is3 =
    is3 ∙ ap (λ t. t ++ codes "]}\n") (is2 ∙ ap (λ t. t ++ parted true entries) (is1 ∙ ap (λ t. t ++ codes ",\"todo\":[") is))
    ∙ todo_members (codes "{") of_list (parted false moments) (codes ",\"todo\":[") (parted true entries) (codes "]") (codes "}") (codes "\n")
    ∙ with_members moments (member (codes "todo") (array entries) ∷ [])
