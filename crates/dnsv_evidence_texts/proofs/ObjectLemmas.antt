-- The steps in which the objects of JSON are written.
use Rattle.std.proofs.Common.{◌≡◌, true, false, List, [], ◌∷◌, ◌++◌, ℕ, refl, sym, ap, ◌∙◌, append_assoc, codes}
use Rattle.std.proofs.lemmas.List.{append-nil}
use Rattle.dnsv_lines.specs.Json.{AddsMembers, member, object, parted, quoted}
use Rattle.dnsv_evidence_texts.specs.Json.{object_line}
use Rattle.dnsv_lines.proofs.JsonLemmas.{parted-append}
use Rattle.dnsv_lines.proofs.MemberLemmas.{no_members}

-- nothing is written
pub nothing_written : (s : List ℕ) → AddsMembers [] s s
nothing_written s = no_members s

-- a member more, behind others, of its key with a comma and a colon and of its value
pub member_written : (s s1 s2 l v : List ℕ) → s1 ≡ s ++ l → s2 ≡ s1 ++ v → s2 ≡ s ++ (l ++ (v ++ []))
member_written s s1 s2 l v is1 is2 =
    is2 ∙ ap (λ t. t ++ v) is1 ∙ append_assoc s l v ∙ ap (λ t. s ++ (l ++ t)) (sym (append-nil v))

-- an array behind its key, as the last that is written
pub array_written : (s s1 s2 l p : List ℕ) → s1 ≡ (s ++ l) ++ p → s2 ≡ s1 ++ codes "]" → s2 ≡ s ++ (l ++ ((p ++ codes "]") ++ []))
array_written s s1 s2 l p is1 is2 =
    is2 ∙ ap (λ t. t ++ codes "]") is1 ∙ append_assoc (s ++ l) p (codes "]") ∙ append_assoc s l (p ++ codes "]")
    ∙ ap (λ t. s ++ (l ++ t)) (sym (append-nil (p ++ codes "]")))

-- ---- an entry that is to be checked

four_members : (s p0 a p1 k p2 d p3 g e : List ℕ)
    → ((((((s ++ (p0 ++ (a ++ p1))) ++ k) ++ p2) ++ d) ++ p3) ++ g) ++ e ≡ s ++ ((p0 ++ (a ++ (p1 ++ (k ++ (p2 ++ (d ++ (p3 ++ (g ++ [])))))))) ++ e)
four_members s p0 a p1 k p2 d p3 g e = simp append_assoc refl

pub entry_written : (s s1 s2 s3 s4 s5 s6 s7 a k d g : List ℕ) → s1 ≡ s ++ (codes "{\"algorithm\":" ++ (a ++ codes ",\"key\":"))
    → s2 ≡ s1 ++ k → s3 ≡ s2 ++ codes ",\"data\":" → s4 ≡ s3 ++ d → s5 ≡ s4 ++ codes ",\"signature\":" → s6 ≡ s5 ++ g → s7 ≡ s6 ++ codes "}"
    → s7 ≡ s ++ object (member (codes "algorithm") a ∷ member (codes "key") k ∷ member (codes "data") d ∷ member (codes "signature") g ∷ [])
entry_written s s1 s2 s3 s4 s5 s6 s7 a k d g is1 is2 is3 is4 is5 is6 is7 =
    is7 ∙ ap (λ t. t ++ codes "}") (is6 ∙ ap (λ t. t ++ g) (is5 ∙ ap (λ t. t ++ codes ",\"signature\":") (is4 ∙ ap (λ t. t ++ d) (is3
    ∙ ap (λ t. t ++ codes ",\"data\":") (is2 ∙ ap (λ t. t ++ k) is1)))))
    ∙ four_members s (codes "{\"algorithm\":") a (codes ",\"key\":") k (codes ",\"data\":") d (codes ",\"signature\":") g (codes "}")

-- ---- an alias, and a record of a proof

alias_members : (s p n x e : List ℕ) → (((s ++ p) ++ n) ++ x) ++ e ≡ s ++ ((p ++ (n ++ x)) ++ e)
alias_members s p n x e = simp append_assoc refl

pub alias_written : (s s1 s2 s3 s4 n : List ℕ) (others : List (List ℕ)) → s1 ≡ s ++ codes "{\"name\":" → s2 ≡ s1 ++ n
    → s3 ≡ s2 ++ parted false others → s4 ≡ s3 ++ codes "}" → s4 ≡ s ++ object (member (codes "name") n ∷ others)
alias_written s s1 s2 s3 s4 n others is1 is2 is3 is4 =
    is4 ∙ ap (λ t. t ++ codes "}") (is3 ∙ ap (λ t. t ++ parted false others) (is2 ∙ ap (λ t. t ++ n) is1))
    ∙ alias_members s (codes "{\"name\":") n (parted false others) (codes "}")

record_members : (s p n q t e : List ℕ) → ((s ++ p) ++ n) ++ (q ++ (t ++ e)) ≡ s ++ ((p ++ (n ++ (q ++ (t ++ [])))) ++ e)
record_members s p n q t e = simp append_assoc refl

pub record_written : (s s1 s2 s3 n t : List ℕ) → s1 ≡ s ++ codes "{\"owner\":" → s2 ≡ s1 ++ n
    → s3 ≡ s2 ++ (codes ",\"type\":" ++ (t ++ codes "}")) → s3 ≡ s ++ object (member (codes "owner") n ∷ member (codes "type") t ∷ [])
record_written s s1 s2 s3 n t is1 is2 is3 =
    is3 ∙ ap (λ x. x ++ (codes ",\"type\":" ++ (t ++ codes "}"))) (is2 ∙ ap (λ x. x ++ n) is1)
    ∙ record_members s (codes "{\"owner\":") n (codes ",\"type\":") t (codes "}")

-- ---- a question and its verdict

question_members : (s p0 d q p n p1 t p2 m : List ℕ)
    → ((s ++ (p0 ++ (d ++ (q ++ p)))) ++ n) ++ (p1 ++ (t ++ (p2 ++ m)))
    ≡ s ++ (p0 ++ ((d ++ q) ++ (p ++ (n ++ (p1 ++ (t ++ (p2 ++ (m ++ []))))))))
question_members s p0 d q p n p1 t p2 m =
    simp append_assoc (ap (λ end. s ++ (p0 ++ (d ++ (q ++ (p ++ (n ++ (p1 ++ (t ++ (p2 ++ end))))))))) (sym (append-nil m)))

pub question_begun : (s s1 s2 s3 d n t m : List ℕ) → s1 ≡ s ++ (codes "{\"command\":\"" ++ (d ++ codes "\",\"name\":")) → s2 ≡ s1 ++ n
    → s3 ≡ s2 ++ (codes ",\"type\":" ++ (t ++ (codes ",\"moment\":" ++ m)))
    → s3 ≡ s ++ (codes "{" ++ parted true (member (codes "command") (quoted d) ∷ member (codes "name") n ∷ member (codes "type") t
    ∷ member (codes "moment") m ∷ []))
question_begun s s1 s2 s3 d n t m is1 is2 is3 =
    is3 ∙ ap (λ x. x ++ (codes ",\"type\":" ++ (t ++ (codes ",\"moment\":" ++ m)))) (is2 ∙ ap (λ x. x ++ n) is1)
    ∙ question_members s (codes "{\"command\":\"") d (codes "\"") (codes ",\"name\":") n (codes ",\"type\":") t (codes ",\"moment\":") m

-- members behind others of an object that is begun
behind : (s o : List ℕ) (first : List ℕ) (front others : List (List ℕ))
    → (s ++ (o ++ parted true (first ∷ front))) ++ parted false others ≡ s ++ (o ++ parted true ((first ∷ front) ++ others))
behind s o first front others =
    append_assoc s (o ++ parted true (first ∷ front)) (parted false others)
    ∙ ap (λ x. s ++ x) (append_assoc o (parted true (first ∷ front)) (parted false others))
    ∙ ap (λ x. s ++ (o ++ x)) (sym (parted-append true (first ∷ front) others))

verdict_members : (p3 w q p4 c : List ℕ) → p3 ++ (w ++ ((q ++ p4) ++ c)) ≡ p3 ++ ((w ++ q) ++ (p4 ++ (c ++ [])))
verdict_members p3 w q p4 c = simp append_assoc (ap (λ end. p3 ++ (w ++ (q ++ (p4 ++ end)))) (sym (append-nil c)))

pub verdict_begun : (s s1 s2 w c : List ℕ) (first : List ℕ) (front : List (List ℕ)) → s1 ≡ s ++ (codes "{" ++ parted true (first ∷ front))
    → s2 ≡ s1 ++ (codes ",\"verdict\":\"" ++ (w ++ (codes "\",\"status\":" ++ c)))
    → s2 ≡ s ++ (codes "{" ++ parted true ((first ∷ front) ++ member (codes "verdict") (quoted w) ∷ member (codes "status") c ∷ []))
verdict_begun s s1 s2 w c first front is1 is2 =
    is2 ∙ ap (λ x. x ++ (codes ",\"verdict\":\"" ++ (w ++ (codes "\",\"status\":" ++ c)))) is1
    ∙ ap (λ x. (s ++ (codes "{" ++ parted true (first ∷ front))) ++ x) (verdict_members (codes ",\"verdict\":\"") w (codes "\"") (codes ",\"status\":") c)
    ∙ behind s (codes "{") first front (member (codes "verdict") (quoted w) ∷ member (codes "status") c ∷ [])

closed : (o f p n p4 c e l : List ℕ)
    → ((o ++ f) ++ (p ++ (n ++ (p4 ++ c)))) ++ (e ++ l) ≡ (o ++ ((f ++ (p ++ (n ++ (p4 ++ (c ++ []))))) ++ e)) ++ l
closed o f p n p4 c e l = simp append_assoc refl

-- the question, and the number of its refusal
pub refused_written : (s1 s2 s3 n c first : List ℕ) (front : List (List ℕ)) → s1 ≡ codes "{" ++ parted true (first ∷ front)
    → s2 ≡ s1 ++ (codes ",\"refused\":" ++ (n ++ (codes ",\"status\":" ++ c))) → s3 ≡ s2 ++ codes "}\n"
    → s3 ≡ object_line ((first ∷ front) ++ member (codes "refused") n ∷ member (codes "status") c ∷ [])
refused_written s1 s2 s3 n c first front is1 is2 is3 =
    is3 ∙ ap (λ x. x ++ codes "}\n") (is2 ∙ ap (λ x. x ++ (codes ",\"refused\":" ++ (n ++ (codes ",\"status\":" ++ c)))) is1)
    ∙ closed (codes "{") (parted true (first ∷ front)) (codes ",\"refused\":") n (codes ",\"status\":") c (codes "}") (codes "\n")
    ∙ ap (λ members. (codes "{" ++ (members ++ codes "}")) ++ codes "\n")
    (sym (parted-append true (first ∷ front) (member (codes "refused") n ∷ member (codes "status") c ∷ [])))

whole : (o p l a r e n : List ℕ) → ((((o ++ p) ++ l) ++ a) ++ r) ++ (e ++ n) ≡ (o ++ ((p ++ (l ++ (a ++ r))) ++ e)) ++ n
whole o p l a r e n = simp append_assoc refl

-- the first members, the aliases, and what carries the verdict and explains it
pub verdict_written : (s1 s2 s3 s4 s5 a first : List ℕ) (front others : List (List ℕ)) → s1 ≡ codes "{" ++ parted true (first ∷ front)
    → s2 ≡ s1 ++ codes ",\"aliases\":" → s3 ≡ s2 ++ a → s4 ≡ s3 ++ parted false others → s5 ≡ s4 ++ codes "}\n"
    → s5 ≡ object_line ((first ∷ front) ++ member (codes "aliases") a ∷ others)
verdict_written s1 s2 s3 s4 s5 a first front others is1 is2 is3 is4 is5 =
    is5 ∙ ap (λ t. t ++ codes "}\n") (is4 ∙ ap (λ t. t ++ parted false others) (is3 ∙ ap (λ t. t ++ a) (is2 ∙ ap (λ t. t ++ codes ",\"aliases\":") is1)))
    ∙ whole (codes "{") (parted true (first ∷ front)) (codes ",\"aliases\":") a (parted false others) (codes "}") (codes "\n")
    ∙ ap (λ members. (codes "{" ++ (members ++ codes "}")) ++ codes "\n")
    (sym (parted-append true (first ∷ front) (member (codes "aliases") a ∷ others)))
