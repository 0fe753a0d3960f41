-- The steps in which the object of a timeline is written.
use Rattle.std.proofs.Common.{◌≡◌, true, List, [], ◌∷◌, ◌++◌, ℕ, refl, sym, ap, ◌∙◌, append_assoc, codes}
use Rattle.std.proofs.lemmas.List.{append-nil}
use Rattle.dnsv_lines.specs.Json.{array, member, parted, quoted}
use Rattle.dnsv_lines.proofs.JsonLemmas.{parted-append}
use Rattle.dnsv_evidence_texts.specs.Json.{object_line}

-- ---- the question

question_parts : (s p n a t b f c u : List ℕ) → ((s ++ p) ++ n) ++ (a ++ (t ++ (b ++ (f ++ (c ++ u)))))
    ≡ s ++ (p ++ (n ++ (a ++ (t ++ (b ++ (f ++ (c ++ (u ++ []))))))))
question_parts s p n a t b f c u =
    simp append_assoc (ap (λ end. s ++ (p ++ (n ++ (a ++ (t ++ (b ++ (f ++ (c ++ end)))))))) (sym (append-nil u)))

pub question_begun : (s s1 s2 s3 n t f u : List ℕ) → s1 ≡ s ++ codes "{\"command\":\"timeline\",\"name\":" → s2 ≡ s1 ++ n
    → s3 ≡ s2 ++ (codes ",\"type\":" ++ (t ++ (codes ",\"from\":" ++ (f ++ (codes ",\"to\":" ++ u)))))
    → s3 ≡ s ++ (codes "{" ++ parted true (member (codes "command") (quoted (codes "timeline")) ∷ member (codes "name") n
    ∷ member (codes "type") t ∷ member (codes "from") f ∷ member (codes "to") u ∷ []))
question_begun s s1 s2 s3 n t f u is1 is2 is3 =
    is3 ∙ ap (λ x. x ++ (codes ",\"type\":" ++ (t ++ (codes ",\"from\":" ++ (f ++ (codes ",\"to\":" ++ u)))))) (is2 ∙ ap (λ x. x ++ n) is1)
    ∙ question_parts s (codes "{\"command\":\"timeline\",\"name\":") n (codes ",\"type\":") t (codes ",\"from\":") f (codes ",\"to\":") u

-- ---- the whole object

whole : (o p a i c b e d n : List ℕ) → (((((o ++ p) ++ a) ++ i) ++ (c ++ b)) ++ e) ++ (c ++ (d ++ n))
    ≡ (o ++ ((p ++ (a ++ ((i ++ c) ++ (b ++ ((e ++ c) ++ []))))) ++ d)) ++ n
whole o p a i c b e d n = simp append_assoc refl

-- the question, the intervals and the borders
pub timeline_written : (s1 s2 s3 s4 s5 s6 first : List ℕ) (front intervals edges : List (List ℕ)) → s1 ≡ codes "{" ++ parted true (first ∷ front)
    → s2 ≡ s1 ++ codes ",\"intervals\":[" → s3 ≡ s2 ++ parted true intervals → s4 ≡ s3 ++ codes "],\"edges\":["
    → s5 ≡ s4 ++ parted true edges → s6 ≡ s5 ++ codes "]}\n"
    → s6 ≡ object_line ((first ∷ front) ++ (member (codes "intervals") (array intervals) ∷ member (codes "edges") (array edges) ∷ []))
timeline_written s1 s2 s3 s4 s5 s6 first front intervals edges is1 is2 is3 is4 is5 is6 =
    is6 ∙ ap (λ x. x ++ codes "]}\n") (is5 ∙ ap (λ x. x ++ parted true edges) (is4 ∙ ap (λ x. x ++ codes "],\"edges\":[")
    (is3 ∙ ap (λ x. x ++ parted true intervals) (is2 ∙ ap (λ x. x ++ codes ",\"intervals\":[") is1))))
    ∙ whole (codes "{") (parted true (first ∷ front)) (codes ",\"intervals\":[") (parted true intervals) (codes "]") (codes ",\"edges\":[")
    (parted true edges) (codes "}") (codes "\n")
    ∙ ap (λ members. (codes "{" ++ (members ++ codes "}")) ++ codes "\n")
    (sym (parted-append true (first ∷ front) (member (codes "intervals") (array intervals) ∷ member (codes "edges") (array edges) ∷ [])))
