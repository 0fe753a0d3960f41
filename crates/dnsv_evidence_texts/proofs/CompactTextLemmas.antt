-- The steps in which a compact list is written.
use Rattle.std.proofs.Common.{◌≡◌, true, false, List, [], ◌∷◌, ◌++◌, ℕ, refl, ap, ◌∙◌, append_assoc, codes}
use Rattle.dnsv_lines.specs.Json.{array, member, object, parted}
use Rattle.dnsv_evidence_texts.specs.Json.{object_line}
use Rattle.dnsv_evidence_texts.proofs.MomentsLemmas.{of_list, with_members}

-- ---- a key

two_members : (s p a q k e : List ℕ) → ((s ++ (p ++ (a ++ q))) ++ k) ++ e ≡ s ++ ((p ++ (a ++ (q ++ (k ++ [])))) ++ e)
two_members s p a q k e = simp append_assoc refl

pub key_written : (s s1 s2 s3 a k : List ℕ) → s1 ≡ s ++ (codes "{\"algorithm\":" ++ (a ++ codes ",\"key\":")) → s2 ≡ s1 ++ k → s3 ≡ s2 ++ codes "}"
    → s3 ≡ s ++ object (member (codes "algorithm") a ∷ member (codes "key") k ∷ [])
key_written s s1 s2 s3 a k is1 is2 is3 =
    is3 ∙ ap (λ t. t ++ codes "}") (is2 ∙ ap (λ t. t ++ k) is1)
    ∙ two_members s (codes "{\"algorithm\":") a (codes ",\"key\":") k (codes "}")

-- ---- a signature

three_members : (s p n q f r o e : List ℕ)
    → ((((s ++ (p ++ (n ++ q))) ++ f) ++ r) ++ o) ++ e ≡ s ++ ((p ++ (n ++ (q ++ (f ++ (r ++ (o ++ [])))))) ++ e)
three_members s p n q f r o e = simp append_assoc refl

pub signature_written : (s s1 s2 s3 s4 s5 n f o : List ℕ) → s1 ≡ s ++ (codes "{\"signature\":" ++ (n ++ codes ",\"front\":"))
    → s2 ≡ s1 ++ f → s3 ≡ s2 ++ codes ",\"octets\":" → s4 ≡ s3 ++ o → s5 ≡ s4 ++ codes "}"
    → s5 ≡ s ++ object (member (codes "signature") n ∷ member (codes "front") f ∷ member (codes "octets") o ∷ [])
signature_written s s1 s2 s3 s4 s5 n f o is1 is2 is3 is4 is5 =
    is5 ∙ ap (λ t. t ++ codes "}") (is4 ∙ ap (λ t. t ++ o) (is3 ∙ ap (λ t. t ++ codes ",\"octets\":") (is2 ∙ ap (λ t. t ++ f) is1)))
    ∙ three_members s (codes "{\"signature\":") n (codes ",\"front\":") f (codes ",\"octets\":") o (codes "}")

-- ---- an entry

place_members : (s p k q r o n e : List ℕ)
    → s ++ (p ++ (k ++ (q ++ (r ++ (o ++ (n ++ e)))))) ≡ s ++ ((p ++ (k ++ (q ++ (r ++ (o ++ (n ++ [])))))) ++ e)
place_members s p k q r o n e = simp append_assoc refl

pub place_written : (s s1 k r n : List ℕ)
    → s1 ≡ s ++ (codes "{\"key\":" ++ (k ++ (codes ",\"rrset\":" ++ (r ++ (codes ",\"signature\":" ++ (n ++ codes "}"))))))
    → s1 ≡ s ++ object (member (codes "key") k ∷ member (codes "rrset") r ∷ member (codes "signature") n ∷ [])
place_written s s1 k r n is1 = is1 ∙ place_members s (codes "{\"key\":") k (codes ",\"rrset\":") r (codes ",\"signature\":") n (codes "}")

-- ---- an RRset

rrset_members : (s p n q o r t u d v x y e : List ℕ)
    → ((((((s ++ (p ++ (n ++ q))) ++ o) ++ (r ++ (t ++ u))) ++ d) ++ v) ++ x) ++ (y ++ e)
    ≡ s ++ ((p ++ (n ++ (q ++ (o ++ (r ++ (t ++ (u ++ (d ++ ((v ++ (x ++ y)) ++ []))))))))) ++ e)
rrset_members s p n q o r t u d v x y e = simp append_assoc refl

pub rrset_written : (s s1 s2 s3 s4 s5 s6 s7 n o t d : List ℕ) (signatures : List (List ℕ))
    → s1 ≡ s ++ (codes "{\"rrset\":" ++ (n ++ codes ",\"owner\":")) → s2 ≡ s1 ++ o → s3 ≡ s2 ++ (codes ",\"type\":" ++ (t ++ codes ",\"rdata\":"))
    → s4 ≡ s3 ++ d → s5 ≡ s4 ++ codes ",\"signatures\":[" → s6 ≡ s5 ++ parted true signatures → s7 ≡ s6 ++ codes "]}"
    → s7 ≡ s ++ object (member (codes "rrset") n ∷ member (codes "owner") o ∷ member (codes "type") t ∷ member (codes "rdata") d
    ∷ member (codes "signatures") (array signatures) ∷ [])
rrset_written s s1 s2 s3 s4 s5 s6 s7 n o t d signatures is1 is2 is3 is4 is5 is6 is7 =
    is7 ∙ ap (λ x. x ++ codes "]}") (is6 ∙ ap (λ x. x ++ parted true signatures) (is5 ∙ ap (λ x. x ++ codes ",\"signatures\":[") (is4 ∙ ap (λ x. x ++ d) (is3
    ∙ ap (λ x. x ++ (codes ",\"type\":" ++ (t ++ codes ",\"rdata\":"))) (is2 ∙ ap (λ x. x ++ o) is1)))))
    ∙ rrset_members s (codes "{\"rrset\":") n (codes ",\"owner\":") o (codes ",\"type\":") t (codes ",\"rdata\":") d (codes ",\"signatures\":[") (parted true signatures) (codes "]") (codes "}")

line_members : (s p n q o r t d e g : List ℕ)
    → (((((s ++ (p ++ (n ++ q))) ++ o) ++ (r ++ t)) ++ d) ++ e) ++ g ≡ s ++ ((p ++ n ++ q ++ o ++ r ++ t ++ d ++ e) ++ g)
line_members s p n q o r t d e g = simp append_assoc refl

-- its line, and those of its signatures
pub lines_written : (s s1 s2 s3 s4 s5 s6 n o t d g : List ℕ) → s1 ≡ s ++ (codes "rrset " ++ (n ++ codes " ")) → s2 ≡ s1 ++ o
    → s3 ≡ s2 ++ (codes " " ++ t) → s4 ≡ s3 ++ d → s5 ≡ s4 ++ codes "\n" → s6 ≡ s5 ++ g
    → s6 ≡ s ++ ((codes "rrset " ++ n ++ codes " " ++ o ++ codes " " ++ t ++ d ++ codes "\n") ++ g)
lines_written s s1 s2 s3 s4 s5 s6 n o t d g is1 is2 is3 is4 is5 is6 =
    is6 ∙ ap (λ x. x ++ g) (is5 ∙ ap (λ x. x ++ codes "\n") (is4 ∙ ap (λ x. x ++ d) (is3 ∙ ap (λ x. x ++ (codes " " ++ t)) (is2 ∙ ap (λ x. x ++ o) is1))))
    ∙ line_members s (codes "rrset ") n (codes " ") o (codes " ") t d (codes "\n") g

-- ---- the whole list

whole : (o c p q k r x b z t e l : List ℕ)
    → (((((((o ++ (c ++ p)) ++ q) ++ k) ++ r) ++ x) ++ (b ++ z)) ++ t) ++ (e ++ l)
    ≡ (o ++ ((c ++ (p ++ (q ++ (k ++ ((r ++ (x ++ b)) ++ (z ++ (t ++ []))))))) ++ e)) ++ l
whole o c p q k r x b z t e l = simp append_assoc refl

pub list_written : (s s1 s2 s3 s4 s5 s6 s7 k t : List ℕ) (moments rrsets : List (List ℕ)) → s ≡ codes "{" ++ parted true (of_list ∷ moments)
    → s1 ≡ s ++ codes ",\"keys\":" → s2 ≡ s1 ++ k → s3 ≡ s2 ++ codes ",\"rrsets\":["
    → s4 ≡ s3 ++ parted true rrsets → s5 ≡ s4 ++ codes "],\"todo\":" → s6 ≡ s5 ++ t → s7 ≡ s6 ++ codes "}\n"
    → s7 ≡ object_line (of_list ∷ moments ++ member (codes "keys") k ∷ member (codes "rrsets") (array rrsets) ∷ member (codes "todo") t ∷ [])
list_written s s1 s2 s3 s4 s5 s6 s7 k t moments rrsets is is1 is2 is3 is4 is5 is6 is7 =
    is7 ∙ ap (λ x. x ++ codes "}\n") (is6 ∙ ap (λ x. x ++ t) (is5 ∙ ap (λ x. x ++ codes "],\"todo\":") (is4 ∙ ap (λ x. x ++ parted true rrsets)
    (is3 ∙ ap (λ x. x ++ codes ",\"rrsets\":[") (is2 ∙ ap (λ x. x ++ k) (is1 ∙ ap (λ x. x ++ codes ",\"keys\":") is))))))
    ∙ whole (codes "{") of_list (parted false moments) (codes ",\"keys\":") k (codes ",\"rrsets\":[") (parted true rrsets) (codes "]") (codes ",\"todo\":") t (codes "}") (codes "\n")
    ∙ with_members moments (member (codes "keys") k ∷ member (codes "rrsets") (array rrsets) ∷ member (codes "todo") t ∷ [])
