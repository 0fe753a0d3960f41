-- The steps in which members are written behind others.
use Rattle.std.proofs.Common.{◌≡◌, ◌<◌, ◌≤◌, ◌+◌, false, List, [], ◌∷◌, ◌++◌, ℕ, length, get_or, drop, refl, sym, ap, ◌∙◌, append_assoc, codes}
use Rattle.std.proofs.lemmas.List.{append-nil, drop_all, drop_more}
use Rattle.std.specs.List.{flat_map}
use Rattle.dnsv_lines.specs.Json.{AddsMembers, member, object, parted, quoted}
use Rattle.dnsv_lines.proofs.JsonLemmas.{parted_behind}

keyed : (s c q k v : List ℕ) → (s ++ (c ++ (q ++ k))) ++ v ≡ s ++ ((c ++ ((q ++ k) ++ v)) ++ [])
keyed s c q k v = simp append_assoc (ap (λ end. s ++ (c ++ (q ++ (k ++ end)))) (sym (append-nil v)))

-- a key, and then its value
pub one_member : (s s1 s2 key v : List ℕ) → s1 ≡ s ++ (codes "," ++ (quoted key ++ codes ":")) → s2 ≡ s1 ++ v
    → AddsMembers (member key v ∷ []) s s2
one_member s s1 s2 key v is1 is2 = record {
  text = is2 ∙ ap (λ t. t ++ v) is1 ∙ keyed s (codes ",") (quoted key) (codes ":") v;
}

pub no_members : (s : List ℕ) → AddsMembers [] s s
no_members s = record { text = sym (append-nil s) }

pub more_members : {xs ys : List (List ℕ)} {a b c : List ℕ} → AddsMembers xs a b → AddsMembers ys b c → AddsMembers (xs ++ ys) a c
more_members {xs} {ys} {a} {b} {c} first then = record {
  text = then.text ∙ ap (λ t. t ++ parted false ys) first.text ∙ append_assoc a (parted false xs) (parted false ys)
      ∙ ap (λ t. a ++ t) (sym (parted_behind xs ys));
}

written : (s a k b w c x e : List ℕ) → ((s ++ (a ++ (k ++ (b ++ (w ++ c))))) ++ x) ++ e
    ≡ s ++ (a ++ (k ++ (b ++ (w ++ (c ++ (x ++ e))))))
written s a k b w c x e = simp append_assoc refl

defined : (b q k colon w x e : List ℕ) → (b ++ (((((q ++ k) ++ q) ++ colon) ++ ((q ++ w) ++ q)) ++ x)) ++ e
    ≡ b ++ (q ++ (k ++ (q ++ (colon ++ (q ++ (w ++ (q ++ (x ++ e))))))))
defined b q k colon w x e = simp append_assoc refl

begun : (s k w x : List ℕ) → ((s ++ (codes "{\"" ++ (k ++ (codes "\":\"" ++ (w ++ codes "\""))))) ++ x) ++ codes "}"
    ≡ s ++ ((codes "{" ++ (member k (quoted w) ++ x)) ++ codes "}")
begun s k w x =
    written s (codes "{\"") k (codes "\":\"") w (codes "\"") x (codes "}")
    ∙ sym (ap (λ t. s ++ t) (defined (codes "{") (codes "\"") k (codes ":") w x (codes "}")))

-- an object that begins with the first word under its key
pub line_written : (s s1 s2 s3 k w : List ℕ) (members : List (List ℕ))
    → s1 ≡ s ++ (codes "{\"" ++ (k ++ (codes "\":\"" ++ (w ++ codes "\""))))
    → AddsMembers members s1 s2 → s3 ≡ s2 ++ codes "}" → s3 ≡ s ++ object (member k (quoted w) ∷ members)
line_written s s1 s2 s3 k w members is1 adds is3 =
    is3 ∙ ap (λ t. t ++ codes "}") (adds.text ∙ ap (λ t. t ++ parted false members) is1)
    ∙ begun s k w (parted false members)

-- what was written of lists of members and what is left are the whole
pub record Members {X : Type 0} (members : X → List (List ℕ)) (xs : List X) (done : ℕ) (before now : List ℕ) : Type 0 where
  pub whole : before ++ parted false (flat_map members xs) ≡ now ++ parted false (flat_map members (drop done xs))

pub Members-next : {X : Type 0} {members : X → List (List ℕ)} {xs : List X} {done : ℕ} {before now : List ℕ} → Members members xs done before now
    → (x : X) (after : List ℕ) → done < length xs → ((d : X) → get_or xs done d ≡ x) → AddsMembers (members x) now after
    → Members members xs (done + 1) before after
Members-next {X} {members} {xs} {done} {before} {now} so_far x after within here adds =
    let rest : List (List ℕ) = flat_map members (drop (done + 1) xs) in record {
      whole = so_far.whole
          ∙ ap (λ left. now ++ parted false (flat_map members left)) (drop_more xs done x within ∙ ap (λ y. y ∷ drop (done + 1) xs) (here x))
          ∙ ap (λ t. now ++ t) (parted_behind (members x) rest)
          ∙ sym (append_assoc now (parted false (members x)) (parted false rest))
          ∙ ap (λ t. t ++ parted false rest) (sym adds.text);
    }

pub Members-all : {X : Type 0} {members : X → List (List ℕ)} {xs : List X} {done : ℕ} {before now : List ℕ} → Members members xs done before now
    → length xs ≤ done → AddsMembers (flat_map members xs) before now
Members-all {X} {members} {xs} {done} {before} {now} so_far all = record {
  text = sym (append-nil now) ∙ ap (λ left. now ++ parted false (flat_map members left)) (sym (drop_all done xs all)) ∙ sym so_far.whole;
}
