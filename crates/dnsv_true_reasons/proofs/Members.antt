-- Members of lists.
use Rattle.std.proofs.Common.{◌≡◌, ◌⊎◌, inl, inr, ⊎_elim, ◌++◌, List, [], ◌∷◌, map, ap}
use Rattle.dnsv_mending.specs.Ways.{IsAmong}

pub among_parts : {X : Type 0} (x : X) (xs ys : List X) → IsAmong x (xs ++ ys) → IsAmong x xs ⊎ IsAmong x ys
among_parts x [] ys among = inr among
among_parts x (z ∷ xs) ys among = ⊎_elim
    (λ (e : x ≡ z). inl (inl e))
    (λ (e : IsAmong x (xs ++ ys)). ⊎_elim (λ (l : IsAmong x xs). inl (inr l)) (λ (r : IsAmong x ys). inr r) (among_parts x xs ys e)) among

pub among_left : {X : Type 0} (x : X) (xs ys : List X) → IsAmong x xs → IsAmong x (xs ++ ys)
among_left x [] ys among = absurd among
among_left x (z ∷ xs) ys among = ⊎_elim (λ (e : x ≡ z). inl e) (λ (e : IsAmong x xs). inr (among_left x xs ys e)) among

pub among_right : {X : Type 0} (x : X) (xs ys : List X) → IsAmong x ys → IsAmong x (xs ++ ys)
among_right x [] ys among = among
among_right x (z ∷ xs) ys among = inr (among_right x xs ys among)

pub mapped_among : {X Y : Type 0} (f : X → Y) (xs : List X) (x : X) → IsAmong x xs → IsAmong (f x) (map f xs)
mapped_among f [] x among = absurd among
mapped_among f (y ∷ ys) x among = ⊎_elim (λ (e : x ≡ y). inl (ap f e)) (λ (e : IsAmong x ys). inr (mapped_among f ys x e)) among
