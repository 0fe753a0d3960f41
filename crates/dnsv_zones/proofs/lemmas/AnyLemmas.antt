-- Some member of a list is such.
use Rattle.std.proofs.Common.{◌≡◌, List, [], ◌∷◌, refl, inl, inr, ⊎_elim, sym, subst}
use Rattle.std.specs.List.{AllByRecursion}
use Rattle.dnsv_zones.specs.Any.{Any, AreAmong}

pub any_map : {X : Type 0} (P Q : X → Type 0) (xs : List X) → ((x : X) → P x → Q x) → Any P xs → Any Q xs
any_map P Q [] f some = absurd some
any_map P Q (x ∷ xs) f some = ⊎_elim (λ (h : P x). inl (f x h)) (λ (rest : Any P xs). inr (any_map P Q xs f rest)) some

-- the member that is such
pub record Found {X : Type 0} (P : X → Type 0) (xs : List X) : Type 0 where
  pub member : X
  pub holds : P member
  pub is_there : Any (λ each. each ≡ member) xs

pub found : {X : Type 0} (P : X → Type 0) (xs : List X) → Any P xs → Found P xs
found P [] some = absurd some
found P (x ∷ xs) some =
    ⊎_elim (λ (h : P x). record { member = x; holds = h; is_there = inl refl })
    (λ (rest : Any P xs). let there = found P xs rest in record { member = there.member; holds = there.holds; is_there = inr there.is_there })
    some

-- a member that is such, where each is of some kind
pub record FoundOf {X : Type 0} (P Q : X → Type 0) : Type 0 where
  pub member : X
  pub holds : P member
  pub kind : Q member

pub found_of : {X : Type 0} (P Q : X → Type 0) (xs : List X) → AllByRecursion Q xs → Any P xs → FoundOf P Q
found_of P Q [] all some = absurd some
found_of P Q (x ∷ xs) all some =
    ⊎_elim (λ (h : P x). record { member = x; holds = h; kind = all.0 }) (λ (rest : Any P xs). found_of P Q xs all.1 rest) some

-- what is such among the few is among the many
pub any_among : {X : Type 0} (P : X → Type 0) (few many : List X) → AreAmong few many → Any P few → Any P many
any_among P [] many among some = absurd some
any_among P (x ∷ few) many among some =
    ⊎_elim (λ (here : P x). any_map (λ each. each ≡ x) P many (λ each is. subst P (sym is) here) among.0)
    (λ (rest : Any P few). any_among P few many among.1 rest) some

-- some member is such, where each is of some kind
pub any_both : {X : Type 0} (P Q : X → Type 0) (xs : List X) → AllByRecursion Q xs → Any P xs → Any (λ x. P x × Q x) xs
any_both P Q [] all some = absurd some
any_both P Q (x ∷ xs) all some =
    ⊎_elim (λ (here : P x). inl (here, all.0)) (λ (rest : Any P xs). inr (any_both P Q xs all.1 rest)) some
