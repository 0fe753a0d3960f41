-- Lists of lines that are all such.
use Rattle.std.proofs.Common.{◌≡◌, ◌+◌, ℕ, inl, inr, List, [], ◌∷◌, ◌++◌, map, refl, sym, subst, ⊎_elim}
use Rattle.std.proofs.lemmas.List.Elements.{Contains-append_cases}
use Rattle.std.specs.List.{Contains}
use Rattle.dnsv_canonical.specs.Rrsets.{IsNumbered}
use Rattle.dnsv_verifier.proofs.NumberLemmas.{contains_from_map}
use Rattle.dnsv_derivations.specs.Listing.{AreOfNumbered, AreWhere}
use Rattle.dnsv_lines.specs.declared.line.Line.{Line}
use Rattle.dnsv_explain_laws.proofs.holding.MemberLemmas.{first_or_rest, member_of, none_in, numbered_from}

module _ (Such : Line → Type 0) where
  abbrev pub Each : List Line → Type 0
  Each lines = (each : Line) → Contains lines each → Such each

  pub none_each : (lines : List Line) → lines ≡ [] → Each lines
  none_each lines none each there = absurd (none_in lines each none there)

  pub one_each : (this : Line) (lines : List Line) → lines ≡ this ∷ [] → Such this → Each lines
  one_each this lines is such each there =
      let In : List Line → Type 0 = λ all. Contains all each in
      ⊎_elim (λ (same : each ≡ this). subst Such (sym same) such)
      (λ (later : Contains [] each). absurd (none_in [] each refl later))
      (first_or_rest this [] each (subst In is there))

  pub both_each : (first second lines : List Line) → lines ≡ first ++ second → Each first → Each second → Each lines
  both_each first second lines parts one two each there =
      let In : List Line → Type 0 = λ all. Contains all each in
      ⊎_elim (λ (left : Contains first each). one each left) (λ (right : Contains second each). two each right)
      (Contains-append_cases first second each (subst In parts there))

  pub mapped_each : {X : Type 0} (told : X → Line) → ((x : X) → Such (told x)) → (xs : List X) (lines : List Line) → lines ≡ map told xs
      → Each lines
  mapped_each told such xs lines are each there =
      let In : List Line → Type 0 = λ all. Contains all each in
      let from = contains_from_map told xs each (subst In are there) in subst Such from.2 (such from.0)

  pub numbered_each : {X : Type 0} (Are : ℕ → X → List Line → Type 0) (xs : List X) (lines : List Line) → AreOfNumbered Are 1 xs lines
      → ((k : ℕ) (x : X) (some : List Line) → IsNumbered xs k x → Are k x some → Each some) → Each lines
  numbered_each Are xs lines are one each there =
      let m = member_of Are 1 xs lines are each there in
      one (1 + m.i) m.x m.ys (numbered_from xs m.i m.x m.at) m.are each m.there

  pub where_each : (Holds : Type 0) (Are : List Line → Type 0) (lines : List Line) → AreWhere Holds Are lines
      → (Holds → (some : List Line) → Are some → Each some) → Each lines
  where_each Holds Are lines (inl both) one = one both.0 lines both.1
  where_each Holds Are lines (inr none) one = none_each lines none.1
