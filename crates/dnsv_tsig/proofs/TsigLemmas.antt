-- The RDATA of TSIG has one reading.
use Rattle.std.proofs.Common.{◌≡◌, ℕ, List, [], ◌∷◌, ◌++◌, length, take, drop, refl, sym, ap, subst, ◌∙◌, arith, length-append}
use Rattle.std.proofs.lemmas.List.{take_at, drop_at}
use Rattle.dnsv_names.specs.Octets.{number_at}
use Rattle.dnsv_names.specs.Name.WireLaws.{wire-front}
use Rattle.dnsv_message.specs.declared.record.Record.{Record}
use Rattle.dnsv_tsig.specs.Answer.{LacksTsig}
use Rattle.dnsv_tsig.specs.Tsig.{TsigFields, AreParts, IsTsig}

-- lists that begin alike, with parts of one length in front
pub same_parts : (a b x y : List ℕ) → length a ≡ length b → a ++ x ≡ b ++ y → (a ≡ b) × (x ≡ y)
same_parts a b x y size both = (
  sym (take_at a x (length a) refl) ∙ ap (take (length a)) both ∙ take_at b y (length a) (sym size),
  sym (drop_at a x (length a) refl) ∙ ap (drop (length a)) both ∙ drop_at b y (length a) (sym size),
)

-- octets have their parts in one way
pub record SameParts (before mac after other before' mac' after' other' : List ℕ) : Type 0 where
  pub before_mac : before ≡ before'
  pub macs : mac ≡ mac'
  pub after_mac : after ≡ after'
  pub others : other ≡ other'

pub one_cut : {octets before mac after other before' mac' after' other' : List ℕ} → AreParts octets before mac after other → AreParts octets before' mac' after' other' → SameParts before mac after other before' mac' after' other'
one_cut {octets} {before} {mac} {after} {other} {before'} {mac'} {after'} {other'} p q =
    let first = same_parts before before' (mac ++ (after ++ other)) (mac' ++ (after' ++ other')) (p.ten ∙ sym q.ten) (sym p.whole ∙ q.whole) in
    let second = same_parts mac mac' (after ++ other) (after' ++ other') (p.mac_size ∙ ap (λ xs. number_at xs 8 2) first.0 ∙ sym q.mac_size) first.1 in
    let third = same_parts after after' other other' (p.six ∙ sym q.six) second.1 in
    record { before_mac = first.0; macs = second.0; after_mac = third.0; others = third.1 }

-- an RDATA is at most one TSIG record's
pub one_tsig : {rdata : List ℕ} {tsig tsig' : TsigFields} → IsTsig rdata tsig → IsTsig rdata tsig' → tsig ≡ tsig'
one_tsig {rdata} {tsig} {tsig'} p q =
    let fronts = wire-front tsig.algorithm tsig'.algorithm p.behind q.behind p.name.each q.name.each (sym p.front ∙ q.front) in
    let cut = one_cut (subst (λ xs. AreParts xs p.before_mac tsig.mac p.after_mac tsig.other) fronts.1 p.parts) q.parts in
    let time_signed = p.time_signed ∙ ap (λ xs. number_at xs 0 6) cut.before_mac ∙ sym q.time_signed in
    let fudge = p.fudge ∙ ap (λ xs. number_at xs 6 2) cut.before_mac ∙ sym q.fudge in
    let original_id = p.original_id ∙ ap (λ xs. number_at xs 0 2) cut.after_mac ∙ sym q.original_id in
    let error = p.error ∙ ap (λ xs. number_at xs 2 2) cut.after_mac ∙ sym q.error in
    λ i. record { algorithm = fronts.0 i; time_signed = time_signed i; fudge = fudge i; mac = cut.macs i; original_id = original_id i; error = error i; other = cut.others i }

-- what is lacking in lists is lacking in their parts, and the other way round
pub lacks-append : (xs ys : List Record) → LacksTsig xs → LacksTsig ys → LacksTsig (xs ++ ys)
lacks-append [] ys a b = b
lacks-append (x ∷ xs) ys a b = (a.0, lacks-append xs ys a.1 b)

pub lacks-front : (xs ys : List Record) → LacksTsig (xs ++ ys) → LacksTsig xs
lacks-front [] ys all = tt
lacks-front (x ∷ xs) ys all = (all.0, lacks-front xs ys all.1)

pub lacks-back : (xs ys : List Record) → LacksTsig (xs ++ ys) → LacksTsig ys
lacks-back [] ys all = all
lacks-back (x ∷ xs) ys all = lacks-back xs ys all.1

-- lists that end with an element each are the same in their parts
pub same_ends : {X : Type 0} (xs ys : List X) (x y : X) → xs ++ x ∷ [] ≡ ys ++ y ∷ [] → (xs ≡ ys) × (x ≡ y)
same_ends [] [] x y both = (refl, cc)
same_ends [] (b ∷ ys) x y both =
    let rest : [] ≡ ys ++ y ∷ [] = cc in
    absurd (omega (arith, ap length rest, length-append ys (y ∷ [])))
same_ends (a ∷ xs) [] x y both =
    let rest : xs ++ x ∷ [] ≡ [] = cc in
    absurd (omega (arith, ap length rest, length-append xs (x ∷ [])))
same_ends (a ∷ xs) (b ∷ ys) x y both =
    let first : a ≡ b = cc in
    let rest : xs ++ x ∷ [] ≡ ys ++ y ∷ [] = cc in
    let more = same_ends xs ys x y rest in
    ((λ i. first i ∷ more.0 i), more.1)
