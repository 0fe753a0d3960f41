-- A question is refused for one reason, and never where it has a verdict; and it can't be that it has neither.
use Rattle.std.proofs.Common.{◌≡◌, ◌⊎◌, ◌+◌, ℕ, zero, suc, List, [], ◌∷◌, ◌++◌, length, refl, sym, inl, inr, ⊎_elim, subst, arith, length-append}
use Rattle.dnsv_names.specs.Name.{Labels}
use Rattle.dnsv_canonical.specs.Rrsets.{ReceivedRrset}
use Rattle.dnsv_questions.specs.Question.{IsQuestion}
use Rattle.dnsv_verdict.proofs.CaseLemmas.{one_verdict}
use Rattle.dnsv_verdict.proofs.SureLemmas.SomeVerdict.{some_verdict}
use Rattle.dnsv_verdict.proofs.SureLemmas.{Surely, surely, and_then, by_cases}
use Rattle.dnsv_verdict.proofs.WayLemmas.{GoesOn, alias_or, empty_way, ends, next, next_is_new, one_alias, one_target, way_more, ways_compared}
use Rattle.dnsv_chain.specs.Basis.{Basis}
use Rattle.dnsv_verdict.specs.Verdict.{IsVerdictAt}
use Rattle.dnsv_verdict.specs.Way.{IsAlias, IsAmong, IsRefusal, IsRefusedFor, IsStoppedAt, IsTarget, IsVerdictOf, IsWay, Stops, most_links, names_on}
use Rattle.dnsv_verdict.specs.declared.error.VerdictError.{VerdictError}
use Rattle.dnsv_verdict.specs.declared.error.VerdictError.TheVariants.{OutOfMemory, BadQuestion, AliasLoop, TooManyLinks, AliasTargets}
use Rattle.dnsv_verdict.specs.declared.link.Link.{Link}
use Rattle.dnsv_verdict.specs.declared.verdict.Verdict.{Verdict}
use Rattle.dnsv_verdict.specs.declared.verdict.Verdict.TheVariants.{SecureAlias}

-- ---- one reason

module _ (rrsets : List ReceivedRrset) (t : ℕ) (names : List Labels) (k : ℕ) where
  -- a target that is among the names isn't another that is none
  not_both_targets : {P : Type 0} (a b : Labels) → IsTarget rrsets k a → IsAmong a names → IsTarget rrsets k b → ¬ IsAmong b names → P
  not_both_targets a b p among q new = absurd (new (subst (λ n. IsAmong n names) (one_target rrsets k a b p q) among))

  one_stop : (links : ℕ) (a b : VerdictError) → Stops rrsets t names links k a → Stops rrsets t names links k b → a ≡ b
  one_stop links AliasTargets AliasTargets p q = refl
  one_stop links AliasLoop AliasLoop p q = refl
  one_stop links TooManyLinks TooManyLinks p q = refl
  one_stop links TooManyLinks BadQuestion p q = absurd (omega (arith, p.3, q.3))
  one_stop links BadQuestion TooManyLinks p q = absurd (omega (arith, p.3, q.3))
  one_stop links BadQuestion BadQuestion p q = refl
  one_stop links OutOfMemory b p q = absurd p
  one_stop links a AliasTargets p q = absurd (q p.0 p.1)
  one_stop links a OutOfMemory p q = absurd q
  one_stop links AliasTargets b p q = absurd (p q.0 q.1)
  one_stop links a AliasLoop p q = not_both_targets q.0 p.0 q.1 q.2 p.1 p.2
  one_stop links AliasLoop b p q = not_both_targets p.0 q.0 p.1 p.2 q.1 q.2

-- ---- what goes on isn't stopped

not_stopped : (basis : Basis) (name : Labels) (t : ℕ) (error : VerdictError) (links : List Link) (last : Labels)
    → (refused : IsRefusedFor basis name t error) → IsWay basis t name links last
    → ¬ GoesOn basis t refused.links refused.last links last
not_stopped basis name t AliasTargets links last refused way goes =
    let there = next basis t refused.links refused.last links last refused.k refused.s refused.is_alias goes in
    refused.stops there.target there.is_target
not_stopped basis name t AliasLoop links last refused way goes =
    let there = next basis t refused.links refused.last links last refused.k refused.s refused.is_alias goes in
    let stops = refused.stops in
    next_is_new basis t name refused.links refused.last links last refused.k way there
    (subst (λ n. IsAmong n (names_on refused.links refused.last)) (one_target basis.rrsets refused.k stops.0 there.target stops.1 there.is_target) stops.2)
not_stopped basis name t TooManyLinks links last refused way goes =
    let there = next basis t refused.links refused.last links last refused.k refused.s refused.is_alias goes in
    let stops = refused.stops in
    omega (arith, there.longer, way.few, stops.3)
not_stopped basis name t BadQuestion links last refused way goes =
    let there = next basis t refused.links refused.last links last refused.k refused.s refused.is_alias goes in
    let stops = refused.stops in
    stops.4 (subst (λ n. IsQuestion n t) (sym (one_target basis.rrsets refused.k stops.0 there.target stops.1 there.is_target)) there.is_question)
not_stopped basis name t OutOfMemory links last refused way goes = refused.stops

-- ---- one refusal

same_place : (basis : Basis) (name : Labels) (t : ℕ) (a b : VerdictError) → (p : IsRefusedFor basis name t a)
    → (q : IsRefusedFor basis name t b) → p.links ≡ q.links → p.last ≡ q.last → a ≡ b
same_place basis name t a b p q links last =
    let alias : IsVerdictAt basis p.last t (SecureAlias q.k q.s) =
    subst (λ n. IsVerdictAt basis n t (SecureAlias q.k q.s)) (sym last) q.is_alias in
    let k : q.k ≡ p.k = (one_alias basis p.last t q.k q.s p.k p.s alias p.is_alias).0 in
    let stops : Stops basis.rrsets t (names_on p.links p.last) (length p.links) p.k b =
    subst (λ n. Stops basis.rrsets t (names_on p.links p.last) (length p.links) n b) k
    (subst (λ n. Stops basis.rrsets t (names_on p.links n) (length p.links) q.k b) (sym last)
    (subst (λ (ls : List Link). Stops basis.rrsets t (names_on ls q.last) (length ls) q.k b) (sym links) q.stops)) in
    one_stop basis.rrsets t (names_on p.links p.last) p.k (length p.links) a b p.stops stops

pub one_refused_for : (basis : Basis) (name : Labels) (t : ℕ) (a b : VerdictError) → IsRefusedFor basis name t a
    → IsRefusedFor basis name t b → a ≡ b
one_refused_for basis name t a b p q =
    ⊎_elim (λ (same : (p.links ≡ q.links) × (p.last ≡ q.last)). same_place basis name t a b p q same.0 same.1)
    (λ (goes : GoesOn basis t p.links p.last q.links q.last ⊎ GoesOn basis t q.links q.last p.links p.last).
    ⊎_elim (λ (on : GoesOn basis t p.links p.last q.links q.last). absurd (not_stopped basis name t a q.links q.last p q.way on))
    (λ (on : GoesOn basis t q.links q.last p.links p.last). absurd (not_stopped basis name t b p.links p.last q p.way on)) goes)
    (ways_compared basis t name p.links p.last q.links q.last p.way q.way)

-- a question whose way stops is refused so, and where it is refused its way stops
abbrev pub refused_where_stopped : (basis : Basis) (name : Labels) (t : ℕ) (links : List Link) (alias : Link) (error : VerdictError)
    → IsStoppedAt basis name t links alias error → IsRefusedFor basis name t error
refused_where_stopped basis name t links alias error is = record {
  links = links;
  last = alias.name;
  way = is.way;
  k = alias.rrset;
  s = alias.signature;
  is_alias = is.is_alias;
  stops = is.stops;
}

pub stopped_where_refused : (basis : Basis) (name : Labels) (t : ℕ) (error : VerdictError) → (p : IsRefusedFor basis name t error)
    → IsStoppedAt basis name t p.links (record { name = p.last; rrset = p.k; signature = p.s }) error
stopped_where_refused basis name t error p = record { way = p.way; is_alias = p.is_alias; stops = p.stops }

-- a way stops at one alias
same_alias : (basis : Basis) (t : ℕ) (a b : Link) → a.name ≡ b.name → IsVerdictAt basis a.name t (SecureAlias a.rrset a.signature)
    → IsVerdictAt basis b.name t (SecureAlias b.rrset b.signature) → a ≡ b
same_alias basis t a b name p q =
    let same = one_alias basis a.name t a.rrset a.signature b.rrset b.signature p
    (subst (λ n. IsVerdictAt basis n t (SecureAlias b.rrset b.signature)) (sym name) q) in
    λ i. record { name = name i; rrset = same.0 i; signature = same.1 i }

pub one_stopped : (basis : Basis) (name : Labels) (t : ℕ) (links others : List Link) (alias other : Link) (a b : VerdictError)
    → IsStoppedAt basis name t links alias a → IsStoppedAt basis name t others other b → (links ≡ others) × (alias ≡ other) × (a ≡ b)
one_stopped basis name t links others alias other a b p q =
    let first = refused_where_stopped basis name t links alias a p in
    let second = refused_where_stopped basis name t others other b q in
    ⊎_elim (λ (same : (links ≡ others) × (alias.name ≡ other.name)). (
      same.0,
      same_alias basis t alias other same.1 p.is_alias q.is_alias,
      one_refused_for basis name t a b first second,
    ))
    (λ (goes : GoesOn basis t links alias.name others other.name ⊎ GoesOn basis t others other.name links alias.name).
    ⊎_elim (λ (on : GoesOn basis t links alias.name others other.name). absurd (not_stopped basis name t a others other.name first q.way on))
    (λ (on : GoesOn basis t others other.name links alias.name). absurd (not_stopped basis name t b links alias.name second p.way on)) goes)
    (ways_compared basis t name links alias.name others other.name p.way q.way)

pub never_both : (basis : Basis) (name : Labels) (t : ℕ) (links : List Link) (last : Labels) (verdict : Verdict) (error : VerdictError)
    → IsVerdictOf basis name t links last verdict → ¬ IsRefusedFor basis name t error
never_both basis name t links last verdict error p q =
    ⊎_elim (λ (same : (links ≡ q.links) × (last ≡ q.last)).
    let alias : IsVerdictAt basis last t (SecureAlias q.k q.s) =
    subst (λ n. IsVerdictAt basis n t (SecureAlias q.k q.s)) (sym same.1) q.is_alias in
    p.no_alias (subst (λ v. IsAlias v) (sym (one_verdict basis last t verdict (SecureAlias q.k q.s) p.is_verdict alias)) tt))
    (λ (goes : GoesOn basis t links last q.links q.last ⊎ GoesOn basis t q.links q.last links last).
    ⊎_elim (λ (on : GoesOn basis t links last q.links q.last). ends basis t links last q.links q.last verdict p.is_verdict p.no_alias on)
    (λ (on : GoesOn basis t q.links q.last links last). not_stopped basis name t error links last q p.way on) goes)
    (ways_compared basis t name links last q.links q.last p.way q.way)

-- ---- one of both

abbrev Answered : Basis → Labels → ℕ → Type 0
Answered basis name t =
    ((links : List Link) × (last : Labels) × (verdict : Verdict) × IsVerdictOf basis name t links last verdict)
    ⊎ ((error : VerdictError) × IsRefusedFor basis name t error)

module _ (basis : Basis) (name : Labels) (t : ℕ) where
  refused_there : (links : List Link) (last : Labels) (k s : ℕ) (error : VerdictError) → IsWay basis t name links last
      → IsVerdictAt basis last t (SecureAlias k s) → Stops basis.rrsets t (names_on links last) (length links) k error
      → Surely (Answered basis name t)
  refused_there links last k s error way alias stops =
      surely (inr (error, record { links = links; last = last; way = way; k = k; s = s; is_alias = alias; stops = stops }))

  -- the verdict at the last name, and what follows where it is an alias
  at_last : (links : List Link) (last : Labels) → IsWay basis t name links last
      → ((k s : ℕ) → IsVerdictAt basis last t (SecureAlias k s) → Surely (Answered basis name t)) → Surely (Answered basis name t)
  at_last links last way follow =
      and_then (some_verdict basis last t)
      (λ found. ⊎_elim (λ (alias : (k : ℕ) × (s : ℕ) × (found.0 ≡ SecureAlias k s)).
      follow alias.0 alias.1 (subst (λ v. IsVerdictAt basis last t v) alias.2 found.1))
      (λ (none : ¬ IsAlias found.0).
      surely (inl (links, last, found.0, record { way = way; is_verdict = found.1; no_alias = none })))
      (alias_or found.0))

  -- the target, and what follows where it is a new name
  at_target : (links : List Link) (last : Labels) (k s : ℕ) → IsWay basis t name links last → IsVerdictAt basis last t (SecureAlias k s)
      → ((target : Labels) → IsTarget basis.rrsets k target → ¬ IsAmong target (names_on links last) → Surely (Answered basis name t))
      → Surely (Answered basis name t)
  at_target links last k s way alias follow =
      by_cases ((target : Labels) × IsTarget basis.rrsets k target)
      (λ found. by_cases (IsAmong found.0 (names_on links last))
      (λ among. refused_there links last k s AliasLoop way alias (found.0, found.1, among))
      (λ new. follow found.0 found.1 new))
      (λ none. refused_there links last k s AliasTargets way alias (λ target is. none (target, is)))

  some_answer_from : (room : ℕ) (links : List Link) (last : Labels) → IsWay basis t name links last → length links + room ≡ most_links
      → Surely (Answered basis name t)
  some_answer_from zero links last way is =
      at_last links last way (λ k s alias. at_target links last k s way alias
      (λ target to new. refused_there links last k s TooManyLinks way alias (target, to, new, omega (arith, is))))
  some_answer_from (suc room) links last way is =
      at_last links last way (λ k s alias. at_target links last k s way alias
      (λ target to new. by_cases (IsQuestion target t)
      (λ asked. let link : Link = record { name = last; rrset = k; signature = s } in
      let count : length (links ++ link ∷ []) ≡ length links + length (link ∷ []) = length-append links (link ∷ []) in
      some_answer_from room (links ++ link ∷ []) target
      (way_more basis t name links last k s target way alias to new (omega (arith, is)) asked) (omega (arith, is, count)))
      (λ never. refused_there links last k s BadQuestion way alias (target, to, new, omega (arith, is), never))))

pub some_answer : (basis : Basis) (name : Labels) (t : ℕ) → Surely (Answered basis name t)
some_answer basis name t = some_answer_from basis name t 8 [] name (empty_way basis t name) refl

-- ---- refusals

pub bad_question : (basis : Basis) (name : Labels) (t : ℕ) (error : VerdictError) → ¬ IsQuestion name t → IsRefusal basis name t error
    → error ≡ BadQuestion
bad_question basis name t error never (inl bad) = bad.0
bad_question basis name t error never (inr stopped) = absurd (never stopped.0)

pub one_refusal : (basis : Basis) (name : Labels) (t : ℕ) (a b : VerdictError) → IsQuestion name t → IsRefusedFor basis name t a
    → IsRefusal basis name t b → a ≡ b
one_refusal basis name t a b asked is (inl bad) = absurd (bad.1 asked)
one_refusal basis name t a b asked is (inr stopped) = one_refused_for basis name t a b is stopped.1

pub no_refusal : (basis : Basis) (name : Labels) (t : ℕ) (links : List Link) (last : Labels) (verdict : Verdict) (error : VerdictError)
    → IsQuestion name t → IsVerdictOf basis name t links last verdict → ¬ IsRefusal basis name t error
no_refusal basis name t links last verdict error asked is (inl bad) = bad.1 asked
no_refusal basis name t links last verdict error asked is (inr stopped) = never_both basis name t links last verdict error is stopped.1
