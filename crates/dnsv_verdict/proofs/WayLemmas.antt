-- Two ways from one name are one, or one goes on where the other ends; and what goes on isn't stopped.
pub mod FollowLemmas
pub mod RefusalLemmas
pub mod TargetLemmas
use Rattle.std.proofs.Common.{◌≡◌, ◌⊎◌, ◌+◌, ◌<◌, ◌≤◌, ℕ, List, [], ◌∷◌, ◌++◌, length, map, refl, sym, ap, ◌∙◌, inl, inr, ⊎_elim, subst, arith, length-append}
use Rattle.std.proofs.lemmas.List.{length-map}
use Rattle.std.specs.Prelude.{Contains}
use Rattle.dnsv_names.specs.Name.{Labels, SameName, wire}
use Rattle.dnsv_names.specs.Name.WireLaws.{wire-injective}
use Rattle.dnsv_canonical.proofs.CanonicalLemmas.{Contains-from_member, IsMember, IsMember-from_contains, canonical_unique}
use Rattle.dnsv_canonical.specs.Canonical.{IsCanonical}
use Rattle.dnsv_canonical.specs.CanonicalRdata.{canonical_form}
use Rattle.dnsv_canonical.specs.Rrsets.{ReceivedRrset}
use Rattle.dnsv_questions.specs.Question.{IsQuestion}
use Rattle.dnsv_verdict.proofs.CaseLemmas.{one_verdict, some_is_one}
use Rattle.dnsv_chain.specs.Basis.{Basis}
use Rattle.dnsv_verdict.specs.Verdict.{IsVerdictAt}
use Rattle.dnsv_verdict.specs.Way.{AreApart, IsAlias, IsAmong, IsLink, IsTarget, IsVerdictOf, IsWay, LeadTo, most_links, names_on}
use Rattle.dnsv_verdict.specs.declared.link.Link.{Link}
use Rattle.dnsv_verdict.specs.declared.verdict.Verdict.{Verdict}
use Rattle.dnsv_verdict.specs.declared.verdict.Verdict.TheVariants.{SecureAlias}

-- ---- one link, one target

alias_parts : {k s j r : ℕ} → SecureAlias k s ≡ SecureAlias j r → (k ≡ j) × (s ≡ r)
alias_parts e = (cc, cc)

pub one_alias : (basis : Basis) (name : Labels) (t k s j r : ℕ) → IsVerdictAt basis name t (SecureAlias k s)
    → IsVerdictAt basis name t (SecureAlias j r) → (k ≡ j) × (s ≡ r)
one_alias basis name t k s j r p q = alias_parts (one_verdict basis name t (SecureAlias k s) (SecureAlias j r) p q)

one_link : (basis : Basis) (name : Labels) (t : ℕ) (a b : Link) → IsLink basis name t a → IsLink basis name t b → a ≡ b
one_link basis name t a b p q =
    let same = one_alias basis name t a.rrset a.signature b.rrset b.signature p.1 q.1 in
    λ i. record { name = (p.0 ∙ sym q.0) i; rrset = same.0 i; signature = same.1 i }

head_of : {X : Type 0} {x y : X} → x ∷ [] ≡ y ∷ [] → x ≡ y
head_of e = cc

-- an RRset has at most one target
pub one_target : (rrsets : List ReceivedRrset) (k : ℕ) (a b : Labels) → IsTarget rrsets k a → IsTarget rrsets k b → a ≡ b
one_target rrsets k a b p q =
    let rrset : q.rrset ≡ p.rrset = some_is_one (sym q.is_rrset.1 ∙ p.is_rrset.1) in
    let moved : IsCanonical (map (canonical_form p.rrset.rtype) p.rrset.rdata) (wire b ∷ []) =
    subst (λ (each : ReceivedRrset). IsCanonical (map (canonical_form each.rtype) each.rdata) (wire b ∷ [])) rrset q.canonical in
    let lists : wire a ∷ [] ≡ wire b ∷ [] =
    canonical_unique (map (canonical_form p.rrset.rtype) p.rrset.rdata) (wire a ∷ []) (wire b ∷ []) p.canonical moved in
    wire-injective a b p.is_name.each q.is_name.each (head_of lists)

-- ---- names that are apart

among_end : (names : List Labels) (name other : Labels) (more : List Labels) → SameName name other
    → IsAmong name (names ++ other ∷ more)
among_end [] name other more same = inl same
among_end (each ∷ names) name other more same = inr (among_end names name other more same)

-- a name is not among those before it
apart_parts : (names : List Labels) (name : Labels) (more : List Labels) → AreApart (names ++ name ∷ more) → ¬ IsAmong name names
apart_parts [] name more apart among = among
apart_parts (each ∷ names) name more apart (inl same) = apart.0 (among_end names each name more (sym same))
apart_parts (each ∷ names) name more apart (inr later) = apart_parts names name more apart.1 later

not_at_end : (names : List Labels) (name other : Labels) → ¬ IsAmong name names → ¬ SameName name other
    → ¬ IsAmong name (names ++ other ∷ [])
not_at_end [] name other none differs (inl same) = differs same
not_at_end [] name other none differs (inr never) = never
not_at_end (each ∷ names) name other none differs (inl same) = none (inl same)
not_at_end (each ∷ names) name other none differs (inr later) =
    not_at_end names name other (λ among. none (inr among)) differs later

apart_more : (names : List Labels) (name : Labels) → AreApart names → ¬ IsAmong name names → AreApart (names ++ name ∷ [])
apart_more [] name apart new = (λ never. never, tt)
apart_more (each ∷ names) name apart new = (
  not_at_end names each name apart.0 (λ same. new (inl (sym same))),
  apart_more names name apart.1 (λ later. new (inr later)),
)

-- ---- the names of a way

-- the names up to a link's, and those behind it
pub names_behind : (links : List Link) (link : Link) (rest : List Link) (last : Labels)
    → names_on (links ++ link ∷ rest) last ≡ names_on links link.name ++ names_on rest last
names_behind [] link rest last = refl
names_behind (each ∷ links) link rest last = ap (λ names. each.name ∷ names) (names_behind links link rest last)

-- one name more than there are links
pub few_names : (links : List Link) (last : Labels) → length links ≤ most_links → length (names_on links last) ≤ 9
few_names links last few =
    let count : length (names_on links last) ≡ length (map (λ (link : Link). link.name) links) + length (last ∷ []) =
    length-append (map (λ (link : Link). link.name) links) (last ∷ []) in
    omega (arith, count, length-map links (λ (link : Link). link.name), few)

-- the name that links lead from is the first
first_name : (basis : Basis) (t : ℕ) (name : Labels) (links : List Link) (last : Labels) → LeadTo basis t name links last
    → (more : List Labels) × (names_on links last ≡ name ∷ more)
first_name basis t name [] last leads = ([], ap (λ each. each ∷ []) (sym leads))
first_name basis t name (link ∷ links) last leads = (names_on links last, ap (λ each. each ∷ names_on links last) leads.0.0)

-- a link has the name
abbrev pub HasLinkAt : List Link → Labels → Type 0
HasLinkAt links name = (link : Link) × Contains links link × SameName name link.name

pub among_last : (links : List Link) (last name : Labels) → SameName name last → IsAmong name (names_on links last)
among_last links last name same = among_end (map (λ (link : Link). link.name) links) name last [] same

among_member : (links : List Link) (last name : Labels) (link : Link) → IsMember link links → SameName name link.name
    → IsAmong name (names_on links last)
among_member [] last name link there same = absurd there
among_member (each ∷ links) last name link (inl is) same = inl (subst (λ (one : Link). SameName name one.name) is same)
among_member (each ∷ links) last name link (inr there) same = inr (among_member links last name link there same)

pub among_link : (links : List Link) (last name : Labels) → HasLinkAt links name → IsAmong name (names_on links last)
among_link links last name there = among_member links last name there.0 (IsMember-from_contains links there.0 there.1) there.2

a_member : (links : List Link) (last name : Labels) → IsAmong name (names_on links last)
    → ((link : Link) × IsMember link links × SameName name link.name) ⊎ SameName name last
a_member [] last name (inl same) = inr same
a_member [] last name (inr never) = absurd never
a_member (each ∷ links) last name (inl same) = inl (each, inl refl, same)
a_member (each ∷ links) last name (inr later) =
    ⊎_elim (λ (there : (link : Link) × IsMember link links × SameName name link.name). inl (there.0, inr there.1, there.2))
    (λ (same : SameName name last). inr same) (a_member links last name later)

pub among_split : (links : List Link) (last name : Labels) → IsAmong name (names_on links last)
    → HasLinkAt links name ⊎ SameName name last
among_split links last name among =
    ⊎_elim (λ (there : (link : Link) × IsMember link links × SameName name link.name).
    inl (there.0, Contains-from_member links there.0 there.1, there.2))
    (λ (same : SameName name last). inr same) (a_member links last name among)

-- ---- ways that go on

-- behind the first links, which lead to the name, the others have a link there
pub record GoesOn (basis : Basis) (t : ℕ) (links : List Link) (name : Labels) (others : List Link) (last : Labels) : Type 0 where
  pub link : Link
  pub rest : List Link
  pub is : others ≡ links ++ link ∷ rest
  pub leads : LeadTo basis t name (link ∷ rest) last

abbrev pub Compared : Basis → ℕ → List Link → Labels → List Link → Labels → Type 0
Compared basis t links last others end =
    ((links ≡ others) × (last ≡ end)) ⊎ GoesOn basis t links last others end ⊎ GoesOn basis t others end links last

further : (basis : Basis) (t : ℕ) (a b : Link) (links : List Link) (last : Labels) (others : List Link) (end : Labels) → a ≡ b
    → Compared basis t links last others end → Compared basis t (a ∷ links) last (b ∷ others) end
further basis t a b links last others end one (inl same) = inl (λ i. one i ∷ same.0 i, same.1)
further basis t a b links last others end one (inr (inl goes)) =
    inr (inl (record { link = goes.link; rest = goes.rest; is = λ i. sym one i ∷ goes.is i; leads = goes.leads }))
further basis t a b links last others end one (inr (inr goes)) =
    inr (inr (record { link = goes.link; rest = goes.rest; is = λ i. one i ∷ goes.is i; leads = goes.leads }))

compared : (basis : Basis) (t : ℕ) (name other : Labels) (links : List Link) (last : Labels) (others : List Link) (end : Labels)
    → name ≡ other → LeadTo basis t name links last → LeadTo basis t other others end → Compared basis t links last others end
compared basis t name other [] last [] end same p q = inl (refl, sym p ∙ same ∙ q)
compared basis t name other [] last (b ∷ others) end same p q =
    inr (inl (record { link = b; rest = others; is = refl; leads = subst (λ n. LeadTo basis t n (b ∷ others) end) (sym same ∙ p) q }))
compared basis t name other (a ∷ links) last [] end same p q =
    inr (inr (record { link = a; rest = links; is = refl; leads = subst (λ n. LeadTo basis t n (a ∷ links) last) (same ∙ q) p }))
compared basis t name other (a ∷ links) last (b ∷ others) end same p q =
    let one : a ≡ b = one_link basis name t a b p.0 (subst (λ n. IsLink basis n t b) (sym same) q.0) in
    let target : p.1 ≡ q.1 =
    one_target basis.rrsets a.rrset p.1 q.1 p.2 (subst (λ (link : Link). IsTarget basis.rrsets link.rrset q.1) (sym one) q.2) in
    further basis t a b links last others end one (compared basis t p.1 q.1 links last others end target p.4 q.4)

-- two ways from one name
pub ways_compared : (basis : Basis) (t : ℕ) (name : Labels) (links : List Link) (last : Labels) (others : List Link) (end : Labels)
    → IsWay basis t name links last → IsWay basis t name others end → Compared basis t links last others end
ways_compared basis t name links last others end p q = compared basis t name name links last others end refl p.leads q.leads

-- a verdict that is no alias ends a way
pub ends : (basis : Basis) (t : ℕ) (links : List Link) (name : Labels) (others : List Link) (last : Labels) (verdict : Verdict)
    → IsVerdictAt basis name t verdict → ¬ IsAlias verdict → ¬ GoesOn basis t links name others last
ends basis t links name others last verdict is none goes =
    let same = one_verdict basis name t verdict (SecureAlias goes.link.rrset goes.link.signature) is goes.leads.0.1 in
    none (subst (λ v. IsAlias v) (sym same) tt)

-- a question has one way to one verdict
pub one_way : (basis : Basis) (name : Labels) (t : ℕ) (links others : List Link) (last end : Labels) (a b : Verdict)
    → IsVerdictOf basis name t links last a → IsVerdictOf basis name t others end b → (links ≡ others) × (last ≡ end) × (a ≡ b)
one_way basis name t links others last end a b p q =
    ⊎_elim (λ (same : (links ≡ others) × (last ≡ end)). (
      same.0,
      same.1,
      one_verdict basis last t a b p.is_verdict (subst (λ n. IsVerdictAt basis n t b) (sym same.1) q.is_verdict),
    ))
    (λ (goes : GoesOn basis t links last others end ⊎ GoesOn basis t others end links last).
    ⊎_elim (λ (on : GoesOn basis t links last others end). absurd (ends basis t links last others end a p.is_verdict p.no_alias on))
    (λ (on : GoesOn basis t others end links last). absurd (ends basis t others end links last b q.is_verdict q.no_alias on)) goes)
    (ways_compared basis t name links last others end p.way q.way)

-- ---- where a way goes on

-- what stands behind the first links
pub record Next (basis : Basis) (t : ℕ) (links : List Link) (name : Labels) (others : List Link) (last : Labels) (k : ℕ)
    : Type 0 where
  pub target : Labels
  pub is_target : IsTarget basis.rrsets k target
  pub is_question : IsQuestion target t
  pub more : List Labels
  pub names : names_on others last ≡ names_on links name ++ target ∷ more
  pub longer : length links < length others

pub next : (basis : Basis) (t : ℕ) (links : List Link) (name : Labels) (others : List Link) (last : Labels) (k s : ℕ)
    → IsVerdictAt basis name t (SecureAlias k s) → GoesOn basis t links name others last → Next basis t links name others last k
next basis t links name others last k s alias goes =
    let step = goes.leads in
    let rrset : goes.link.rrset ≡ k = (one_alias basis name t goes.link.rrset goes.link.signature k s step.0.1 alias).0 in
    let first = first_name basis t step.1 goes.rest last step.4 in
    let count : length others ≡ length links + length (goes.link ∷ goes.rest) = ap length goes.is ∙ length-append links (goes.link ∷ goes.rest) in
    record {
      target = step.1;
      is_target = subst (λ n. IsTarget basis.rrsets n step.1) rrset step.2;
      is_question = step.3;
      more = first.0;
      names = ap (λ ls. names_on ls last) goes.is ∙ names_behind links goes.link goes.rest last
          ∙ ap (λ n. names_on links n ++ names_on goes.rest last) step.0.0 ∙ ap (λ ns. names_on links name ++ ns) first.1;
      longer = omega (arith, count);
    }

-- what comes next is none of the names before
pub next_is_new : (basis : Basis) (t : ℕ) (start : Labels) (links : List Link) (name : Labels) (others : List Link) (last : Labels) (k : ℕ)
    → IsWay basis t start others last → (there : Next basis t links name others last k) → ¬ IsAmong there.target (names_on links name)
next_is_new basis t start links name others last k way there =
    apart_parts (names_on links name) there.target there.more (subst (λ ns. AreApart ns) there.names way.apart)

-- ---- one link more

pub empty_way : (basis : Basis) (t : ℕ) (name : Labels) → IsWay basis t name [] name
empty_way basis t name = record { leads = refl; apart = (λ never. never, tt); few = omega arith }

lead_more : (basis : Basis) (t : ℕ) (name : Labels) (links : List Link) (last : Labels) (link : Link) (target : Labels)
    → LeadTo basis t name links last → IsLink basis last t link → IsTarget basis.rrsets link.rrset target → IsQuestion target t
    → LeadTo basis t name (links ++ link ∷ []) target
lead_more basis t name [] last link target leads is to asked =
    (subst (λ n. IsLink basis n t link) (sym leads) is, target, to, asked, refl)
lead_more basis t name (each ∷ links) last link target leads is to asked =
    (leads.0, leads.1, leads.2, leads.3, lead_more basis t leads.1 links last link target leads.4 is to asked)

pub way_more : (basis : Basis) (t : ℕ) (name : Labels) (links : List Link) (last : Labels) (k s : ℕ) (target : Labels)
    → IsWay basis t name links last → IsVerdictAt basis last t (SecureAlias k s) → IsTarget basis.rrsets k target
    → ¬ IsAmong target (names_on links last) → length links < most_links → IsQuestion target t
    → IsWay basis t name (links ++ (record { name = last; rrset = k; signature = s }) ∷ []) target
way_more basis t name links last k s target way alias to new few asked =
    let link : Link = record { name = last; rrset = k; signature = s } in
    let count : length (links ++ link ∷ []) ≡ length links + length (link ∷ []) = length-append links (link ∷ []) in
    record {
      leads = lead_more basis t name links last link target way.leads (refl, alias) to asked;
      apart = subst (λ ns. AreApart ns) (sym (names_behind links link [] target)) (apart_more (names_on links last) target way.apart new);
      few = omega (arith, count, few);
    }

-- the type can be asked at the last name
pub last_is_question : (basis : Basis) (t : ℕ) (name : Labels) (links : List Link) (last : Labels) → LeadTo basis t name links last
    → IsQuestion name t → IsQuestion last t
last_is_question basis t name [] last leads asked = subst (λ n. IsQuestion n t) leads asked
last_is_question basis t name (link ∷ links) last leads asked = last_is_question basis t leads.1 links last leads.4 leads.3

-- an alias, or none
pub alias_or : (verdict : Verdict) → ((k : ℕ) × (s : ℕ) × (verdict ≡ SecureAlias k s)) ⊎ (¬ IsAlias verdict)
alias_or (SecureAlias k s) = inl (k, s, refl)
alias_or verdict = inr (λ never. never)
