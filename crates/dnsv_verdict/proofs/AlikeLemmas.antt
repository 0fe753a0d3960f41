-- Where the same is secured, hoped for and asked, the same verdicts stand, at a name and over aliases.
use Rattle.std.proofs.Common.{◌≡◌, ◌∙◌, ℕ, List, [], ◌∷◌, inl, inr, sym}
use Rattle.dnsv_names.specs.Name.{Labels}
use Rattle.dnsv_verifier.specs.Admissible.{IsAsked}
use Rattle.dnsv_verifier.specs.Table.{hoped_answer}
use Rattle.dnsv_verifier.specs.declared.answer.Answer.{Answer}
use Rattle.dnsv_verifier.specs.declared.entry.Entry.{Entry}
use Rattle.dnsv_chain.specs.Basis.{Basis, basis_of}
use Rattle.dnsv_chain.specs.Trusted.{IsSecured}
use Rattle.dnsv_verdict.specs.Verdict.{AreUnknown, IsSettledAsBy, IsSettledBy, IsVerdictAt, MayBeSettledBy}
use Rattle.dnsv_verdict.specs.Way.{IsRefusal, IsRefusedFor, IsVerdictOf, IsWay, LeadTo}
use Rattle.dnsv_verdict.specs.declared.error.VerdictError.{VerdictError}
use Rattle.dnsv_verdict.specs.declared.link.Link.{Link}
use Rattle.dnsv_verdict.specs.declared.verdict.Verdict.{Verdict}
use Rattle.dnsv_verdict.specs.declared.verdict.Verdict.TheVariants.{SecureAlias, Pending, Bogus, Indeterminate}
use Rattle.dnsv_verdict.proofs.SettledLemmas.{settled_as_to, settled_to}

-- with each Unknown taken as Valid
abbrev pub hoped : (Entry → Answer) → Entry → Answer
hoped meaning entry = hoped_answer (meaning entry)

-- of the same evidence and anchors, another moment and verifier secure, hope for and are asked the same
pub record AreAlike (basis : Basis) (moment : ℕ) (meaning : Entry → Answer) : Type 0 where
  pub secured_to : (k s : ℕ) → IsSecured basis.meaning basis.moment basis.rrsets basis.anchors k s
      → IsSecured meaning moment basis.rrsets basis.anchors k s
  pub secured_from : (k s : ℕ) → IsSecured meaning moment basis.rrsets basis.anchors k s
      → IsSecured basis.meaning basis.moment basis.rrsets basis.anchors k s
  pub hoped_to : (k s : ℕ) → IsSecured (hoped basis.meaning) basis.moment basis.rrsets basis.anchors k s
      → IsSecured (hoped meaning) moment basis.rrsets basis.anchors k s
  pub hoped_from : (k s : ℕ) → IsSecured (hoped meaning) moment basis.rrsets basis.anchors k s
      → IsSecured (hoped basis.meaning) basis.moment basis.rrsets basis.anchors k s
  pub asked_to : (entry : Entry) → IsAsked basis.moment basis.rrsets entry → IsAsked moment basis.rrsets entry
  pub asked_from : (entry : Entry) → IsAsked moment basis.rrsets entry → IsAsked basis.moment basis.rrsets entry
  pub answered : (entry : Entry) → IsAsked basis.moment basis.rrsets entry → basis.meaning entry ≡ meaning entry

-- the same evidence and anchors, by another moment and verifier
abbrev pub by_other : Basis → ℕ → (Entry → Answer) → Basis
by_other basis moment meaning = basis_of basis.rrsets basis.anchors moment meaning

module _ (basis : Basis) (moment : ℕ) (meaning : Entry → Answer) (alike : AreAlike basis moment meaning) where
  -- ---- verdicts

  settled_by_from : (name : Labels) (t : ℕ) → IsSettledBy (by_other basis moment meaning) name t → IsSettledBy basis name t
  settled_by_from name t =
      settled_to (IsSecured meaning moment basis.rrsets basis.anchors) (IsSecured basis.meaning basis.moment basis.rrsets basis.anchors)
      alike.secured_from basis.rrsets basis.rrsets (λ k rrset is. is) name t

  may_to : (name : Labels) (t : ℕ) → MayBeSettledBy basis name t → MayBeSettledBy (by_other basis moment meaning) name t
  may_to name t =
      settled_to (IsSecured (hoped basis.meaning) basis.moment basis.rrsets basis.anchors) (IsSecured (hoped meaning) moment basis.rrsets basis.anchors)
      alike.hoped_to basis.rrsets basis.rrsets (λ k rrset is. is) name t

  may_from : (name : Labels) (t : ℕ) → MayBeSettledBy (by_other basis moment meaning) name t → MayBeSettledBy basis name t
  may_from name t =
      settled_to (IsSecured (hoped meaning) moment basis.rrsets basis.anchors) (IsSecured (hoped basis.meaning) basis.moment basis.rrsets basis.anchors)
      alike.hoped_from basis.rrsets basis.rrsets (λ k rrset is. is) name t

  pub settled_as : (name : Labels) (t : ℕ) (verdict : Verdict) → IsSettledAsBy basis name t verdict → IsSettledAsBy (by_other basis moment meaning) name t verdict
  settled_as name t verdict = settled_as_to (IsSecured basis.meaning basis.moment basis.rrsets basis.anchors)
      (IsSecured meaning moment basis.rrsets basis.anchors) alike.secured_to alike.secured_from basis.rrsets name t verdict

  unknown_to : (entries : List Entry) → AreUnknown basis entries → AreUnknown (by_other basis moment meaning) entries
  unknown_to entries are = record {
    rising = are.rising;
    members = λ entry. (
      λ found. let is = (are.members entry).0 found in (alike.asked_to entry is.0, sym (alike.answered entry is.0) ∙ is.1),
      λ is. let asked = alike.asked_from entry is.0 in (are.members entry).1 (asked, alike.answered entry asked ∙ is.1),
    );
  }

  pub verdict_to : (name : Labels) (t : ℕ) (verdict : Verdict) → IsVerdictAt basis name t verdict → IsVerdictAt (by_other basis moment meaning) name t verdict
  verdict_to name t (Pending entries) is =
      ((λ settles. is.0 (settled_by_from name t settles)), may_to name t is.1, unknown_to entries is.2)
  verdict_to name t Bogus is =
      ((λ settles. is.0 (settled_by_from name t settles)), (λ may. is.1 (may_from name t may)), is.2)
  verdict_to name t Indeterminate is =
      ((λ settles. is.0 (settled_by_from name t settles)), (λ may. is.1 (may_from name t may)), is.2)
  verdict_to name t verdict is = settled_as name t verdict is

  -- ---- ways

  lead_to : (t : ℕ) (name : Labels) (links : List Link) (last : Labels) → LeadTo basis t name links last → LeadTo (by_other basis moment meaning) t name links last
  lead_to t name [] last leads = leads
  lead_to t name (link ∷ links) last leads =
      ((leads.0.0, verdict_to name t (SecureAlias link.rrset link.signature) leads.0.1), leads.1, leads.2, leads.3, lead_to t leads.1 links last leads.4)

  pub way_to : (t : ℕ) (name : Labels) (links : List Link) (last : Labels) → IsWay basis t name links last → IsWay (by_other basis moment meaning) t name links last
  way_to t name links last way = record { leads = lead_to t name links last way.leads; apart = way.apart; few = way.few }

  pub verdict_of_to : (name : Labels) (t : ℕ) (links : List Link) (last : Labels) (verdict : Verdict)
      → IsVerdictOf basis name t links last verdict → IsVerdictOf (by_other basis moment meaning) name t links last verdict
  verdict_of_to name t links last verdict is = record {
    way = way_to t name links last is.way;
    is_verdict = verdict_to last t verdict is.is_verdict;
    no_alias = is.no_alias;
  }

  abbrev pub refused_to : (name : Labels) (t : ℕ) (error : VerdictError) → IsRefusedFor basis name t error → IsRefusedFor (by_other basis moment meaning) name t error
  refused_to name t error is = record {
    links = is.links;
    last = is.last;
    way = way_to t name is.links is.last is.way;
    k = is.k;
    s = is.s;
    is_alias = verdict_to is.last t (SecureAlias is.k is.s) is.is_alias;
    stops = is.stops;
  }

  pub refusal_to : (name : Labels) (t : ℕ) (error : VerdictError) → IsRefusal basis name t error → IsRefusal (by_other basis moment meaning) name t error
  refusal_to name t error (inl bad) = inl bad
  refusal_to name t error (inr refused) = inr (refused.0, refused_to name t error refused.1)
