-- What is said of a question depends on the moment through the validity of signatures alone.
use Rattle.std.proofs.Common.{◌≡◌, ℕ, List, [], ◌∷◌, ◌++◌, refl}
use Rattle.dnsv_names.specs.Name.{Labels}
use Rattle.dnsv_canonical.specs.Rrsets.{ReceivedRrset}
use Rattle.dnsv_chain.specs.Basis.{Basis}
use Rattle.dnsv_verdict.specs.Way.{IsRefusedFor, IsStoppedAt, IsVerdictOf}
use Rattle.dnsv_verdict.specs.declared.error.VerdictError.{VerdictError}
use Rattle.dnsv_verdict.specs.declared.link.Link.{Link}
use Rattle.dnsv_verdict.specs.declared.verdict.Verdict.{Verdict}
use Rattle.dnsv_moments.specs.Dates.{AreTimesOf, times_of}
use Rattle.dnsv_timeline.specs.Timeline.{DependsOn}
use Rattle.dnsv_timeline.specs.declared.times.Times.{Times}
use Rattle.dnsv_moments.proofs.lemmas.validity.MomentLemmas.{alike_at, same_by_times}
use Rattle.dnsv_verdict.proofs.AlikeLemmas.{refused_to, verdict_of_to}
use Rattle.dnsv_moments.proofs.lemmas.validity.ToldLemmas.{derivation_of, links_derived}
use Rattle.dnsv_moments.specs.validity.Said.{IsRefusalSaid, IsSaid, IsSaidAt, IsVerdictSaid, Said}
use Rattle.dnsv_holding.specs.Derived.{alias_of}
use Rattle.dnsv_moments.specs.validity.Said.IsSaid.{a_refusal, a_verdict}
use Rattle.dnsv_moments.specs.validity.SameValid.{AreSignaturesSameValid, HaveTimes, at_moment}
use Rattle.dnsv_questions.specs.declared.format.Format.{Format}

module _ (basis : Basis) (other : ℕ) (same : AreSignaturesSameValid basis.rrsets basis.moment other) (name : Labels) (t : ℕ) where
  verdict_said : (format : Format) (said : Said) → IsVerdictSaid format basis name t said → IsVerdictSaid format (at_moment basis other) name t said
  verdict_said format said is = record {
    links = is.links;
    last = is.last;
    verdict = is.verdict;
    is = verdict_of_to basis other basis.meaning (alike_at basis other same) name t is.links is.last is.verdict is.is;
    told = is.told;
    lines = is.lines;
    derived = derivation_of basis other same t is.links is.last is.verdict is.lines is.derived;
    by = is.by;
  }

  refusal_said : (said : Said) → IsRefusalSaid basis name t said → IsRefusalSaid (at_moment basis other) name t said
  refusal_said said is = record {
    error = is.error;
    is = refused_to basis other basis.meaning (alike_at basis other same) name t is.error is.is;
    told = is.told;
    lines = is.lines;
    derived = links_derived basis other same (is.is.links ++ alias_of is.is.last is.is.k is.is.s ∷ []) is.lines is.derived;
    by = is.by;
  }

  pub said_too : (format : Format) (said : Said) → IsSaid format basis name t said → IsSaid format (at_moment basis other) name t said
  said_too format said (a_verdict is) = a_verdict (verdict_said format said is)
  said_too format said (a_refusal is) = a_refusal (refusal_said said is)

-- ---- by the times of a timeline

-- a list of the times of all signatures has those of each
pub all_have : (rrsets : List ReceivedRrset) (signatures : List Times) → AreTimesOf rrsets signatures → HaveTimes rrsets signatures
all_have rrsets signatures are rrset rrsig among its =
    (are (times_of rrsig)).1 (rrset, among, (rrsig, its.0, its.1, its.2, refl))

pub said_depends : (format : Format) (basis : Basis) (name : Labels) (t : ℕ) (signatures : List Times) → HaveTimes basis.rrsets signatures
    → DependsOn (IsSaidAt format basis name t) signatures
said_depends format basis name t signatures have moment other said same =
    said_too (at_moment basis moment) other (same_by_times basis.rrsets signatures moment other have same) name t format said

-- ---- one thing is said

-- a question has one way to one verdict
abbrev pub HasOneVerdict : Type 0
HasOneVerdict = (basis : Basis) (name : Labels) (t : ℕ) (links others : List Link) (last end : Labels) (a b : Verdict)
    → IsVerdictOf basis name t links last a → IsVerdictOf basis name t others end b → (links ≡ others) × (last ≡ end) × (a ≡ b)

-- or is refused for one reason
abbrev pub HasOneRefusal : Type 0
HasOneRefusal = (basis : Basis) (name : Labels) (t : ℕ) (a b : VerdictError) → IsRefusedFor basis name t a → IsRefusedFor basis name t b → a ≡ b

-- and never both
abbrev pub HasNotBoth : Type 0
HasNotBoth = (basis : Basis) (name : Labels) (t : ℕ) (links : List Link) (last : Labels) (verdict : Verdict) (error : VerdictError)
    → IsVerdictOf basis name t links last verdict → ¬ IsRefusedFor basis name t error

-- its way stops at one alias
abbrev pub HasOneStop : Type 0
HasOneStop = (basis : Basis) (name : Labels) (t : ℕ) (links others : List Link) (alias other : Link) (a b : VerdictError)
    → IsStoppedAt basis name t links alias a → IsStoppedAt basis name t others other b → (links ≡ others) × (alias ≡ other) × (a ≡ b)
