-- What is said of a question at a moment: what `check` tells of it, and the signatures by which an explanation derives it.
use Rattle.std.specs.Prelude.{◌≡◌, ◌↔◌, ℕ, List, [], ◌∷◌, ◌++◌, Contains, Some}
use Rattle.std.specs.List.Sorted.{IsStrictlySortedBy}
use Rattle.std.specs.Ordering.{nat_cmp, ordering_then}
use Rattle.std.specs.declared.cmp.Ordering.{Ordering}
use Rattle.dnsv_names.specs.Name.{Labels}
use Rattle.dnsv_canonical.specs.Rrsets.{ReceivedRrset}
use Rattle.dnsv_canonical.specs.declared.number.SignatureNumber.{SignatureNumber}
use Rattle.dnsv_chain.specs.Basis.{Basis}
use Rattle.dnsv_verdict.specs.Way.{IsRefusedFor, IsVerdictOf}
use Rattle.dnsv_verdict.specs.declared.error.VerdictError.{VerdictError}
use Rattle.dnsv_verdict.specs.declared.link.Link.{Link}
use Rattle.dnsv_verdict.specs.declared.verdict.Verdict.{Verdict}
use Rattle.dnsv_derivations.specs.intervals.Holding.{signature_shown}
use Rattle.dnsv_lines.specs.declared.line.Line.{Line}
use Rattle.dnsv_texts.specs.Told.{told_text}
use Rattle.dnsv_questions.specs.declared.format.Format.{Format}
use Rattle.dnsv_holding.specs.Derived.{AreLinksDerived, IsDerivationOf, alias_of}
use Rattle.dnsv_moments.specs.validity.Kinds.{verdict_kind}
use Rattle.dnsv_moments.specs.validity.SameValid.{at_moment}
use Rattle.dnsv_moments.specs.declared.validity.kind.Kind.{Kind}
use Rattle.dnsv_moments.specs.declared.validity.kind.Kind.TheVariants.{Refused}

-- ---- the signatures

-- by RRset, and then by signature
abbrev pub signature_cmp : SignatureNumber → SignatureNumber → Ordering
signature_cmp a b = ordering_then (nat_cmp a.rrset b.rrset) (nat_cmp a.signature b.signature)

-- a line calls the signature good
abbrev pub IsShownIn : List Line → SignatureNumber → Type 0
IsShownIn lines number = (line : Line) × Contains lines line × (signature_shown line ≡ Some number)

-- just those signatures, each once
pub record AreShownIn (lines : List Line) (by : List SignatureNumber) : Type 0 where
  pub rising : IsStrictlySortedBy signature_cmp by
  pub members : (number : SignatureNumber) → Contains by number ↔ IsShownIn lines number

-- ---- what is said

-- the kind, and the text of what carries it
pub record Told : Type 0 where
  pub kind : Kind
  pub text : List ℕ

-- of a verdict what `check` tells of it behind the question, but for the entries that are still to be verified
abbrev pub told_verdict : Format → List ReceivedRrset → List Link → Verdict → Told
told_verdict format rrsets links verdict =
    record { kind = verdict_kind verdict; text = told_text format rrsets links verdict }

-- why an alias can't be followed, which nothing carries
abbrev pub told_refusal : VerdictError → Told
told_refusal error = record { kind = Refused error; text = [] }

pub record Said : Type 0 where
  pub told : Told
  pub by : List SignatureNumber

-- a question has this verdict, and what derives it shows these signatures
pub record IsVerdictSaid (format : Format) (basis : Basis) (name : Labels) (t : ℕ) (said : Said) : Type 0 where
  pub links : List Link
  pub last : Labels
  pub verdict : Verdict
  pub is : IsVerdictOf basis name t links last verdict
  pub told : said.told ≡ told_verdict format basis.rrsets links verdict
  pub lines : List Line
  pub derived : IsDerivationOf basis t links last verdict lines
  pub by : AreShownIn lines said.by

-- it is refused so, and what derives the links and then the alias that can't be followed shows these
pub record IsRefusalSaid (basis : Basis) (name : Labels) (t : ℕ) (said : Said) : Type 0 where
  pub error : VerdictError
  pub is : IsRefusedFor basis name t error
  pub told : said.told ≡ told_refusal error
  pub lines : List Line
  pub derived : AreLinksDerived basis (is.links ++ alias_of is.last is.k is.s ∷ []) lines
  pub by : AreShownIn lines said.by

-- one of the two, at the moment of the basis, where texts have this format
pub data IsSaid (format : Format) (basis : Basis) (name : Labels) (t : ℕ) (said : Said) : Type 0 where
  a_verdict : IsVerdictSaid format basis name t said → IsSaid format basis name t said
  a_refusal : IsRefusalSaid basis name t said → IsSaid format basis name t said

-- by the same evidence, anchors and verifier at another moment
abbrev pub IsSaidAt : Format → Basis → Labels → ℕ → ℕ → Said → Type 0
IsSaidAt format basis name t moment = IsSaid format (at_moment basis moment) name t
