-- What derives a question, of a verdict or of an alias that can't be followed.
use Rattle.std.proofs.Common.{◌≡◌, ◌∙◌, ◌+◌, ℕ, List, [], ◌∷◌, ◌++◌, Err, ap, arith, get_or, length, refl, sym, subst, take}
use Rattle.std.specs.Prelude.{Result}
use Rattle.dnsv_names.specs.Name.{Labels}
use Rattle.dnsv_canonical.specs.Rrsets.{ReceivedRrset}
use Rattle.dnsv_anchors.specs.declared.anchor.Anchor.{Anchor}
use Rattle.dnsv_chain.specs.Basis.{CaseContents, IsCaseOf, Basis}
use Rattle.dnsv_verdict.specs.Way.{IsStoppedAt}
use Rattle.dnsv_verdict.specs.declared.error.VerdictError.{VerdictError}
use Rattle.dnsv_verdict.specs.declared.link.Link.{Link}
use Rattle.dnsv_verdict.specs.declared.verdict.Verdict.{Verdict}
use Rattle.dnsv_verdict.specs.declared.verdict.Verdict.TheVariants.{Bogus, Indeterminate}
use Rattle.dnsv_derivations.specs.Explained.{Explained, setting_in}
use Rattle.dnsv_derivations.specs.Saying.{Adds, AreEach}
use Rattle.dnsv_holding.specs.Derived.{AreLinksDerived, AreLinksTold, IsDerivationOf, IsDerivationTold, IsRefusalDerived}
use Rattle.dnsv_holding.specs.Explained.{explained_by}
use Rattle.dnsv_holding.specs.Holding.{IsLinkTold, IsUnproved, IsVerdictTold, IsWayTold}
use Rattle.dnsv_lines.specs.declared.line.Line.{Line}
use Rattle.dnsv_derivations.proofs.lemmas.SayingLemmas.{all_added, both_added, next_added}

-- behind no lines
pub said_first : (Says : List Line → List Line → Type 0) (old new : List Line) → old ≡ [] → Adds Says old new → Says [] new
said_first Says old new empty added =
    let all : new ≡ added.more = added.is ∙ ap (λ front. front ++ added.more) empty in
    subst (λ each. Says [] each) (sym all) (subst (λ each. Says each added.more) empty added.says)

-- ---- a verdict

module _ (explained : Explained) (t : ℕ) (links : List Link) (last : Labels) where
  links_alone : (verdict : Verdict) → IsUnproved verdict → (lines : List Line) → AreLinksTold explained links lines
      → IsDerivationTold explained t links last verdict lines
  links_alone Bogus unproved lines told = told
  links_alone Indeterminate unproved lines told = told
  links_alone verdict unproved lines told = absurd unproved

  whole_way : (verdict : Verdict) → ¬ IsUnproved verdict → (lines : List Line) → IsWayTold explained t links last verdict [] lines
      → IsDerivationTold explained t links last verdict lines
  whole_way Bogus proved lines told = absurd (proved tt)
  whole_way Indeterminate proved lines told = absurd (proved tt)
  whole_way verdict proved lines told = told

module _ (explained : Explained) (case : CaseContents) (same : explained ≡ explained_by case []) (t : ℕ) (links : List Link)
    (last : Labels) (verdict : Verdict) (old new : List Line) (empty : old ≡ []) where
  abbrev Whole : Explained → Type 0
  Whole each = IsDerivationTold each t links last verdict new

  pub links_told : IsUnproved verdict → Adds (AreEach (IsLinkTold (setting_in explained)) links) old new
      → IsDerivationTold (explained_by case []) t links last verdict new
  links_told unproved added =
      subst Whole same (links_alone explained t links last verdict unproved new
      (said_first (AreEach (IsLinkTold (setting_in explained)) links) old new empty added))

  pub way_told : (mid : List Line) → ¬ IsUnproved verdict → Adds (AreEach (IsLinkTold (setting_in explained)) links) old mid
      → Adds (IsVerdictTold explained last t verdict) mid new → IsDerivationTold (explained_by case []) t links last verdict new
  way_told mid proved front back =
      subst Whole same (whole_way explained t links last verdict proved new
      (said_first (IsWayTold explained t links last verdict) old new empty
      (both_added (AreEach (IsLinkTold (setting_in explained)) links) (IsVerdictTold explained last t verdict) old mid new front back)))

-- ---- an alias that can't be followed

front_of : (xs : List Link) (x : Link) → take (length xs) (xs ++ x ∷ []) ≡ xs
front_of [] x = refl
front_of (y ∷ xs) x = ap (λ all. y ∷ all) (front_of xs x)

behind_all : (xs : List Link) (x d : Link) → x ≡ get_or (xs ++ x ∷ []) (length xs) d
behind_all [] x d = refl
behind_all (y ∷ xs) x d = behind_all xs x d

is_last : (xs : List Link) (x : Link) → length (xs ++ x ∷ []) ≡ length xs + 1
is_last [] x = refl
is_last (y ∷ xs) x = let more = is_last xs x in omega (arith, more)

module _ (explained : Explained) (case : CaseContents) (same : explained ≡ explained_by case []) (links : List Link) (alias : Link) where
  abbrev Says : Link → List Line → List Line → Type 0
  Says = IsLinkTold (setting_in explained)

  -- its lines are behind those of the links
  pub alias_told : (old mid new : List Line) → old ≡ [] → Adds (AreEach Says links) old mid → Adds (Says alias) mid new
      → AreLinksTold (explained_by case []) (links ++ alias ∷ []) new
  alias_told old mid new empty front back =
      let all : List Link = links ++ alias ∷ [] in
      let Each : List Link → Type 0 = λ each. Adds (AreEach Says each) old mid in
      let Told : Explained → Type 0 = λ each. AreLinksTold each all new in
      let long = is_last links alias in
      let taken : Adds (AreEach Says (take (length links) all)) old mid = subst Each (sym (front_of links alias)) front in
      subst Told same (said_first (AreEach Says all) old new empty
      (all_added Says all (length links + 1) old new (omega (arith, long))
      (next_added Says all (length links) alias alias old mid new (omega (arith, long)) (behind_all links alias alias) taken back)))

-- ---- what the verifier says

module _ (basis : Basis) (case : CaseContents) (are : IsCaseOf basis case) (links : List Link) (lines : List Line) where
  -- what is derived by the case of the question is so of it
  pub links_of : AreLinksTold (explained_by case []) links lines → AreLinksDerived basis links lines
  links_of told =
      let By : List ReceivedRrset → List Anchor → Type 0 = λ rrsets anchors.
      AreLinksTold (record { rrsets = rrsets; anchors = anchors; table = case.table; todo = [] }) links lines in
      let Rrsets : List ReceivedRrset → Type 0 = λ each. By each case.anchors in
      let Anchors : List Anchor → Type 0 = λ each. By basis.rrsets each in
      record { table = case.table; of = are.table; told = subst Anchors are.anchors (subst Rrsets are.rrsets told) }

  pub derivation_by : (t : ℕ) (last : Labels) (verdict : Verdict)
      → IsDerivationTold (explained_by case []) t links last verdict lines → IsDerivationOf basis t links last verdict lines
  derivation_by t last verdict told =
      let By : List ReceivedRrset → List Anchor → Type 0 = λ rrsets anchors.
      IsDerivationTold (record { rrsets = rrsets; anchors = anchors; table = case.table; todo = [] }) t links last verdict lines in
      let Rrsets : List ReceivedRrset → Type 0 = λ each. By each case.anchors in
      let Anchors : List Anchor → Type 0 = λ each. By basis.rrsets each in
      record { table = case.table; of = are.table; told = subst Anchors are.anchors (subst Rrsets are.rrsets told) }

-- a way that stops at an alias is refused for it
pub stop_derived : (basis : Basis) (case : CaseContents) (are : IsCaseOf basis case) (name : Labels) (t : ℕ) (links : List Link)
    (alias : Link) (error : VerdictError) (lines : List Line) → IsStoppedAt basis name t links alias error
    → AreLinksTold (explained_by case []) (links ++ alias ∷ []) lines → IsRefusalDerived basis name t error lines
stop_derived basis case are name t links alias error lines stops told = record {
  is = record {
    links = links;
    last = alias.name;
    way = stops.way;
    k = alias.rrset;
    s = alias.signature;
    is_alias = stops.is_alias;
    stops = stops.stops;
  };
  derived = links_of basis case are (links ++ alias ∷ []) lines told;
}

-- an error is the same whatever else there may be in its place
pub same_error : {T U : Type 0} (error other : VerdictError) → Path (Result T VerdictError) (Err error) (Err other)
    → Path (Result U VerdictError) (Err error) (Err other)
same_error error other same =
    let is : error ≡ other = cc in
    ap (λ (each : VerdictError). Err each) is
