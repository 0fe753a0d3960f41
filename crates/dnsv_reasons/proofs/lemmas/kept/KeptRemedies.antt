-- What is told of a question: a name of a source's fault is a wildcard just where its words are of one.
use Rattle.std.proofs.Common.{◌≡◌, ◌⊎◌, ℕ, ◌++◌, ◌&&◌, Bool, true, false, if◌then◌else◌, List, [], ◌∷◌, Option, Some, None, flat_map, map, refl, slice_get}
use Rattle.std.specs.List.{AllByRecursion, list_any}
use Rattle.std.specs.Prelude.{⊤}
use Rattle.dnsv_canonical.specs.declared.number.RecordNumber.{RecordNumber}
use Rattle.dnsv_lines.specs.declared.line.denial.Role.TheVariants as role
use Rattle.dnsv_lines.specs.declared.line.fault.denial.WhySource.{WhySource}
use Rattle.dnsv_lines.specs.declared.line.fault.denial.WhySource.TheVariants as why
use Rattle.dnsv_lines.specs.declared.line.fault.signature.WhySignature.TheVariants as signature_why
use Rattle.dnsv_mending.specs.Faults.{answer_lines, signature_lines}
use Rattle.dnsv_mending.specs.Level.{Leveled}
use Rattle.dnsv_mending.specs.Mend.{Mended, cheapest, is_none}
use Rattle.dnsv_mending.specs.Mend as mend
use Rattle.dnsv_mending.specs.Within.{is_by, is_signer_trusted, mildest, own_lines, own_way, own_ways, unfounded, within_ways, zone_signature_ways}
use Rattle.dnsv_mending.specs.declared.facts.signature.RrsetFacts.{RrsetFacts}
use Rattle.dnsv_mending.specs.declared.facts.signature.SignatureFacts.{SignatureFacts}
use Rattle.dnsv_mending.specs.declared.facts.zone.ZoneFacts.{ZoneFacts}
use Rattle.dnsv_mending.specs.declared.price.Class.{Class}
use Rattle.dnsv_mending.specs.declared.price.Class.TheVariants as class
use Rattle.dnsv_mending.specs.declared.told.Told.{Told}
use Rattle.dnsv_mending.specs.declared.told.Told.TheVariants as told
use Rattle.dnsv_mending.proofs.AllWays.{all_append, all_flat, all_if, all_ways_of}
use Rattle.dnsv_remedies.specs.Parts.{or_missing, part, part_of_one, within_kept, zone_kept, zone_of}
use Rattle.dnsv_remedies.specs.Remedy.{Remedied, after, beside, both, ended, fails_alone, fault, following, missing, nothing, untold, unusable_line, unusable_lines, whole, with_unusable}
use Rattle.dnsv_remedies.specs.declared.facts.name.AskedName.TheVariants.{At, Wildcard}
use Rattle.dnsv_remedies.specs.declared.facts.name.UnusableFacts.{UnusableFacts}
use Rattle.dnsv_remedies.specs.declared.said.Said.{Said}
use Rattle.dnsv_remedies.specs.declared.said.Said.TheVariants as said
use Rattle.dnsv_remedies.proofs.Told.{all_after, all_beside}
use Rattle.dnsv_reasons.proofs.lemmas.kept.KeptLines.{AreHere, GoodLevel, Here, MayBeHere, good_at, here_answer, here_both, here_cheapest, here_else, here_fault, here_nothing, here_signature, here_telling, here_untold}

-- the words may be of a wildcard: of a record at it, or that none covers it
abbrev pub is_of_wildcard : WhySource → Bool
is_of_wildcard (why.Delegation n) = true
is_of_wildcard (why.TypeHeld n t) = true
is_of_wildcard why.MatchMissing = false
is_of_wildcard why.EncloserMissing = false
is_of_wildcard (why.CoverMissing role.ClosestEncloser) = false
is_of_wildcard (why.CoverMissing role.NextCloser) = false
is_of_wildcard (why.CoverMissing role.Wildcard) = true
is_of_wildcard (why.CoverMissing role.Name) = false
is_of_wildcard (why.CoverMissing role.Cut) = false

-- where the wildcard is asked about, such words are of it; elsewhere no name is a wildcard
abbrev pub Fits : List ZoneFacts → (RecordNumber → Type 0) → Bool → Said → Type 0
Fits zones Chosen wild (said.Trust line) = Here zones Chosen line
Fits zones Chosen wild (said.Source w n (At x)) = (wild ≡ false) ⊎ (is_of_wildcard w ≡ false)
Fits zones Chosen wild (said.Source w n (Wildcard x)) = (wild ≡ true) × (is_of_wildcard w ≡ true)
Fits zones Chosen wild other = ⊤

pub record AllFit (zones : List ZoneFacts) (Chosen : RecordNumber → Type 0) (wild : Bool) (m : Remedied) : Type 0 where
  pub chain : AllByRecursion (Fits zones Chosen wild) m.chain
  pub own : AllByRecursion (Fits zones Chosen wild) m.own

-- in the one way or the other
abbrev pub AllFitOne : List ZoneFacts → (RecordNumber → Type 0) → Remedied → Type 0
AllFitOne zones Chosen m = (wild : Bool) × AllFit zones Chosen wild m

module _ (zones : List ZoneFacts) (Chosen : RecordNumber → Type 0) (wild : Bool) where
  -- ---- one remedy

  trust_fits : (lines : List Told) → AllByRecursion (Here zones Chosen) lines
      → AllByRecursion (Fits zones Chosen wild) (map said.Trust lines)
  trust_fits [] all = tt
  trust_fits (line ∷ lines) all = (all.0, trust_fits lines all.1)

  whole_fits : (m : Mended) → AreHere zones Chosen m → AllFit zones Chosen wild (whole m)
  whole_fits m are = record { chain = trust_fits m.chain are.chain; own = trust_fits m.own are.own }

  pub nothing_fits : AllFit zones Chosen wild nothing
  nothing_fits = record { chain = tt; own = tt }

  pub untold_fits : (c : Class) → AllFit zones Chosen wild (untold c)
  untold_fits c = record { chain = tt; own = tt }

  pub fault_fits : (c : Class) (line : Said) → Fits zones Chosen wild line → AllFit zones Chosen wild (fault c line)
  fault_fits c line fit = record { chain = tt; own = (fit, tt) }

  pub missing_fits : (c : Class) (lines : List Said) → AllByRecursion (Fits zones Chosen wild) lines
      → AllFit zones Chosen wild (missing c lines)
  missing_fits c lines all = record { chain = tt; own = all }

  pub both_fit : (m n : Remedied) → AllFit zones Chosen wild m → AllFit zones Chosen wild n → AllFit zones Chosen wild (both m n)
  both_fit m n first second = record {
    chain = all_append (Fits zones Chosen wild) m.chain n.chain first.chain second.chain;
    own = all_append (Fits zones Chosen wild) m.own n.own first.own second.own;
  }

  following_fits : (m n : Remedied) → AllFit zones Chosen wild m → AllFit zones Chosen wild n → AllFit zones Chosen wild (following m n)
  following_fits m n first second = record {
    chain = all_append (Fits zones Chosen wild) (m.chain ++ m.own) n.chain
        (all_append (Fits zones Chosen wild) m.chain m.own first.chain first.own) second.chain;
    own = second.own;
  }

  pub after_fits : (o : Option Mended) (n : Remedied) → MayBeHere zones Chosen o → AllFit zones Chosen wild n
      → AllByRecursion (AllFitOne zones Chosen) (after o n)
  after_fits o n first second =
      all_after (AllFitOne zones Chosen) o n (λ m is. (wild, following_fits (whole m) n (whole_fits m (first m is)) second))

  pub beside_fits : (o : Option Mended) (n : Remedied) → MayBeHere zones Chosen o → AllFit zones Chosen wild n
      → AllByRecursion (AllFitOne zones Chosen) (beside o n)
  beside_fits o n first second =
      all_beside (AllFitOne zones Chosen) o n (λ m is. (wild, both_fit (whole m) n (whole_fits m (first m is)) second))

  ended_case : (line : Said) (m : Remedied) → Fits zones Chosen wild line → AllFit zones Chosen wild m → (t : Bool)
      → AllFit zones Chosen wild (if t then record m { own = m.own ++ line ∷ [] } else m)
  ended_case line m fit all true =
      record { chain = all.chain; own = all_append (Fits zones Chosen wild) m.own (line ∷ []) all.own (fit, tt) }
  ended_case line m fit all false = all

  pub ended_fits : (line : Said) (m : Remedied) → Fits zones Chosen wild line → AllFit zones Chosen wild m
      → AllFit zones Chosen wild (ended line m)
  ended_fits line m fit all = ended_case line m fit all (fails_alone m)

  pub unusable_fit : (unusable : List UnusableFacts) → AllByRecursion (Fits zones Chosen wild) (unusable_lines unusable)
  unfolding unusable_line
  unusable_fit [] = tt
  unusable_fit (u ∷ us) = (tt, unusable_fit us)

  unusable_case : (unusable : List UnusableFacts) (m : Remedied) → AllFit zones Chosen wild m → (t : Bool)
      → AllFit zones Chosen wild (if t then record m { own = unusable_lines unusable ++ m.own } else m)
  unusable_case unusable m all true = record {
    chain = all.chain;
    own = all_append (Fits zones Chosen wild) (unusable_lines unusable) m.own (unusable_fit unusable) all.own;
  }
  unusable_case unusable m all false = all

  pub with_unusable_fits : (unusable : List UnusableFacts) (m : Remedied) → AllFit zones Chosen wild m
      → AllFit zones Chosen wild (with_unusable unusable m)
  with_unusable_fits unusable m all = unusable_case unusable m all m.lacks

-- ---- RRsets of a zone that is taken as trusted

module _ (zones : List ZoneFacts) (Chosen : RecordNumber → Type 0) where
  unfounded_here : (t : Bool) (s : SignatureFacts) → AreHere zones Chosen (unfounded t s)
  unfounded_here true s =
      here_both zones Chosen (mend.fault (told.Signature signature_why.KeyUntrusted s.number)) (mend.untold class.NotFitting)
      (here_fault zones Chosen (told.Signature signature_why.KeyUntrusted s.number) tt) (here_untold zones Chosen class.NotFitting)
  unfounded_here false s = here_fault zones Chosen (told.Follows s.number) tt

  own_case : (t trusted : Bool) (s : SignatureFacts) → AreHere zones Chosen (if t then unfounded trusted s else mend.telling (own_lines s))
  own_case true trusted s = unfounded_here trusted s
  own_case false trusted s =
      here_telling zones Chosen (own_lines s)
      (here_else zones Chosen (signature_lines s) (answer_lines s.number (mildest s)) (here_signature zones Chosen s)
      (here_answer zones Chosen s.number (mildest s)))

  own_here : (levels : List Leveled) (s : SignatureFacts) → AreHere zones Chosen (own_way levels s)
  own_here levels s = own_case (is_none (own_lines s)) (is_signer_trusted (slice_get levels s.signer)) s

  own_each : (levels : List Leveled) (s : SignatureFacts) → AllByRecursion (AreHere zones Chosen) (own_ways levels s)
  unfolding own_ways
  own_each levels s = (own_here levels s, tt)

  by_zone : (levels : List Leveled) (zone : ℕ) (s : SignatureFacts)
      → AllByRecursion (AreHere zones Chosen) (zone_signature_ways levels zone s)
  unfolding zone_signature_ways
  by_zone levels zone s = all_if (AreHere zones Chosen) (is_by zone s) (own_way levels s ∷ []) [] (λ e. (own_here levels s, tt)) (λ e. tt)

  within_here : (levels : List Leveled) (zone : ℕ) (r : RrsetFacts) → AllByRecursion (AreHere zones Chosen) (within_ways levels zone r)
  within_here levels zone r =
      let signatures = r.signatures.items in
      all_if (AreHere zones Chosen) (list_any (λ (s : SignatureFacts). is_by zone s && s.is_signed) signatures) (mend.nothing ∷ []) _
      (λ is. (here_nothing zones Chosen, tt))
      (λ none. all_if (AreHere zones Chosen) (is_none signatures) (mend.fault (told.Unsigned r.number) ∷ []) _
      (λ is. (here_fault zones Chosen (told.Unsigned r.number) tt, tt))
      (λ some. all_if (AreHere zones Chosen) (list_any (is_by zone) signatures) (flat_map (zone_signature_ways levels zone) signatures)
      (flat_map (own_ways levels) signatures)
      (λ is. all_flat (AreHere zones Chosen) (zone_signature_ways levels zone) signatures (λ s among. by_zone levels zone s))
      (λ other. all_flat (AreHere zones Chosen) (own_ways levels) signatures (λ s among. own_each levels s))))

  kept_within : (levels : List Leveled) (zone : ℕ) (r : RrsetFacts) → AllByRecursion (AreHere zones Chosen) (within_kept levels zone r)
  unfolding within_kept
  kept_within levels zone r =
      all_ways_of (AreHere zones Chosen) (cheapest (within_ways levels zone r))
      (here_cheapest zones Chosen (within_ways levels zone r) (within_here levels zone r))

  or_missing_fits : (wild : Bool) (o : Option Mended) (absent : Remedied) → MayBeHere zones Chosen o → AllFit zones Chosen wild absent
      → AllFit zones Chosen wild (or_missing o absent)
  or_missing_fits wild None absent first second = second
  or_missing_fits wild (Some m) absent first second = whole_fits zones Chosen wild m (first m refl)

  pub part_fits : (wild : Bool) (levels : List Leveled) (zone : ℕ) (rrsets : List RrsetFacts) (lines : List Said)
      → AllByRecursion (Fits zones Chosen wild) lines → AllFit zones Chosen wild (part levels zone rrsets lines)
  part_fits wild levels zone rrsets lines all =
      or_missing_fits wild (cheapest (flat_map (within_kept levels zone) rrsets)) (missing class.Lacking lines)
      (here_cheapest zones Chosen (flat_map (within_kept levels zone) rrsets)
      (all_flat (AreHere zones Chosen) (within_kept levels zone) rrsets (λ r among. kept_within levels zone r)))
      (missing_fits zones Chosen wild class.Lacking lines all)

  pub part_of_one_fits : (wild : Bool) (levels : List Leveled) (zone : ℕ) (r : RrsetFacts)
      → AllFit zones Chosen wild (part_of_one levels zone r)
  part_of_one_fits wild levels zone r =
      or_missing_fits wild (cheapest (within_ways levels zone r)) (missing class.Lacking [])
      (here_cheapest zones Chosen (within_ways levels zone r) (within_here levels zone r))
      (missing_fits zones Chosen wild class.Lacking [] tt)

  -- what is kept of a zone
  zone_fits : (levels : List Leveled) → AllByRecursion (GoodLevel zones Chosen) levels → (n : ℕ) (o : Option Leveled)
      → slice_get levels n ≡ o
      → MayBeHere zones Chosen (zone_of o)
  zone_fits levels good n None at m is = cc
  zone_fits levels good n (Some level) at m is = (good_at zones Chosen levels n level good at).zone m is

  pub zone_kept_here : (levels : List Leveled) → AllByRecursion (GoodLevel zones Chosen) levels → (n : ℕ)
      → MayBeHere zones Chosen (zone_kept levels n)
  zone_kept_here levels good n = zone_fits levels good n (slice_get levels n) refl
