-- What is told of signatures and RRsets: of zones alone that no anchor is at or above them.
use Rattle.std.proofs.Common.{◌≡◌, ℕ, zero, suc, ◌++◌, Bool, true, false, not, if◌then◌else◌, List, [], ◌∷◌, Option, Some, None, flat_map, refl, subst, slice_get}
use Rattle.std.specs.List.{AllByRecursion}
use Rattle.std.specs.Prelude.{⊤}
use Rattle.dnsv_canonical.specs.declared.number.RecordNumber.{RecordNumber}
use Rattle.dnsv_canonical.specs.declared.number.SignatureNumber.{SignatureNumber}
use Rattle.dnsv_lines.specs.declared.line.fault.signature.SignatureTimes.{SignatureTimes}
use Rattle.dnsv_lines.specs.declared.line.fault.signature.WhySignature.{WhySignature}
use Rattle.dnsv_lines.specs.declared.line.fault.signature.WhySignature.TheVariants as signature_why
use Rattle.dnsv_lines.specs.declared.line.fault.zone.WhyZone.TheVariants as why
use Rattle.dnsv_mending.specs.Faults.{answer_lines, consequence, expired_lines, fault_lines, lines_under, not_yet_lines, or_else, self_lines, signature_lines, unnamed_lines, when}
use Rattle.dnsv_mending.specs.Level.{Held, Leveled, above_from, zone_above}
use Rattle.dnsv_mending.specs.Mend.{Mended, after, both, cheapest, fault, following, is_none, nothing, telling, untold}
use Rattle.dnsv_mending.specs.Rrset.{held_way, held_ways, rrset_ways, signature_ways, signer_ways, unheld_way, unheld_ways}
use Rattle.dnsv_mending.specs.declared.facts.keys.HeldKey.{HeldKey}
use Rattle.dnsv_mending.specs.declared.facts.keys.SelfSignature.{SelfSignature}
use Rattle.dnsv_mending.specs.declared.facts.signature.KeyAnswer.{KeyAnswer}
use Rattle.dnsv_mending.specs.declared.facts.signature.KeyAnswer.TheVariants as answer
use Rattle.dnsv_mending.specs.declared.facts.signature.NamedKey.{NamedKey}
use Rattle.dnsv_mending.specs.declared.facts.signature.RrsetFacts.{RrsetFacts}
use Rattle.dnsv_mending.specs.declared.facts.signature.SignatureFacts.{SignatureFacts}
use Rattle.dnsv_mending.specs.declared.facts.signature.SignatureFaults.{SignatureFaults}
use Rattle.dnsv_mending.specs.declared.facts.zone.ZoneFacts.{ZoneFacts}
use Rattle.dnsv_mending.specs.declared.price.Class.{Class}
use Rattle.dnsv_mending.specs.declared.price.Class.TheVariants as class
use Rattle.dnsv_mending.specs.declared.told.Told.{Told}
use Rattle.dnsv_mending.specs.declared.told.Told.TheVariants as told
use Rattle.dnsv_mending.proofs.AllWays.{all_after, all_append, all_flat, all_if, of_cheapest}

-- that a zone has no anchor is so, and a key that doesn't sign its RRset is such a one
abbrev pub Here : List ZoneFacts → (RecordNumber → Type 0) → Told → Type 0
Here zones Chosen (told.Zone why.NoAnchor n) = (z : ZoneFacts) × (slice_get zones n ≡ Some z) × (z.is_anchored ≡ false)
Here zones Chosen (told.Zone why.DnskeyMissing n) = ⊤
Here zones Chosen (told.Zone why.DsMissing n) = ⊤
Here zones Chosen (told.Entry w n) = ⊤
Here zones Chosen (told.NotSelfSigned n) = Chosen n
Here zones Chosen (told.NotVouched k) = ⊤
Here zones Chosen (told.Unsigned k) = ⊤
Here zones Chosen (told.Signature w n) = ⊤
Here zones Chosen (told.Follows n) = ⊤

pub record AreHere (zones : List ZoneFacts) (Chosen : RecordNumber → Type 0) (m : Mended) : Type 0 where
  pub chain : AllByRecursion (Here zones Chosen) m.chain
  pub own : AllByRecursion (Here zones Chosen) m.own

-- a way that may not be there
abbrev pub MayBeHere : List ZoneFacts → (RecordNumber → Type 0) → Option Mended → Type 0
MayBeHere zones Chosen o = (m : Mended) → o ≡ Some m → AreHere zones Chosen m

-- what is kept of a zone
pub record GoodLevel (zones : List ZoneFacts) (Chosen : RecordNumber → Type 0) (level : Leveled) : Type 0 where
  pub zone : MayBeHere zones Chosen level.zone
  pub keys : (i : ℕ) (k : Held) → slice_get level.keys i ≡ Some k → MayBeHere zones Chosen k.mend

module _ (zones : List ZoneFacts) (Chosen : RecordNumber → Type 0) where
  -- ---- lines

  here_when : (t : Bool) (w : WhySignature) (n : SignatureNumber) → AllByRecursion (Here zones Chosen) (when t (told.Signature w n))
  here_when true w n = (tt, tt)
  here_when false w n = tt

  here_not_yet : (n : SignatureNumber) (times : Option SignatureTimes) → AllByRecursion (Here zones Chosen) (not_yet_lines n times)
  here_not_yet n None = tt
  here_not_yet n (Some times) = (tt, tt)

  here_expired : (n : SignatureNumber) (times : Option SignatureTimes) → AllByRecursion (Here zones Chosen) (expired_lines n times)
  here_expired n None = tt
  here_expired n (Some times) = (tt, tt)

  here_faults : (n : SignatureNumber) (f : SignatureFaults) → AllByRecursion (Here zones Chosen) (fault_lines n f)
  here_faults n f =
      let a = when f.labels (told.Signature signature_why.Labels n) in
      let b = when f.signer (told.Signature signature_why.Signer n) in
      let c = when f.expanded (told.Signature signature_why.Expanded n) in
      let d = when f.algorithm (told.Signature signature_why.Algorithm n) in
      let e = not_yet_lines n f.not_yet in
      all_append (Here zones Chosen) (a ++ b ++ c ++ d ++ e) (expired_lines n f.expired)
      (all_append (Here zones Chosen) (a ++ b ++ c ++ d) e
      (all_append (Here zones Chosen) (a ++ b ++ c) d
      (all_append (Here zones Chosen) (a ++ b) c
      (all_append (Here zones Chosen) a b (here_when f.labels signature_why.Labels n) (here_when f.signer signature_why.Signer n))
      (here_when f.expanded signature_why.Expanded n))
      (here_when f.algorithm signature_why.Algorithm n))
      (here_not_yet n f.not_yet))
      (here_expired n f.expired)

  pub here_signature : (s : SignatureFacts) → AllByRecursion (Here zones Chosen) (signature_lines s)
  here_signature s =
      let a = when s.key_missing (told.Signature signature_why.KeyMissing s.number) in
      all_append (Here zones Chosen) (fault_lines s.number s.faults ++ a)
      (when s.not_zone_key (told.Signature signature_why.NotZoneKey s.number))
      (all_append (Here zones Chosen) (fault_lines s.number s.faults) a (here_faults s.number s.faults)
      (here_when s.key_missing signature_why.KeyMissing s.number))
      (here_when s.not_zone_key signature_why.NotZoneKey s.number)

  pub here_answer : (n : SignatureNumber) (a : KeyAnswer) → AllByRecursion (Here zones Chosen) (answer_lines n a)
  here_answer n answer.Good = tt
  here_answer n a = (tt, tt)

  pub here_else : (lines others : List Told) → AllByRecursion (Here zones Chosen) lines → AllByRecursion (Here zones Chosen) others
      → AllByRecursion (Here zones Chosen) (or_else lines others)
  here_else [] others first second = second
  here_else (line ∷ lines) others first second = first

  here_consequence : (t : Bool) (n : SignatureNumber) → AllByRecursion (Here zones Chosen) (consequence t n ∷ [])
  here_consequence true n = (tt, tt)
  here_consequence false n = (tt, tt)

  here_unnamed : (s : SignatureFacts) → AllByRecursion (Here zones Chosen) (unnamed_lines s)
  here_unnamed s = here_else (signature_lines s) (told.Follows s.number ∷ []) (here_signature s) (tt, tt)

  here_under : (t : Bool) (s : SignatureFacts) (k : NamedKey) → AllByRecursion (Here zones Chosen) (lines_under t s k)
  here_under t s k =
      here_else (or_else (signature_lines s) (answer_lines s.number k.answer)) (consequence t s.number ∷ [])
      (here_else (signature_lines s) (answer_lines s.number k.answer) (here_signature s) (here_answer s.number k.answer))
      (here_consequence t s.number)

  pub here_self : (key : HeldKey) (s : SelfSignature) → AllByRecursion (Here zones Chosen) (self_lines key s)
  here_self key s =
      let unfit = when (not key.is_zone_key) (told.Signature signature_why.NotZoneKey s.number) in
      here_else (fault_lines s.number s.faults ++ unfit) (answer_lines s.number s.answer)
      (all_append (Here zones Chosen) (fault_lines s.number s.faults) unfit (here_faults s.number s.faults)
      (here_when (not key.is_zone_key) signature_why.NotZoneKey s.number))
      (here_answer s.number s.answer)

  -- ---- mends

  pub here_nothing : AreHere zones Chosen nothing
  here_nothing = record { chain = tt; own = tt }

  pub here_fault : (line : Told) → Here zones Chosen line → AreHere zones Chosen (fault line)
  here_fault line is = record { chain = tt; own = (is, tt) }

  pub here_untold : (c : Class) → AreHere zones Chosen (untold c)
  here_untold c = record { chain = tt; own = tt }

  pub here_telling : (lines : List Told) → AllByRecursion (Here zones Chosen) lines → AreHere zones Chosen (telling lines)
  here_telling lines all = record { chain = tt; own = all }

  pub here_both : (m n : Mended) → AreHere zones Chosen m → AreHere zones Chosen n → AreHere zones Chosen (both m n)
  here_both m n first second = record {
    chain = all_append (Here zones Chosen) m.chain n.chain first.chain second.chain;
    own = all_append (Here zones Chosen) m.own n.own first.own second.own;
  }

  pub here_following : (m n : Mended) → AreHere zones Chosen m → AreHere zones Chosen n → AreHere zones Chosen (following m n)
  here_following m n first second = record {
    chain = all_append (Here zones Chosen) (m.chain ++ m.own) n.chain
        (all_append (Here zones Chosen) m.chain m.own first.chain first.own) second.chain;
    own = second.own;
  }

  pub here_after : (o : Option Mended) (n : Mended) → MayBeHere zones Chosen o → AreHere zones Chosen n
      → AllByRecursion (AreHere zones Chosen) (after o n)
  here_after o n first second = all_after (AreHere zones Chosen) o n (λ m is. here_following m n (first m is) second)

  -- ---- what is kept of zones

  pub good_at : (levels : List Leveled) (n : ℕ) (level : Leveled) → AllByRecursion (GoodLevel zones Chosen) levels
      → slice_get levels n ≡ Some level → GoodLevel zones Chosen level
  good_at [] n level good at = cc
  good_at (first ∷ levels) zero level good at = let is : first ≡ level = cc in subst (GoodLevel zones Chosen) is good.0
  good_at (first ∷ levels) (suc n) level good at = good_at levels n level good.1 at

  either_above : (t : Bool) (its above : Option Mended) → MayBeHere zones Chosen its → MayBeHere zones Chosen above
      → MayBeHere zones Chosen (if t then its else above)
  either_above true its above first second = first
  either_above false its above first second = second

  above_good : (levels : List Leveled) (above : Option Mended) → AllByRecursion (GoodLevel zones Chosen) levels
      → MayBeHere zones Chosen above → MayBeHere zones Chosen (above_from above levels)
  above_good [] above good first = first
  above_good (level ∷ levels) above good first =
      above_good levels (if level.leads then level.zone else above) good.1 (either_above level.leads level.zone above good.0.zone first)

  none_above : MayBeHere zones Chosen (Some nothing)
  none_above m is = let same : nothing ≡ m = cc in subst (AreHere zones Chosen) same here_nothing

  pub here_above : (levels : List Leveled) → AllByRecursion (GoodLevel zones Chosen) levels → MayBeHere zones Chosen (zone_above levels)
  here_above levels good = above_good levels (Some nothing) good none_above

  -- ---- signatures and RRsets

  module _ (levels : List Leveled) (good : AllByRecursion (GoodLevel zones Chosen) levels) where
    held_case : (s : SignatureFacts) (k : NamedKey) (level : Leveled) → GoodLevel zones Chosen level → (o : Option Held)
        → slice_get level.keys k.key ≡ o
        → AllByRecursion (AreHere zones Chosen) (held_way level.is_trusted s k o)
    held_case s k level g None at = tt
    held_case s k level g (Some kept) at =
        let lines = lines_under level.is_trusted s k in
        here_after kept.mend (telling lines) (g.keys k.key kept at) (here_telling lines (here_under level.is_trusted s k))

    held_here : (s : SignatureFacts) (level : Leveled) → GoodLevel zones Chosen level → (k : NamedKey)
        → AllByRecursion (AreHere zones Chosen) (held_ways level s k)
    unfolding held_ways
    held_here s level g k = held_case s k level g (slice_get level.keys k.key) refl

    unheld_case : (s : SignatureFacts) (k : NamedKey) (level : Leveled) → GoodLevel zones Chosen level → (o : Option Held)
        → AllByRecursion (AreHere zones Chosen) (unheld_way level s k o)
    unheld_case s k level g None = tt
    unheld_case s k level g (Some kept) =
        let lines = lines_under level.is_trusted s k in
        let way = both (telling lines) (untold class.NotFitting) in
        all_if (AreHere zones Chosen) kept.is_trusted [] (after level.zone way) (λ e. tt)
        (λ e. here_after level.zone way g.zone
        (here_both (telling lines) (untold class.NotFitting) (here_telling lines (here_under level.is_trusted s k))
        (here_untold class.NotFitting)))

    unheld_here : (s : SignatureFacts) (level : Leveled) → GoodLevel zones Chosen level → (k : NamedKey)
        → AllByRecursion (AreHere zones Chosen) (unheld_ways level s k)
    unfolding unheld_ways
    unheld_here s level g k = unheld_case s k level g (slice_get level.keys k.key)

    signer_here : (s : SignatureFacts) (o : Option Leveled) → slice_get levels s.signer ≡ o
        → AllByRecursion (AreHere zones Chosen) (signer_ways s o)
    signer_here s None at = tt
    signer_here s (Some level) at =
        let g = good_at levels s.signer level good at in
        let keys = s.keys.items in
        all_if (AreHere zones Chosen) (is_none keys) (after level.zone (telling (unnamed_lines s)))
        (flat_map (held_ways level s) keys ++ flat_map (unheld_ways level s) keys)
        (λ none. here_after level.zone (telling (unnamed_lines s)) g.zone (here_telling (unnamed_lines s) (here_unnamed s)))
        (λ some. all_append (AreHere zones Chosen) (flat_map (held_ways level s) keys) (flat_map (unheld_ways level s) keys)
        (all_flat (AreHere zones Chosen) (held_ways level s) keys (λ k among. held_here s level g k))
        (all_flat (AreHere zones Chosen) (unheld_ways level s) keys (λ k among. unheld_here s level g k)))

    pub signature_here : (above : Option Mended) (s : SignatureFacts) → MayBeHere zones Chosen above
        → AllByRecursion (AreHere zones Chosen) (signature_ways levels above s)
    unfolding signature_ways
    signature_here above s first =
        let own = signature_lines s in
        all_if (AreHere zones Chosen) s.is_signed (nothing ∷ [])
        (if s.faults.signer then after above (telling own) else signer_ways s (slice_get levels s.signer))
        (λ e. (here_nothing, tt))
        (λ e. all_if (AreHere zones Chosen) s.faults.signer (after above (telling own)) (signer_ways s (slice_get levels s.signer))
        (λ foreign. here_after above (telling own) first (here_telling own (here_signature s)))
        (λ other. signer_here s (slice_get levels s.signer) refl))

    pub rrset_here : (above : Option Mended) (r : RrsetFacts) → MayBeHere zones Chosen above
        → AllByRecursion (AreHere zones Chosen) (rrset_ways levels above r)
    rrset_here above r first =
        all_if (AreHere zones Chosen) (is_none r.signatures.items) (after above (fault (told.Unsigned r.number)))
        (flat_map (signature_ways levels above) r.signatures.items)
        (λ none. here_after above (fault (told.Unsigned r.number)) first (here_fault (told.Unsigned r.number) tt))
        (λ some. all_flat (AreHere zones Chosen) (signature_ways levels above) r.signatures.items (λ s among. signature_here above s first))

  pub here_cheapest : (ms : List Mended) → AllByRecursion (AreHere zones Chosen) ms → MayBeHere zones Chosen (cheapest ms)
  here_cheapest ms all m is = of_cheapest (AreHere zones Chosen) ms m all is
