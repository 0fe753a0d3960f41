-- What is told on the ways on which a signature is good and an RRset signed.
use Rattle.std.proofs.Common.{◌≡◌, ℕ, ◌++◌, Bool, true, false, if◌then◌else◌, List, [], ◌∷◌, Option, Some, None, flat_map, refl, sym, slice_get}
use Rattle.std.specs.List.{AllByRecursion}
use Rattle.dnsv_mending.specs.Faults.{answer_lines, consequence, lines_under, or_else, signature_lines, unnamed_lines}
use Rattle.dnsv_mending.specs.Level.{Held, Leveled}
use Rattle.dnsv_mending.specs.Mend.{Mended, after, both, fault, is_none, nothing, telling, untold}
use Rattle.dnsv_mending.specs.Rrset.{held_way, held_ways, rrset_ways, signature_ways, signer_ways, unheld_way, unheld_ways}
use Rattle.dnsv_mending.specs.Ways.{IsAmong}
use Rattle.dnsv_mending.specs.Zone.{is_zone_trusted}
use Rattle.dnsv_mending.specs.declared.facts.signature.NamedKey.{NamedKey}
use Rattle.dnsv_mending.specs.declared.facts.signature.RrsetFacts.{RrsetFacts}
use Rattle.dnsv_mending.specs.declared.facts.signature.SignatureFacts.{SignatureFacts}
use Rattle.dnsv_mending.specs.declared.facts.zone.ZoneFacts.{ZoneFacts}
use Rattle.dnsv_mending.specs.declared.price.Class.TheVariants as class
use Rattle.dnsv_mending.specs.declared.told.Told.{Told}
use Rattle.dnsv_mending.specs.declared.told.Told.TheVariants as told
use Rattle.dnsv_mending.proofs.AllWays.{all_after, all_append, all_flat, all_if}
use Rattle.dnsv_mending.proofs.DearLines.{no_lines}
use Rattle.dnsv_zone_faults.proofs.lemmas.zones.ClosedLemmas.{good_by}
use Rattle.dnsv_true_reasons.proofs.truths.ways.MendLines.{Kept, Lines, all_or_else, of_both, of_fault, of_following, of_telling, of_untold}
use Rattle.dnsv_true_reasons.proofs.truths.ways.MendLines as lines
use Rattle.dnsv_true_reasons.proofs.truths.ways.Told.{IsOfRrset, IsOfSignature}
use Rattle.dnsv_true_reasons.proofs.truths.ways.Told.IsOfRrset.{by_signature, unsigned}
use Rattle.dnsv_true_reasons.proofs.truths.ways.Told.IsOfSignature.{answered, follows, untrusted, wrong}
use Rattle.dnsv_true_reasons.proofs.Told.{all_from}

-- what is kept of a zone
pub record LevelOf (P : Told → Type 0) (zones : List ZoneFacts) (n : ℕ) (level : Leveled) : Type 0 where
  pub z : ZoneFacts
  pub is : slice_get zones n ≡ Some z
  pub trusted : level.is_trusted ≡ is_zone_trusted z
  pub zone : Kept P level.zone
  pub keys : (i : ℕ) (k : Held) → slice_get level.keys i ≡ Some k → Kept P k.mend

abbrev pub LevelsOf : (Told → Type 0) → List ZoneFacts → List Leveled → Type 0
LevelsOf P zones levels = (n : ℕ) (level : Leveled) → slice_get levels n ≡ Some level → LevelOf P zones n level

-- ---- the lines of a signature

module _ (P : Told → Type 0) (zones : List ZoneFacts) (s : SignatureFacts) (each : (t : Told) → IsOfSignature zones s t → P t) where
  pub all_wrong : AllByRecursion P (signature_lines s)
  all_wrong = all_from P (signature_lines s) (λ t among. each t (wrong t among))

  pub all_answered : (k : NamedKey) → IsAmong k s.keys.items → signature_lines s ≡ [] → AllByRecursion P (answer_lines s.number k.answer)
  all_answered k among clean = all_from P (answer_lines s.number k.answer) (λ t there. each t (answered k t among clean there))

  of_trust : (z : ZoneFacts) (k : NamedKey) (t : Bool) → slice_get zones s.signer ≡ Some z → is_zone_trusted z ≡ t → s.is_signed ≡ false
      → s.faults.signer ≡ false → IsAmong k s.keys.items → signature_lines s ≡ [] → answer_lines s.number k.answer ≡ []
      → P (consequence t s.number)
  of_trust z k true at trusted loose may among clean good = each _
      (untrusted z k at trusted loose may clean among (good_by k.answer s.number good))
  of_trust z k false at trusted loose may among clean good = each _ follows

  all_under : (z : ZoneFacts) (k : NamedKey) (t : Bool) → slice_get zones s.signer ≡ Some z → t ≡ is_zone_trusted z → s.is_signed ≡ false
      → s.faults.signer ≡ false → IsAmong k s.keys.items → AllByRecursion P (lines_under t s k)
  all_under z k t at trusted loose may among =
      let answers = answer_lines s.number k.answer in
      all_or_else P (or_else (signature_lines s) answers) (consequence t s.number ∷ [])
      (all_or_else P (signature_lines s) answers all_wrong (all_answered k among))
      (λ none. let both_none = lines_none none in (of_trust z k t at (sym trusted) loose may among both_none.0 both_none.1, tt))
    where
      lines_none : or_else (signature_lines s) (answer_lines s.number k.answer) ≡ []
          → (signature_lines s ≡ []) × (answer_lines s.number k.answer ≡ [])
      lines_none none = no_lines (signature_lines s) (answer_lines s.number k.answer) none

  module _ (levels : List Leveled) (are : LevelsOf P zones levels) where
    held_case : (level : Leveled) (l : LevelOf P zones s.signer level) (k : NamedKey) → IsAmong k s.keys.items → s.is_signed ≡ false
        → s.faults.signer ≡ false → (o : Option Held) → slice_get level.keys k.key ≡ o
        → AllByRecursion (Lines P) (held_way level.is_trusted s k o)
    held_case level l k among loose may None at = tt
    held_case level l k among loose may (Some kept) at =
        all_after (Lines P) kept.mend (telling (lines_under level.is_trusted s k)) (λ m is.
        of_following P m (telling (lines_under level.is_trusted s k)) (l.keys k.key kept at m is)
        (of_telling P (lines_under level.is_trusted s k) (all_under l.z k level.is_trusted l.is l.trusted loose may among)))

    unheld_case : (level : Leveled) (l : LevelOf P zones s.signer level) (k : NamedKey) → IsAmong k s.keys.items → s.is_signed ≡ false
        → s.faults.signer ≡ false → (o : Option Held) → AllByRecursion (Lines P) (unheld_way level s k o)
    unheld_case level l k among loose may None = tt
    unheld_case level l k among loose may (Some kept) =
        let under = both (telling (lines_under level.is_trusted s k)) (untold class.NotFitting) in
        all_if (Lines P) kept.is_trusted [] (after level.zone under) (λ e. tt)
        (λ e. all_after (Lines P) level.zone under (λ m is. of_following P m under (l.zone m is)
        (of_both P (telling (lines_under level.is_trusted s k)) (untold class.NotFitting)
        (of_telling P (lines_under level.is_trusted s k) (all_under l.z k level.is_trusted l.is l.trusted loose may among))
        (of_untold P class.NotFitting))))

    held_each : (level : Leveled) (l : LevelOf P zones s.signer level) → s.is_signed ≡ false → s.faults.signer ≡ false
        → (k : NamedKey) → IsAmong k s.keys.items → AllByRecursion (Lines P) (held_ways level s k)
    unfolding held_ways
    held_each level l loose may k among = held_case level l k among loose may (slice_get level.keys k.key) refl

    unheld_each : (level : Leveled) (l : LevelOf P zones s.signer level) → s.is_signed ≡ false → s.faults.signer ≡ false
        → (k : NamedKey) → IsAmong k s.keys.items → AllByRecursion (Lines P) (unheld_ways level s k)
    unfolding unheld_ways
    unheld_each level l loose may k among = unheld_case level l k among loose may (slice_get level.keys k.key)

    signer_each : s.is_signed ≡ false → s.faults.signer ≡ false → (o : Option Leveled) → slice_get levels s.signer ≡ o
        → AllByRecursion (Lines P) (signer_ways s o)
    signer_each loose may None at = tt
    signer_each loose may (Some level) at =
        let l = are s.signer level at in
        all_if (Lines P) (is_none s.keys.items) (after level.zone (telling (unnamed_lines s)))
        (flat_map (held_ways level s) s.keys.items ++ flat_map (unheld_ways level s) s.keys.items)
        (λ none. all_after (Lines P) level.zone (telling (unnamed_lines s)) (λ m is.
        of_following P m (telling (unnamed_lines s)) (l.zone m is)
        (of_telling P (unnamed_lines s) (all_or_else P (signature_lines s) (told.Follows s.number ∷ []) all_wrong
        (λ clean. (each _ follows, tt))))))
        (λ some. all_append (Lines P) (flat_map (held_ways level s) s.keys.items) (flat_map (unheld_ways level s) s.keys.items)
        (all_flat (Lines P) (held_ways level s) s.keys.items (held_each level l loose may))
        (all_flat (Lines P) (unheld_ways level s) s.keys.items (unheld_each level l loose may)))

    pub signature_each : (above : Option Mended) → Kept P above → AllByRecursion (Lines P) (signature_ways levels above s)
    unfolding signature_ways
    signature_each above kept =
        all_if (Lines P) s.is_signed (nothing ∷ [])
        (if s.faults.signer then after above (telling (signature_lines s)) else signer_ways s (slice_get levels s.signer))
        (λ e. (lines.no_lines P, tt))
        (λ loose. all_if (Lines P) s.faults.signer (after above (telling (signature_lines s))) (signer_ways s (slice_get levels s.signer))
        (λ e. all_after (Lines P) above (telling (signature_lines s)) (λ m is.
        of_following P m (telling (signature_lines s)) (kept m is) (of_telling P (signature_lines s) all_wrong)))
        (λ may. signer_each loose may (slice_get levels s.signer) refl))

-- ---- an RRset

pub rrset_each : (P : Told → Type 0) (zones : List ZoneFacts) (levels : List Leveled) → LevelsOf P zones levels → (above : Option Mended)
    → Kept P above
    → (r : RrsetFacts) → ((t : Told) → IsOfRrset zones r t → P t) → AllByRecursion (Lines P) (rrset_ways levels above r)
rrset_each P zones levels are above kept r each =
    all_if (Lines P) (is_none r.signatures.items) (after above (fault (told.Unsigned r.number)))
    (flat_map (signature_ways levels above) r.signatures.items)
    (λ none. all_after (Lines P) above (fault (told.Unsigned r.number)) (λ m is.
    of_following P m (fault (told.Unsigned r.number)) (kept m is) (of_fault P (told.Unsigned r.number) (each _ (unsigned none)))))
    (λ some. all_flat (Lines P) (signature_ways levels above) r.signatures.items
    (λ s among. signature_each P zones s (λ t of. each t (by_signature s t among of)) levels are above kept))
