-- What holds of each line that may be told of a question holds of the parts of its ways.
use Rattle.std.proofs.Common.{if◌then◌else◌, ◌≡◌, ℕ, ◌+◌, ◌++◌, ◌<◌, ◌≤◌, ◌&&◌, Bool, true, false, List, [], ◌∷◌, Option, Some, None, map, flat_map, refl, slice_get}
use Rattle.std.specs.List.{AllByRecursion, list_any}
use Rattle.dnsv_canonical.specs.declared.number.RecordNumber.{RecordNumber}
use Rattle.dnsv_lines.specs.declared.line.fault.denial.WhySource.{WhySource}
use Rattle.dnsv_lines.specs.declared.line.fault.signature.WhySignature.TheVariants as signature
use Rattle.dnsv_mending.specs.Faults.{answer_lines, signature_lines}
use Rattle.dnsv_mending.specs.Level.{Leveled}
use Rattle.dnsv_mending.specs.Mend.{Mended, cheapest, is_none}
use Rattle.dnsv_mending.specs.Mend as mending
use Rattle.dnsv_mending.specs.Ways.{IsAmong}
use Rattle.dnsv_mending.specs.Within.{is_by, is_signer_trusted, mildest, own_lines, own_way, own_ways, unfounded, within_ways, zone_signature_ways}
use Rattle.dnsv_mending.specs.declared.facts.signature.RrsetFacts.{RrsetFacts}
use Rattle.dnsv_mending.specs.declared.facts.signature.SignatureFacts.{SignatureFacts}
use Rattle.dnsv_mending.specs.declared.price.Class.{Class}
use Rattle.dnsv_mending.specs.declared.price.Class.TheVariants as class
use Rattle.dnsv_mending.specs.declared.told.Told.{Told}
use Rattle.dnsv_mending.specs.declared.told.Told.TheVariants as told
use Rattle.dnsv_mending.proofs.AllWays.{all_append, all_flat, all_if, of_cheapest}
use Rattle.dnsv_mending.proofs.AllWays as mends
use Rattle.dnsv_remedies.specs.Cuts as cuts
use Rattle.dnsv_remedies.specs.Parts.{or_missing, part, part_of_one, within_kept}
use Rattle.dnsv_remedies.specs.Remedy.{Remedied, after, beside, both, ended, fails_alone, fault, following, missing, nothing, unusable_line, unusable_lines, untold, ways_of, whole, with_unusable}
use Rattle.dnsv_remedies.specs.Sources as sources
use Rattle.dnsv_remedies.specs.declared.facts.answer.AnswerSignature.{AnswerSignature}
use Rattle.dnsv_remedies.specs.declared.facts.answer.CloserFacts.{CloserFacts}
use Rattle.dnsv_remedies.specs.declared.facts.answer.GoalFacts.{GoalFacts}
use Rattle.dnsv_remedies.specs.declared.facts.cut.CutCase.{CutCase}
use Rattle.dnsv_remedies.specs.declared.facts.cut.CutCase.TheVariants as cut
use Rattle.dnsv_remedies.specs.declared.facts.cut.CutFacts.{CutFacts}
use Rattle.dnsv_remedies.specs.declared.facts.cut.CutSource.{CutSource}
use Rattle.dnsv_remedies.specs.declared.facts.cut.ParentFacts.{ParentFacts}
use Rattle.dnsv_remedies.specs.declared.facts.denial.RecordsAt.{RecordsAt}
use Rattle.dnsv_remedies.specs.declared.facts.denial.RecordsAt.TheVariants as records
use Rattle.dnsv_remedies.specs.declared.facts.denial.SourceCase.{SourceCase}
use Rattle.dnsv_remedies.specs.declared.facts.denial.SourceCase.TheVariants as case
use Rattle.dnsv_remedies.specs.declared.facts.denial.SourceFacts.{SourceFacts}
use Rattle.dnsv_remedies.specs.declared.facts.denial.SpeakerFacts.{SpeakerFacts}
use Rattle.dnsv_remedies.specs.declared.facts.denial.WildcardFacts.{WildcardFacts}
use Rattle.dnsv_remedies.specs.declared.facts.denial.WildcardFacts.TheVariants as wildcard
use Rattle.dnsv_remedies.specs.declared.facts.name.AskedName.{AskedName}
use Rattle.dnsv_remedies.specs.declared.facts.name.AskedName.TheVariants as name
use Rattle.dnsv_remedies.specs.declared.facts.name.SourceNumber.{SourceNumber}
use Rattle.dnsv_remedies.specs.declared.facts.name.UnusableFacts.{UnusableFacts}
use Rattle.dnsv_remedies.specs.declared.facts.question.DnameFacts.{DnameFacts}
use Rattle.dnsv_remedies.specs.declared.facts.question.QuestionFacts.{QuestionFacts}
use Rattle.dnsv_remedies.specs.declared.said.Said.{Said}
use Rattle.dnsv_remedies.specs.declared.said.Said.TheVariants as said
use Rattle.dnsv_remedies.proofs.Told.{all_after, all_beside}
use Rattle.dnsv_true_reasons.proofs.telling.Says.{Says, SaysIf, SaysRrset, SaysSignature, all_of_map, all_answers, all_else, all_wrong, says_both, says_fault, says_nothing, says_telling, says_untold}

-- ---- what may be told: labels are those of the name that is asked for

abbrev pub TrustOf : (Said → Type 0) → Told → Type 0
TrustOf Q t = Q (said.Trust t)

-- of some RRsets, each of which is such
abbrev pub SaysRrsets : (RrsetFacts → Type 0) → List RrsetFacts → Type 0
SaysRrsets Fit rrsets = (r : RrsetFacts) → IsAmong r rrsets → Fit r

-- of a name at or above the one that is asked for, or of a wildcard
abbrev pub IsTellable : ℕ → AskedName → Type 0
IsTellable labels (name.At c) = c ≤ labels
IsTellable labels (name.Wildcard c) = c < labels

-- of a source
abbrev pub SaysSource : (Said → Type 0) → ℕ → SourceNumber → Type 0
SaysSource Q labels n = (w : WhySource) (x : AskedName) → IsTellable labels x → Q (said.Source w n x)

abbrev pub SaysUnusable : (Said → Type 0) → List UnusableFacts → Type 0
SaysUnusable Q unusable = (u : UnusableFacts) → IsAmong u unusable → Q (said.Nsec3 u.why u.number)

abbrev pub SaysAt : (RrsetFacts → Type 0) → RecordsAt → Type 0
SaysAt Fit (records.Denying rrsets) = SaysRrsets Fit rrsets.items
SaysAt Fit (records.Holding h) = SaysRrsets Fit h.rrsets.items

abbrev pub SaysWildcard : (RrsetFacts → Type 0) → WildcardFacts → Type 0
SaysWildcard Fit wildcard.OptedOut = Unit {0}
SaysWildcard Fit (wildcard.At r) = SaysAt Fit r
SaysWildcard Fit (wildcard.Covered rrsets) = SaysRrsets Fit rrsets.items

abbrev pub SaysCase : (RrsetFacts → Type 0) → ℕ → SourceCase → Type 0
SaysCase Fit labels (case.Closed c) = (c.name ≤ labels) × Fit c.rrset
SaysCase Fit labels (case.At r) = SaysAt Fit r
SaysCase Fit labels (case.NonTerminal rrsets) = SaysRrsets Fit rrsets.items
SaysCase Fit labels (case.Encloser e) =
    (e.name < labels) × (e.next ≤ labels) × SaysRrsets Fit e.shown.items × SaysRrsets Fit e.covers.items × SaysWildcard Fit e.wildcard
SaysCase Fit labels other = Unit {0}

abbrev pub SaysCut : (RrsetFacts → Type 0) → CutCase → Type 0
SaysCut Fit (cut.Delegation rrsets) = SaysRrsets Fit rrsets.items
SaysCut Fit (cut.Signed s) = Fit s.rrset
SaysCut Fit (cut.OptOut o) = SaysRrsets Fit o.shown.items × SaysRrsets Fit o.covers.items
SaysCut Fit other = Unit {0}

-- what names no facts
pub record SaysNames (Q : Said → Type 0) (labels : ℕ) : Type 0 where
  pub missing : Q (said.AnswerMissing None)
  pub missing_of : (n : ℕ) → n ≤ labels → Q (said.AnswerMissing (Some n))
  pub unproved : (n : ℕ) → n ≤ labels → Q (said.DenialUnproved n)
  pub ds_unproved : (n c : ℕ) → n ≤ labels → c ≤ labels → Q (said.DsUnproved (record { zone = n; name = c }))
  pub dname_held : (n : ℕ) (number : RecordNumber) → n ≤ labels → Q (said.DnameHeld n number)

pub record SaysCloser (Q : Said → Type 0) (Fit : RrsetFacts → Type 0) (s : SignatureFacts) (c : CloserFacts) : Type 0 where
  pub itself : Q (said.NoCloser s.number c.name)
  pub covers : SaysRrsets Fit c.covers.items
  pub unusable : SaysUnusable Q c.unusable.items

pub record SaysGoal (Q : Said → Type 0) (Fit : RrsetFacts → Type 0) (g : GoalFacts) : Type 0 where
  pub unsigned : Q (said.Trust (told.Unsigned g.number))
  pub signatures : (s : AnswerSignature) → IsAmong s g.signatures.items → SaysSignature (TrustOf Q) s.signature.number
  pub closers : (s : AnswerSignature) (c : CloserFacts) → IsAmong s g.signatures.items → s.closer ≡ Some c → SaysCloser Q Fit s.signature c

pub record SaysSpeaker (Q : Said → Type 0) (Fit : RrsetFacts → Type 0) (labels : ℕ) (z : SpeakerFacts) : Type 0 where
  pub within : z.labels ≤ labels
  pub sources : (s : SourceFacts) → IsAmong s z.sources.items → SaysSource Q labels (sources.number_of z.labels s)
  pub cases : (s : SourceFacts) → IsAmong s z.sources.items → SaysCase Fit labels s.case
  pub unusable : SaysUnusable Q z.unusable.items

pub record SaysParent (Q : Said → Type 0) (Fit : RrsetFacts → Type 0) (labels : ℕ) (z : ParentFacts) : Type 0 where
  pub within : z.labels ≤ labels
  pub names : (c : CutFacts) → IsAmong c z.cuts.items → c.name ≤ labels
  pub sources : (c : CutFacts) (s : CutSource) → IsAmong c z.cuts.items → IsAmong s c.sources.items → SaysSource Q labels (cuts.number_of z.labels s)
  pub cases : (c : CutFacts) (s : CutSource) → IsAmong c z.cuts.items → IsAmong s c.sources.items → SaysCut Fit s.case
  pub unusable : SaysUnusable Q z.unusable.items

pub record SaysAll (Q : Said → Type 0) (Fit : RrsetFacts → Type 0) (q : QuestionFacts) : Type 0 where
  pub names : SaysNames Q q.labels
  pub goals : (g : GoalFacts) → IsAmong g q.goals.items → SaysGoal Q Fit g
  pub dnames : (d : DnameFacts) → IsAmong d q.dnames.items → Q (said.Dname d)
  pub speakers : (z : SpeakerFacts) → IsAmong z q.speakers.items → SaysSpeaker Q Fit q.labels z
  pub parents : (z : ParentFacts) → IsAmong z q.parents.items → SaysParent Q Fit q.labels z

-- so it is of all lines of a way
pub record Tells (Q : Said → Type 0) (m : Remedied) : Type 0 where
  pub chain : AllByRecursion Q m.chain
  pub own : AllByRecursion Q m.own

module _ (Q : Said → Type 0) where
  -- ---- ways

  pub tells_nothing : Tells Q nothing
  tells_nothing = record { chain = tt; own = tt }

  all_trust : (lines : List Told) → AllByRecursion (TrustOf Q) lines → AllByRecursion Q (map said.Trust lines)
  all_trust [] all = tt
  all_trust (line ∷ lines) all = (all.0, all_trust lines all.1)

  pub tells_whole : (m : Mended) → Says (TrustOf Q) m → Tells Q (whole m)
  tells_whole m s = record { chain = all_trust m.chain s.chain; own = all_trust m.own s.own }

  pub tells_missing : (c : Class) (lines : List Said) → AllByRecursion Q lines → Tells Q (missing c lines)
  tells_missing c lines h = record { chain = tt; own = h }

  pub tells_fault : (c : Class) (line : Said) → Q line → Tells Q (fault c line)
  tells_fault c line h = record { chain = tt; own = (h, tt) }

  pub tells_untold : (c : Class) → Tells Q (untold c)
  tells_untold c = record { chain = tt; own = tt }

  pub tells_both : (m n : Remedied) → Tells Q m → Tells Q n → Tells Q (both m n)
  tells_both m n a b = record { chain = all_append Q m.chain n.chain a.chain b.chain; own = all_append Q m.own n.own a.own b.own }

  pub tells_following : (m n : Remedied) → Tells Q m → Tells Q n → Tells Q (following m n)
  tells_following m n a b = record {
    chain = all_append Q (m.chain ++ m.own) n.chain (all_append Q m.chain m.own a.chain a.own) b.chain;
    own = b.own;
  }

  pub tells_after : (o : Option Mended) (n : Remedied) → SaysIf (TrustOf Q) o → Tells Q n → AllByRecursion (Tells Q) (after o n)
  tells_after o n a b = all_after (Tells Q) o n (λ m is. tells_following (whole m) n (tells_whole m (a m is)) b)

  pub tells_beside : (o : Option Mended) (n : Remedied) → SaysIf (TrustOf Q) o → Tells Q n → AllByRecursion (Tells Q) (beside o n)
  tells_beside o n a b = all_beside (Tells Q) o n (λ m is. tells_both (whole m) n (tells_whole m (a m is)) b)

  ended_case : (line : Said) (m : Remedied) (t : Bool) → Q line → Tells Q m → Tells Q (if t then record m { own = m.own ++ line ∷ [] } else m)
  ended_case line m true h s = record { chain = s.chain; own = all_append Q m.own (line ∷ []) s.own (h, tt) }
  ended_case line m false h s = s

  pub tells_ended : (line : Said) (m : Remedied) → Q line → Tells Q m → Tells Q (ended line m)
  tells_ended line m h s = ended_case line m (fails_alone m) h s

  pub all_unusable : (unusable : List UnusableFacts) → SaysUnusable Q unusable → AllByRecursion Q (unusable_lines unusable)
  unfolding unusable_line
  all_unusable unusable each = all_of_map Q unusable_line unusable each

  unusable_case : (unusable : List UnusableFacts) (m : Remedied) (t : Bool) → SaysUnusable Q unusable → Tells Q m
      → Tells Q (if t then record m { own = unusable_lines unusable ++ m.own } else m)
  unusable_case unusable m true each s = record { chain = s.chain; own = all_append Q (unusable_lines unusable) m.own (all_unusable unusable each) s.own }
  unusable_case unusable m false each s = s

  pub tells_unusable : (unusable : List UnusableFacts) (m : Remedied) → SaysUnusable Q unusable → Tells Q m → Tells Q (with_unusable unusable m)
  tells_unusable unusable m each s = unusable_case unusable m m.lacks each s

  pub tells_ways : (o : Option Remedied) → ((m : Remedied) → o ≡ Some m → Tells Q m) → AllByRecursion (Tells Q) (ways_of o)
  tells_ways None each = tt
  tells_ways (Some m) each = (each m refl, tt)

  -- ---- parts

  unfounded_says : (t : Bool) (s : SignatureFacts) → SaysSignature (TrustOf Q) s.number → Says (TrustOf Q) (unfounded t s)
  unfounded_says true s says = says_both (TrustOf Q) (mending.fault (told.Signature signature.KeyUntrusted s.number)) (mending.untold class.NotFitting)
      (says_fault (TrustOf Q) (told.Signature signature.KeyUntrusted s.number) (says.faults signature.KeyUntrusted)) (says_untold (TrustOf Q) class.NotFitting)
  unfounded_says false s says = says_fault (TrustOf Q) (told.Follows s.number) says.follows

  own_case : (t trust : Bool) (s : SignatureFacts) → SaysSignature (TrustOf Q) s.number
      → Says (TrustOf Q) (if t then unfounded trust s else mending.telling (own_lines s))
  own_case true trust s says = unfounded_says trust s says
  own_case false trust s says = says_telling (TrustOf Q) (own_lines s)
      (all_else (TrustOf Q) (signature_lines s) (answer_lines s.number (mildest s)) (all_wrong (TrustOf Q) s says) (all_answers (TrustOf Q) s.number (mildest s) says))

  own_says : (levels : List Leveled) (s : SignatureFacts) → SaysSignature (TrustOf Q) s.number → Says (TrustOf Q) (own_way levels s)
  own_says levels s says = own_case (is_none (own_lines s)) (is_signer_trusted (slice_get levels s.signer)) s says

  own_each : (levels : List Leveled) (s : SignatureFacts) → SaysSignature (TrustOf Q) s.number → AllByRecursion (Says (TrustOf Q)) (own_ways levels s)
  unfolding own_ways
  own_each levels s says = (own_says levels s says, tt)

  zone_each : (levels : List Leveled) (zone : ℕ) (s : SignatureFacts) → SaysSignature (TrustOf Q) s.number
      → AllByRecursion (Says (TrustOf Q)) (zone_signature_ways levels zone s)
  unfolding zone_signature_ways
  zone_each levels zone s says = all_if (Says (TrustOf Q)) (is_by zone s) (own_way levels s ∷ []) [] (λ e. (own_says levels s says, tt)) (λ e. tt)

  pub within_says : (levels : List Leveled) (zone : ℕ) (r : RrsetFacts) → SaysRrset (TrustOf Q) r → AllByRecursion (Says (TrustOf Q)) (within_ways levels zone r)
  within_says levels zone r says =
      let signatures = r.signatures.items in
      all_if (Says (TrustOf Q)) (list_any (λ (s : SignatureFacts). is_by zone s && s.is_signed) signatures) (mending.nothing ∷ []) _
      (λ e. (says_nothing (TrustOf Q), tt))
      (λ e. all_if (Says (TrustOf Q)) (is_none signatures) (mending.fault (told.Unsigned r.number) ∷ []) _
      (λ none. (says_fault (TrustOf Q) (told.Unsigned r.number) says.unsigned, tt))
      (λ some. all_if (Says (TrustOf Q)) (list_any (is_by zone) signatures) (flat_map (zone_signature_ways levels zone) signatures) (flat_map (own_ways levels) signatures)
      (λ by. all_flat (Says (TrustOf Q)) (zone_signature_ways levels zone) signatures (λ s among. zone_each levels zone s (says.signatures s among)))
      (λ other. all_flat (Says (TrustOf Q)) (own_ways levels) signatures (λ s among. own_each levels s (says.signatures s among)))))

  kept_says : (levels : List Leveled) (zone : ℕ) (r : RrsetFacts) → AllByRecursion (Says (TrustOf Q)) (within_ways levels zone r)
      → AllByRecursion (Says (TrustOf Q)) (within_kept levels zone r)
  unfolding within_kept
  kept_says levels zone r says = mends.all_ways_of (Says (TrustOf Q)) (cheapest (within_ways levels zone r))
      (λ m is. of_cheapest (Says (TrustOf Q)) (within_ways levels zone r) m says is)

  missing_case : (o : Option Mended) (absent : Remedied) → SaysIf (TrustOf Q) o → Tells Q absent → Tells Q (or_missing o absent)
  missing_case None absent h t = t
  missing_case (Some m) absent h t = tells_whole m (h m refl)

  pub tells_part : (levels : List Leveled) (zone : ℕ) (rrsets : List RrsetFacts) (lines : List Said)
      → ((r : RrsetFacts) → IsAmong r rrsets → AllByRecursion (Says (TrustOf Q)) (within_ways levels zone r)) → AllByRecursion Q lines
      → Tells Q (part levels zone rrsets lines)
  tells_part levels zone rrsets lines each all = missing_case (cheapest (flat_map (within_kept levels zone) rrsets)) (missing class.Lacking lines)
      (λ m is. of_cheapest (Says (TrustOf Q)) (flat_map (within_kept levels zone) rrsets) m
      (all_flat (Says (TrustOf Q)) (within_kept levels zone) rrsets (λ r among. kept_says levels zone r (each r among))) is)
      (tells_missing class.Lacking lines all)

  pub tells_one : (levels : List Leveled) (zone : ℕ) (r : RrsetFacts) → AllByRecursion (Says (TrustOf Q)) (within_ways levels zone r)
      → Tells Q (part_of_one levels zone r)
  tells_one levels zone r says = missing_case (cheapest (within_ways levels zone r)) (missing class.Lacking [])
      (λ m is. of_cheapest (Says (TrustOf Q)) (within_ways levels zone r) m says is)
      (tells_missing class.Lacking [] tt)
