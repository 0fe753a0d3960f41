-- Two things that are told whose lines are the same are one, where keys of one DNSKEY RRset are, and names are told as wildcards by
-- the words.
use Rattle.std.proofs.Common.{◌≡◌, ◌⊎◌, ⊎_elim, ℕ, zero, suc, Bool, true, false, List, [], ◌∷◌, Option, Some, None, refl, sym, ap, subst, ◌∙◌, slice_get, arith}
use Rattle.std.proofs.lemmas.Bool.{false≢true}
use Rattle.dnsv_names.specs.Name.{Labels, rightmost}
use Rattle.dnsv_records.specs.declared.nsec3.Nsec3Parameters.{Nsec3Parameters}
use Rattle.dnsv_canonical.specs.declared.number.RecordNumber.{RecordNumber}
use Rattle.dnsv_denial.specs.gathering.EvidenceWords.{Chain}
use Rattle.dnsv_denial.specs.gathering.EvidenceWords.Chain.{ByNsec, ByNsec3}
use Rattle.dnsv_lines.specs.declared.line.Line.{Line}
use Rattle.dnsv_lines.specs.declared.line.fault.denial.Source.{Source}
use Rattle.dnsv_lines.specs.declared.line.fault.denial.WhySource.{WhySource}
use Rattle.dnsv_lines.specs.declared.line.fault.denial.WhySource.TheVariants as why
use Rattle.dnsv_line_laws.specs.Lower.{SameLine, lower_line}
use Rattle.dnsv_mending.specs.declared.facts.zone.ZoneFacts.{ZoneFacts}
use Rattle.dnsv_mending.specs.declared.told.Told.{Told}
use Rattle.dnsv_mending.specs.declared.told.Told.TheVariants as told
use Rattle.dnsv_gaps.specs.Asking.{Asking}
use Rattle.dnsv_gaps.specs.Sources.{AreSources}
use Rattle.dnsv_reasons.specs.Lines.{IsSaidLine}
use Rattle.dnsv_reasons.specs.Sources.{IsParametersOf, IsSource}
use Rattle.dnsv_remedies.specs.declared.facts.name.AskedName.{AskedName}
use Rattle.dnsv_remedies.specs.declared.facts.name.AskedName.TheVariants.{At, Wildcard}
use Rattle.dnsv_remedies.specs.declared.facts.name.SourceNumber.{SourceNumber}
use Rattle.dnsv_remedies.specs.declared.said.Said.{Said}
use Rattle.dnsv_remedies.specs.declared.said.Said.TheVariants as said
use Rattle.dnsv_reasons.proofs.SourceLemmas.{IsOrdered, no_self, one_list, tail}
use Rattle.dnsv_reasons.proofs.lemmas.alike.AlikeLines.{as_read, labels_of, read, read_parameters, said_read, some_record, some_source}
use Rattle.dnsv_reasons.proofs.lemmas.kept.KeptRemedies.{Fits, is_of_wildcard}

-- ---- what is read is what is told, but of keys and sources

abbrev is_plain_trust : Told → Bool
is_plain_trust (told.NotSelfSigned n) = false
is_plain_trust some_other = true

abbrev pub is_plain : Said → Bool
is_plain (said.Trust each) = is_plain_trust each
is_plain (said.Source w number asked) = false
is_plain some_other = true

plain_read : (t : Said) → is_plain (as_read t) ≡ true → as_read t ≡ t
plain_read (said.Trust (told.Zone w n)) h = refl
plain_read (said.Trust (told.Entry w n)) h = refl
plain_read (said.Trust (told.NotSelfSigned n)) h = absurd (false≢true h)
plain_read (said.Trust (told.NotVouched k)) h = refl
plain_read (said.Trust (told.Unsigned k)) h = refl
plain_read (said.Trust (told.Signature w n)) h = refl
plain_read (said.Trust (told.Follows n)) h = refl
plain_read (said.NoCloser number n) h = refl
plain_read (said.Dname above) h = refl
plain_read (said.DnameHeld n number) h = refl
plain_read (said.Nsec3 w number) h = refl
plain_read (said.Source w number asked) h = absurd (false≢true h)
plain_read (said.AnswerMissing n) h = refl
plain_read (said.DenialUnproved n) h = refl
plain_read (said.DsUnproved cut) h = refl

-- what is read as something else than a key or a source is that
pub plain_same : (s t : Said) → is_plain s ≡ true → s ≡ as_read t → s ≡ t
plain_same s t h e = e ∙ plain_read t (sym (ap is_plain e) ∙ h)

-- ---- keys

abbrev self_rrset : Said → ℕ
self_rrset (said.Trust (told.NotSelfSigned n)) = n.rrset
self_rrset _ = 0

abbrev IsSelfLike : RecordNumber → Said → Type 0
IsSelfLike n t = (m : RecordNumber) × (t ≡ said.Trust (told.NotSelfSigned m)) × (n.rrset ≡ m.rrset)

self_like : (n : RecordNumber) (t : Said) → said.Trust (told.NotSelfSigned (some_record n.rrset)) ≡ as_read t → IsSelfLike n t
self_like n (said.Trust (told.Zone w k)) e = cc
self_like n (said.Trust (told.Entry w k)) e = cc
self_like n (said.Trust (told.NotSelfSigned m)) e = (m, refl, ap self_rrset e)
self_like n (said.Trust (told.NotVouched k)) e = cc
self_like n (said.Trust (told.Unsigned k)) e = cc
self_like n (said.Trust (told.Signature w k)) e = cc
self_like n (said.Trust (told.Follows k)) e = cc
self_like n (said.NoCloser number k) e = cc
self_like n (said.Dname above) e = cc
self_like n (said.DnameHeld k number) e = cc
self_like n (said.Nsec3 w number) e = cc
self_like n (said.Source w number asked) e = cc
self_like n (said.AnswerMissing k) e = cc
self_like n (said.DenialUnproved k) e = cc
self_like n (said.DsUnproved cut) e = cc

-- ---- sources

abbrev source_why : Said → WhySource
source_why (said.Source w number asked) = w
source_why _ = why.MatchMissing

abbrev source_zone : Said → ℕ
source_zone (said.Source w number asked) = number.zone
source_zone _ = 0

abbrev source_labels : Said → ℕ
source_labels (said.Source w number asked) = labels_of asked
source_labels _ = 0

record IsSourceLike (w : WhySource) (n : SourceNumber) (asked : AskedName) (t : Said) : Type 0 where
  v : WhySource
  p : SourceNumber
  other : AskedName
  is : t ≡ said.Source v p other
  words : w ≡ v
  zone : n.zone ≡ p.zone
  labels : labels_of asked ≡ labels_of other

source_like : (w : WhySource) (n : SourceNumber) (asked : AskedName) (t : Said)
    → said.Source w (some_source n.zone) (At (labels_of asked)) ≡ as_read t → IsSourceLike w n asked t
source_like w n asked (said.Source v p other) e = record {
  v = v;
  p = p;
  other = other;
  is = refl;
  words = ap source_why e;
  zone = ap source_zone e;
  labels = ap source_labels e;
}
source_like w n asked t e = cc

-- which chain it is, by its parameters
one_chain : (c d : Chain) (o : Option Nsec3Parameters) → IsParametersOf c o → IsParametersOf d o → c ≡ d
one_chain ByNsec ByNsec o p q = refl
one_chain ByNsec (ByNsec3 other) None p q = absurd q
one_chain ByNsec (ByNsec3 other) (Some x) p q = cc
one_chain (ByNsec3 shared) ByNsec None p q = absurd p
one_chain (ByNsec3 shared) ByNsec (Some x) p q = cc
one_chain (ByNsec3 shared) (ByNsec3 other) None p q = absurd p
one_chain (ByNsec3 shared) (ByNsec3 other) (Some x) p q = ap ByNsec3 (sym p ∙ q)

-- where it stands
one_place : (xs : List Chain) (i j : ℕ) (c : Chain) → IsOrdered xs → slice_get xs i ≡ Some c → slice_get xs j ≡ Some c → i ≡ j
one_place [] i j c order at there = cc
one_place (x ∷ xs) zero zero c order at there = refl
one_place (x ∷ xs) zero (suc j) c order at there = absurd (no_self c (order 0 (suc j) c c at there (omega arith)))
one_place (x ∷ xs) (suc i) zero c order at there = absurd (no_self c (order 0 (suc i) c c there at (omega arith)))
one_place (x ∷ xs) (suc i) (suc j) c order at there = ap suc (one_place xs i j c (tail x xs order) at there)

source_number : (a : Asking) (n p : SourceNumber) (x y : Source) → IsSource a n x → IsSource a p y → n.zone ≡ p.zone
    → x.parameters ≡ y.parameters → n ≡ p
source_number a n p x y first second zone same =
    let zones : first.zone ≡ second.zone = first.above.is ∙ ap (rightmost a.name) zone ∙ sym second.above.is in
    let chains : first.chains ≡ second.chains =
    one_list a second.zone first.chains second.chains
    (subst (λ (each : Labels). AreSources a each first.chains) zones first.are) second.are in
    let chain : first.chain ≡ second.chain =
    one_chain first.chain second.chain y.parameters
    (subst (λ (each : Option Nsec3Parameters). IsParametersOf first.chain each) same first.its_chain) second.its_chain in
    let at : slice_get second.chains n.place ≡ Some second.chain =
    subst (λ (each : List Chain). slice_get each n.place ≡ Some second.chain) chains
    (first.placed ∙ ap (λ (each : Chain). Some each) chain) in
    let place : n.place ≡ p.place = one_place second.chains n.place p.place second.chain second.are.order at second.placed in
    λ i. record { zone = zone i; place = place i }

-- ---- all

module _ (zones : List ZoneFacts) (Chosen : RecordNumber → Type 0) (wild : Bool)
    (one : (m n : RecordNumber) → Chosen m → Chosen n → m.rrset ≡ n.rrset → m ≡ n) (a : Asking) where
  crossed : (v w : WhySource) → v ≡ w → (wild ≡ false) ⊎ (is_of_wildcard v ≡ false) → wild ≡ true → is_of_wildcard w ≡ true → ⊥
  crossed v w same at is words = ⊎_elim
      (λ (h : wild ≡ false). false≢true (sym h ∙ is))
      (λ (h : is_of_wildcard v ≡ false). false≢true (sym h ∙ ap is_of_wildcard same ∙ words)) at

  same_asked : (v w : WhySource) (n p : SourceNumber) (asked other : AskedName) → v ≡ w → Fits zones Chosen wild (said.Source v n asked)
      → Fits zones Chosen wild (said.Source w p other) → labels_of asked ≡ labels_of other → asked ≡ other
  same_asked v w n p (At x) (At y) same first second e = ap At e
  same_asked v w n p (At x) (Wildcard y) same first second e = absurd (crossed v w same first second.0 second.1)
  same_asked v w n p (Wildcard x) (At y) same first second e = absurd (crossed w v (sym same) second first.0 first.1)
  same_asked v w n p (Wildcard x) (Wildcard y) same first second e = let less : x ≡ y = omega (arith, e) in ap Wildcard less

  same_self : (n : RecordNumber) (t : Said) → IsSelfLike n t → Chosen n → Fits zones Chosen wild t → said.Trust (told.NotSelfSigned n) ≡ t
  same_self n t found first second =
      let its : Chosen found.0 = subst (Fits zones Chosen wild) found.1 second in
      ap (λ (m : RecordNumber). said.Trust (told.NotSelfSigned m)) (one n found.0 first its found.2) ∙ sym found.1

  same_source : (w : WhySource) (n : SourceNumber) (asked : AskedName) (t : Said) (x y : Line) → IsSaidLine a (said.Source w n asked) x
      → IsSaidLine a t y
      → SameLine x y → IsSourceLike w n asked t → Fits zones Chosen wild (said.Source w n asked) → Fits zones Chosen wild t
      → said.Source w n asked ≡ t
  same_source w n asked t x y first second same found fit fit_too =
      let its = subst (λ (each : Said). IsSaidLine a each y) found.is second in
      let parameters : first.0.parameters ≡ its.0.parameters =
      sym (ap (λ (l : Line). read_parameters (lower_line l)) first.4) ∙ ap read_parameters same
      ∙ ap (λ (l : Line). read_parameters (lower_line l)) its.4 in
      let number : n ≡ found.p = source_number a n found.p first.0 its.0 first.2 its.2 found.zone parameters in
      let name : asked ≡ found.other =
      same_asked w found.v n found.p asked found.other found.words fit (subst (Fits zones Chosen wild) found.is fit_too) found.labels in
      let equal : said.Source w n asked ≡ said.Source found.v found.p found.other = λ i. said.Source (found.words i) (number i) (name i) in
      equal ∙ sym found.is

  -- two things that are told whose lines are the same
  same_by : (s t : Said) (x y : Line) → IsSaidLine a s x → IsSaidLine a t y → SameLine x y → Fits zones Chosen wild s
      → Fits zones Chosen wild t
      → as_read s ≡ as_read t → s ≡ t
  same_by (said.Trust (told.Zone w n)) t x y first second same fit fit_too e = plain_same (said.Trust (told.Zone w n)) t refl e
  same_by (said.Trust (told.Entry w n)) t x y first second same fit fit_too e = plain_same (said.Trust (told.Entry w n)) t refl e
  same_by (said.Trust (told.NotSelfSigned n)) t x y first second same fit fit_too e = same_self n t (self_like n t e) fit fit_too
  same_by (said.Trust (told.NotVouched k)) t x y first second same fit fit_too e = plain_same (said.Trust (told.NotVouched k)) t refl e
  same_by (said.Trust (told.Unsigned k)) t x y first second same fit fit_too e = plain_same (said.Trust (told.Unsigned k)) t refl e
  same_by (said.Trust (told.Signature w n)) t x y first second same fit fit_too e = plain_same (said.Trust (told.Signature w n)) t refl e
  same_by (said.Trust (told.Follows n)) t x y first second same fit fit_too e = plain_same (said.Trust (told.Follows n)) t refl e
  same_by (said.NoCloser number n) t x y first second same fit fit_too e = plain_same (said.NoCloser number n) t refl e
  same_by (said.Dname above) t x y first second same fit fit_too e = plain_same (said.Dname above) t refl e
  same_by (said.DnameHeld n number) t x y first second same fit fit_too e = plain_same (said.DnameHeld n number) t refl e
  same_by (said.Nsec3 w number) t x y first second same fit fit_too e = plain_same (said.Nsec3 w number) t refl e
  same_by (said.Source w n asked) t x y first second same fit fit_too e =
      same_source w n asked t x y first second same (source_like w n asked t e) fit fit_too
  same_by (said.AnswerMissing n) t x y first second same fit fit_too e = plain_same (said.AnswerMissing n) t refl e
  same_by (said.DenialUnproved n) t x y first second same fit fit_too e = plain_same (said.DenialUnproved n) t refl e
  same_by (said.DsUnproved cut) t x y first second same fit fit_too e = plain_same (said.DsUnproved cut) t refl e

  pub same_said : (s t : Said) (x y : Line) → IsSaidLine a s x → IsSaidLine a t y → SameLine x y → Fits zones Chosen wild s
      → Fits zones Chosen wild t → s ≡ t
  same_said s t x y first second same fit fit_too =
      same_by s t x y first second same fit fit_too (sym (said_read a s x first) ∙ ap read same ∙ said_read a t y second)
