-- The first proof of a denial, zone by zone from the one with most labels.
use Rattle.std.proofs.Common.{◌≡◌, ℕ, ◌+◌, ◌<◌, ◌≤◌, List, length, refl, sym, ap, ◌∙◌, subst, ⊎_elim, arith}
use Rattle.std.specs.Prelude.{Option, Some, None, MatchOption, slice_index_or}
use Rattle.std.proofs.lemmas.Bool.{cases_lt}
use Rattle.std.proofs.lemmas.Option.{slice_get_read}
use Rattle.dnsv_names.specs.Name.{IsAtOrBelow, Labels, SameName, rightmost}
use Rattle.dnsv_names.specs.Tree.AncestorLaws.{rightmost_same}
use Rattle.dnsv_names.specs.Tree.TreeLaws.{at_or_below_length}
use Rattle.dnsv_zones.specs.forms.Forms.{NoDataForms, NoNameForm, Words}
use Rattle.dnsv_zones.specs.forms.Parts.{AreNoDataParts, AreNoNameParts}
use Rattle.dnsv_zones.specs.forms.RecordWords.{RecordWords, words}
use Rattle.dnsv_canonical.specs.Rrsets.{ReceivedRrset}
use Rattle.dnsv_proof_forms.specs.forms.Denials.{DenialForm}
use Rattle.dnsv_proof_forms.specs.forms.ProofForms.{ShowsNoData, ShowsNoName, form_records}
use Rattle.dnsv_proof_forms.specs.forms.ShownUnsigned.{ShowsDenial}
use Rattle.dnsv_denial.specs.gathering.Kept.{AreZones, IsZoneOf, IsZoneProof}
use Rattle.dnsv_denial.specs.proving.ChainOf.{CanBeShown, StandsAs}
use Rattle.dnsv_denial.specs.proving.FirstProof.{IsFirstNoData, IsFirstNoName, IsFirstProof}
use Rattle.dnsv_denial.specs.proving.ShownDenials.{IsFirstShown, IsShownNoData, IsShownNoName}
use Rattle.dnsv_denial.specs.gathering.EvidenceWords.{Chain, evidence_said}
use Rattle.dnsv_proof_forms.specs.records.Numbers.{number_cmp}
use Rattle.dnsv_proof_forms.specs.declared.forms.denial.Denial.{Denial}
use Rattle.dnsv_proof_forms.specs.declared.forms.proof_form.ProofForm.{ProofForm}
use Rattle.dnsv_canonical.specs.declared.number.RecordNumber.{RecordNumber}
use Rattle.dnsv_proof_forms.specs.declared.forms.denial.Denial.TheVariants as denied
use Rattle.dnsv_names.specs.declared.number.RecordType.{RecordType}
use Rattle.dnsv_denial.specs.declared.proving.shown_denial.ShownDenial.{ShownDenial}
use Rattle.dnsv_denial.specs.declared.gathering.zone_records.ZoneRecords.{ZoneRecords}
use Rattle.dnsv_proof_forms.proofs.lemmas.forms.DenialLemmas.{shown_stands}
use Rattle.dnsv_proof_forms.proofs.lemmas.forms.ShowsLemmas.{no_data_parts, no_name_parts}

module _ (Secured : ℕ → ℕ → Type 0) (rrsets : List ReceivedRrset) (denial : Denial) (name : Labels) where
  -- no zone with so many labels or more has a proof
  abbrev pub NoneFrom : ℕ → Type 0
  NoneFrom labels =
      (k : ℕ) (other : Chain) → labels ≤ k → k ≤ length name → ¬ StandsAs Secured rrsets denial name (rightmost name k) other

  pub one_fewer : (labels after : ℕ) (zone : Labels) → after ≡ labels + 1 → zone ≡ rightmost name labels
      → ((chain : Chain) → ¬ StandsAs Secured rrsets denial name zone chain) → NoneFrom after → NoneFrom labels
  one_fewer labels after zone next is none before k other most small stands =
      ⊎_elim (λ (more : labels < k). before k other (omega (arith, more, next)) small stands)
      (λ (least : k ≤ labels). let same : k ≡ labels = omega (arith, most, least) in
      none other (subst (λ z. StandsAs Secured rrsets denial name z other) (ap (rightmost name) same ∙ sym is) stands))
      (cases_lt labels k)

  pub none_of_all : NoneFrom 0 → ¬ CanBeShown Secured rrsets denial name
  none_of_all none proved = none proved.0 proved.2 (omega arith) proved.1 proved.3

  pub first_of_all : (labels after : ℕ) (zone : Labels) (shown : ShownDenial) → after ≡ labels + 1 → labels ≤ length name → zone ≡ rightmost name labels
      → NoneFrom after → IsZoneProof Secured rrsets denial name zone shown
      → IsFirstShown Secured rrsets name (λ said zone. DenialForm denial name said zone) (λ said zone. ShowsDenial number_cmp denial name said zone) shown
  first_of_all labels after zone shown next small is before first =
      let here : zone ≡ shown.proof.zone = sym first.by_chain.its_zone in
      record {
        labels = labels;
        at_or_above = small;
        zone = first.by_chain.its_zone ∙ is;
        chain = first.chain;
        kind = first.by_chain.kind;
        most_labels = λ more other above fits. before more other (omega (arith, above, next)) fits;
        first = λ other earlier. subst (λ z. ¬ StandsAs Secured rrsets denial name z other) here (first.first other earlier);
        shows = subst (λ z. ShowsDenial number_cmp denial name (evidence_said Secured rrsets z first.chain) z shown.form) here first.by_chain.shows;
        records = first.by_chain.records;
      }

-- the first that is shown is the first proof, where what is shown is of a form that stands by such parts
module _ (Secured : ℕ → ℕ → Type 0) (rrsets : List ReceivedRrset) (name : Labels) where
  proof_of_shown : {Form : Words → Labels → Type 0} {Shows : RecordWords RecordNumber → Labels → ProofForm RecordNumber → Type 0}
      {Parts : RecordWords RecordNumber → Labels → List RecordNumber → Type 0} (shown : ShownDenial)
      → ((said : RecordWords RecordNumber) (zone : Labels) → Shows said zone shown.form → Form (words said) zone)
      → ((said : RecordWords RecordNumber) (zone : Labels) → Shows said zone shown.form → Parts said zone (form_records shown.form))
      → IsFirstShown Secured rrsets name (λ said zone. Form (words said) zone) Shows shown
      → IsFirstProof Secured rrsets name Form Parts shown.proof
  proof_of_shown shown stands parts first =
      let said = evidence_said Secured rrsets shown.proof.zone first.chain in
      record {
        labels = first.labels;
        at_or_above = first.at_or_above;
        zone = first.zone;
        chain = first.chain;
        stands = stands said shown.proof.zone first.shows;
        most_labels = first.most_labels;
        first = first.first;
        parts = form_records shown.form;
        chosen = parts said shown.proof.zone first.shows;
        records = first.records;
      }

  pub proof_of_no_name : (shown : ShownDenial) → IsShownNoName Secured rrsets name shown → IsFirstNoName Secured rrsets name shown.proof
  proof_of_no_name shown first =
      proof_of_shown {Form = λ said zone. NoNameForm said zone name} {Shows = λ said zone. ShowsNoName number_cmp said zone name}
      {Parts = λ said zone. AreNoNameParts number_cmp said zone name} shown
      (λ said zone. shown_stands number_cmp said zone name denied.NoName shown.form)
      (λ said zone. no_name_parts number_cmp said zone name shown.form) first

  pub proof_of_no_data : (rtype : RecordType) (shown : ShownDenial) → IsShownNoData Secured rrsets name rtype.0 shown → IsFirstNoData Secured rrsets name rtype.0 shown.proof
  proof_of_no_data rtype shown first =
      proof_of_shown {Form = λ said zone. NoDataForms said zone name rtype.0} {Shows = λ said zone. ShowsNoData number_cmp said zone name rtype.0}
      {Parts = λ said zone. AreNoDataParts number_cmp said zone name rtype.0} shown
      (λ said zone. shown_stands number_cmp said zone name (denied.NoData rtype) shown.form)
      (λ said zone. no_data_parts number_cmp said zone name rtype.0 shown.form) first

-- the zone at the place
pub zone_at : (Secured : ℕ → ℕ → Type 0) (rrsets : List ReceivedRrset) (name : Labels) (zones : List ZoneRecords) (n : ℕ) (kept : ZoneRecords)
    → AreZones Secured rrsets name zones → n < length zones → kept ≡ slice_index_or zones n kept
    → (kept.zone ≡ rightmost name n) × IsZoneOf Secured rrsets kept
zone_at Secured rrsets name zones n kept are within is = are.each n kept (slice_get_read zones (length zones) n kept refl within is)

-- the zone that has a name at or above the question's, which it spells as that does
pub record IsKeptAt (Secured : ℕ → ℕ → Type 0) (rrsets : List ReceivedRrset) (name apex : Labels) (kept : ZoneRecords) : Type 0 where
  pub spelled : kept.zone ≡ rightmost name (length apex)
  pub same : SameName kept.zone apex
  pub is : IsZoneOf Secured rrsets kept

pub kept_at : (Secured : ℕ → ℕ → Type 0) (rrsets : List ReceivedRrset) (name apex : Labels) (zones : List ZoneRecords) (n : ℕ) (kept : ZoneRecords)
    → AreZones Secured rrsets name zones → length zones ≡ length name + 1 → IsAtOrBelow name apex → n ≡ length apex
    → kept ≡ slice_index_or zones n kept → IsKeptAt Secured rrsets name apex kept
kept_at Secured rrsets name apex zones n kept are count under is here =
    let at = zone_at Secured rrsets name zones n kept are (omega (arith, is, at_or_below_length name apex under, count)) here in
    let spelled : kept.zone ≡ rightmost name (length apex) = at.0 ∙ ap (rightmost name) is in
    record {
      spelled = spelled;
      same = subst (λ z. SameName z apex) (sym spelled) (rightmost_same name apex under);
      is = at.1;
    }

-- what the zone that is kept shows of a denial leads to what is asked of the zone as it is spelled
pub led_at : (Secured : ℕ → ℕ → Type 0) (rrsets : List ReceivedRrset) (denial : Denial) (name apex : Labels) (kept : ZoneRecords)
    (found : Option ShownDenial) (IsNot : Type 0) (Is : ShownDenial → Type 0)
    → (SameName kept.zone apex → ((chain : Chain) → ¬ StandsAs Secured rrsets denial name kept.zone chain) → IsNot)
    → ((shown : ShownDenial) → SameName kept.zone apex → kept.zone ≡ rightmost name (length apex)
    → IsZoneProof Secured rrsets denial name kept.zone shown → Is shown)
    → IsKeptAt Secured rrsets name apex kept
    → MatchOption found ((chain : Chain) → ¬ StandsAs Secured rrsets denial name kept.zone chain) (IsZoneProof Secured rrsets denial name kept.zone)
    → MatchOption found IsNot Is
led_at Secured rrsets denial name apex kept None IsNot Is none some at told = none at.same told
led_at Secured rrsets denial name apex kept (Some shown) IsNot Is none some at told = some shown at.same at.spelled told
