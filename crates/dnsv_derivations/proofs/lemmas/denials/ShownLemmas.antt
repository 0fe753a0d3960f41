-- What the parts of a shown denial say, and that their records are signed by the zone.
use Rattle.std.proofs.Common.{◌≡◌, ℕ, List, [], ◌∷◌, ◌++◌, Option, Some, None, length, refl, sym, ap, ◌∙◌, subst, arith}
use Rattle.std.specs.List.{AllByRecursion, Contains}
use Rattle.dnsv_names.specs.Name.{Labels, SameName, lower_case, rightmost}
use Rattle.dnsv_names.specs.Tree.AncestorLaws.{rightmost_above, rightmost_same}
use Rattle.dnsv_names.specs.Tree.TreeLaws.{at_or_below_trans}
use Rattle.dnsv_zones.specs.forms.Forms.{IsAbove}
use Rattle.dnsv_zones.specs.forms.RecordWords.{RecordWords}
use Rattle.dnsv_proof_forms.specs.forms.ProofForms.{ShowsNoCloser, form_records}
use Rattle.dnsv_proof_forms.specs.forms.ProofForms.ShowsNoCloser.{no_closer as closer_shown}
use Rattle.dnsv_denial.specs.gathering.Evidence.{IsSecuredBy}
use Rattle.dnsv_proof_forms.specs.records.RecordsAt.{listed}
use Rattle.dnsv_proof_forms.specs.forms.ProofParts.{encloser_part, form_parts, opt_out_parts, part_by, part_name}
use Rattle.dnsv_denial.specs.proving.ShownDenials.{IsFirstShown, kind_of}
use Rattle.dnsv_denial.specs.gathering.EvidenceWords.{Chain, evidence_said}
use Rattle.dnsv_proof_forms.specs.records.Numbers.{number_cmp}
use Rattle.dnsv_proof_forms.specs.declared.forms.proof_form.ProofForm.{ProofForm}
use Rattle.dnsv_proof_forms.specs.declared.forms.proof_form.ProofForm.TheVariants as form
use Rattle.dnsv_proof_forms.specs.declared.forms.proof_part.PartName.{PartName}
use Rattle.dnsv_proof_forms.specs.declared.forms.proof_part.PartName.TheVariants as part
use Rattle.dnsv_proof_forms.specs.declared.forms.proof_part.PartRelation.{PartRelation}
use Rattle.dnsv_proof_forms.specs.declared.forms.proof_part.PartRelation.TheVariants as related
use Rattle.dnsv_proof_forms.specs.declared.forms.proof_part.ProofPart.{ProofPart}
use Rattle.dnsv_denial.specs.declared.proving.shown_denial.ShownDenial.{ShownDenial}
use Rattle.dnsv_proof_forms.specs.declared.records.chain_kind.ChainKind.{ChainKind}
use Rattle.dnsv_canonical.specs.declared.number.RecordNumber.{RecordNumber}
use Rattle.dnsv_derivations.specs.Explained.{Setting}
use Rattle.dnsv_derivations.specs.Denials.{HasRrset, IsPartFit, IsShownBy, IsShownDenial, told_case, told_form, told_relation, told_role}
use Rattle.dnsv_derivations.specs.derivations.OwnDerivations.{IsTrustIn, SecuredIn}
use Rattle.dnsv_derivations.specs.Denials.IsShownBy.{no_name, no_data, no_closer, no_ds, opted_out, closer_opted_out}
use Rattle.dnsv_lines.specs.declared.line.cut.InsecureCase.{InsecureCase}
use Rattle.dnsv_lines.specs.declared.line.denial.Form.{Form}
use Rattle.dnsv_derivations.proofs.lemmas.denials.PartLemmas.{word_signed, zone_as}
use Rattle.dnsv_chain.specs.Trust.{KeptTrust, SecuredIn as KeptIn}
use Rattle.dnsv_derivations.proofs.lemmas.denials.FormLemmas.{FormFacts, IsShownPart, IsSigned, PartSays, each_member, no_closer_facts, no_data_facts, no_name_facts}
use Rattle.dnsv_derivations.proofs.lemmas.denials.TrustLemmas.{facts_too, kept_good}
use Rattle.dnsv_derivations.proofs.lemmas.unsigned_cuts.CutLemmas.{closer_above as out_above, closer_facts, delegation_facts, opt_out_facts}

-- ---- the records of parts

-- the record is among these, if there is one
abbrev pub IsListed : List RecordNumber → Option RecordNumber → Type 0
IsListed records None = Unit {0}
IsListed records (Some number) = Contains records number

listed_too : (some others : List RecordNumber) (by : Option RecordNumber)
    → ((number : RecordNumber) → Contains some number → Contains others number) → IsListed some by → IsListed others by
listed_too some others None too there = tt
listed_too some others (Some number) too there = too number there

wildcard_listed : (kind : ChainKind) (labels : ℕ) (by : Option RecordNumber) (next_closer wildcard : RecordNumber) (last : PartRelation)
    → AllByRecursion (λ (one : ProofPart). IsListed ((listed by ++ next_closer ∷ []) ++ wildcard ∷ []) one.by)
    (encloser_part kind labels by ∷ part_by (part.NextCloser labels) related.Covered next_closer
    ∷ part_by (part.Wildcard labels) last wildcard ∷ [])
wildcard_listed kind labels None next_closer wildcard last =
    (tt, ((0, omega arith, refl), ((1, omega arith, refl), tt)))
wildcard_listed kind labels (Some number) next_closer wildcard last =
    ((0, omega arith, refl), ((1, omega arith, refl), ((2, omega arith, refl), tt)))

opt_out_listed : (kind : ChainKind) (labels : ℕ) (by : Option RecordNumber) (next_closer : RecordNumber)
    → AllByRecursion (λ (one : ProofPart). IsListed (listed by ++ next_closer ∷ []) one.by) (opt_out_parts kind labels by next_closer)
opt_out_listed kind labels None next_closer = (tt, ((0, omega arith, refl), tt))
opt_out_listed kind labels (Some number) next_closer = ((0, omega arith, refl), ((1, omega arith, refl), tt))

-- those of the parts are the records of the form
parts_listed : (kind : ChainKind) (shape : ProofForm RecordNumber)
    → AllByRecursion (λ (one : ProofPart). IsListed (form_records shape) one.by) (form_parts kind shape)
parts_listed kind (form.NoName parts) =
    wildcard_listed kind parts.labels parts.encloser parts.next_closer parts.wildcard related.Covered
parts_listed kind (form.WildcardNoData parts) =
    wildcard_listed kind parts.labels parts.encloser parts.next_closer parts.wildcard related.Matched
parts_listed kind (form.EmptyWildcard parts) =
    wildcard_listed kind parts.labels parts.encloser parts.next_closer parts.wildcard related.NonTerminal
parts_listed kind (form.OptOut labels encloser number) = opt_out_listed kind labels encloser number
parts_listed kind (form.WildcardOptOut parts) =
    wildcard_listed kind parts.labels parts.encloser parts.next_closer parts.wildcard related.OptOut
parts_listed kind shape = ((0, omega arith, refl), tt)

-- the name of a zone as the name spells it
pub spelled : (name zone : Labels) (labels : ℕ) → IsAbove zone name labels → SameName zone (rightmost name (length zone))
spelled name zone labels above =
    sym (rightmost_same name zone (at_or_below_trans name (rightmost name labels) zone (rightmost_above name labels) above.within))

module _ (setting : Setting) (name : Labels) (shown : ShownDenial) where
  -- a chain of the zone shows the denial by records that it signed
  pub record ShownFacts : Type 0 where
    pub apex : Labels
    pub same : SameName apex shown.proof.zone
    pub chain : Chain
    pub kind : shown.chain ≡ kind_of chain
    pub facts : FormFacts (SecuredIn setting) setting.rrsets apex name chain shown.form
    pub records : (number : RecordNumber) → Contains shown.proof.records number → Contains (form_records shown.form) number
    pub named : (number : RecordNumber) → Contains (form_records shown.form) number → Contains shown.proof.records number

  closer_above : (trust : KeptTrust) (labels : ℕ) (zone : Labels) (chain : Chain) (shape : ProofForm RecordNumber)
      → ShowsNoCloser number_cmp (evidence_said (KeptIn trust) setting.rrsets zone chain) zone name labels shape
      → IsAbove zone name labels
  closer_above trust labels zone chain shape (closer_shown number shows) = shows.above

  good_facts : (trust : KeptTrust) → IsTrustIn setting trust → (apex : Labels) (chain : Chain)
      → FormFacts (KeptIn trust) setting.rrsets apex name chain shown.form → FormFacts (SecuredIn setting) setting.rrsets apex name chain shown.form
  good_facts trust good apex chain facts =
      facts_too (KeptIn trust) (SecuredIn setting) (kept_good setting trust good) setting.rrsets apex name chain shown.form facts

  module _ (trust : KeptTrust) (good : IsTrustIn setting trust) where
    first_facts : (Stands : RecordWords RecordNumber → Labels → Type 0) (Shows : RecordWords RecordNumber → Labels → ProofForm RecordNumber → Type 0)
        → (is : IsFirstShown (KeptIn trust) setting.rrsets name Stands Shows shown)
        → FormFacts (KeptIn trust) setting.rrsets shown.proof.zone name is.chain shown.form → ShownFacts
    first_facts Stands Shows is facts = record {
      apex = shown.proof.zone;
      same = refl;
      chain = is.chain;
      kind = is.kind;
      facts = good_facts trust good shown.proof.zone is.chain facts;
      records = λ number there. (is.records.members number).0 there;
      named = λ number there. (is.records.members number).1 there;
    }

    -- in a zone that is known
    zone_facts : (zone : Labels) (labels : ℕ) (chain : Chain) → IsAbove zone name labels → shown.proof.zone ≡ rightmost name (length zone)
        → shown.chain ≡ kind_of chain → shown.proof.records ≡ form_records shown.form
        → FormFacts (KeptIn trust) setting.rrsets zone name chain shown.form → ShownFacts
    zone_facts zone labels chain above its_zone kind records facts =
        let Among : RecordNumber → List RecordNumber → Type 0 = λ number each. Contains each number in record {
          apex = zone;
          same = spelled name zone labels above ∙ sym (ap lower_case its_zone);
          chain = chain;
          kind = kind;
          facts = good_facts trust good zone chain facts;
          records = λ number there. subst (Among number) records there;
          named = λ number there. subst (Among number) (sym records) there;
        }

    facts_by : IsShownBy trust setting.rrsets name shown → ShownFacts
    facts_by (no_name is) =
        first_facts _ _ is (no_name_facts (KeptIn trust) setting.rrsets shown.proof.zone name is.chain shown.form is.shows)
    facts_by (no_data t is) =
        first_facts _ _ is (no_data_facts (KeptIn trust) setting.rrsets shown.proof.zone name is.chain t shown.form is.shows)
    facts_by (no_closer labels zone is) =
        zone_facts zone labels is.chain (closer_above trust labels zone is.chain shown.form is.shows) is.zone is.kind is.records
        (no_closer_facts (KeptIn trust) setting.rrsets zone name is.chain labels shown.form is.shows)
    facts_by (no_ds labels is) =
        first_facts _ _ is (delegation_facts (KeptIn trust) setting.rrsets shown.proof.zone name is.chain labels shown.form is.shows)
    facts_by (opted_out labels is) =
        first_facts _ _ is (opt_out_facts (KeptIn trust) setting.rrsets shown.proof.zone name is.chain labels shown.form is.shows)
    facts_by (closer_opted_out labels zone is) =
        zone_facts zone labels is.chain (out_above (KeptIn trust) setting.rrsets zone name is.chain labels shown.form is.shows)
        is.zone is.kind is.records (closer_facts (KeptIn trust) setting.rrsets zone name is.chain labels shown.form is.shows)

  pub shown_facts : IsShownDenial setting name shown → ShownFacts
  shown_facts is = facts_by is.0 is.1 is.2

  module _ (facts : ShownFacts) where
    -- each record is signed by the zone
    pub record_signed : (number : RecordNumber) → Contains shown.proof.records number
        → IsSecuredBy (SecuredIn setting) setting.rrsets shown.proof.zone number.rrset
    record_signed number there =
        zone_as (SecuredIn setting) setting.rrsets facts.apex shown.proof.zone number.rrset facts.same
        (each_member (IsSigned (SecuredIn setting) setting.rrsets facts.apex name) (form_records shown.form) number facts.facts.records
        (facts.records number there))

    -- each part says so
    pub part_shown : (each : ProofPart) → Contains (form_parts shown.chain shown.form) each
        → IsShownPart (SecuredIn setting) setting.rrsets facts.apex name facts.chain each
    part_shown each there =
        let Among : ChainKind → Type 0 = λ kind. Contains (form_parts kind shown.form) each in
        each_member (IsShownPart (SecuredIn setting) setting.rrsets facts.apex name facts.chain)
        (form_parts (kind_of facts.chain) shown.form) each facts.facts.parts (subst Among facts.kind there)

    -- and its record is one of the proof's
    pub part_listed : (each : ProofPart) → Contains (form_parts shown.chain shown.form) each → IsListed shown.proof.records each.by
    part_listed each there =
        listed_too (form_records shown.form) shown.proof.records each.by facts.named
        (each_member (λ (one : ProofPart). IsListed (form_records shown.form) one.by) (form_parts shown.chain shown.form) each
        (parts_listed shown.chain shown.form) there)

    by_there : (of : PartName) (related : PartRelation) (by : Option RecordNumber)
        → PartSays (SecuredIn setting) setting.rrsets facts.apex name facts.chain of related by → HasRrset setting.rrsets by
    by_there of related None says = tt
    by_there of related (Some number) says =
        let signed = word_signed (SecuredIn setting) setting.rrsets facts.apex number facts.chain (told_role of) (told_relation related)
        (part_name name of) says in
        (signed.rrset, signed.is_rrset)

    pub part_fits : (each : ProofPart) → Contains (form_parts shown.chain shown.form) each → IsPartFit setting.rrsets name each
    part_fits each there =
        let is = part_shown each there in
        record { name = is.within; by = by_there each.name each.relation each.by is.says }

-- a form has a case or a proof, which names its zone
abbrev pub HasOne : Option (InsecureCase × PartName) → Option Form → Type 0
HasOne None None = ⊥
HasOne None (Some form) = Unit {0}
HasOne (Some which) form = Unit {0}

pub has_one : (shape : ProofForm RecordNumber) → HasOne (told_case shape) (told_form shape)
has_one (form.NoName parts) = tt
has_one shape = tt
