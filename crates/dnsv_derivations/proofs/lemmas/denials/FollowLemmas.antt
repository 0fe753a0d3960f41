-- Each line of a denial follows from those before it.
use Rattle.std.proofs.Common.{◌≡◌, ℕ, suc, List, [], ◌∷◌, ◌++◌, Option, Some, None, refl, sym, ap, ◌∙◌, subst, append_assoc, ⊎_elim, arith}
use Rattle.std.proofs.lemmas.List.{append-nil}
use Rattle.std.proofs.lemmas.List.Elements.{Contains-append_left, Contains-push}
use Rattle.std.specs.List.{AllByRecursion, Contains}
use Rattle.dnsv_names.specs.Name.{Labels, SameName, lower_case}
use Rattle.dnsv_zones.specs.forms.RecordWords.{RecordWords}
use Rattle.dnsv_chain.specs.Trust.{KeptTrust, SecuredIn as KeptIn}
use Rattle.dnsv_proof_forms.specs.forms.ProofForms.{form_records}
use Rattle.dnsv_denial.specs.gathering.Evidence.{IsSecuredBy}
use Rattle.dnsv_proof_forms.specs.forms.ProofParts.{form_parts, part_name}
use Rattle.dnsv_denial.specs.proving.ShownDenials.{IsFirstShown, kind_of}
use Rattle.dnsv_denial.specs.gathering.EvidenceWords.{Chain, evidence_said}
use Rattle.dnsv_denial.specs.gathering.EvidenceWords.Chain.{ByNsec, ByNsec3}
use Rattle.dnsv_proof_forms.specs.declared.forms.proof_form.ProofForm.{ProofForm}
use Rattle.dnsv_proof_forms.specs.declared.forms.proof_part.PartName.{PartName}
use Rattle.dnsv_proof_forms.specs.declared.forms.proof_part.PartRelation.{PartRelation}
use Rattle.dnsv_proof_forms.specs.declared.forms.proof_part.ProofPart.{ProofPart}
use Rattle.dnsv_denial.specs.declared.proving.shown_denial.ShownDenial.{ShownDenial}
use Rattle.dnsv_canonical.specs.declared.number.RecordNumber.{RecordNumber}
use Rattle.dnsv_derivations.specs.Explained.{Setting}
use Rattle.dnsv_derivations.specs.Denials.{IsCaseFor, IsDenialTold, IsExpandedTold, IsPartLine, IsPartSaid, IsPartTold, IsFormTold, IsProofOf, IsProofSaid, IsShownBy, IsShownDenial, IsTellingOf, told_case, told_chain, told_form, told_relation, told_role}
use Rattle.dnsv_derivations.specs.Denials.IsShownBy.{no_name, no_data, no_closer, no_ds, opted_out, closer_opted_out}
use Rattle.dnsv_derivations.specs.derivations.OwnDerivations.{AreRecordsDerived, IsOwnDerivation, SecuredIn}
use Rattle.dnsv_derivations.specs.derivations.Derivations.Subject.{signature}
use Rattle.dnsv_derivations.specs.Following.{EachFollows, IsSaidSigned, IsSignatureSaid}
use Rattle.dnsv_derivations.specs.Following.Cases.{IsCaseBy}
use Rattle.dnsv_derivations.specs.Following.Parts.{IsOfKind, IsPartOf, IsSaidBy, IsWord, IsZoneNamed}
use Rattle.dnsv_derivations.specs.Following.Parts.IsZoneNamed.{by_case, by_proof}
use Rattle.dnsv_derivations.specs.Saying.{AreBoth, AreEach}
use Rattle.dnsv_derivations.specs.unsigned_cuts.UnsignedCuts.{IsCaseTold}
use Rattle.dnsv_lines.specs.declared.line.Line.{Line}
use Rattle.dnsv_lines.specs.declared.line.Line.TheVariants as line
use Rattle.dnsv_lines.specs.declared.line.cut.InsecureCase.{InsecureCase}
use Rattle.dnsv_lines.specs.declared.line.denial.Chain.{Chain as ToldChain}
use Rattle.dnsv_lines.specs.declared.line.denial.Form.{Form}
use Rattle.dnsv_lines.specs.declared.line.denial.Part.{Part}
use Rattle.dnsv_lines.specs.declared.line.denial.Proof.{Proof}
use Rattle.dnsv_lines.specs.declared.line.denial.RecordPlace.{RecordPlace}
use Rattle.dnsv_lines.specs.declared.line.denial.Relation.{Relation}
use Rattle.dnsv_lines.specs.declared.line.denial.Role.{Role}
use Rattle.dnsv_canonical.specs.declared.number.SignatureNumber.{SignatureNumber}
use Rattle.dnsv_derivations.proofs.lemmas.denials.StandingLemmas.{Counts, delegation_by, each_by, opt_out_by, opt_out_closer_by}
use Rattle.dnsv_derivations.proofs.lemmas.unsigned_cuts.CutLemmas.{closer_above, delegation_case, no_closer_case, no_data_case, no_name_case, opt_out_case, out_closer_case}
use Rattle.dnsv_derivations.proofs.lemmas.denials.FormLemmas.{PartSays, each_member}
use Rattle.dnsv_derivations.proofs.lemmas.denials.ShownLemmas.{HasOne, IsListed, ShownFacts, has_one, part_listed, part_shown, shown_facts, spelled}
use Rattle.dnsv_derivations.proofs.lemmas.derivations.DerivationLemmas.{derivation_follows, number_said}
use Rattle.dnsv_derivations.proofs.lemmas.denials.PartLemmas.{secured_too, word_by, zone_as}

-- ---- steps one after another

pub first_of : {X : Type 0} (x : X) (xs : List X) → Contains (x ∷ xs) x
first_of x xs = (0, omega arith, refl)

pub behind : {X : Type 0} (x : X) (xs : List X) (y : X) → Contains xs y → Contains (x ∷ xs) y
behind x xs y there = let within = there.1 in (suc there.0, omega (arith, within), there.2)

-- what is so of each step's element behind it, and stays so, is so of all behind them
each_said : {X : Type 0} (Says : X → List Line → List Line → Type 0) (P : List Line → X → Type 0)
    → ((x : X) (before more : List Line) → P before x → P (before ++ more) x)
    → ((x : X) (before lines : List Line) → Says x before lines → P (before ++ lines) x)
    → (xs : List X) (before lines : List Line) → AreEach Says xs before lines → AllByRecursion (P (before ++ lines)) xs
each_said Says P stays then [] before lines each = tt
each_said Says P stays then (x ∷ xs) before lines each =
    let joined : (before ++ each.first) ++ each.second ≡ before ++ lines =
    append_assoc before each.first each.second ∙ ap (λ rest. before ++ rest) (sym each.parts) in
    let One : List Line → Type 0 = λ all. P all x in
    let All : List Line → Type 0 = λ all. AllByRecursion (P all) xs in (
      subst One joined (stays x (before ++ each.first) each.second (then x before each.first each.says_first)),
      subst All joined (each_said Says P stays then xs (before ++ each.first) each.second each.says_second),
    )

module _ (setting : Setting) where
  abbrev Follow : List Line → List Line → Type 0
  Follow before lines = EachFollows setting before lines

  follows_append : (before xs ys : List Line) → Follow before xs → Follow (before ++ xs) ys → Follow before (xs ++ ys)
  follows_append before [] ys first second =
      let Then : List Line → Type 0 = λ all. Follow all ys in subst Then (append-nil before) second
  follows_append before (x ∷ xs) ys first second =
      let Then : List Line → Type 0 = λ all. Follow all ys in
      (first.0, follows_append (before ++ x ∷ []) xs ys first.1 (subst Then (sym (append_assoc before (x ∷ []) xs)) second))

  pub both_follow : (First Second : List Line → List Line → Type 0) (before lines : List Line)
      → (both : AreBoth First Second before lines) → Follow before both.first → Follow (before ++ both.first) both.second → Follow before lines
  both_follow First Second before lines both first second =
      let Lines : List Line → Type 0 = λ all. Follow before all in
      subst Lines (sym both.parts) (follows_append before both.first both.second first second)

  pub each_follow : {X : Type 0} (Says : X → List Line → List Line → Type 0) (Given : List Line → Type 0)
      → ((before more : List Line) → Given before → Given (before ++ more))
      → (xs : List X)
      → ((x : X) → Contains xs x → (before lines : List Line) → Given before → Says x before lines → Follow before lines)
      → (before lines : List Line) → Given before → AreEach Says xs before lines → Follow before lines
  each_follow Says Given stays [] then before lines given each =
      let Lines : List Line → Type 0 = λ all. Follow before all in subst Lines (sym each) tt
  each_follow Says Given stays (x ∷ xs) then before lines given each =
      both_follow (Says x) (AreEach Says xs) before lines each
      (then x (first_of x xs) before each.first given each.says_first)
      (each_follow Says Given stays xs (λ y there. then y (behind x xs y there)) (before ++ each.first) each.second
      (stays before each.first given) each.says_second)

  -- ---- records

  abbrev pub Said : List Line → ℕ → ℕ → Type 0
  Said before k s = IsSignatureSaid before (record { rrset = k; signature = s })

  pub said_stays : (before more : List Line) (number : SignatureNumber) → IsSignatureSaid before number
      → IsSignatureSaid (before ++ more) number
  said_stays before more number said = record {
    signed = said.signed;
    among = Contains-append_left before more (line.Signed said.signed) said.among;
    is = said.is;
  }

  -- a signature of the zone over the RRset was said to be good
  abbrev pub OwnSaid : Labels → List Line → ℕ → Type 0
  OwnSaid zone before k = IsSecuredBy (Said before) setting.rrsets zone k

  own_stays : (zone : Labels) (k : ℕ) (before more : List Line) → OwnSaid zone before k → OwnSaid zone (before ++ more) k
  own_stays zone k before more said =
      secured_too (Said before) (Said (before ++ more)) setting.rrsets zone k
      (λ s one. said_stays before more (record { rrset = k; signature = s }) one) said

  pub own_said : (zone : Labels) (k : ℕ) (before lines : List Line) → IsOwnDerivation setting zone k before lines
      → OwnSaid zone (before ++ lines) k
  own_said zone k before lines own =
      secured_too (λ j t. (t ≡ own.s) × SecuredIn setting j t) (Said (before ++ lines)) setting.rrsets zone k
      (λ t is.
      let There : ℕ → Type 0 = λ s. Said (before ++ lines) k s in
      subst There (sym is.0) (number_said setting before lines (record { rrset = k; signature = own.s }) own.derivation))
      own.lowest.own

  records_follow : (zone : Labels) (records : List RecordNumber) (before lines : List Line)
      → AreRecordsDerived setting zone records before lines → Follow before lines
  records_follow zone records before lines each =
      each_follow (λ (number : RecordNumber). IsOwnDerivation setting zone number.rrset) (λ all. Unit {0}) (λ all more given. tt) records
      (λ number there all more given own.
      derivation_follows setting all (signature (record { rrset = number.rrset; signature = own.s })) more own.derivation)
      before lines tt each

  pub records_said : (zone : Labels) (records : List RecordNumber) (before lines : List Line)
      → AreRecordsDerived setting zone records before lines
      → AllByRecursion (λ (number : RecordNumber). OwnSaid zone (before ++ lines) number.rrset) records
  records_said zone records before lines each =
      each_said (λ (number : RecordNumber). IsOwnDerivation setting zone number.rrset)
      (λ all number. OwnSaid zone all number.rrset)
      (λ number all more said. own_stays zone number.rrset all more said)
      (λ number all more own. own_said zone number.rrset all more own) records before lines each

  -- ---- a case

  abbrev CaseSaid : List Line → InsecureCase → Labels → Option Labels → Type 0
  CaseSaid before = IsCaseBy (Said before) (IsSaidSigned before) setting.rrsets

  pub case_follows : (kind : InsecureCase) (cut : Labels) (of_zone : Option Labels) (before lines : List Line)
      → IsCaseTold kind cut of_zone before lines → CaseSaid before kind cut of_zone → Follow before lines
  case_follows kind cut of_zone before lines told said =
      let Lines : List Line → Type 0 = λ all. Follow before all in
      let Kind : InsecureCase → Type 0 = λ each. CaseSaid before each cut of_zone in
      let Name : Labels → Type 0 = λ each. CaseSaid before told.cut.case each of_zone in
      let Zone : Option Labels → Type 0 = λ each. CaseSaid before told.cut.case told.cut.name each in
      subst Lines (sym told.are) (
        subst Zone (sym told.is_zone) (subst Name (sym told.is_name) (subst Kind (sym told.is_kind) said)),
        tt,
      )

  -- where there is one
  abbrev CaseSaidOf : List Line → Labels → Labels → Option (InsecureCase × PartName) → Type 0
  CaseSaidOf before name zone None = Unit {0}
  CaseSaidOf before name zone (Some which) = CaseSaid before which.0 (part_name name which.1) (Some zone)

  case_for_follows : (which : Option (InsecureCase × PartName)) (name zone : Labels) (before lines : List Line)
      → IsCaseFor which name zone before lines → CaseSaidOf before name zone which → Follow before lines
  case_for_follows None name zone before lines told said =
      let Lines : List Line → Type 0 = λ all. Follow before all in subst Lines (sym told) tt
  case_for_follows (Some which) name zone before lines told said =
      case_follows which.0 (part_name name which.1) (Some zone) before lines told said

  -- what it says is shown by the records that were derived
  module _ (trust : KeptTrust) (name : Labels) (shown : ShownDenial) (before : List Line)
      (own : (number : RecordNumber) → Contains shown.proof.records number → OwnSaid shown.proof.zone before number.rrset) where
    abbrev Kept : ℕ → ℕ → Type 0
    Kept = KeptIn trust

    abbrev SaidOf : Option (InsecureCase × PartName) → Type 0
    SaidOf which = CaseSaidOf before name shown.proof.zone which

    counted : (Stands : RecordWords RecordNumber → Labels → Type 0) (Shows : RecordWords RecordNumber → Labels → ProofForm RecordNumber → Type 0)
        → IsFirstShown Kept setting.rrsets name Stands Shows shown
        → AllByRecursion (Counts Kept (Said before) setting.rrsets shown.proof.zone name) (form_records shown.form)
    counted Stands Shows is =
        each_by (Counts Kept (Said before) setting.rrsets shown.proof.zone name) (form_records shown.form)
        (λ number there. own number ((is.records.members number).1 there))

    case_shown : IsShownBy trust setting.rrsets name shown → SaidOf (told_case shown.form)
    case_shown (no_name is) =
        subst SaidOf (sym (no_name_case (evidence_said Kept setting.rrsets shown.proof.zone is.chain) shown.proof.zone name shown.form is.shows)) tt
    case_shown (no_data t is) =
        subst SaidOf (sym (no_data_case (evidence_said Kept setting.rrsets shown.proof.zone is.chain) shown.proof.zone name t shown.form is.shows)) tt
    case_shown (no_closer labels zone is) =
        subst SaidOf (sym (no_closer_case (evidence_said Kept setting.rrsets zone is.chain) zone name labels shown.form is.shows)) tt
    case_shown (no_ds labels is) =
        let zone = shown.proof.zone in
        let shows = delegation_by Kept (Said before) setting.rrsets zone name is.chain labels shown.form (counted _ _ is) is.shows in
        subst SaidOf (sym (delegation_case (evidence_said Kept setting.rrsets zone is.chain) zone name labels shown.form is.shows))
        (zone, refl, (name, labels, is.chain, refl, shows))
    case_shown (opted_out labels is) =
        let zone = shown.proof.zone in
        let shows = opt_out_by Kept (Said before) setting.rrsets zone name is.chain labels shown.form (counted _ _ is) is.shows in
        subst SaidOf (sym (opt_out_case (evidence_said Kept setting.rrsets zone is.chain) zone name labels shown.form is.shows))
        (zone, refl, (name, labels, is.chain, refl, shows))
    case_shown (closer_opted_out labels zone is) =
        let above = closer_above Kept setting.rrsets zone name is.chain labels shown.form is.shows in
        let same = ap lower_case is.zone ∙ sym (spelled name zone labels above) in
        let Among : RecordNumber → List RecordNumber → Type 0 = λ number each. Contains each number in
        let shows = opt_out_closer_by Kept (Said before) setting.rrsets zone name is.chain labels shown.form
        (each_by (Counts Kept (Said before) setting.rrsets zone name) (form_records shown.form)
        (λ number there.
        zone_as (Said before) setting.rrsets shown.proof.zone zone number.rrset same (own number (subst (Among number) (sym is.records) there))))
        is.shows in
        subst SaidOf (sym (out_closer_case (evidence_said Kept setting.rrsets zone is.chain) zone name labels shown.form is.shows))
        (zone, same, (name, labels, is.chain, refl, shows))

  module _ (name : Labels) (shown : ShownDenial) (facts : ShownFacts setting name shown) where
    -- ---- the proof

    of_kind : (chain : Chain) → IsOfKind (told_chain (kind_of chain)) chain
    of_kind ByNsec = tt
    of_kind (ByNsec3 parameters) = tt

    proof_names : (proof said : Proof) (all : List Line) → proof.zone ≡ shown.proof.zone → proof.chain ≡ told_chain shown.chain
        → Contains all (line.Proof said) → said.chain ≡ proof.chain → SameName said.zone proof.zone
        → IsZoneNamed all facts.apex facts.chain
    proof_names proof said all zone chain there same_chain same_zone =
        let OfKind : ToldChain → Type 0 = λ each. IsOfKind each facts.chain in
        by_proof said there (same_zone ∙ ap lower_case zone ∙ sym facts.same)
        (subst OfKind (sym (same_chain ∙ chain ∙ ap told_chain facts.kind)) (of_kind facts.chain))

    form_said : (form : Form) (before lines : List Line) → IsFormTold form name shown before lines
        → IsZoneNamed (before ++ lines) facts.apex facts.chain
    form_said form before lines told = ⊎_elim
        (λ (once : IsProofSaid told.proof before × (lines ≡ [])).
        proof_names told.proof once.0.said (before ++ lines) told.is.zone told.is.chain
        (Contains-append_left before lines (line.Proof once.0.said) once.0.among) once.0.same.chain once.0.same.zone)
        (λ (once : (¬ IsProofSaid told.proof before) × (lines ≡ line.Proof told.proof ∷ [])).
        let There : List Line → Type 0 = λ more. Contains (before ++ more) (line.Proof told.proof) in
        proof_names told.proof told.proof (before ++ lines) told.is.zone told.is.chain
        (subst There (sym once.1) (Contains-push before (line.Proof told.proof))) refl refl)
        told.once

    form_follows : (form : Form) (before lines : List Line) → IsFormTold form name shown before lines → Follow before lines
    form_follows form before lines told =
        let Lines : List Line → Type 0 = λ all. Follow before all in
        ⊎_elim
        (λ (once : IsProofSaid told.proof before × (lines ≡ [])). subst Lines (sym once.1) tt)
        (λ (once : (¬ IsProofSaid told.proof before) × (lines ≡ line.Proof told.proof ∷ [])). subst Lines (sym once.1) (tt, tt))
        told.once

    any_proof_follows : (form : Option Form) (before lines : List Line) → IsProofOf form name shown before lines → Follow before lines
    any_proof_follows None before lines told =
        let Lines : List Line → Type 0 = λ all. Follow before all in subst Lines (sym told) tt
    any_proof_follows (Some form) before lines told = form_follows form before lines told

    case_said : (kind : InsecureCase) (cut : Labels) (before lines : List Line)
        → IsCaseTold kind cut (Some shown.proof.zone) before lines → IsZoneNamed (before ++ lines) facts.apex facts.chain
    case_said kind cut before lines told =
        let There : List Line → Type 0 = λ more. Contains (before ++ more) (line.Case told.cut) in
        by_case told.cut shown.proof.zone (subst There (sym told.are) (Contains-push before (line.Case told.cut))) told.is_zone
        (sym facts.same)

    named_stays : (before more : List Line) → IsZoneNamed before facts.apex facts.chain
        → IsZoneNamed (before ++ more) facts.apex facts.chain
    named_stays before more (by_proof proof there same kind) =
        by_proof proof (Contains-append_left before more (line.Proof proof) there) same kind
    named_stays before more (by_case cut named there zone same) =
        by_case cut named (Contains-append_left before more (line.Case cut) there) zone same

    -- the case names the zone, or the proof
    named_by : (which : Option (InsecureCase × PartName)) (form : Option Form) → HasOne which form → (before cased proof : List Line)
        → IsCaseFor which name shown.proof.zone before cased → IsProofOf form name shown (before ++ cased) proof
        → IsZoneNamed ((before ++ cased) ++ proof) facts.apex facts.chain
    named_by None None has before cased proof told its = absurd has
    named_by None (Some form) has before cased proof told its = form_said form (before ++ cased) proof its
    named_by (Some which) form has before cased proof told its =
        named_stays (before ++ cased) proof (case_said which.0 (part_name name which.1) before cased told)

    -- ---- its parts

    -- what the lines before a part have to say
    record Prepared (before : List Line) : Type 0 where
      named : IsZoneNamed before facts.apex facts.chain
      own : (number : RecordNumber) → Contains shown.proof.records number → OwnSaid facts.apex before number.rrset

    prepared_stays : (before more : List Line) → Prepared before → Prepared (before ++ more)
    prepared_stays before more prepared = record {
      named = named_stays before more prepared.named;
      own = λ number there. own_stays facts.apex number.rrset before more (prepared.own number there);
    }

    part_says : (before : List Line) → Prepared before → (of : PartName) (related : PartRelation) (by : Option RecordNumber)
        (told : Option RecordPlace) → PartSays (SecuredIn setting) setting.rrsets facts.apex name facts.chain of related by
        → IsListed shown.proof.records by → IsTellingOf setting.rrsets by told
        → IsSaidBy (Said before) setting.rrsets facts.apex facts.chain (told_role of) (told_relation related) (part_name name of) told
    part_says before prepared of related None None says there telling = says
    part_says before prepared of related None (Some place) says there telling = absurd telling
    part_says before prepared of related (Some number) None says there telling = absurd telling
    part_says before prepared of related (Some number) (Some place) says there telling =
        let Says : RecordNumber → Type 0 = λ each. IsWord (evidence_said (Said before) setting.rrsets facts.apex facts.chain) (told_role of)
        (told_relation related) (part_name name of) each in (
          telling.1,
          subst Says (sym telling.0)
              (word_by (SecuredIn setting) setting.rrsets facts.apex number (Said before) (prepared.own number there) facts.chain
              (told_role of) (told_relation related) (part_name name of) says),
        )

    part_is : (before : List Line) → Prepared before → (each : ProofPart) → Contains (form_parts shown.chain shown.form) each
        → (told : Part) → IsPartLine setting.rrsets name each told
        → IsPartOf (Said before) setting.rrsets facts.apex facts.chain told
    part_is before prepared each there told is =
        let By : Role → Relation → Labels → Type 0 =
        λ as_role as_relation as_name. IsSaidBy (Said before) setting.rrsets facts.apex facts.chain as_role as_relation as_name told.by in
        let says : By (told_role each.name) (told_relation each.relation) (part_name name each.name) =
        part_says before prepared each.name each.relation each.by told.by
        (part_shown setting name shown facts each there).says (part_listed setting name shown facts each there) is.by in
        subst (λ as_role. By as_role told.relation told.name) (sym is.role)
        (subst (λ as_relation. By (told_role each.name) as_relation told.name) (sym is.relation)
        (subst (λ as_name. By (told_role each.name) (told_relation each.relation) as_name) (sym is.name) says))

    part_follows : (each : ProofPart) → Contains (form_parts shown.chain shown.form) each → (before lines : List Line)
        → Prepared before → IsPartTold setting.rrsets name each before lines → Follow before lines
    part_follows each there before lines prepared told =
        let Lines : List Line → Type 0 = λ all. Follow before all in
        ⊎_elim
        (λ (once : IsPartSaid told.part before × (lines ≡ [])). subst Lines (sym once.1) tt)
        (λ (once : (¬ IsPartSaid told.part before) × (lines ≡ line.Part told.part ∷ [])).
        subst Lines (sym once.1) (
          record {
            zone = facts.apex;
            chain = facts.chain;
            named = prepared.named;
            says = part_is before prepared each there told.part told.is;
          },
          tt,
        ))
        told.once

    -- ---- the denial

    told_follows : (trust : KeptTrust) → IsShownBy trust setting.rrsets name shown → (before lines : List Line)
        → IsDenialTold setting name shown before lines → Follow before lines
    told_follows trust is before lines told =
        let rest = told.says_second in
        let last = rest.says_second in
        let derived : List Line = before ++ told.first in
        let cased : List Line = derived ++ rest.first in
        let own : (number : RecordNumber) → Contains shown.proof.records number → OwnSaid shown.proof.zone derived number.rrset =
        λ number there. each_member (λ (one : RecordNumber). OwnSaid shown.proof.zone derived one.rrset) shown.proof.records number
        (records_said shown.proof.zone shown.proof.records before told.first told.says_first) there in
        both_follow _ _ before lines told
        (records_follow shown.proof.zone shown.proof.records before told.first told.says_first)
        (both_follow _ _ derived told.second rest
        (case_for_follows (told_case shown.form) name shown.proof.zone derived rest.first rest.says_first
        (case_shown trust name shown derived own is))
        (both_follow _ _ cased rest.second last
        (any_proof_follows (told_form shown.form) cased last.first last.says_first)
        (each_follow (IsPartTold setting.rrsets name) Prepared prepared_stays (form_parts shown.chain shown.form) part_follows
        (cased ++ last.first) last.second
        (record {
          named = named_by (told_case shown.form) (told_form shown.form) (has_one shown.form) derived rest.first last.first rest.says_first
              last.says_first;
          own = λ number there.
              own_stays facts.apex number.rrset cased last.first
              (own_stays facts.apex number.rrset derived rest.first
              (zone_as (Said derived) setting.rrsets shown.proof.zone facts.apex number.rrset (sym facts.same) (own number there)));
        })
        last.says_second)))

  pub denial_follows : (name : Labels) (shown : ShownDenial) (before lines : List Line) → IsShownDenial setting name shown
      → IsDenialTold setting name shown before lines → Follow before lines
  denial_follows name shown before lines is told = told_follows name shown (shown_facts setting name shown is) is.0 is.2 before lines told

  pub expanded_follows : (name : Labels) (number : SignatureNumber) (shown : ShownDenial) (before lines : List Line)
      → IsShownDenial setting name shown → IsExpandedTold setting name number shown before lines → Follow before lines
  expanded_follows name number shown before lines is told =
      both_follow _ _ before lines told (derivation_follows setting before (signature number) told.first told.says_first)
      (denial_follows name shown (before ++ told.first) told.second is told.says_second)
