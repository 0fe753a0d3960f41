-- Each proof of a text that checks is true.
use Rattle.std.proofs.Common.{◌≡◌, ◌+◌, ℕ, List, [], ◌∷◌, Option, Some, inl, inr, refl, sym, subst, ⊎_elim}
use Rattle.std.specs.List.{Contains}
use Rattle.dnsv_names.specs.Name.{Labels, rightmost}
use Rattle.dnsv_names.specs.Tree.{wildcard_of}
use Rattle.dnsv_zones.specs.forms.Forms.{EmptyForm, EndsAt, NoCloserForm, NoDataForm, Words}
use Rattle.dnsv_zones.specs.forms.Parts.{OptsOut, OptsOutNextCloser}
use Rattle.dnsv_zones.specs.forms.RecordWords.{RecordWords}
use Rattle.dnsv_zones.specs.zones.Types.{Denies}
use Rattle.dnsv_zones.specs.zones.Zone.{Zone}
use Rattle.dnsv_zones.proofs.lemmas.meaning.MeaningLemmas.{empty, empty_wildcard, held_at_wildcard, no_data, no_name, no_wildcard_data}
use Rattle.dnsv_canonical.specs.declared.number.RecordNumber.{RecordNumber}
use Rattle.dnsv_canonical.proofs.CanonicalLemmas.{Contains-from_member, IsMember, IsMember-from_contains}
use Rattle.dnsv_denial.specs.proving.FirstProof.{ProofRecords}
use Rattle.dnsv_denial.specs.proving.ProofMeaning.{HasProofRecords, HasProofWithoutCollision}
use Rattle.dnsv_denial.specs.gathering.EvidenceWords.{Chain}
use Rattle.dnsv_derivations.specs.Denials.{SameEncloser}
use Rattle.dnsv_derivations.specs.Explained.{Setting}
use Rattle.dnsv_derivations.specs.Following.{EachFollows}
use Rattle.dnsv_derivations.specs.Following.Parts.{IsOfKind}
use Rattle.dnsv_lines.specs.declared.line.Line.{Line}
use Rattle.dnsv_lines.specs.declared.line.Line.TheVariants as line
use Rattle.dnsv_lines.specs.declared.line.denial.Chain.{Chain as ToldChain}
use Rattle.dnsv_lines.specs.declared.line.denial.Form.{Form}
use Rattle.dnsv_lines.specs.declared.line.denial.Form.TheVariants as form
use Rattle.dnsv_lines.specs.declared.line.denial.Proof.{Proof}
use Rattle.dnsv_rules.specs.Checked.{Asked, Checks, StandsFor}
use Rattle.dnsv_rules.specs.Told.{IsShownGood, shown_said, told_words}
use Rattle.dnsv_rules.specs.Truth.{HasIts, IsDenied, IsItsEncloser, IsLeftOpen, IsToldOptedOut, IsTrueProof, SaysOf}
use Rattle.dnsv_rules.proofs.truth.FormLemmas.{Rests, empty_rests_at, empty_wildcard_rests, no_closer_rests, no_data_rests, no_name_rests, wildcard_data_rests}
use Rattle.dnsv_rules.proofs.truth.RecordLemmas.{IsSuch, are_such, told_say}
use Rattle.dnsv_rules.proofs.truth.WordLemmas.{Speaks, closest_by, deny, is_zone, out_end, speak}

module _ (setting : Setting) (asked : Asked) (lines : List Line) (follows : EachFollows setting [] lines) (zone : Labels)
    (kind : ToldChain) (chain : Chain) (of_kind : IsOfKind kind chain) where
  abbrev said : RecordWords RecordNumber
  said = shown_said setting.rrsets lines zone chain

  abbrev told : RecordWords RecordNumber
  told = told_words said lines

  abbrev Such : RecordNumber → Type 0
  Such = IsSuch setting lines follows zone chain

  abbrev proof_of : List RecordNumber → ProofRecords
  proof_of records = record { zone = zone; records = records }

  abbrev line_of : Form → Option Labels → Proof
  line_of which encloser = record { form = which; chain = kind; zone = zone; encloser = encloser }

  abbrev Out : List RecordNumber → Labels → Type 0
  Out records = IsToldOptedOut setting.rrsets lines zone chain records

  -- what rests on records that are such is true of the zones that have them
  true_by : (which : Form) (encloser : Option Labels) (name : Labels) (labels : ℕ) (Holds : Words → Type 0) (rests : Rests told Such Holds)
      → IsDenied which asked name → IsItsEncloser which encloser (rightmost name labels)
      → ((its : Zone) → HasIts which setting.rrsets name (proof_of rests.records) its
      → SaysOf which name asked.rtype labels (Out rests.records) its)
      → IsTrueProof setting asked lines (line_of which encloser)
  true_by which encloser name labels Holds rests denied its_encloser means = record {
    name = name;
    denied = denied;
    labels = labels;
    encloser = its_encloser;
    chain = chain;
    kind = of_kind;
    records = rests.records;
    of_chain = λ n there. (rests.such n (IsMember-from_contains rests.records n there)).0;
    told = λ n there. (rests.such n (IsMember-from_contains rests.records n there)).1;
    means = means;
  }

  -- the words of a zone that has the records, of which no other node has a hash that is asked for
  speaks_for : (name : Labels) (records : List RecordNumber) (its : Zone) → HasProofWithoutCollision setting.rrsets name (proof_of records) its
      → Speaks said records its name
  speaks_for name records its has = speak (IsShownGood lines) setting.rrsets (proof_of records) its name chain has.has has.apart

  -- what holds by the records holds by those words
  held : (name : Labels) (Holds : Words → Type 0) (rests : Rests told Such Holds) (its : Zone) (speaks : Speaks said rests.records its name)
      → Holds speaks.its
  held name Holds rests its speaks = rests.holds speaks.its (told_say said lines rests.records speaks.its speaks.say)

  -- ---- no such name

  no_name_true : (encloser : Option Labels) → StandsFor form.NoName asked zone encloser told
      → IsTrueProof setting asked lines (line_of form.NoName encloser)
  no_name_true encloser (stands, same) =
      let name = asked.name in
      let Holds : Words → Type 0 = λ its. EndsAt its zone name stands.labels × its.Absent (wildcard_of (rightmost name stands.labels)) in
      let rests : Rests told Such Holds = no_name_rests told Such (are_such setting lines follows zone chain) zone name stands in
      true_by form.NoName encloser name stands.labels Holds rests refl same (λ its has.
      let speaks = speaks_for name rests.records its has in
      let both = held name Holds rests its speaks in
      let is = is_zone setting.rrsets (proof_of rests.records) its has.has in (
        closest_by its speaks.its zone name stands.labels is.1 speaks.are_true both.0,
        λ any. no_name its speaks.its zone name is.0 is.1 speaks.are_true any
            (record { labels = stands.labels; ends = both.0; wildcard = both.1 }),
      ))

  -- ---- no data

  no_data_true : (encloser : Option Labels) → StandsFor form.NoData1 asked zone encloser told
      → IsTrueProof setting asked lines (line_of form.NoData1 encloser)
  no_data_true encloser (stands, same) =
      let name = asked.name in
      let Holds : Words → Type 0 = λ its. NoDataForm its zone name asked.rtype in
      let rests : Rests told Such Holds = no_data_rests told Such (are_such setting lines follows zone chain) zone name asked.rtype stands in
      true_by form.NoData1 encloser name 0 Holds rests refl same (λ its has.
      let speaks = speaks_for name rests.records its has in
      let is = is_zone setting.rrsets (proof_of rests.records) its has.has in
      no_data its speaks.its zone name is.0 is.1 speaks.are_true asked.rtype (held name Holds rests its speaks))

  empty_true : (encloser : Option Labels) → StandsFor form.NoData2 asked zone encloser told
      → IsTrueProof setting asked lines (line_of form.NoData2 encloser)
  empty_true encloser (stands, same) =
      let name = asked.name in
      let Holds : Words → Type 0 = λ its. EmptyForm its zone name in
      let rests : Rests told Such Holds = empty_rests_at told Such (are_such setting lines follows zone chain) zone name stands in
      true_by form.NoData2 encloser name 0 Holds rests refl same (λ its has.
      let speaks = speaks_for name rests.records its has in
      let is = is_zone setting.rrsets (proof_of rests.records) its has.has in
      empty its speaks.its zone name is.0 is.1 speaks.are_true asked.rtype (held name Holds rests its speaks))

  wildcard_data_true : (encloser : Option Labels) → StandsFor form.NoData3 asked zone encloser told
      → IsTrueProof setting asked lines (line_of form.NoData3 encloser)
  wildcard_data_true encloser (stands, same) =
      let name = asked.name in
      let Holds : Words → Type 0 = λ its.
      EndsAt its zone name stands.labels × its.TypesAt (wildcard_of (rightmost name stands.labels)) (λ has. Denies has asked.rtype) in
      let rests : Rests told Such Holds =
      wildcard_data_rests told Such (are_such setting lines follows zone chain) zone name asked.rtype stands in
      true_by form.NoData3 encloser name stands.labels Holds rests refl same (λ its has.
      let speaks = speaks_for name rests.records its has in
      let both = held name Holds rests its speaks in
      let is = is_zone setting.rrsets (proof_of rests.records) its has.has in (
        closest_by its speaks.its zone name stands.labels is.1 speaks.are_true both.0,
        no_wildcard_data its speaks.its zone name is.0 is.1 speaks.are_true asked.rtype
            (record { labels = stands.labels; ends = both.0; types = both.1 }),
      ))

  empty_wildcard_true : (encloser : Option Labels) → StandsFor form.NoData4 asked zone encloser told
      → IsTrueProof setting asked lines (line_of form.NoData4 encloser)
  empty_wildcard_true encloser (stands, same) =
      let name = asked.name in
      let Holds : Words → Type 0 = λ its.
      EndsAt its zone name stands.labels × its.EmptyNonTerminal (wildcard_of (rightmost name stands.labels)) in
      let rests : Rests told Such Holds = empty_wildcard_rests told Such (are_such setting lines follows zone chain) zone name stands in
      true_by form.NoData4 encloser name stands.labels Holds rests refl same (λ its has.
      let speaks = speaks_for name rests.records its has in
      let both = held name Holds rests its speaks in
      let is = is_zone setting.rrsets (proof_of rests.records) its has.has in (
        closest_by its speaks.its zone name stands.labels is.1 speaks.are_true both.0,
        empty_wildcard its speaks.its zone name is.0 is.1 speaks.are_true asked.rtype
            (record { labels = stands.labels; ends = both.0; empty_non_terminal = both.1 }),
      ))

  -- ---- no closer name

  no_closer_true : (encloser : Option Labels) → StandsFor form.NoCloser asked zone encloser told
      → IsTrueProof setting asked lines (line_of form.NoCloser encloser)
  no_closer_true encloser (name, on_way, labels, stands, same) =
      let Holds : Words → Type 0 = λ its. NoCloserForm its zone name labels in
      let rests : Rests told Such Holds = no_closer_rests told Such (are_such setting lines follows zone chain) zone name labels stands in
      true_by form.NoCloser encloser name labels Holds rests on_way same (λ its has any holds.
      let denies = deny (IsShownGood lines) setting.rrsets (proof_of rests.records) its chain has in
      let is = is_zone setting.rrsets (proof_of rests.records) its has in
      held_at_wildcard its denies.its zone name labels any is.0 is.1 denies.absent
      (rests.holds denies.its (told_say said lines rests.records denies.its denies.say)) holds)

  -- ---- Opt-Out

  -- what such a record covers with the flag is left open
  left_open : (records : List RecordNumber) (n : RecordNumber) (x : Labels) → IsMember n records → told.OptedOut x n → (its : Zone)
      → HasProofRecords setting.rrsets (proof_of records) its → IsLeftOpen (Out records) its x
  left_open records n x there by its has = (
    (n, Contains-from_member records n there, by),
    out_end (IsShownGood lines) setting.rrsets (proof_of records) its chain x n there by.0 has,
  )

  module _ (encloser : Option Labels) (labels : ℕ) (same : SameEncloser encloser (Some (rightmost asked.name labels))) where
    abbrev next : Labels
    next = rightmost asked.name (labels + 1)

    abbrev star : Labels
    star = wildcard_of (rightmost asked.name labels)

    out_true : (records : List RecordNumber) → ((n : RecordNumber) → IsMember n records → Such n)
        → ((its : Zone) → HasProofRecords setting.rrsets (proof_of records) its
        → SaysOf form.OptOut asked.name asked.rtype labels (Out records) its)
        → IsTrueProof setting asked lines (line_of form.OptOut encloser)
    out_true records such means =
        true_by form.OptOut encloser asked.name labels (λ its. Unit {0})
        (record { records = records; such = such; holds = λ its say. tt }) refl same means

    -- the flag is over the next closer name
    next_open : (n : RecordNumber) → told.OptedOut next n → IsTrueProof setting asked lines (line_of form.OptOut encloser)
    next_open n by =
        let such : Such n = (are_such setting lines follows zone chain).opted_out next n by in
        out_true (n ∷ []) (λ m there. ⊎_elim (λ (is : m ≡ n). subst Such (sym is) such) (λ (none : ⊥). absurd none) there)
        (λ its has. inl (left_open (n ∷ []) n next (inl refl) by its has))

    -- or over the wildcard alone
    star_open : (n m : RecordNumber) → told.Absent next n → told.OptedOut star m → IsTrueProof setting asked lines (line_of form.OptOut encloser)
    star_open n m absent by =
        let one : Such n = (are_such setting lines follows zone chain).absent next n absent in
        let other : Such m = (are_such setting lines follows zone chain).opted_out star m by in
        out_true (n ∷ m ∷ []) (λ each there. ⊎_elim (λ (is : each ≡ n). subst Such (sym is) one)
        (λ (last : IsMember each (m ∷ [])). ⊎_elim (λ (is : each ≡ m). subst Such (sym is) other) (λ (none : ⊥). absurd none) last) there)
        (λ its has.
        let denies = deny (IsShownGood lines) setting.rrsets (proof_of (n ∷ m ∷ [])) its chain has in
        inr (denies.absent next (denies.say.absent next n (inl refl) absent.0), left_open (n ∷ m ∷ []) m star (inr (inl refl)) by its has))

    whole_open : OptsOut told zone asked.name labels → IsTrueProof setting asked lines (line_of form.OptOut encloser)
    whole_open whole = ⊎_elim
        (λ (by : (n : RecordNumber) × told.OptedOut next n). next_open by.0 by.1)
        (λ (by : (n : RecordNumber) × told.OptedOut star n). ⊎_elim
        (λ (absent : (n : RecordNumber) × told.Absent next n). star_open absent.0 by.0 absent.1 by.1)
        (λ (both : (n : RecordNumber) × told.OptedOut next n). next_open both.0 both.1)
        whole.next_closer)
        whole.opted_out

  opt_out_true : (encloser : Option Labels) → StandsFor form.OptOut asked zone encloser told
      → IsTrueProof setting asked lines (line_of form.OptOut encloser)
  opt_out_true encloser (labels, out, same) = ⊎_elim
      (λ (whole : OptsOut told zone asked.name labels). whole_open encloser labels same whole)
      (λ (alone : OptsOutNextCloser told zone asked.name labels). next_open encloser labels same alone.opted_out.0 alone.opted_out.1)
      out

  -- ---- any form

  pub form_true : (which : Form) (encloser : Option Labels) → StandsFor which asked zone encloser told
      → IsTrueProof setting asked lines (line_of which encloser)
  form_true form.NoName encloser stands = no_name_true encloser stands
  form_true form.NoData1 encloser stands = no_data_true encloser stands
  form_true form.NoData2 encloser stands = empty_true encloser stands
  form_true form.NoData3 encloser stands = wildcard_data_true encloser stands
  form_true form.NoData4 encloser stands = empty_wildcard_true encloser stands
  form_true form.NoCloser encloser stands = no_closer_true encloser stands
  form_true form.OptOut encloser stands = opt_out_true encloser stands

pub proof_true : (setting : Setting) (asked : Asked) (lines : List Line) (proof : Proof) → Checks setting asked lines
    → Contains lines (line.Proof proof) → IsTrueProof setting asked lines proof
proof_true setting asked lines proof checks there =
    let by = checks.is_so (line.Proof proof) there in
    form_true setting asked lines checks.follows proof.zone proof.chain by.chain by.kind proof.form proof.encloser by.stands
