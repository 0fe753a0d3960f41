-- Each proof rests on a record of its zone.
use Rattle.std.proofs.Common.{◌+◌, ℕ, List, [], Option, subst, ⊎_elim}
use Rattle.std.specs.List.{Contains}
use Rattle.dnsv_names.specs.Name.{Labels, SameName, rightmost}
use Rattle.dnsv_names.specs.Tree.{wildcard_of}
use Rattle.dnsv_zones.specs.chains.Nsec3Chain.{Nsec3Record}
use Rattle.dnsv_zones.specs.chains.NsecChain.{IsInBitmap, NsecRecord}
use Rattle.dnsv_zones.specs.forms.Parts.{OptsOut, OptsOutNextCloser}
use Rattle.dnsv_zones.specs.forms.RecordWords.{RecordWords}
use Rattle.dnsv_zones.specs.zones.Types.{Denies}
use Rattle.dnsv_canonical.specs.Rrsets.{ReceivedRrset}
use Rattle.dnsv_canonical.specs.declared.number.RecordNumber.{RecordNumber}
use Rattle.dnsv_chain.specs.Trusted.{IsTrusted}
use Rattle.dnsv_denial.specs.gathering.Evidence.{IsSecuredBy}
use Rattle.dnsv_denial.specs.gathering.EvidenceWords.{Chain, evidence_said}
use Rattle.dnsv_denial.specs.gathering.EvidenceWords.Chain.{ByNsec, ByNsec3}
use Rattle.dnsv_denial.proofs.lemmas.gathering.EvidenceLemmas.{one_nsec_of}
use Rattle.dnsv_denial.proofs.lemmas.gathering.NumberedLemmas.{nsec_or_nsec3, one_nsec3_of}
use Rattle.dnsv_derivations.specs.Explained.{Setting}
use Rattle.dnsv_derivations.specs.Following.{EachFollows}
use Rattle.dnsv_lines.specs.declared.line.Line.{Line}
use Rattle.dnsv_lines.specs.declared.line.Line.TheVariants as line
use Rattle.dnsv_lines.specs.declared.line.denial.Form.{Form}
use Rattle.dnsv_lines.specs.declared.line.denial.Form.TheVariants as form
use Rattle.dnsv_lines.specs.declared.line.denial.Part.{Part}
use Rattle.dnsv_lines.specs.declared.line.denial.Proof.{Proof}
use Rattle.dnsv_lines.specs.declared.line.derivation.SignedRrset.{SignedRrset}
use Rattle.dnsv_rules.specs.Checked.{Asked, Checks, StandsFor}
use Rattle.dnsv_rules.specs.Planted.{HoldsType}
use Rattle.dnsv_rules.specs.Planted.HoldsType.{by_nsec, by_nsec3}
use Rattle.dnsv_rules.specs.Told.{shown_said, told_words}
use Rattle.dnsv_rules.specs.Truth.{IsOfChain, IsShownSecured}
use Rattle.dnsv_rules.proofs.needs.SignerLemmas.{signed_by, trusted_by}
use Rattle.dnsv_rules.proofs.truth.RecordLemmas.{IsSuch, are_such}

module _ (setting : Setting) (asked : Asked) (lines : List Line) (follows : EachFollows setting [] lines) (zone : Labels) (chain : Chain) where
  abbrev told : RecordWords RecordNumber
  told = told_words (shown_said setting.rrsets lines zone chain) lines

  abbrev SomeSuch : Type 0
  SomeSuch = (n : RecordNumber) × IsSuch setting lines follows zone chain n

  absent_such : (x : Labels) → (n : RecordNumber) × told.Absent x n → SomeSuch
  absent_such x some = (some.0, (are_such setting lines follows zone chain).absent x some.0 some.1)

  empty_such : (x : Labels) → (n : RecordNumber) × told.EmptyNonTerminal x n → SomeSuch
  empty_such x some = (some.0, (are_such setting lines follows zone chain).empty_non_terminal x some.0 some.1)

  out_such : (x : Labels) → (n : RecordNumber) × told.OptedOut x n → SomeSuch
  out_such x some = (some.0, (are_such setting lines follows zone chain).opted_out x some.0 some.1)

  pub some_such : (which : Form) (encloser : Option Labels) → StandsFor which asked zone encloser told → SomeSuch
  some_such form.NoName encloser (stands, same) = absent_such (rightmost asked.name (stands.labels + 1)) stands.ends.next_closer
  some_such form.NoData1 encloser (stands, same) =
      (stands.types.0, (are_such setting lines follows zone chain).types_at asked.name (λ has. Denies has asked.rtype) stands.types.0 stands.types.1)
  some_such form.NoData2 encloser (stands, same) = empty_such asked.name stands.empty_non_terminal
  some_such form.NoData3 encloser (stands, same) = absent_such (rightmost asked.name (stands.labels + 1)) stands.ends.next_closer
  some_such form.NoData4 encloser (stands, same) = absent_such (rightmost asked.name (stands.labels + 1)) stands.ends.next_closer
  some_such form.NoCloser encloser (name, on_way, labels, stands, same) = absent_such (rightmost name (labels + 1)) stands.next_closer
  some_such form.OptOut encloser (labels, out, same) =
      let next = rightmost asked.name (labels + 1) in
      let star = wildcard_of (rightmost asked.name labels) in
      ⊎_elim
      (λ (whole : OptsOut told zone asked.name labels). ⊎_elim
      (λ (by : (n : RecordNumber) × told.OptedOut next n). out_such next by)
      (λ (by : (n : RecordNumber) × told.OptedOut star n). out_such star by) whole.opted_out)
      (λ (alone : OptsOutNextCloser told zone asked.name labels). out_such next alone.opted_out) out

-- its RRset is signed by the zone
signed_rrset : (S : ℕ → ℕ → Type 0) (rrsets : List ReceivedRrset) (zone : Labels) (chain : Chain) (n : RecordNumber)
    → IsOfChain S rrsets zone chain n → IsSecuredBy S rrsets zone n.rrset
signed_rrset S rrsets zone ByNsec n is = is.1.secured
signed_rrset S rrsets zone (ByNsec3 parameters) n is = is.1.secured

module _ (setting : Setting) (asked : Asked) (lines : List Line) (proof : Proof) (checks : Checks setting asked lines)
    (there : Contains lines (line.Proof proof)) where
  some_part : (part : Part) × Contains lines (line.Part part)
  some_part =
      let by = checks.is_so (line.Proof proof) there in
      let such = some_such setting asked lines checks.follows proof.zone by.chain proof.form proof.encloser by.stands in
      (such.1.1.part, such.1.1.among)

  its_rrset : (k : ℕ) × IsSecuredBy (IsShownSecured setting lines) setting.rrsets proof.zone k
  its_rrset =
      let by = checks.is_so (line.Proof proof) there in
      let such = some_such setting asked lines checks.follows proof.zone by.chain proof.form proof.encloser by.stands in
      (such.0.rrset, signed_rrset (IsShownSecured setting lines) setting.rrsets proof.zone by.chain such.0 such.1.0)

  pub needs_part : ((part : Part) → ¬ Contains lines (line.Part part)) → ⊥
  needs_part none = none some_part.0 some_part.1

  pub needs_signature : ((signed : SignedRrset) → Contains lines (line.Signed signed) → ¬ SameName signed.zone proof.zone) → ⊥
  needs_signature none =
      let signed = signed_by setting lines proof.zone its_rrset.0 its_rrset.1 checks.follows in none signed.0 signed.1 signed.2

  pub zone_trusted : (set : ReceivedRrset) × IsTrusted setting.meaning setting.moment setting.rrsets setting.anchors set
      × SameName set.owner proof.zone
  zone_trusted = trusted_by setting lines proof.zone its_rrset.0 its_rrset.1

-- ---- types

-- a record that denies the type doesn't hold it
pub never_held : (S : ℕ → ℕ → Type 0) (rrsets : List ReceivedRrset) (zone name : Labels) (t : ℕ) (chain : Chain) (n : RecordNumber)
    → (evidence_said S rrsets zone chain).TypesAt name (λ has. Denies has t) n → HoldsType rrsets n t → ⊥
never_held S rrsets zone name t ByNsec n said (by_nsec nsec is has) =
    let Has : NsecRecord → Type 0 = λ each. IsInBitmap each.types t in
    said.2.1.no_type (subst Has (one_nsec_of rrsets n nsec said.0 is said.1.is) has)
never_held S rrsets zone name t ByNsec n said (by_nsec3 other nsec3 is has) = nsec_or_nsec3 rrsets other n said.0 nsec3 said.1.is is
never_held S rrsets zone name t (ByNsec3 parameters) n said (by_nsec nsec is has) = nsec_or_nsec3 rrsets zone n nsec said.0 is said.1.is
never_held S rrsets zone name t (ByNsec3 parameters) n said (by_nsec3 other nsec3 is has) =
    let Has : Nsec3Record → Type 0 = λ each. IsInBitmap each.types t in
    said.2.1.no_type (subst Has (one_nsec3_of rrsets other zone n nsec3 said.0 is said.1.is) has)
