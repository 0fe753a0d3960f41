-- The records by which part lines tell something are of the zone's chain, and the lines show that it signed them.
use Rattle.std.proofs.Common.{◌≡◌, ◌≢◌, ◌⊎◌, ℕ, List, [], Some, ⊎_elim}
use Rattle.dnsv_names.specs.Name.{Labels, SameName}
use Rattle.dnsv_zones.specs.chains.HashedNames.{sha1_hash}
use Rattle.dnsv_zones.specs.chains.Nsec3Chain.{Nsec3Record, Parameters}
use Rattle.dnsv_zones.specs.chains.NsecChain.{NsecRecord, IsInBitmap}
use Rattle.dnsv_zones.specs.forms.Forms.{Words}
use Rattle.dnsv_zones.specs.forms.Nsec.{IsAbsentBy, IsEmptyNonTerminalBy, IsNodeBy}
use Rattle.dnsv_zones.specs.forms.Nsec3.{Covers, Matches}
use Rattle.dnsv_zones.specs.forms.RecordWords.{RecordWords}
use Rattle.dnsv_zones.specs.zones.Types.{IsClosed}
use Rattle.dnsv_canonical.specs.declared.number.RecordNumber.{RecordNumber}
use Rattle.dnsv_denial.specs.gathering.Evidence.{IsSecuredBy}
use Rattle.dnsv_denial.specs.gathering.EvidenceWords.{Chain, SaidByNsec, SaidByNsec3}
use Rattle.dnsv_denial.specs.gathering.EvidenceWords.Chain.{ByNsec, ByNsec3}
use Rattle.dnsv_proof_forms.proofs.lemmas.forms.PartsForm.{SayNoMore}
use Rattle.dnsv_derivations.specs.Explained.{Setting}
use Rattle.dnsv_derivations.specs.Following.{EachFollows}
use Rattle.dnsv_derivations.proofs.lemmas.denials.PartLemmas.{secured_too}
use Rattle.dnsv_lines.specs.declared.line.Line.{Line}
use Rattle.dnsv_lines.specs.declared.line.denial.Relation.{Relation}
use Rattle.dnsv_lines.specs.declared.line.denial.Relation.TheVariants as relation
use Rattle.dnsv_explain_laws.proofs.holding.FollowingLemmas.{all_true, no_lines, said_secured}
use Rattle.dnsv_rules.specs.Told.{IsShownGood, IsTold, shown_said, told_words}
use Rattle.dnsv_rules.specs.Truth.{IsOfChain, IsPartsRecord, IsShownSecured}
use Rattle.dnsv_rules.proofs.truth.FormLemmas.{AreSuch}

-- what part lines tell is no more than what the records say
pub told_say : (said : RecordWords RecordNumber) (lines : List Line) (numbers : List RecordNumber) (its : Words)
    → SayNoMore said numbers its → SayNoMore (told_words said lines) numbers its
told_say said lines numbers its say = record {
  needs_none = λ x told. say.needs_none x told.0;
  encloser = λ x n there told. say.encloser x n there told.0;
  absent = λ x n there told. say.absent x n there told.0;
  empty_non_terminal = λ x n there told. say.empty_non_terminal x n there told.0;
  types_at = λ x Says n there told. say.types_at x Says n there told.0;
}

pub parts_record : (lines : List Line) (related : Relation) (x : Labels) (n : RecordNumber) → IsTold lines related x (Some n)
    → IsPartsRecord lines n
parts_record lines related x n told = record { part = told.part; among = told.among; by = told.is_by }

module _ (setting : Setting) (lines : List Line) (follows : EachFollows setting [] lines) (zone : Labels) where
  -- what a line shows to be good is good under a trusted key
  pub is_secured : (k s : ℕ) → IsShownGood lines k s → IsShownSecured setting lines k s
  is_secured k s good = (good, said_secured setting lines (all_true setting [] lines (no_lines setting) follows) k s good)

  pub secured_here : (k : ℕ) → IsSecuredBy (IsShownGood lines) setting.rrsets zone k → IsSecuredBy (IsShownSecured setting lines) setting.rrsets zone k
  secured_here k by = secured_too (IsShownGood lines) (IsShownSecured setting lines) setting.rrsets zone k (is_secured k) by

  -- the record is of the chain, and told by a part line
  abbrev pub IsSuch : Chain → RecordNumber → Type 0
  IsSuch chain n = IsOfChain (IsShownSecured setting lines) setting.rrsets zone chain n × IsPartsRecord lines n

  of_nsec : (Says : NsecRecord → Type 0) (n : RecordNumber) → SaidByNsec (IsShownGood lines) setting.rrsets zone Says n → IsPartsRecord lines n
      → IsSuch ByNsec n
  of_nsec Says n said told = ((said.0, record { is = said.1.is; secured = secured_here n.rrset said.1.secured }), told)

  of_nsec3 : (parameters : Parameters) (Says : Nsec3Record → Type 0) → ((r : Nsec3Record) → Says r → r.parameters ≡ parameters)
      → (n : RecordNumber) → SaidByNsec3 (IsShownGood lines) setting.rrsets zone Says n → IsPartsRecord lines n → IsSuch (ByNsec3 parameters) n
  of_nsec3 parameters Says its n said told =
      ((said.0, record { is = said.1.is; secured = secured_here n.rrset said.1.secured }, its said.0 said.2), told)

  encloser_record : (x : Labels) (n : RecordNumber) → IsTold lines relation.Exists x (Some n) ⊎ IsTold lines relation.Matched x (Some n)
      → IsPartsRecord lines n
  encloser_record x n told =
      ⊎_elim (λ (exists : IsTold lines relation.Exists x (Some n)). parts_record lines relation.Exists x n exists)
      (λ (matched : IsTold lines relation.Matched x (Some n)). parts_record lines relation.Matched x n matched) told

  pub are_such : (chain : Chain) → AreSuch (told_words (shown_said setting.rrsets lines zone chain) lines) (IsSuch chain)
  are_such ByNsec = record {
    encloser = λ x n told. of_nsec (λ r. IsNodeBy r x) n told.0 (encloser_record x n told.1);
    absent = λ x n told. of_nsec (λ r. IsAbsentBy r x) n told.0 (parts_record lines relation.Covered x n told.1);
    empty_non_terminal = λ x n told. of_nsec (λ r. IsEmptyNonTerminalBy r x) n told.0 (parts_record lines relation.NonTerminal x n told.1);
    types_at = λ x Says n told.
        of_nsec (λ r. SameName r.owner x × Says (IsInBitmap r.types)) n told.0 (parts_record lines relation.Matched x n told.1);
    opted_out = λ x n told. absurd told.0;
  }
  are_such (ByNsec3 parameters) = record {
    encloser = λ x n told.
        of_nsec3 parameters (λ r. Matches (sha1_hash parameters) r x × ¬ IsClosed (IsInBitmap r.types)) (λ r is. is.0.same_parameters) n told.0
        (encloser_record x n told.1);
    absent = λ x n told.
        of_nsec3 parameters (λ r. Covers (sha1_hash parameters) r x × (r.flags ≡ 0)) (λ r is. is.0.same_parameters) n told.0
        (parts_record lines relation.Covered x n told.1);
    empty_non_terminal = λ x n told. absurd told.0;
    types_at = λ x Says n told.
        of_nsec3 parameters (λ r. Matches (sha1_hash parameters) r x × Says (IsInBitmap r.types)) (λ r is. is.0.same_parameters) n told.0
        (parts_record lines relation.Matched x n told.1);
    opted_out = λ x n told.
        of_nsec3 parameters (λ r. Covers (sha1_hash parameters) r x × (r.flags ≢ 0)) (λ r is. is.0.same_parameters) n told.0
        (parts_record lines relation.OptOut x n told.1);
  }
