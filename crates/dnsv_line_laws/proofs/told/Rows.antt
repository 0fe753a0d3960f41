-- Each line that says what holds is told by its words, and read back.
use Rattle.std.proofs.Common.{◌≡◌, ℕ, true, Option, Some, None, refl}
use Rattle.dnsv_canonical.specs.declared.number.RecordNumber.{RecordNumber}
use Rattle.dnsv_names.specs.Name.{Labels}
use Rattle.dnsv_message.specs.declared.record.Section.{Section}
use Rattle.dnsv_message.specs.declared.record.Section.TheVariants as section
use Rattle.dnsv_lines.specs.Words.{case_number, chain_word, form_word, relation_word, role_word, section_number}
use Rattle.dnsv_lines.specs.declared.line.Kind.{Kind}
use Rattle.dnsv_lines.specs.declared.line.Kind.TheVariants as kind
use Rattle.dnsv_lines.specs.declared.line.Line.TheVariants as line
use Rattle.dnsv_lines.specs.declared.line.cut.InsecureCase.{InsecureCase}
use Rattle.dnsv_lines.specs.declared.line.cut.InsecureCase.TheVariants as case
use Rattle.dnsv_lines.specs.declared.line.cut.Cut.{Cut}
use Rattle.dnsv_lines.specs.declared.line.cut.UnusableDs.{UnusableDs}
use Rattle.dnsv_lines.specs.declared.line.cut.WhyUnusable.{WhyUnusable}
use Rattle.dnsv_lines.specs.declared.line.cut.WhyUnusable.TheVariants as unusable
use Rattle.dnsv_lines.specs.declared.line.denial.Chain.{Chain}
use Rattle.dnsv_lines.specs.declared.line.denial.Chain.TheVariants as chain
use Rattle.dnsv_lines.specs.declared.line.denial.Form.{Form}
use Rattle.dnsv_lines.specs.declared.line.denial.Form.TheVariants as form
use Rattle.dnsv_lines.specs.declared.line.denial.Part.{Part}
use Rattle.dnsv_lines.specs.declared.line.denial.Proof.{Proof}
use Rattle.dnsv_lines.specs.declared.line.denial.RecordPlace.{RecordPlace}
use Rattle.dnsv_lines.specs.declared.line.denial.Relation.{Relation}
use Rattle.dnsv_lines.specs.declared.line.denial.Relation.TheVariants as relation
use Rattle.dnsv_lines.specs.declared.line.denial.Role.{Role}
use Rattle.dnsv_lines.specs.declared.line.denial.Role.TheVariants as role
use Rattle.dnsv_lines.specs.declared.line.derivation.SignedRrset.{SignedRrset}
use Rattle.dnsv_lines.specs.declared.line.derivation.TrustedKeys.{TrustedKeys}
use Rattle.dnsv_lines.specs.declared.line.derivation.Voucher.{Voucher}
use Rattle.dnsv_lines.specs.declared.line.derivation.Voucher.TheVariants as voucher
use Rattle.dnsv_lines.specs.declared.line.fault.key.ShownKey.{ShownKey}
use Rattle.dnsv_lines.specs.declared.line.fault.signature.UntrustedSigner.{UntrustedSigner}
use Rattle.dnsv_lines.specs.declared.line.interval.Interval.{Interval}
use Rattle.dnsv_lines.specs.declared.line.place.RrsetPlace.{RrsetPlace}
use Rattle.dnsv_line_laws.proofs.Reading.{case_in, chain_in, form_in, relation_in, role_in, section_in}
use Rattle.dnsv_line_laws.proofs.told.Forms.{clean}
use Rattle.dnsv_line_laws.proofs.told.Tables.{Told, case_form, follows_form, holds_form, hope_form, key_form, part_form, proof_form, rrset_form, signed_form, trusted_form, unusable_form}

-- ---- words that are said within lines

-- each is clean
form_clean : (x : Form) → clean (form_word x) ≡ true
form_clean form.NoName = refl
form_clean x = refl

pub chain_clean : (x : Chain) → clean (chain_word x) ≡ true
chain_clean chain.Nsec = refl
chain_clean chain.Nsec3 = refl

pub role_clean : (x : Role) → clean (role_word x) ≡ true
role_clean role.Cut = refl
role_clean x = refl

relation_clean : (x : Relation) → clean (relation_word x) ≡ true
relation_clean relation.Apex = refl
relation_clean x = refl

-- each is read back
form_read : (x : Form) → form_in (form_word x) ≡ x
form_read form.NoName = refl
form_read x = refl

chain_read : (x : Chain) → chain_in (chain_word x) ≡ x
chain_read chain.Nsec = refl
chain_read chain.Nsec3 = refl

pub role_read : (x : Role) → role_in (role_word x) ≡ x
role_read role.Cut = refl
role_read x = refl

relation_read : (x : Relation) → relation_in (relation_word x) ≡ x
relation_read relation.Apex = refl
relation_read x = refl

section_read : (x : Section) → section_in (section_number x) ≡ x
section_read section.Answer = refl
section_read x = refl

case_number_read : (x : InsecureCase) → case_in (case_number x) ≡ x
case_number_read case.OptOut = refl
case_number_read x = refl

-- ---- the lines

-- a verdict that is hoped for
pub hope_told : (x : Kind) → Told hope_form (line.Hope x)
hope_told kind.Insecure = (refl, refl, refl, refl, refl, refl)
hope_told x = (refl, refl, refl, refl, refl, refl)

-- the moments at which signatures are valid
pub holds_told : (x : Interval) → Told holds_form (line.Holds x)
holds_told x = (refl, refl, refl, refl, refl, refl)

-- where an RRset stands
pub rrset_told : (x : RrsetPlace) → Told rrset_form (line.Rrset x)
rrset_told x = (refl, refl, refl, refl, refl, rw (section_read x.section))

-- a signature whose signer isn't trusted
pub follows_told : (x : UntrustedSigner) → Told follows_form (line.Follows x)
follows_told x = (refl, refl, refl, refl, refl, refl)

-- a DNSKEY RRset that is trusted, and what matches its key
trusted_with : (x : TrustedKeys) (by : Voucher) (todo : Option ℕ) → Told trusted_form (line.Trusted (record x { voucher = by; todo = record { 0 = todo } }))
trusted_with x (voucher.Ds ds digest) None = (refl, refl, refl, refl, refl, refl)
trusted_with x by None = (refl, refl, refl, refl, refl, refl)
trusted_with x (voucher.Ds ds digest) (Some number) = (refl, refl, refl, refl, refl, refl)
trusted_with x by (Some number) = (refl, refl, refl, refl, refl, refl)

pub trusted_told : (x : TrustedKeys) → Told trusted_form (line.Trusted x)
trusted_told x = trusted_with x x.voucher x.todo.0

-- a signature that is good under a trusted key
signed_with : (x : SignedRrset) (todo : Option ℕ) → Told signed_form (line.Signed (record x { todo = record { 0 = todo } }))
signed_with x None = (refl, refl, refl, refl, refl, refl)
signed_with x (Some number) = (refl, refl, refl, refl, refl, refl)

pub signed_told : (x : SignedRrset) → Told signed_form (line.Signed x)
signed_told x = signed_with x x.todo.0

-- the name at which an unsigned zone may begin
case_with : (x : Cut) (given : Option Labels) → Told case_form (line.Case (record x { zone = given }))
case_with x None = (refl, refl, refl, refl, refl, rw (case_number_read x.case))
case_with x (Some name) = (refl, refl, refl, refl, refl, rw (case_number_read x.case))

pub case_told : (x : Cut) → Told case_form (line.Case x)
case_told x = case_with x x.zone

-- a record of a DS RRset that can't be used
unusable_with : (x : UnusableDs) (y : WhyUnusable) → Told unusable_form (line.Unusable (record x { why = y }))
unusable_with x unusable.Algorithm = (refl, refl, refl, refl, refl, refl)
unusable_with x y = (refl, refl, refl, refl, refl, refl)

pub unusable_told : (x : UnusableDs) → Told unusable_form (line.Unusable x)
unusable_told x = unusable_with x x.why

-- a DNSKEY record, with what is good under it and what matches it
key_with : (x : ShownKey) (given : Option ℕ) (by : Option ℕ) (entry : Option RecordNumber) → Told key_form (line.Key (record x { signature = given; anchor = by; ds = entry }))
key_with x None None None = (refl, refl, refl, refl, refl, refl)
key_with x None None (Some k) = (refl, refl, refl, refl, refl, refl)
key_with x None (Some j) None = (refl, refl, refl, refl, refl, refl)
key_with x None (Some j) (Some k) = (refl, refl, refl, refl, refl, refl)
key_with x (Some i) None None = (refl, refl, refl, refl, refl, refl)
key_with x (Some i) None (Some k) = (refl, refl, refl, refl, refl, refl)
key_with x (Some i) (Some j) None = (refl, refl, refl, refl, refl, refl)
key_with x (Some i) (Some j) (Some k) = (refl, refl, refl, refl, refl, refl)

pub key_told : (x : ShownKey) → Told key_form (line.Key x)
key_told x = key_with x x.signature x.anchor x.ds

-- records of a zone prove a denial
proof_with : (x : Proof) (given : Option Labels) → Told proof_form (line.Proof (record x { encloser = given }))
proof_with x None = (refl, refl, rw (form_clean x.form, chain_clean x.chain), refl, refl, rw (form_read x.form, chain_read x.chain))
proof_with x (Some name) = (refl, refl, rw (form_clean x.form, chain_clean x.chain), refl, refl, rw (form_read x.form, chain_read x.chain))

pub proof_told : (x : Proof) → Told proof_form (line.Proof x)
proof_told x = proof_with x x.encloser

-- one part of it, and the record that says it, where one is needed
part_with : (x : Part) (given : Option RecordPlace) → Told part_form (line.Part (record x { by = given }))
part_with x None = (refl, refl, rw (role_clean x.role, relation_clean x.relation), refl, refl, rw (role_read x.role, relation_read x.relation))
part_with x (Some place) = (refl, refl, rw (role_clean x.role, relation_clean x.relation), refl, refl, rw (role_read x.role, relation_read x.relation))

pub part_told : (x : Part) → Told part_form (line.Part x)
part_told x = part_with x x.by
