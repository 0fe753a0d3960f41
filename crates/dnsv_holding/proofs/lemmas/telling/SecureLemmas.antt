-- What is secure has its lines: nothing is missing that a verdict says is there.
use Rattle.std.proofs.Common.{◌≡◌, ◌<◌, ℕ, zero, suc, List, [], ◌∷◌, Option, Some, None, arith, get_or, length, sym, subst, inl, inr, ⊎_elim, Bool, true, false}
use Rattle.std.specs.List.{AllZip}
use Rattle.std.specs.Prelude.{◌↔◌, is_some}
use Rattle.dnsv_names.specs.Name.{Labels}
use Rattle.dnsv_records.proofs.OneRecord.{one_rrsig}
use Rattle.dnsv_records.specs.Rrsig.{IsRrsig}
use Rattle.dnsv_records.specs.declared.rrsig.Rrsig.{Rrsig}
use Rattle.dnsv_zones.specs.zones.TypeNumbers.{cname}
use Rattle.dnsv_canonical.specs.Rrsets.{IsNumbered, ReceivedRrset}
use Rattle.dnsv_canonical.specs.SignedData.{IsExpanded}
use Rattle.dnsv_denial.specs.proving.FirstProof.{CanProveNoCloser, CanProveNoData, CanProveNoName, ProofRecords}
use Rattle.dnsv_denial.specs.unsigned_cuts.Cuts.{HasUnsignedCut, IsUnsignedCut}
use Rattle.dnsv_verdict.proofs.OneProof.{can_be, cut_stands}
use Rattle.dnsv_verifier.specs.declared.entry.Entry.{Entry}
use Rattle.dnsv_chain.specs.Basis.{basis_by, Basis, CaseContents}
use Rattle.dnsv_verdict.specs.Insecure.{IsOptOutWildcardCut, IsUnsigned, IsUnsignedFrom}
use Rattle.dnsv_verdict.specs.Secure.{HoldsForName, IsSecureSet}
use Rattle.dnsv_verdict.specs.Verdict.{IsSettledAsBy, IsSettledVerdict, IsVerdictAt}
use Rattle.dnsv_verdict.specs.Way.{LeadTo}
use Rattle.dnsv_verdict.specs.declared.link.Link.{Link}
use Rattle.dnsv_verdict.specs.declared.verdict.Verdict.{Verdict}
use Rattle.dnsv_verdict.specs.declared.verdict.Verdict.TheVariants.{SecureAnswer, SecureAlias, SecureNoName, SecureNoData, Pending, Bogus, Indeterminate}
use Rattle.dnsv_derivations.specs.Explained.{Explained, Setting, setting_in}
use Rattle.dnsv_holding.specs.Explained.{basis_in, explained_by}
use Rattle.dnsv_holding.specs.Holding.{IsSignatureAt, told_kind}
use Rattle.dnsv_derivations.specs.derivations.OwnDerivations.{SecuredIn}
use Rattle.dnsv_lines.specs.declared.line.Kind.{Kind}
use Rattle.dnsv_lines.specs.declared.line.Kind.TheVariants as kind
use Rattle.dnsv_canonical.specs.declared.number.SignatureNumber.{SignatureNumber}
use Rattle.dnsv_canonical.proofs.NumberLemmas.{one_numbered}
use Rattle.dnsv_holding.proofs.lemmas.telling.TellLemmas.{at_same, within_same}
use Rattle.dnsv_derivations.proofs.lemmas.derivations.SignerLemmas.{no_signature}

-- ---- a secure RRset

-- of some type
abbrev pub IsSecure : Setting → Labels → SignatureNumber → Type 0
IsSecure setting name number = (t : ℕ) × IsSecureSet (SecuredIn setting) setting.rrsets name t number.rrset number.signature

module _ (setting : Setting) (name : Labels) (number : SignatureNumber) (secure : IsSecure setting name number) where
  pub never_rrset : (all : List ReceivedRrset) → all ≡ setting.rrsets → ((rrset : ReceivedRrset) → ¬ IsNumbered all number.rrset rrset) → ⊥
  never_rrset all same none =
      let In : List ReceivedRrset → Type 0 = λ each. IsNumbered each number.rrset secure.1.rrset in
      none secure.1.rrset (subst In (sym same) secure.1.is_rrset)

  pub its_signature : SecuredIn setting number.rrset number.signature
  its_signature = secure.1.secured

  module _ (rrset : ReceivedRrset) (is_rrset : IsNumbered setting.rrsets number.rrset rrset) where
    pub never_signature : (rrsigs : List Rrsig) → AllZip IsRrsig rrset.signatures rrsigs
        → ((rrsig : Rrsig) → ¬ IsNumbered rrsigs number.signature rrsig) → ⊥
    never_signature rrsigs zip none = no_signature setting number rrset is_rrset rrsigs zip none secure.1.secured

    -- behind a wildcard it holds by a proof
    pub must_hold : (rrsig : Rrsig) → IsSignatureAt setting.rrsets number rrset rrsig → IsExpanded rrset.owner rrsig
        → CanProveNoCloser (SecuredIn setting) setting.rrsets name rrsig.labels rrsig.signer
    must_hold rrsig at expanded =
        let same : secure.1.rrset ≡ rrset = one_numbered setting.rrsets number.rrset secure.1.rrset rrset secure.1.is_rrset is_rrset in
        let Numbered : ReceivedRrset → Type 0 = λ each. IsNumbered each.signatures number.signature secure.1.rdata in
        let rdata : secure.1.rdata ≡ at.rdata =
        one_numbered rrset.signatures number.signature secure.1.rdata at.rdata (subst Numbered same secure.1.is_signature) at.is_signature in
        let Read : List ℕ → Type 0 = λ octets. IsRrsig octets secure.1.rrsig in
        let one : secure.1.rrsig ≡ rrsig = one_rrsig at.rdata secure.1.rrsig rrsig (subst Read rdata secure.1.read) at.read in
        let Holds : ReceivedRrset → Type 0 = λ each. HoldsForName (SecuredIn setting) setting.rrsets name each secure.1.rrsig in
        let By : Rrsig → Type 0 = λ each. HoldsForName (SecuredIn setting) setting.rrsets name rrset each in
        ⊎_elim (λ (plain : ¬ IsExpanded rrset.owner rrsig). absurd (plain expanded))
        (λ (can : CanProveNoCloser (SecuredIn setting) setting.rrsets name rrsig.labels rrsig.signer). can)
        (subst By one (subst Holds same secure.1.such.1))

-- ---- what a verdict says

module _ (explained : Explained) (name : Labels) (t : ℕ) where
  abbrev Its : Setting
  Its = setting_in explained

  pub answer_secure : (k s : ℕ) → IsSettledAsBy (basis_in explained) name t (SecureAnswer k s)
      → IsSecure Its name (record { rrset = k; signature = s })
  answer_secure k s is = (t, is.such)

  pub alias_secure : (k s : ℕ) → IsSettledAsBy (basis_in explained) name t (SecureAlias k s)
      → IsSecure Its name (record { rrset = k; signature = s })
  alias_secure k s is = (cname, is.2.such)

  pub name_proved : (proof : ProofRecords) → IsSettledAsBy (basis_in explained) name t (SecureNoName proof)
      → CanProveNoName (SecuredIn Its) explained.rrsets name
  name_proved proof is = can_be (SecuredIn Its) explained.rrsets name _ _ proof is.2

  pub data_proved : (proof : ProofRecords) → IsSettledAsBy (basis_in explained) name t (SecureNoData proof)
      → CanProveNoData (SecuredIn Its) explained.rrsets name t
  data_proved proof is = can_be (SecuredIn Its) explained.rrsets name _ _ proof is.3

  pub unsigned_of : (cut : Labels) → IsUnsignedFrom (SecuredIn Its) explained.rrsets name t cut → IsUnsigned (SecuredIn Its) explained.rrsets name t
  unsigned_of cut is = ⊎_elim
      (λ (by_zones : IsUnsignedCut (SecuredIn Its) explained.rrsets name cut). inl (cut_stands (SecuredIn Its) explained.rrsets name cut by_zones))
      (λ (open_still : (¬ HasUnsignedCut (SecuredIn Its) explained.rrsets name) × IsOptOutWildcardCut (SecuredIn Its) explained.rrsets name t cut).
      inr (open_still.1.k, open_still.1.s, open_still.1.earliest.such)) is

-- ---- which lines are told of it

module _ (explained : Explained) (name : Labels) (t : ℕ) where
  -- a verdict that needs no more answers is settled
  pub settled_as : (basis : Basis) (verdict : Verdict) → IsSettledVerdict verdict → IsVerdictAt basis name t verdict → IsSettledAsBy basis name t verdict
  settled_as basis (Pending unknown) settled is = absurd settled
  settled_as basis Bogus settled is = absurd settled
  settled_as basis Indeterminate settled is = absurd settled
  settled_as basis verdict settled is = is

  never_some : (word : Kind) → Path (Option Kind) (Some word) None → ⊥
  never_some word is = cc

  -- it has a word
  pub has_kind : (basis : Basis) (verdict : Verdict) → IsSettledAsBy basis name t verdict → told_kind verdict ≡ None → ⊥
  has_kind basis (Pending unknown) is none = is
  has_kind basis Bogus is none = is
  has_kind basis Indeterminate is none = is
  has_kind basis verdict is none = never_some _ none

-- ---- links

-- each link's RRset is secure
pub link_secure : (explained : Explained) (t : ℕ) (name : Labels) (links : List Link) (last : Labels) → LeadTo (basis_in explained) t name links last
    → (place : ℕ) (d : Link) → place < length links
    → IsSecure (setting_in explained) (get_or links place d).name
    (record { rrset = (get_or links place d).rrset; signature = (get_or links place d).signature })
link_secure explained t name [] last leads place d within = absurd (omega (arith, within))
link_secure explained t name (link ∷ links) last leads zero d within =
    let Of : Labels → Type 0 = λ each. IsSecure (setting_in explained) each (record { rrset = link.rrset; signature = link.signature }) in
    subst Of (sym leads.0.0) (cname, leads.0.1.2.such)
link_secure explained t name (link ∷ links) last leads (suc place) d within =
    link_secure explained t leads.1 links last leads.4 place d (omega (arith, within))

module _ (case : CaseContents) (explained : Explained) (todo : List Entry) (same : explained ≡ explained_by case todo) where
  pub item_secure : (t : ℕ) (name : Labels) (links xs : List Link) (last : Labels) (place : ℕ) (link : Link) → xs ≡ links
      → place < length xs → link ≡ get_or xs place link → LeadTo (basis_by case) t name links last
      → IsSecure (setting_in explained) link.name (record { rrset = link.rrset; signature = link.signature })
  item_secure t name links xs last place link is within at leads =
      let Leads : Explained → Type 0 = λ each. LeadTo (basis_in each) t name links last in
      let Secure : Link → Type 0 = λ each. IsSecure (setting_in explained) each.name (record { rrset = each.rrset; signature = each.signature }) in
      subst Secure (sym (at_same xs links place link is at))
      (link_secure explained t name links last (subst Leads (sym same) leads) place link (within_same xs links place is within))

  -- what is settled by the case
  pub settled_by : (name : Labels) (t : ℕ) (verdict : Verdict) → IsSettledVerdict verdict → IsVerdictAt (basis_by case) name t verdict
      → IsSettledAsBy (basis_in explained) name t verdict
  settled_by name t verdict settled is =
      let By : Explained → Type 0 = λ each. IsSettledAsBy (basis_in each) name t verdict in
      subst By (sym same) (settled_as explained name t (basis_by case) verdict settled is)

by_word : (verdict : Verdict) (some : Bool) → some ≡ is_some (told_kind verdict) → (some ≡ true) ↔ IsSettledVerdict verdict
by_word (Pending unknown) some is = (λ yes. let no : some ≡ false = is in cc, λ settled. absurd settled)
by_word Bogus some is = (λ yes. let no : some ≡ false = is in cc, λ settled. absurd settled)
by_word Indeterminate some is = (λ yes. let no : some ≡ false = is in cc, λ settled. absurd settled)
by_word verdict some is = (λ yes. tt, λ settled. is)

-- a verdict has a word just where it needs no more answers
pub word_or_not : (verdict : Verdict) (found : Option Kind) (some : Bool) → found ≡ told_kind verdict → some ≡ is_some found
    → (some ≡ true) ↔ IsSettledVerdict verdict
word_or_not verdict found some told is =
    let As : Option Kind → Type 0 = λ each. some ≡ is_some each in by_word verdict some (subst As told is)
