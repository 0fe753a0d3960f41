-- Lines that follow under hope follow where just the marked entries are valid.
use Rattle.std.proofs.Common.{◌≡◌, ◌∙◌, ℕ, List, [], ◌∷◌, ◌++◌, Option, Some, None, refl, sym, subst}
use Rattle.std.specs.List.{AllByRecursion, Contains}
use Rattle.dnsv_canonical.specs.Rrsets.{IsNumbered, ReceivedRrset}
use Rattle.dnsv_verifier.proofs.TableLemmas.{hopeful_is_table, says_as_its_verifier}
use Rattle.dnsv_verifier.specs.Admissible.{DnskeyRecord, IsAsked}
use Rattle.dnsv_verifier.specs.Table.{IsTableOf, TableContents, hoped_answer, hopeful, table_answer}
use Rattle.dnsv_verifier.specs.declared.answer.Answer.{Answer}
use Rattle.dnsv_verifier.specs.declared.answer.Answer.TheVariants.{Valid, Invalid, Unknown}
use Rattle.dnsv_verifier.specs.declared.entry.Entry.{Entry}
use Rattle.dnsv_chain.specs.Trusted.{IsKeyOf, IsSecured}
use Rattle.dnsv_anchors.specs.declared.anchor.Anchor.{Anchor}
use Rattle.dnsv_verdict.specs.Verdict.{AreUnknown}
use Rattle.dnsv_chain.specs.Basis.{basis_of}
use Rattle.dnsv_derivations.specs.Explained.{Explained, IsTodo, Setting, setting_in}
use Rattle.dnsv_holding.specs.Explained.{hoped}
use Rattle.dnsv_derivations.specs.Following.{EachFollows, Follows, FollowsSigned, FollowsTrusted, IsGoodUnder, IsMatchedBy, IsVouchedBy}
use Rattle.dnsv_holding.specs.Marked.{AnswersMarked, IsMarked}
use Rattle.dnsv_derivations.specs.derivations.Ways.{HasSecured, IsSignedLine, IsTrustedLine}
use Rattle.dnsv_lines.specs.declared.line.Line.{Line}
use Rattle.dnsv_lines.specs.declared.line.Line.TheVariants as line
use Rattle.dnsv_canonical.specs.declared.number.SignatureNumber.{SignatureNumber}
use Rattle.dnsv_lines.specs.declared.line.derivation.SignedRrset.{SignedRrset}
use Rattle.dnsv_lines.specs.declared.line.derivation.TrustedKeys.{TrustedKeys}
use Rattle.dnsv_lines.specs.declared.line.derivation.Voucher.{Voucher}
use Rattle.dnsv_lines.specs.declared.line.derivation.Voucher.TheVariants as voucher
use Rattle.dnsv_derivations.proofs.lemmas.NumberedLemmas.{among}
use Rattle.dnsv_derivations.proofs.lemmas.derivations.DerivationLemmas.{same_as}
use Rattle.dnsv_derivations.proofs.lemmas.intervals.MomentLemmas.{good_as, is_behind, is_first}
use Rattle.dnsv_explain_laws.proofs.holding.marks.LineLemmas.{IsLineOf}
use Rattle.dnsv_explain_laws.proofs.holding.MemberLemmas.{key_among}

-- trust depends on what is asked
abbrev pub DependsOnAsked : Type 0
DependsOnAsked =
    (first second : Entry → Answer) (moment : ℕ) (rrsets : List ReceivedRrset) (anchors : List Anchor)
    → ((entry : Entry) → IsAsked moment rrsets entry → first entry ≡ second entry)
    → (k s : ℕ) → IsSecured first moment rrsets anchors k s → IsSecured second moment rrsets anchors k s

-- a setting by which lines of an explanation are told that has a hope: as it is, or under hope
pub data IsIts (explained : Explained) (unknown : List Entry) : Setting → Type 0 where
  known : IsIts explained unknown (setting_in explained)
  under_hope : IsIts explained unknown (setting_in (hoped explained unknown))

module _ (rrsets : List ReceivedRrset) (anchors : List Anchor) (table : TableContents) (meaning : Entry → Answer) (unknown : List Entry)
    (lines : List Line) (after : Entry → Answer) (is_table : IsTableOf meaning table.moment rrsets table)
    (are : AreUnknown (basis_of rrsets anchors table.moment meaning) unknown) (marks : AnswersMarked unknown lines meaning after) where
  abbrev pub Its : Explained
  Its = record { rrsets = rrsets; anchors = anchors; table = table; todo = [] }

  abbrev pub By : (Entry → Answer) → List Entry → Setting
  By says todo = record { rrsets = rrsets; anchors = anchors; moment = table.moment; meaning = says; todo = todo }

  abbrev Hoped : Setting
  Hoped = By (table_answer (hopeful table)) unknown

  abbrev pub Then : Setting
  Then = By after []

  -- ---- answers

  pub unknown_of : (entry : Entry) → IsMarked unknown lines entry → meaning entry ≡ Unknown
  unknown_of entry marked = ((are.members entry).0 (among unknown marked.number entry marked.numbered)).1

  known_valid : (entry : Entry) → meaning entry ≡ Valid → after entry ≡ Valid
  known_valid entry is =
      marks.others entry (λ marked. let other = unknown_of entry marked in let clash : Valid ≡ Unknown = sym is ∙ other in cc) ∙ is

  module _ (entry : Entry) (asked : IsAsked table.moment rrsets entry) where
    by_table : table_answer table entry ≡ Valid → after entry ≡ Valid
    by_table valid = known_valid entry (sym (says_as_its_verifier meaning table.moment rrsets table is_table entry asked) ∙ valid)

    by_todo : (todo : Option ℕ) → IsTodo unknown entry todo → ((number : ℕ) → todo ≡ Some number → IsNumbered unknown number entry → IsMarked unknown lines entry)
        → meaning entry ≡ Unknown → after entry ≡ Valid
    by_todo None none marked is = absurd (none ((are.members entry).1 (asked, is)))
    by_todo (Some number) numbered marked is = marks.marked entry (marked number refl numbered)

    by_answer : (answer : Answer) → meaning entry ≡ answer → hoped_answer answer ≡ Valid → (meaning entry ≡ Unknown → after entry ≡ Valid) → after entry ≡ Valid
    by_answer Valid is valid unless = known_valid entry is
    by_answer Unknown is valid unless = unless is
    by_answer Invalid is valid unless = let clash : Invalid ≡ Valid = valid in cc

    by_hope : (todo : Option ℕ) → IsTodo unknown entry todo → ((number : ℕ) → todo ≡ Some number → IsNumbered unknown number entry → IsMarked unknown lines entry)
        → table_answer (hopeful table) entry ≡ Valid → after entry ≡ Valid
    by_hope todo is_todo marked valid =
        let hopes = hopeful_is_table meaning table.moment rrsets table is_table (λ each. hoped_answer (meaning each)) (λ each its. refl) in
        let says = says_as_its_verifier (λ each. hoped_answer (meaning each)) table.moment rrsets (hopeful table) hopes entry asked in
        by_answer (meaning entry) refl (sym says ∙ valid) (by_todo todo is_todo marked)

  -- ---- lines

  module _ (says : Entry → Answer) (todo : List Entry) where
    asked_of : (number : SignatureNumber) (rrset : ReceivedRrset) (key : DnskeyRecord) (good : IsGoodUnder (By says todo) number rrset key)
        (k : ℕ) (set : ReceivedRrset) → IsNumbered rrsets k set → IsKeyOf set key → IsAsked table.moment rrsets good.good.entry
    asked_of number rrset key good k set numbered stands = record {
      rrset = rrset;
      rrsig = good.rrsig;
      key = key;
      among = among rrsets number.rrset rrset good.is_rrset;
      its = (good.rdata, among rrset.signatures number.signature good.rdata good.is_signature, good.read);
      key_among = key_among rrsets k set key numbered stands;
      admissible = good.good.admissible;
      is = good.good.is;
    }

    good_then : (number : SignatureNumber) (rrset : ReceivedRrset) (key : DnskeyRecord) (good : IsGoodUnder (By says todo) number rrset key)
        → after good.good.entry ≡ Valid → IsGoodUnder Then number rrset key
    good_then number rrset key good valid = good_as (By says todo) Then number rrset key refl good (record {
      admissible = good.good.admissible;
      entry = good.good.entry;
      is = good.good.is;
      valid = valid;
    })

    vouch : (before : List Line) (told : Voucher) (key other : DnskeyRecord) → IsMatchedBy (HasSecured (By says todo)) rrsets anchors told key
        → IsVouchedBy Hoped before told other → IsVouchedBy (By says todo) before told key
    vouch before (voucher.KeyAnchor number) key other matched said = matched
    vouch before (voucher.DsAnchor number digest_type) key other matched said = matched
    vouch before (voucher.Ds number digest_type) key other matched said = (matched.0, said.1)

    trusted_then : (before : List Line) (k : ℕ) (keys : TrustedKeys) (x : IsTrustedLine (By says todo) k keys)
        → after x.first.is.good.good.entry ≡ Valid → FollowsTrusted Hoped before keys → FollowsTrusted Then before keys
    trusted_then before k keys x valid follows =
        let way = x.first.is in
        let Good : SignatureNumber → Type 0 = λ number. IsGoodUnder Then number way.set x.way.key in
        let Matched : Voucher → Type 0 = λ told. IsMatchedBy (HasSecured (By says todo)) rrsets anchors told x.way.key in record {
          set = way.set;
          owner = same_as way.set.owner keys.zone x.zone;
          key = x.way.key;
          stands = way.stands;
          named = x.named;
          good = subst Good (sym x.signature) (good_then (record { rrset = k; signature = x.way.signature }) way.set x.way.key way.good valid);
          vouched = vouch before keys.voucher x.way.key follows.key (subst Matched (sym x.voucher) way.matched) follows.vouched;
        }

    signed_then : (before : List Line) (number : SignatureNumber) (this : SignedRrset) (x : IsSignedLine (By says todo) number this)
        → after x.first.is.good.good.entry ≡ Valid → FollowsSigned Hoped before this → FollowsSigned Then before this
    signed_then before number this x valid follows =
        let signer = x.first.is in
        let Good : SignatureNumber → Type 0 = λ each. IsGoodUnder Then each signer.rrset x.key in record {
          rrset = signer.rrset;
          owner = same_as signer.rrset.owner this.owner x.owner;
          rtype = x.rtype;
          set = signer.set;
          is_set = signer.is_set;
          zone = same_as signer.set.owner this.zone x.zone;
          key = x.key;
          stands = signer.stands;
          named = x.named;
          good = subst Good (sym x.signature) (good_then number signer.rrset x.key signer.good valid);
          trusted = follows.trusted;
        }

  trusted_its : (setting : Setting) → IsIts Its unknown setting → (before : List Line) (k : ℕ) (keys : TrustedKeys) → IsTrustedLine setting k keys
      → Contains lines (line.Trusted keys) → FollowsTrusted Hoped before keys → FollowsTrusted Then before keys
  trusted_its _ known before k keys x there follows =
      let way = x.first.is in
      let asked = asked_of (table_answer table) [] (record { rrset = k; signature = x.way.signature }) way.set x.way.key way.good k way.set way.good.is_rrset way.stands in
      trusted_then (table_answer table) [] before k keys x (by_table way.good.good.entry asked way.good.good.valid) follows
  trusted_its _ under_hope before k keys x there follows =
      let way = x.first.is in
      let asked = asked_of (table_answer (hopeful table)) unknown (record { rrset = k; signature = x.way.signature }) way.set x.way.key way.good k way.set
      way.good.is_rrset way.stands in
      trusted_then (table_answer (hopeful table)) unknown before k keys x
      (by_hope way.good.good.entry asked keys.todo.0 x.todo
      (λ number told numbered. record { line = line.Trusted keys; among = there; number = number; told = told; numbered = numbered })
      way.good.good.valid)
      follows

  signed_its : (setting : Setting) → IsIts Its unknown setting → (before : List Line) (number : SignatureNumber) (this : SignedRrset)
      → IsSignedLine setting number this → Contains lines (line.Signed this) → FollowsSigned Hoped before this → FollowsSigned Then before this
  signed_its _ known before number this x there follows =
      let signer = x.first.is in
      let asked = asked_of (table_answer table) [] number signer.rrset x.key signer.good this.keys signer.set signer.is_set signer.stands in
      signed_then (table_answer table) [] before number this x (by_table signer.good.good.entry asked signer.good.good.valid) follows
  signed_its _ under_hope before number this x there follows =
      let signer = x.first.is in
      let asked = asked_of (table_answer (hopeful table)) unknown number signer.rrset x.key signer.good this.keys signer.set signer.is_set signer.stands in
      signed_then (table_answer (hopeful table)) unknown before number this x
      (by_hope signer.good.good.entry asked this.todo.0 x.todo
      (λ place told numbered. record { line = line.Signed this; among = there; number = place; told = told; numbered = numbered })
      signer.good.good.valid)
      follows

  line_then : (before : List Line) (each : Line) → IsLineOf (IsIts Its unknown) each → Contains lines each → Follows Hoped before each
      → Follows Then before each
  line_then before (line.Trusted keys) (setting, its, k, x) there follows = trusted_its setting its before k keys x there follows
  line_then before (line.Signed this) (setting, its, number, x) there follows = signed_its setting its before number this x there follows
  line_then before (line.Proof proof) is there follows = tt
  line_then before (line.Part part) is there follows = follows
  line_then before (line.Case cut) is there follows = follows
  line_then before (line.Unusable ds) is there follows = follows
  line_then before (line.Hope kind) is there follows = tt
  line_then before (line.Holds interval) is there follows = tt
  line_then before (line.Reason reason) is there follows = absurd is
  line_then before (line.Follows untrusted) is there follows = absurd is
  line_then before (line.Key key) is there follows = absurd is
  line_then before (line.Rrset place) is there follows = follows

  pub each_then : (before xs : List Line) → ((each : Line) → Contains xs each → Contains lines each) → AllByRecursion (IsLineOf (IsIts Its unknown)) xs
      → EachFollows Hoped before xs → EachFollows Then before xs
  each_then before [] all are_told follows = tt
  each_then before (x ∷ xs) all are_told follows = (
    line_then before x are_told.0 (all x (is_first x xs)) follows.0,
    each_then (before ++ x ∷ []) xs (λ each there. all each (is_behind x xs each there)) are_told.1 follows.1,
  )
