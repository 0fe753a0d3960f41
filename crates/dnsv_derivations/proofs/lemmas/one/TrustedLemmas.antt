-- One line says that a DNSKEY RRset is trusted.
use Rattle.std.proofs.Common.{◌≡◌, ◌≢◌, ◌∙◌, ℕ, List, Option, Some, None, arith, refl, sym, ap, subst}
use Rattle.std.proofs.lemmas.Bool.Decides.{nat_tests}
use Rattle.std.proofs.lemmas.Cmp.{nat_list_cmp_total}
use Rattle.std.proofs.lemmas.Map.Lookups.{exact_bytes}
use Rattle.std.specs.Ordering.{ordering_reverse}
use Rattle.std.specs.declared.cmp.Ordering.{Ordering}
use Rattle.std.specs.declared.cmp.Ordering.TheVariants.{Less, Equal, Greater}
use Rattle.dnsv_records.proofs.OneRecord.{one_ds, one_rrsig}
use Rattle.dnsv_records.specs.Ds.{IsDs}
use Rattle.dnsv_records.specs.Dnskey.KeyTag.{key_tag_of}
use Rattle.dnsv_records.specs.Rrsig.{IsRrsig}
use Rattle.dnsv_records.specs.declared.ds.Ds.{Ds}
use Rattle.dnsv_records.specs.declared.number.DigestType.{DigestType}
use Rattle.dnsv_records.specs.declared.rrsig.Rrsig.{Rrsig}
use Rattle.dnsv_canonical.specs.Canonical.{rdata_cmp}
use Rattle.dnsv_canonical.specs.Rrsets.{IsNumbered, ReceivedRrset}
use Rattle.dnsv_verifier.proofs.EntryLemmas.{one_entry}
use Rattle.dnsv_verifier.specs.Admissible.{DnskeyRecord, IsEntryOf}
use Rattle.dnsv_verifier.specs.declared.entry.Entry.{Entry}
use Rattle.dnsv_chain.specs.Trusted.{IsKeyOf}
use Rattle.dnsv_anchors.specs.declared.anchor.Anchor.{Anchor}
use Rattle.dnsv_anchors.specs.declared.anchor.Anchor.TheVariants as anchor
use Rattle.dnsv_denial.proofs.lemmas.gathering.EvidenceLemmas.{one_record as record_numbered}
use Rattle.dnsv_denial.specs.gathering.Evidence.{IsRecordAt}
use Rattle.dnsv_proof_forms.specs.records.Numbers.{number_cmp}
use Rattle.dnsv_canonical.specs.declared.number.RecordNumber.{RecordNumber}
use Rattle.dnsv_derivations.specs.Explained.{IsTodo, Setting}
use Rattle.dnsv_derivations.specs.Following.{IsDsMatch, IsGoodUnder, IsNamed}
use Rattle.dnsv_derivations.specs.derivations.Ways.{IsFirstWay, IsTrustedLine, IsWayInto, Way, record_at, voucher_rank}
use Rattle.dnsv_lines.specs.declared.line.derivation.KeyName.{KeyName}
use Rattle.dnsv_canonical.specs.declared.number.SignatureNumber.{SignatureNumber}
use Rattle.dnsv_lines.specs.declared.line.derivation.TrustedKeys.{TrustedKeys}
use Rattle.dnsv_lines.specs.declared.line.derivation.Voucher.{Voucher}
use Rattle.dnsv_lines.specs.declared.line.derivation.Voucher.TheVariants as voucher
use Rattle.dnsv_derivations.proofs.lemmas.NumberedLemmas.{among}
use Rattle.dnsv_canonical.proofs.NumberLemmas.{one_numbered}
use Rattle.dnsv_derivations.proofs.lemmas.derivations.WayLemmas.FirstLemmas.{Matched}
use Rattle.dnsv_derivations.proofs.lemmas.derivations.WayLemmas.SearchLemmas.{one_key}
use Rattle.dnsv_derivations.proofs.lemmas.one.StepLemmas.{even}

-- ---- values

ordered : (a b : List ℕ) (o : Ordering) → rdata_cmp a b ≡ o → rdata_cmp a b ≢ Less → rdata_cmp b a ≢ Less → a ≡ b
ordered a b Less is up down = absurd (up is)
ordered a b Equal is up down = exact_bytes a b is
ordered a b Greater is up down = absurd (down (nat_list_cmp_total.antisymm b a ∙ ap ordering_reverse is))

-- neither goes before the other
pub same_rdata : (a b : List ℕ) → rdata_cmp a b ≢ Less → rdata_cmp b a ≢ Less → a ≡ b
same_rdata a b up down = ordered a b (rdata_cmp a b) refl up down

-- a record by its number is one
pub one_record : (rrsets : List ReceivedRrset) (m n : RecordNumber) (r s : ReceivedRrset) (x y : List ℕ) → m ≡ n
    → IsRecordAt rrsets m r x → IsRecordAt rrsets n s y → (r ≡ s) × (x ≡ y)
one_record rrsets m n r s x y same first second =
    let At : RecordNumber → Type 0 = λ number. IsRecordAt rrsets number r x in record_numbered rrsets n r s x y (subst At same first) second

-- two names of one key
pub one_name : (k l : DnskeyRecord) (a b : KeyName) → k ≡ l → IsNamed k a → IsNamed l b → a ≡ b
one_name k l a b same x y =
    let tag : a.tag.0 ≡ b.tag.0 = x.tag ∙ ap (λ (key : DnskeyRecord). key_tag_of key.rdata) same ∙ sym y.tag in
    let algorithm : a.algorithm.0 ≡ b.algorithm.0 =
    x.algorithm ∙ ap (λ (key : DnskeyRecord). key.dnskey.algorithm.0) same ∙ sym y.algorithm in
    λ i. record { tag = record { 0 = tag i }; algorithm = record { 0 = algorithm i } }

-- entries that have one number each
abbrev pub AreApart : List Entry → Type 0
AreApart entries = (m n : ℕ) (entry : Entry) → IsNumbered entries m entry → IsNumbered entries n entry → m ≡ n

module _ (setting : Setting) (apart : AreApart setting.todo) where
  todo_of : (entry : Entry) (m n : Option ℕ) → IsTodo setting.todo entry m → IsTodo setting.todo entry n → m ≡ n
  todo_of entry None None x y = refl
  todo_of entry None (Some n) x y = absurd (x (among setting.todo n entry y))
  todo_of entry (Some m) None x y = absurd (y (among setting.todo m entry x))
  todo_of entry (Some m) (Some n) x y = ap (λ (number : ℕ). Some number) (apart m n entry x y)

  -- the number of an entry, where it has one
  pub one_todo : (e f : Entry) (m n : Option ℕ) → e ≡ f → IsTodo setting.todo e m → IsTodo setting.todo f n → m ≡ n
  one_todo e f m n same x y = let Of : Entry → Type 0 = λ each. IsTodo setting.todo each m in todo_of f m n (subst Of same x) y

-- the signature with the number, of this RRset
abbrev pub SignatureAt : List ReceivedRrset → SignatureNumber → ReceivedRrset → List ℕ → Rrsig → Type 0
SignatureAt rrsets number rrset rdata rrsig =
    IsNumbered rrsets number.rrset rrset × IsNumbered rrset.signatures number.signature rdata × IsRrsig rdata rrsig

-- it is one
pub one_signature_at : (rrsets : List ReceivedRrset) (m n : SignatureNumber) (r s : ReceivedRrset) (x y : List ℕ) (g h : Rrsig) → m ≡ n
    → SignatureAt rrsets m r x g → SignatureAt rrsets n s y h → (r ≡ s) × (g ≡ h)
one_signature_at rrsets m n r s x y g h number first second =
    let Rrset : SignatureNumber → Type 0 = λ each. IsNumbered rrsets each.rrset r in
    let rrset : r ≡ s = one_numbered rrsets n.rrset r s (subst Rrset number first.0) second.0 in
    let Signature : SignatureNumber → Type 0 = λ each. IsNumbered r.signatures each.signature x in
    let In : ReceivedRrset → Type 0 = λ each. IsNumbered each.signatures n.signature x in
    let rdata : x ≡ y = one_numbered s.signatures n.signature x y (subst In rrset (subst Signature number first.1)) second.1 in
    let Read : List ℕ → Type 0 = λ octets. IsRrsig octets g in
    (rrset, one_rrsig y g h (subst Read rdata first.2) second.2)

-- a signature that is good under a key has one entry with it
pub good_entry : (setting : Setting) (m n : SignatureNumber) (r s : ReceivedRrset) (k l : DnskeyRecord) → m ≡ n → k ≡ l
    → (x : IsGoodUnder setting m r k) → (y : IsGoodUnder setting n s l) → x.good.entry ≡ y.good.entry
good_entry setting m n r s k l number key x y =
    let same = one_signature_at setting.rrsets m n r s x.rdata y.rdata x.rrsig y.rrsig number (x.is_rrset, x.is_signature, x.read)
    (y.is_rrset, y.is_signature, y.read) in
    let rrset = same.0 in
    let rrsig = same.1 in
    let Of : ReceivedRrset → Type 0 = λ each. IsEntryOf each x.rrsig k x.good.entry in
    let By : Rrsig → Type 0 = λ each. IsEntryOf s each k x.good.entry in
    let Under : DnskeyRecord → Type 0 = λ each. IsEntryOf s y.rrsig each x.good.entry in
    one_entry s y.rrsig l x.good.entry y.good.entry (subst Under key (subst By rrsig (subst Of rrset x.good.is))) y.good.is

-- ---- ways

module _ (setting : Setting) where
  -- neither goes before the other
  ranks : (a b : RecordNumber) → number_cmp a b ≢ Less → number_cmp b a ≢ Less → a ≡ b
  ranks a b up down =
      let same : (a.rrset ≡ b.rrset) × (a.place ≡ b.place) = grind (arith, nat_tests, up, down) in
      λ i. record { rrset = same.0 i; place = same.1 i }

  -- the anchor with the number is one
  one_anchor : (m n : ℕ) (a b : Anchor) → record_at 0 m ≡ record_at 0 n → IsNumbered setting.anchors m a → IsNumbered setting.anchors n b → a ≡ b
  one_anchor m n a b same x y =
      let At : RecordNumber → Type 0 = λ number. IsNumbered setting.anchors number.place a in
      one_numbered setting.anchors n a b (subst At same x) y

  -- no DS RRset has the number of anchors
  never_anchor : (m : ℕ) (n : RecordNumber) (d : DigestType) (key : DnskeyRecord) → record_at 0 m ≡ n → IsDsMatch setting.rrsets n d key → ⊥
  never_anchor m n d key same is =
      let counted = is.at.is_rrset.0 in
      let none : 0 ≡ n.rrset = ap (λ (number : RecordNumber). number.rrset) same in omega (arith, counted, none)

  one_voucher : (k l : DnskeyRecord) (a b : Voucher) → Matched setting a k → Matched setting b l → voucher_rank a ≡ voucher_rank b → a ≡ b
  one_voucher k l (voucher.KeyAnchor m) (voucher.KeyAnchor n) x y rank = ap (λ (number : RecordNumber). voucher.KeyAnchor number.place) rank
  one_voucher k l (voucher.KeyAnchor m) (voucher.DsAnchor n d) x y rank =
      let clash : anchor.Key x.0 x.1 ≡ anchor.Ds y.0 y.1 = one_anchor m n (anchor.Key x.0 x.1) (anchor.Ds y.0 y.1) rank x.2 y.2 in cc
  one_voucher k l (voucher.KeyAnchor m) (voucher.Ds n d) x y rank = absurd (never_anchor m n d l rank y.0)
  one_voucher k l (voucher.DsAnchor m d) (voucher.KeyAnchor n) x y rank =
      let clash : anchor.Ds x.0 x.1 ≡ anchor.Key y.0 y.1 = one_anchor m n (anchor.Ds x.0 x.1) (anchor.Key y.0 y.1) rank x.2 y.2 in cc
  one_voucher k l (voucher.DsAnchor m d) (voucher.DsAnchor n e) x y rank =
      let whole : anchor.Ds x.0 x.1 ≡ anchor.Ds y.0 y.1 = one_anchor m n (anchor.Ds x.0 x.1) (anchor.Ds y.0 y.1) rank x.2 y.2 in
      let ds : x.1 ≡ y.1 = cc in
      let digest : d.0 ≡ e.0 = x.3 ∙ ap (λ (each : Ds). each.digest_type.0) ds ∙ sym y.3 in
      λ i. voucher.DsAnchor (rank i).place (record { 0 = digest i })
  one_voucher k l (voucher.DsAnchor m d) (voucher.Ds n e) x y rank = absurd (never_anchor m n e l rank y.0)
  one_voucher k l (voucher.Ds m d) (voucher.KeyAnchor n) x y rank = absurd (never_anchor n m d k (sym rank) x.0)
  one_voucher k l (voucher.Ds m d) (voucher.DsAnchor n e) x y rank = absurd (never_anchor n m d k (sym rank) x.0)
  one_voucher k l (voucher.Ds m d) (voucher.Ds n e) x y rank =
      let at = one_record setting.rrsets m n x.0.rrset y.0.rrset x.0.rdata y.0.rdata rank x.0.at y.0.at in
      let Read : List ℕ → Type 0 = λ octets. IsDs octets x.0.ds in
      let ds : x.0.ds ≡ y.0.ds = one_ds y.0.rdata x.0.ds y.0.ds (subst Read at.1 x.0.read) y.0.read in
      let digest : d.0 ≡ e.0 = x.0.digest ∙ ap (λ (each : Ds). each.digest_type.0) ds ∙ sym y.0.digest in
      λ i. voucher.Ds (rank i) (record { 0 = digest i })

  module _ (k : ℕ) where
    one_set : (a b : Way) (x : IsWayInto setting k a) (y : IsWayInto setting k b) → x.set ≡ y.set
    one_set a b x y = one_numbered setting.rrsets k x.set y.set x.good.is_rrset y.good.is_rrset

    -- the first way is one
    pub one_way : (a b : Way) → IsFirstWay setting k a → IsFirstWay setting k b → a ≡ b
    one_way a b x y =
        let rank = ranks (voucher_rank a.voucher) (voucher_rank b.voucher) (y.voucher a x.is) (x.voucher b y.is) in
        let told : a.voucher ≡ b.voucher = one_voucher a.key b.key a.voucher b.voucher x.is.matched y.is.matched rank in
        let rdata : a.key.rdata ≡ b.key.rdata = same_rdata a.key.rdata b.key.rdata (y.key a x.is told) (x.key b y.is (sym told)) in
        let Of : ReceivedRrset → Type 0 = λ set. IsKeyOf set a.key in
        let key : a.key ≡ b.key =
        one_key y.is.set a.key b.key (subst Of (one_set a b x.is y.is) x.is.stands) y.is.stands rdata in
        let signature : a.signature ≡ b.signature =
        even a.signature b.signature (x.signature b y.is (sym told) (sym key)) (y.signature a x.is told key) in
        λ i. record { voucher = told i; key = key i; signature = signature i }

    -- and so is the line
    pub one_trusted : AreApart setting.todo → (a b : TrustedKeys) → IsTrustedLine setting k a → IsTrustedLine setting k b → a ≡ b
    one_trusted apart a b x y =
        let way : x.way ≡ y.way = one_way x.way y.way x.first y.first in
        let set : x.first.is.set ≡ y.first.is.set = one_set x.way y.way x.first.is y.first.is in
        let key : x.way.key ≡ y.way.key = ap (λ (each : Way). each.key) way in
        let number_of : ℕ → SignatureNumber = λ s. record { rrset = k; signature = s } in
        let number : number_of x.way.signature ≡ number_of y.way.signature = ap (λ (each : Way). number_of each.signature) way in
        let zone : a.zone ≡ b.zone = x.zone ∙ ap (λ (each : ReceivedRrset). each.owner) set ∙ sym y.zone in
        let signature : a.signature ≡ b.signature = x.signature ∙ number ∙ sym y.signature in
        let name : a.key ≡ b.key = one_name x.way.key y.way.key a.key b.key key x.named y.named in
        let told : a.voucher ≡ b.voucher = x.voucher ∙ ap (λ (each : Way). each.voucher) way ∙ sym y.voucher in
        let entry = good_entry setting (number_of x.way.signature) (number_of y.way.signature) x.first.is.set y.first.is.set
        x.way.key y.way.key number key x.first.is.good y.first.is.good in
        let todo : a.todo.0 ≡ b.todo.0 =
        one_todo setting apart x.first.is.good.good.entry y.first.is.good.good.entry a.todo.0 b.todo.0 entry x.todo y.todo in
        λ i. record { zone = zone i; signature = signature i; key = name i; voucher = told i; todo = record { 0 = todo i } }
