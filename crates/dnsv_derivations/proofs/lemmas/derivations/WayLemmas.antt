-- What has a way in is trusted.
pub mod DelegationLemmas
pub mod FirstLemmas
pub mod KeptLemmas
pub mod KeysLemmas
pub mod NewKeyLemmas
pub mod RankLemmas
pub mod ReadLemmas
pub mod SearchLemmas
pub mod SetLemmas
pub mod TrustedLemmas
use Rattle.std.proofs.Common.{◌≡◌, ℕ, subst}
use Rattle.dnsv_canonical.specs.Rrsets.{IsNumbered, ReceivedRrset}
use Rattle.dnsv_verifier.specs.Admissible.{DnskeyRecord}
use Rattle.dnsv_chain.specs.Anchor.{IsAnchorMatch}
use Rattle.dnsv_chain.specs.Trusted.{IsSecured, IsSignedUnder, IsTrusted, SignsItsSet}
use Rattle.dnsv_chain.specs.Trusted.IsTrusted.{anchored, delegated}
use Rattle.dnsv_anchors.specs.declared.anchor.Anchor.{Anchor}
use Rattle.dnsv_anchors.specs.declared.anchor.Anchor.TheVariants as anchor
use Rattle.dnsv_records.specs.declared.number.DigestType.{DigestType}
use Rattle.dnsv_canonical.specs.declared.number.RecordNumber.{RecordNumber}
use Rattle.dnsv_derivations.specs.Explained.{Setting}
use Rattle.dnsv_derivations.specs.Following.{IsDsMatch, IsGoodUnder, IsMatchedBy}
use Rattle.dnsv_derivations.specs.derivations.Ways.{HasSecured, IsWayInto, Way}
use Rattle.dnsv_canonical.specs.declared.number.SignatureNumber.{SignatureNumber}
use Rattle.dnsv_lines.specs.declared.line.derivation.Voucher.{Voucher}
use Rattle.dnsv_lines.specs.declared.line.derivation.Voucher.TheVariants as voucher
use Rattle.dnsv_derivations.proofs.lemmas.NumberedLemmas.{among}
use Rattle.dnsv_canonical.proofs.NumberLemmas.{one_numbered}

module _ (setting : Setting) where
  abbrev Trusted : ReceivedRrset → Type 0
  Trusted set = IsTrusted setting.meaning setting.moment setting.rrsets setting.anchors set

  abbrev Secured : ℕ → ℕ → Type 0
  Secured = IsSecured setting.meaning setting.moment setting.rrsets setting.anchors

  signed_under : (number : SignatureNumber) (rrset : ReceivedRrset) (key : DnskeyRecord) → IsGoodUnder setting number rrset key
      → IsSignedUnder setting.meaning setting.moment rrset key
  signed_under number rrset key good = record {
    rrsig = good.rrsig;
    its = (good.rdata, among rrset.signatures number.signature good.rdata good.is_signature, good.read);
    good = good.good;
  }

  module _ (k : ℕ) (way : Way) (is : IsWayInto setting k way) where
    signs : SignsItsSet setting.meaning setting.moment is.set way.key
    signs = record {
      stands = is.stands;
      signed = signed_under (record { rrset = k; signature = way.signature }) is.set way.key is.good;
    }

    by_anchor : (number : ℕ) (each : Anchor) → IsNumbered setting.anchors number each → IsAnchorMatch each way.key → Trusted is.set
    by_anchor number each numbered matching =
        anchored (among setting.rrsets k is.set is.good.is_rrset) signs
        (record { anchor = each; among = among setting.anchors number each numbered; matching = matching })

    by_ds : (number : RecordNumber) (digest_type : DigestType) → IsDsMatch setting.rrsets number digest_type way.key
        → HasSecured setting number.rrset → Trusted is.set
    by_ds number digest_type ds (s, secured) =
        let same : secured.rrset ≡ ds.rrset =
        one_numbered setting.rrsets number.rrset secured.rrset ds.rrset secured.numbered ds.at.is_rrset in
        let Signed : ReceivedRrset → Type 0 = λ rrset. IsSignedUnder setting.meaning setting.moment rrset secured.good.key in
        let signed : Signed ds.rrset = subst Signed same (record {
          rrsig = secured.rrsig;
          its = (secured.rdata, among secured.rrset.signatures s secured.rdata secured.signature, secured.is);
          good = secured.good.good;
        }) in
        delegated secured.good.trusted secured.good.stands
        (among setting.rrsets number.rrset ds.rrset ds.at.is_rrset) signed
        (record {
          rtype = ds.rtype;
          records = ds.records;
          read = ds.are_read;
          usable = record { ds = ds.ds; among = ds.among; usable = ds.usable; matching = ds.matching };
        })
        (among setting.rrsets k is.set is.good.is_rrset) signs

    by_voucher : (voucher : Voucher) → IsMatchedBy (HasSecured setting) setting.rrsets setting.anchors voucher way.key → Trusted is.set
    by_voucher (voucher.KeyAnchor number) (owner, rdata, numbered, matching) =
        by_anchor number (anchor.Key owner rdata) numbered matching
    by_voucher (voucher.DsAnchor number digest_type) (owner, ds, numbered, digest, matching) =
        by_anchor number (anchor.Ds owner ds) numbered matching
    by_voucher (voucher.Ds number digest_type) (ds, secured) = by_ds number digest_type ds secured

    pub way_leads : Trusted is.set
    way_leads = by_voucher way.voucher is.matched
