-- Derivations, from the bottom up.
use Rattle.std.proofs.Common.{◌≡◌, ◌<◌, ℕ, List, [], ◌∷◌, ◌++◌, Some, None, length, refl, sym, ap, ◌∙◌, subst, arith, append_assoc}
use Rattle.std.proofs.lemmas.List.{append-nil}
use Rattle.std.specs.Option.{option_map_or}
use Rattle.dnsv_names.specs.Tree.TreeLaws.{below_length, same_labels}
use Rattle.dnsv_canonical.specs.Rrsets.{IsNumbered, ReceivedRrset}
use Rattle.dnsv_chain.specs.Trusted.{IsSecured}
use Rattle.dnsv_canonical.specs.declared.number.RecordNumber.{RecordNumber}
use Rattle.dnsv_records.specs.declared.number.DigestType.{DigestType}
use Rattle.dnsv_derivations.specs.Explained.{Setting}
use Rattle.dnsv_derivations.specs.derivations.Climb.{Climbs, labels_at}
use Rattle.dnsv_derivations.specs.derivations.Derivations.{IsByAnchor, IsDerivation, IsLowestSecured}
use Rattle.dnsv_derivations.specs.derivations.Derivations.IsDerivation.{said_trusted as by_said_trust, anchored as by_anchored, delegated as by_delegated, said_signed as by_said_signature, signed as by_signature}
use Rattle.dnsv_derivations.specs.derivations.Derivations.Subject.{keys, signature}
use Rattle.dnsv_derivations.specs.Following.{IsMatchedBy, IsSaidTrusted, IsSignatureSaid}
use Rattle.dnsv_derivations.specs.derivations.Ways.{HasSecured, IsSignedLine, IsTrustedLine, IsTrustedSet}
use Rattle.dnsv_lines.specs.declared.line.Line.{Line}
use Rattle.dnsv_lines.specs.declared.line.Line.TheVariants as line
use Rattle.dnsv_canonical.specs.declared.number.SignatureNumber.{SignatureNumber}
use Rattle.dnsv_lines.specs.declared.line.derivation.SignedRrset.{SignedRrset}
use Rattle.dnsv_lines.specs.declared.line.derivation.TrustedKeys.{TrustedKeys}
use Rattle.dnsv_lines.specs.declared.line.derivation.Voucher.{Voucher}
use Rattle.dnsv_lines.specs.declared.line.derivation.Voucher.TheVariants as voucher
use Rattle.dnsv_canonical.proofs.NumberLemmas.{one_numbered}

module _ (setting : Setting) (before : List Line) where
  labels_are : (k : ℕ) (rrset : ReceivedRrset) → IsNumbered setting.rrsets k rrset → labels_at setting.rrsets k ≡ length rrset.owner
  labels_are k rrset numbered =
      ap (λ found. option_map_or (λ (each : ReceivedRrset). length each.owner) found 0) numbered.1

  -- what a DS record leads to, by the line
  by_ds : (k : ℕ) (trusted : TrustedKeys) (number : RecordNumber) (digest_type : DigestType) (is : IsTrustedLine setting k trusted)
      → trusted.voucher ≡ voucher.Ds number digest_type → IsMatchedBy (HasSecured setting) setting.rrsets setting.anchors (voucher.Ds number digest_type) is.way.key
  by_ds k trusted number digest_type is voucher =
      let By : Voucher → Type 0 = λ each. IsMatchedBy (HasSecured setting) setting.rrsets setting.anchors each is.way.key in
      subst By (sym is.voucher ∙ voucher) is.first.is.matched

  pub ds_secured : (k : ℕ) (trusted : TrustedKeys) (number : RecordNumber) (digest_type : DigestType) → IsTrustedLine setting k trusted
      → trusted.voucher ≡ voucher.Ds number digest_type
      → ((s : ℕ) → ¬ IsSecured setting.meaning setting.moment setting.rrsets setting.anchors number.rrset s) → ⊥
  ds_secured k trusted number digest_type is voucher none =
      let by = by_ds k trusted number digest_type is voucher in none by.1.0 by.1.1

  -- the RRset of the signer's keys has fewer labels
  fewer_labels : (k s : ℕ) (trusted : TrustedKeys) (number : RecordNumber) (digest_type : DigestType) (signed : SignedRrset)
      → IsTrustedLine setting k trusted → trusted.voucher ≡ voucher.Ds number digest_type
      → IsSignedLine setting (record { rrset = number.rrset; signature = s }) signed
      → labels_at setting.rrsets signed.keys < labels_at setting.rrsets k
  fewer_labels k s trusted number digest_type signed is voucher line =
      let by = by_ds k trusted number digest_type is voucher in
      let way = is.first.is in
      let signer = line.first.is in
      let same : by.0.rrset ≡ signer.rrset =
      one_numbered setting.rrsets number.rrset by.0.rrset signer.rrset by.0.at.is_rrset signer.good.is_rrset in
      let owner : ReceivedRrset → ℕ = λ each. length each.owner in
      let below = below_length signer.rrset.owner signer.good.rrsig.signer
      (signer.good.good.admissible.signer.ds (sym (ap (λ (each : ReceivedRrset). each.rtype) same) ∙ by.0.rtype)) in
      let at_signer : length line.key.owner ≡ length signer.good.rrsig.signer =
      same_labels line.key.owner signer.good.rrsig.signer signer.good.good.admissible.zone_key.owner in
      let at_set : length line.key.owner ≡ length signer.set.owner = ap (λ name. length name) signer.stands.owner in
      let at_ds : length by.0.rrset.owner ≡ length is.way.key.owner =
      same_labels by.0.rrset.owner is.way.key.owner by.0.matching.same_owner in
      let at_key : length is.way.key.owner ≡ length way.set.owner = ap (λ name. length name) way.stands.owner in
      let at_same : length by.0.rrset.owner ≡ length signer.rrset.owner = ap owner same in
      let next = labels_are signed.keys signer.set signer.is_set in
      let this = labels_are k way.set way.good.is_rrset in
      omega (arith, below, at_signer, at_set, at_ds, at_key, at_same, next, this)

  pub signer_trusted : (number : SignatureNumber) (signed : SignedRrset) → IsSignedLine setting number signed → IsTrustedSet setting signed.keys
  signer_trusted number signed line = (line.first.is.set, line.first.is.is_set, line.first.is.trusted)

  -- ---- a step up

  module _ (k : ℕ) (old : List Line) where
    pub said_before : IsSaidTrusted before k → Climbs setting before k old old None
    said_before said = ([], sym (append-nil old), by_said_trust said)

    one_more : (new : List Line) (trusted : TrustedKeys) → new ≡ old ++ line.Trusted trusted ∷ []
        → IsDerivation setting before (keys k) (line.Trusted trusted ∷ []) → Climbs setting before k old new None
    one_more new trusted pushed derivation = (line.Trusted trusted ∷ [], pushed, derivation)

    pub by_anchor : (new : List Line) (trusted : TrustedKeys) → new ≡ old ++ line.Trusted trusted ∷ [] → ¬ IsSaidTrusted before k
        → IsTrustedLine setting k trusted → IsByAnchor trusted.voucher → Climbs setting before k old new None
    by_anchor new trusted pushed unsaid is anchor = one_more new trusted pushed (by_anchored unsaid is anchor)

    pub by_said : (new : List Line) (trusted : TrustedKeys) (number : RecordNumber) (digest_type : DigestType) (s : ℕ)
        → new ≡ old ++ line.Trusted trusted ∷ [] → ¬ IsSaidTrusted before k → IsTrustedLine setting k trusted
        → trusted.voucher ≡ voucher.Ds number digest_type → IsLowestSecured setting number.rrset s
        → IsSignatureSaid before (record { rrset = number.rrset; signature = s }) → Climbs setting before k old new None
    by_said new trusted number digest_type s pushed unsaid is voucher lowest said =
        one_more new trusted pushed (by_delegated unsaid is voucher lowest (by_said_signature said))

    pub by_signed : (new : List Line) (trusted : TrustedKeys) (number : RecordNumber) (digest_type : DigestType) (s : ℕ) (signed : SignedRrset)
        → new ≡ (old ++ line.Trusted trusted ∷ []) ++ line.Signed signed ∷ [] → ¬ IsSaidTrusted before k → IsTrustedLine setting k trusted
        → trusted.voucher ≡ voucher.Ds number digest_type → IsLowestSecured setting number.rrset s
        → ¬ IsSignatureSaid before (record { rrset = number.rrset; signature = s })
        → IsSignedLine setting (record { rrset = number.rrset; signature = s }) signed → Climbs setting before k old new (Some signed.keys)
    by_signed new trusted number digest_type s signed pushed unsaid is voucher lowest unsaid_too its =
        let more : List Line = line.Trusted trusted ∷ line.Signed signed ∷ [] in
        let Derives : List Line → Type 0 = λ lines. IsDerivation setting before (keys k) lines in (
          more,
          pushed ∙ append_assoc old (line.Trusted trusted ∷ []) (line.Signed signed ∷ []),
          record {
            derives = λ above is_above.
                subst Derives (append_assoc above (line.Signed signed ∷ []) (line.Trusted trusted ∷ []))
                (by_delegated unsaid is voucher lowest (by_signature unsaid_too its is_above));
            trusted = signer_trusted (record { rrset = number.rrset; signature = s }) signed its;
          },
          fewer_labels k s trusted number digest_type signed is voucher its,
        )

  -- ---- a signature

  pub whole : (number : SignatureNumber) (signed : SignedRrset) (above lines : List Line) → ¬ IsSignatureSaid before number
      → IsSignedLine setting number signed → IsDerivation setting before (keys signed.keys) above
      → lines ≡ above ++ line.Signed signed ∷ [] → IsDerivation setting before (signature number) lines
  whole number signed above lines unsaid its is pushed =
      let Derives : List Line → Type 0 = λ each. IsDerivation setting before (signature number) each in
      subst Derives (sym pushed) (by_signature unsaid its is)

-- what isn't a DS record is an anchor
pub anchor_alone : (told : Voucher) → ((number : RecordNumber) (digest_type : DigestType) → told ≡ voucher.Ds number digest_type → ⊥)
    → IsByAnchor told
anchor_alone (voucher.Ds number digest_type) never = never number digest_type refl
anchor_alone told never = tt

-- the number of a signature by its parts
pub number_is : (number : SignatureNumber) (k : ℕ) → number.rrset ≡ k → number ≡ record { rrset = k; signature = number.signature }
number_is number k same = λ i. record { rrset = same i; signature = number.signature }
