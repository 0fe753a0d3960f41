-- Each line of a derivation follows from those before it.
use Rattle.std.proofs.Common.{◌≡◌, ℕ, List, [], ◌∷◌, ◌++◌, refl, sym, ap, subst, append_assoc}
use Rattle.std.proofs.lemmas.List.{append-nil}
use Rattle.std.proofs.lemmas.List.Elements.{Contains-append_left, Contains-append_right, Contains-push}
use Rattle.std.specs.List.{Contains}
use Rattle.dnsv_names.specs.Name.{Labels, SameName}
use Rattle.dnsv_names.specs.Tree.TreeLaws.{same_of_key}
use Rattle.dnsv_canonical.specs.Rrsets.{ReceivedRrset}
use Rattle.dnsv_canonical.specs.declared.number.RecordNumber.{RecordNumber}
use Rattle.dnsv_records.specs.declared.number.DigestType.{DigestType}
use Rattle.dnsv_verifier.specs.Admissible.{DnskeyRecord}
use Rattle.dnsv_anchors.specs.declared.anchor.Anchor.{Anchor}
use Rattle.dnsv_derivations.specs.Explained.{Setting}
use Rattle.dnsv_derivations.specs.derivations.Derivations.{IsByAnchor, IsDerivation, Subject}
use Rattle.dnsv_derivations.specs.derivations.Derivations.IsDerivation.{said_trusted, anchored, delegated, said_signed, signed}
use Rattle.dnsv_derivations.specs.derivations.Derivations.Subject.{keys, signature}
use Rattle.dnsv_derivations.specs.Following.{EachFollows, Follows, FollowsSigned, FollowsTrusted, IsGoodUnder, IsMatchedBy, IsSaidSigned, IsSaidTrusted, IsSignatureSaid, IsVouchedBy}
use Rattle.dnsv_derivations.specs.derivations.Ways.{HasSecured, IsSignedLine, IsTrustedLine}
use Rattle.dnsv_lines.specs.declared.line.Line.{Line}
use Rattle.dnsv_lines.specs.declared.line.Line.TheVariants as line
use Rattle.dnsv_canonical.specs.declared.number.SignatureNumber.{SignatureNumber}
use Rattle.dnsv_lines.specs.declared.line.derivation.SignedRrset.{SignedRrset}
use Rattle.dnsv_lines.specs.declared.line.derivation.TrustedKeys.{TrustedKeys}
use Rattle.dnsv_lines.specs.declared.line.derivation.Voucher.{Voucher}
use Rattle.dnsv_lines.specs.declared.line.derivation.Voucher.TheVariants as voucher

pub same_as : (a b : Labels) → b ≡ a → SameName a b
same_as a b same = let As : Labels → Type 0 = λ each. SameName a each in subst As (sym same) (same_of_key a a refl)

-- what matches a key does so by whatever else says that a DS RRset counts
pub matched_then : (rrsets : List ReceivedRrset) (anchors : List Anchor) (P Q : ℕ → Type 0) → ((k : ℕ) → P k → Q k) → (by : Voucher) (key : DnskeyRecord)
    → IsMatchedBy P rrsets anchors by key → IsMatchedBy Q rrsets anchors by key
matched_then rrsets anchors P Q then (voucher.KeyAnchor number) key matched = matched
matched_then rrsets anchors P Q then (voucher.DsAnchor number digest_type) key matched = matched
matched_then rrsets anchors P Q then (voucher.Ds number digest_type) key matched = (matched.0, then number.rrset matched.1)

module _ (setting : Setting) where
  follows_push : (before xs : List Line) (y : Line) → EachFollows setting before xs → Follows setting (before ++ xs) y
      → EachFollows setting before (xs ++ y ∷ [])
  follows_push before [] y each one =
      let Then : List Line → Type 0 = λ all. Follows setting all y in (subst Then (append-nil before) one, tt)
  follows_push before (x ∷ xs) y each one =
      let Then : List Line → Type 0 = λ all. Follows setting all y in
      (each.0, follows_push (before ++ x ∷ []) xs y each.1 (subst Then (sym (append_assoc before (x ∷ []) xs)) one))

  -- what matches by trust matches by what was said
  by_anchor : (before : List Line) (voucher : Voucher) (key : DnskeyRecord) → IsByAnchor voucher
      → IsMatchedBy (HasSecured setting) setting.rrsets setting.anchors voucher key → IsVouchedBy setting before voucher key
  by_anchor before (voucher.KeyAnchor number) key is matched = matched
  by_anchor before (voucher.DsAnchor number digest_type) key is matched = matched
  by_anchor before (voucher.Ds number digest_type) key is matched = absurd is

  by_ds : (before : List Line) (told : Voucher) (number : RecordNumber) (digest_type : DigestType) (key : DnskeyRecord)
      → told ≡ voucher.Ds number digest_type → IsSaidSigned before number.rrset
      → IsMatchedBy (HasSecured setting) setting.rrsets setting.anchors told key → IsVouchedBy setting before told key
  by_ds before told number digest_type key is said matched =
      let By : Voucher → Type 0 = λ each. IsMatchedBy (HasSecured setting) setting.rrsets setting.anchors each key in
      let Vouched : Voucher → Type 0 = λ each. IsVouchedBy setting before each key in
      let there : By (voucher.Ds number digest_type) = subst By is matched in
      subst Vouched (sym is) (there.0, said)

  trusted_follows : (before : List Line) (k : ℕ) (trusted : TrustedKeys) (is : IsTrustedLine setting k trusted)
      → IsVouchedBy setting before trusted.voucher is.way.key → FollowsTrusted setting before trusted
  trusted_follows before k trusted is vouched =
      let Good : SignatureNumber → Type 0 = λ number. IsGoodUnder setting number is.first.is.set is.way.key in record {
        set = is.first.is.set;
        owner = same_as is.first.is.set.owner trusted.zone is.zone;
        key = is.way.key;
        stands = is.first.is.stands;
        named = is.named;
        good = subst Good (sym is.signature) is.first.is.good;
        vouched = vouched;
      }

  matched_line : (k : ℕ) (trusted : TrustedKeys) (is : IsTrustedLine setting k trusted)
      → IsMatchedBy (HasSecured setting) setting.rrsets setting.anchors trusted.voucher is.way.key
  matched_line k trusted is =
      let By : Voucher → Type 0 = λ each. IsMatchedBy (HasSecured setting) setting.rrsets setting.anchors each is.way.key in
      subst By (sym is.voucher) is.first.is.matched

  signed_follows : (before : List Line) (number : SignatureNumber) (this : SignedRrset) → IsSignedLine setting number this
      → IsSaidTrusted before this.keys → FollowsSigned setting before this
  signed_follows before number this is said =
      let signer = is.first.is in
      let Good : SignatureNumber → Type 0 = λ each. IsGoodUnder setting each signer.rrset is.key in record {
        rrset = signer.rrset;
        owner = same_as signer.rrset.owner this.owner is.owner;
        rtype = is.rtype;
        set = signer.set;
        is_set = signer.is_set;
        zone = same_as signer.set.owner this.zone is.zone;
        key = is.key;
        stands = signer.stands;
        named = is.named;
        good = subst Good (sym is.signature) signer.good;
        trusted = said;
      }

  -- ---- what a derivation says

  last_line : (before lines : List Line) (each : Line) → Contains (before ++ (lines ++ each ∷ [])) each
  last_line before lines each = Contains-append_right before (lines ++ each ∷ []) each (Contains-push lines each)

  trusted_said : (before lines : List Line) (k : ℕ) (trusted : TrustedKeys) → IsTrustedLine setting k trusted
      → IsSaidTrusted (before ++ (lines ++ line.Trusted trusted ∷ [])) k
  trusted_said before lines k trusted is = record {
    keys = trusted;
    among = last_line before lines (line.Trusted trusted);
    rrset = ap (λ (number : SignatureNumber). number.rrset) is.signature;
  }

  keys_said : (before lines : List Line) (k : ℕ) → IsDerivation setting before (keys k) lines → IsSaidTrusted (before ++ lines) k
  keys_said before lines k (said_trusted said) = record {
    keys = said.keys;
    among = Contains-append_left before [] (line.Trusted said.keys) said.among;
    rrset = said.rrset;
  }
  keys_said before lines k (anchored {trusted = trusted} unsaid is anchor) = trusted_said before [] k trusted is
  keys_said before lines k (delegated {trusted = trusted} {lines = above} unsaid is voucher lowest derivation) =
      trusted_said before above k trusted is

  pub number_said : (before lines : List Line) (number : SignatureNumber) → IsDerivation setting before (signature number) lines
      → IsSignatureSaid (before ++ lines) number
  number_said before lines number (said_signed said) = record {
    signed = said.signed;
    among = Contains-append_left before [] (line.Signed said.signed) said.among;
    is = said.is;
  }
  number_said before lines number (signed {signed = this} {lines = above} unsaid is derivation) = record {
    signed = this;
    among = last_line before above (line.Signed this);
    is = is.signature;
  }

  pub signature_said : (before lines : List Line) (number : SignatureNumber) → IsDerivation setting before (signature number) lines
      → IsSaidSigned (before ++ lines) number.rrset
  signature_said before lines number derivation =
      let said = number_said before lines number derivation in record {
        signed = said.signed;
        among = said.among;
        rrset = ap (λ (each : SignatureNumber). each.rrset) said.is;
      }

  pub derivation_follows : (before : List Line) (subject : Subject) (lines : List Line) → IsDerivation setting before subject lines
      → EachFollows setting before lines
  derivation_follows before subject lines (said_trusted said) = tt
  derivation_follows before subject lines (said_signed said) = tt
  derivation_follows before subject lines (anchored {k = k} {trusted = trusted} unsaid is anchor) =
      (trusted_follows before k trusted is (by_anchor before trusted.voucher is.way.key anchor (matched_line k trusted is)), tt)
  derivation_follows before subject lines (delegated {k = k} {s = s} {trusted = trusted} {number = number} {digest_type = digest_type} {lines = above} unsaid is voucher lowest derivation) =
      follows_push before above (line.Trusted trusted) (derivation_follows before (signature (record { rrset = number.rrset; signature = s })) above derivation)
      (trusted_follows (before ++ above) k trusted is
      (by_ds (before ++ above) trusted.voucher number digest_type is.way.key voucher
      (signature_said before above (record { rrset = number.rrset; signature = s }) derivation) (matched_line k trusted is)))
  derivation_follows before subject lines (signed {number = number} {signed = said} {lines = above} unsaid is derivation) =
      follows_push before above (line.Signed said) (derivation_follows before (keys said.keys) above derivation)
      (signed_follows (before ++ above) number said is (keys_said before above said.keys derivation))
