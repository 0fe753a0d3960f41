-- Trust carries over to more evidence, and to other verifiers.
use Rattle.std.proofs.Common.{◌≡◌, ◌<◌, ◌-◌, ℕ, zero, suc, List, [], ◌∷◌, ◌++◌, length, Some, ap, arith}
use Rattle.std.proofs.lemmas.Option.{slice_get_within, get_or_from_slice_get}
use Rattle.std.specs.List.{Contains, slice_get}
use Rattle.dnsv_names.specs.Name.{Labels}
use Rattle.dnsv_names.specs.Tree.TreeLaws.{below_length, same_labels}
use Rattle.dnsv_records.specs.declared.rrsig.Rrsig.{Rrsig}
use Rattle.dnsv_canonical.specs.Rrsets.{IsNumbered, ReceivedRrset}
use Rattle.dnsv_verifier.specs.Admissible.{DnskeyRecord, IsGood, IsKeyAmong, IsSignatureOf}
use Rattle.dnsv_verifier.specs.declared.answer.Answer.{Answer}
use Rattle.dnsv_verifier.specs.declared.answer.Answer.TheVariants.{Valid}
use Rattle.dnsv_verifier.specs.declared.entry.Entry.{Entry}
use Rattle.dnsv_chain.specs.Trusted.{IsKeyOf, IsSignedUnder, SignsItsSet, IsTrusted, anchored, delegated, IsTrustedKey, IsGoodByTrust, IsSecured}
use Rattle.dnsv_anchors.specs.declared.anchor.Anchor.{Anchor}

-- a trusted set is one of the evidence
pub trusted_among : {m : Entry → Answer} {t : ℕ} {rs : List ReceivedRrset} {as' : List Anchor} {set : ReceivedRrset}
    → IsTrusted m t rs as' set → Contains rs set
trusted_among (anchored among signs matching) = among
trusted_among (delegated trusted stands among signed delegates set_among signs) = set_among

-- it is a DNSKEY RRset
pub trusted_rtype : {m : Entry → Answer} {t : ℕ} {rs : List ReceivedRrset} {as' : List Anchor} {set : ReceivedRrset}
    → IsTrusted m t rs as' set → set.rtype ≡ 48
trusted_rtype (anchored among signs matching) = signs.stands.rtype
trusted_rtype (delegated trusted stands among signed delegates set_among signs) = signs.stands.rtype

-- a key of a set of the evidence is one of the evidence
pub key_among : {rs : List ReceivedRrset} {set : ReceivedRrset} {key : DnskeyRecord} → Contains rs set → IsKeyOf set key
    → IsKeyAmong rs key
key_among {set = set} among stands =
    record { rrset = set; among = among; rtype = stands.rtype; owner = stands.owner; rdata = stands.among; is = stands.is }

-- a DS RRset that is good under a key of a set has an owner with more labels than the set's
pub fewer_labels : {m : Entry → Answer} {t : ℕ} {parent ds : ReceivedRrset} {above : DnskeyRecord} → ds.rtype ≡ 43
    → IsKeyOf parent above → IsSignedUnder m t ds above → length parent.owner < length ds.owner
fewer_labels {parent = parent} {ds = ds} {above = above} rtype stands signed =
    let below : length signed.rrsig.signer < length ds.owner =
    below_length ds.owner signed.rrsig.signer (signed.good.admissible.signer.ds rtype) in
    let same : length above.owner ≡ length signed.rrsig.signer =
    same_labels above.owner signed.rrsig.signer signed.good.admissible.zone_key.owner in
    let owners : length above.owner ≡ length parent.owner = ap (λ (name : Labels). length name) stands.owner in
    omega arith

-- Trust carries over where RRsets and anchors are among others, and what is good stays good.
module _
    (m n : Entry → Answer) (t : ℕ) (rs qs : List ReceivedRrset) (as' bs : List Anchor)
    (more : (rrset : ReceivedRrset) → Contains rs rrset → Contains qs rrset)
    (others : (anchor : Anchor) → Contains as' anchor → Contains bs anchor)
    (stays : (rrset : ReceivedRrset) (rrsig : Rrsig) (key : DnskeyRecord) → Contains rs rrset → IsSignatureOf rrset rrsig
    → IsKeyAmong rs key → IsGood m t rrset rrsig key → IsGood n t rrset rrsig key) where
  signed_too : (rrset : ReceivedRrset) (key : DnskeyRecord) → Contains rs rrset → IsKeyAmong rs key
      → IsSignedUnder m t rrset key → IsSignedUnder n t rrset key
  signed_too rrset key among key_is signed =
      record { rrsig = signed.rrsig; its = signed.its; good = stays rrset signed.rrsig key among signed.its key_is signed.good }

  signs_too : (set : ReceivedRrset) (key : DnskeyRecord) → Contains rs set → SignsItsSet m t set key → SignsItsSet n t set key
  signs_too set key among signs =
      record { stands = signs.stands; signed = signed_too set key among (key_among among signs.stands) signs.signed }

  pub trusted_too : {set : ReceivedRrset} → IsTrusted m t rs as' set → IsTrusted n t qs bs set
  trusted_too (anchored {set = set} {key = key} among signs matching) =
      anchored (more set among) (signs_too set key among signs)
      (record { anchor = matching.anchor; among = others matching.anchor matching.among; matching = matching.matching })
  trusted_too (delegated {ds = ds} {set = set} {above = above} {key = key} trusted stands among signed delegates set_among signs) =
      delegated (trusted_too trusted) stands (more ds among)
      (signed_too ds above among (key_among (trusted_among trusted) stands) signed) delegates (more set set_among)
      (signs_too set key set_among signs)

  pub trusted_key_too : (zone : Labels) (rdata : List ℕ) → IsTrustedKey m t rs as' zone rdata → IsTrustedKey n t qs bs zone rdata
  trusted_key_too zone rdata key =
      record { set = key.set; trusted = trusted_too key.trusted; owner = key.owner; among = key.among }

  pub good_too : (rrset : ReceivedRrset) (rrsig : Rrsig)
      → ((key : DnskeyRecord) → IsKeyAmong rs key → IsGood m t rrset rrsig key → IsGood n t rrset rrsig key)
      → IsGoodByTrust m t rs as' rrset rrsig → IsGoodByTrust n t qs bs rrset rrsig
  good_too rrset rrsig keeps good = record {
    set = good.set;
    trusted = trusted_too good.trusted;
    key = good.key;
    stands = good.stands;
    good = keeps good.key (key_among (trusted_among good.trusted) good.stands) good.good;
  }

  -- numbers stay where the numbered RRsets do
  pub secured_too : (k s : ℕ) → ((rrset : ReceivedRrset) → IsNumbered rs k rrset → IsNumbered qs k rrset)
      → IsSecured m t rs as' k s → IsSecured n t qs bs k s
  secured_too k s numbers secured =
      let rrset = secured.rrset in
      let within : k - 1 < length rs = slice_get_within rs (k - 1) rrset secured.numbered.1 in
      let among : Contains rs rrset = (k - 1, within, get_or_from_slice_get rs (k - 1) rrset rrset secured.numbered.1) in
      let rdata_within : s - 1 < length rrset.signatures = slice_get_within rrset.signatures (s - 1) secured.rdata secured.signature.1 in
      let its : IsSignatureOf rrset secured.rrsig =
      (secured.rdata, (s - 1, rdata_within, get_or_from_slice_get rrset.signatures (s - 1) secured.rdata secured.rdata secured.signature.1), secured.is) in
      record {
        rrset = rrset;
        numbered = numbers rrset secured.numbered;
        rdata = secured.rdata;
        signature = secured.signature;
        rrsig = secured.rrsig;
        is = secured.is;
        good = good_too rrset secured.rrsig (λ key among_keys good. stays rrset secured.rrsig key among its among_keys good) secured.good;
      }

-- a verifier that says Valid of no fewer entries keeps what is good
pub good_under_better : (m n : Entry → Answer) (t : ℕ) → ((entry : Entry) → m entry ≡ Valid → n entry ≡ Valid)
    → (rrset : ReceivedRrset) (rrsig : Rrsig) (key : DnskeyRecord) → IsGood m t rrset rrsig key → IsGood n t rrset rrsig key
good_under_better m n t better rrset rrsig key good =
    record { admissible = good.admissible; entry = good.entry; is = good.is; valid = better good.entry good.valid }

-- numbers stay where other RRsets come behind
slice_get-left : {X : Type 0} (xs ys : List X) (i : ℕ) (x : X) → slice_get xs i ≡ Some x → slice_get (xs ++ ys) i ≡ Some x
slice_get-left [] ys i x is = cc
slice_get-left (y ∷ xs) ys zero x is = is
slice_get-left (y ∷ xs) ys (suc i) x is = slice_get-left xs ys i x is

pub numbered_left : (rs later : List ReceivedRrset) (k : ℕ) (rrset : ReceivedRrset) → IsNumbered rs k rrset
    → IsNumbered (rs ++ later) k rrset
numbered_left rs later k rrset numbered = (numbered.0, slice_get-left rs later (k - 1) rrset numbered.1)

-- without an anchor nothing is trusted
pub none_trusted : {m : Entry → Answer} {t : ℕ} {rs : List ReceivedRrset} {set : ReceivedRrset} → IsTrusted m t rs [] set → ⊥
none_trusted (anchored among signs matching) = let below = matching.among.1 in omega (arith, below)
none_trusted (delegated trusted stands among signed delegates set_among signs) = none_trusted trusted
