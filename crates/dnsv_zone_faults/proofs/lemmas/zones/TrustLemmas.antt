-- Which keys of a zone are vouched for, and which DNSKEY RRsets that makes trusted.
use Rattle.std.proofs.Common.{◌≡◌, ◌≢◌, ◌↔◌, ◌⊎◌, ◌+◌, ◌-◌, ◌<◌, ◌||◌, ℕ, zero, suc, Bool, true, false, inl, inr, ⊎_elim, List, [], ◌∷◌, ◌++◌, Some, length, get_or, refl, sym, ap, ◌∙◌, subst, arith, IsTrue}
use Rattle.std.proofs.lemmas.Bool.{false≢true}
use Rattle.std.proofs.lemmas.List.Elements.{Contains-append_cases, Contains-append_left, Contains-append_right}
use Rattle.std.proofs.lemmas.List.Sorted.{Contains-permutation}
use Rattle.std.specs.Prelude.{Contains, slice_get}
use Rattle.std.specs.List.{AllZip, enumerate_from, list_any}
use Rattle.dnsv_names.specs.Name.{Labels, SameName}
use Rattle.dnsv_records.specs.Algorithm.{is_supported}
use Rattle.dnsv_records.specs.Ds.{IsDs}
use Rattle.dnsv_records.specs.Rrsig.{IsRrsig}
use Rattle.dnsv_records.specs.declared.ds.Ds.{Ds}
use Rattle.dnsv_records.specs.declared.rrsig.Rrsig.{Rrsig}
use Rattle.dnsv_records.proofs.OneRecord.{one_ds}
use Rattle.dnsv_canonical.specs.Index.{numbers_at}
use Rattle.dnsv_canonical.specs.Rrsets.{IsNumbered, ReceivedRrset}
use Rattle.dnsv_canonical.proofs.OrderLemmas.{each_of, zip_at, zip_from}
use Rattle.dnsv_chain.specs.Anchor.{HasAnchorMatch}
use Rattle.dnsv_anchors.specs.Ds.{IsUsable}
use Rattle.dnsv_chain.specs.Trusted.{DelegatesTo, IsKeyOf, IsSecured, IsSignedUnder, IsTrusted}
use Rattle.dnsv_chain.proofs.ChainLemmas.{same_ds}
use Rattle.dnsv_chain.specs.Basis.{Basis}
use Rattle.dnsv_chain.proofs.NumberedLemmas.{numbers_are}
use Rattle.dnsv_canonical.proofs.NumberLemmas.{each_number, IsOneAt, one_numbered}
use Rattle.dnsv_verifier.specs.Admissible.{DnskeyRecord}
use Rattle.dnsv_verifier.specs.Asking.{AddsJust, ComesOfSome}
use Rattle.dnsv_mending.specs.declared.facts.keys.VoucherFacts.{VoucherFacts}
use Rattle.dnsv_mending.specs.declared.facts.signature.RrsetFacts.{RrsetFacts}
use Rattle.dnsv_mending.specs.declared.facts.signature.SignatureFacts.{SignatureFacts}
use Rattle.dnsv_mending.specs.declared.facts.zone.DsFacts.{DsFacts}
use Rattle.dnsv_zone_faults.specs.Groups.{AreAllDsFacts, AreAnchorFacts, AreDsFacts, anchor_wanted}
use Rattle.dnsv_zone_faults.specs.Groups.GroupSearch.{AreMatched, HasSigned, IsMatched, IsMatchedByDs}
use Rattle.dnsv_zone_keys.specs.Keys.{IsKeyPlaced}
use Rattle.dnsv_faults.specs.Rrsets.{AreRrsetFacts}
use Rattle.dnsv_faults.specs.Signatures.{AreSignatureFacts, IsSignatureAt}
use Rattle.dnsv_zone_keys.specs.Vouchers.Wanted.{by_digest}
use Rattle.dnsv_zone_faults.specs.Dnskeys.DnskeySearch.{AreVouched, IsDelegatedTo}
use Rattle.dnsv_zone_keys.proofs.lemmas.IndexLemmas.{numbered_at}
use Rattle.dnsv_zone_faults.proofs.lemmas.zones.MatchLemmas.{anchor_known, anchor_match, anchor_match_owner, anchor_of_use, digest_supported, match_anchor, match_there, matches_it, nothing_said, of_anchor, of_record, record_known}
use Rattle.dnsv_zone_faults.proofs.lemmas.zones.PlaceLemmas.{at_some, contains_at}

-- ---- members and numbers

pub number_of : {X : Type 0} (xs : List X) (x : X) → Contains xs x → (k : ℕ) × IsNumbered xs k x
number_of xs x there = (there.0 + 1, numbered_at xs xs there.0 x refl there.1 (sym there.2))

pub numbered_among : {X : Type 0} (xs : List X) (k : ℕ) (x : X) → IsNumbered xs k x → Contains xs x
numbered_among xs k x numbered = contains_at xs (k - 1) x numbered.1

-- members of two lists that go together
pub zip_left : {A B : Type 0} (R : A → B → Type 0) (xs : List A) (ys : List B) (y : B) → AllZip R xs ys → Contains ys y → (x : A) × Contains xs x × R x y
zip_left R xs ys y each there =
    let at = at_some ys y there in
    let one = zip_at R xs ys at.0 y each at.1 in
    (one.0, contains_at xs at.0 one.0 one.1, one.2)

pub zip_right : {A B : Type 0} (R : A → B → Type 0) (xs : List A) (ys : List B) (x : A) → AllZip R xs ys → Contains xs x → (y : B) × Contains ys y × R x y
zip_right R xs ys x each there =
    let at = at_some xs x there in
    let one = zip_from R xs ys at.0 x each at.1 in
    (one.0, contains_at ys at.0 one.0 one.1, one.2)

pub in_enumerated : {X : Type 0} (n : ℕ) (xs : List X) (i : ℕ) (x : X) → slice_get xs i ≡ Some x → Contains (enumerate_from n xs) (n + i, x)
in_enumerated n [] i x at = absurd (cc at)
in_enumerated {X} n (y ∷ xs) zero x at =
    let same : y ≡ x = cc at in
    let number : n ≡ n + 0 = omega arith in
    (0, omega arith, λ j. (number j, same j))
in_enumerated {X} n (y ∷ xs) (suc i) x at =
    let rest = in_enumerated (n + 1) xs i x at in
    let number : n + 1 + i ≡ n + suc i = omega arith in
    let moved : Contains (enumerate_from (n + 1) xs) (n + suc i, x) =
    subst (λ (k : ℕ). Contains (enumerate_from (n + 1) xs) (k, x)) number rest in
    (suc moved.0, let within = moved.1 in omega (arith, within), moved.2)

-- ---- the facts of a signature of an RRset

-- those of the signature with the number are found
pub record HasFactsOf (basis : Basis) (k : ℕ) (rrset : ReceivedRrset) (s : ℕ) (facts : RrsetFacts) : Type 0 where
  pub known : SignatureFacts
  pub among : Contains facts.signatures.items known
  pub are : AreSignatureFacts basis k rrset s known

pub signature_known : (basis : Basis) (k : ℕ) (facts : RrsetFacts) (are : AreRrsetFacts basis k facts) (s : ℕ) (rrsig : Rrsig) → IsSignatureAt are.rrset s rrsig
    → HasFactsOf basis k are.rrset s facts
signature_known basis k facts are s rrsig its =
    let order = are.in_order in
    let place : ℕ = s - 1 in
    let read = zip_from IsRrsig are.rrset.signatures order.signatures place its.rdata order.read its.numbered.1 in
    let positive = its.numbered.0 in
    let number : 1 + (s - 1) ≡ s = omega (arith, positive) in
    let listed : Contains (enumerate_from 1 order.signatures) (s, read.0) =
    subst (λ (n : ℕ). Contains (enumerate_from 1 order.signatures) (n, read.0)) number (in_enumerated 1 order.signatures place read.0 read.1) in
    let there = Contains-permutation (enumerate_from 1 order.signatures) are.order (s, read.0) order.moved listed in
    let one = zip_right (λ (signature : ℕ × Rrsig) known. AreSignatureFacts basis k are.rrset signature.0 known) are.order facts.signatures.items (s, read.0) are.each there in
    record { known = one.0; among = one.1; are = one.2 }

-- ---- signed RRsets

-- an RRset that is signed has a signature that is good under a trusted key
pub record IsSignedByTrust (basis : Basis) (rrset : ReceivedRrset) : Type 0 where
  pub parent : ReceivedRrset
  pub above : DnskeyRecord
  pub trusted : IsTrusted basis.meaning basis.moment basis.rrsets basis.anchors parent
  pub stands : IsKeyOf parent above
  pub signed : IsSignedUnder basis.meaning basis.moment rrset above

pub signed_by : (basis : Basis) (k s : ℕ) (rrset : ReceivedRrset) → IsNumbered basis.rrsets k rrset
    → IsSecured basis.meaning basis.moment basis.rrsets basis.anchors k s → IsSignedByTrust basis rrset
signed_by basis k s rrset numbered secured =
    let same = one_numbered basis.rrsets k secured.rrset rrset secured.numbered numbered in
    let good = secured.good in
    let signed : IsSignedUnder basis.meaning basis.moment secured.rrset good.key = record {
      rrsig = secured.rrsig;
      its = (secured.rdata, numbered_among secured.rrset.signatures s secured.rdata secured.signature, secured.is);
      good = good.good;
    } in record {
      parent = good.set;
      above = good.key;
      trusted = good.trusted;
      stands = good.stands;
      signed = subst (λ (r : ReceivedRrset). IsSignedUnder basis.meaning basis.moment r good.key) same signed;
    }

pub has_signed_by : (basis : Basis) (k : ℕ) (rrset : ReceivedRrset) (facts : RrsetFacts) → AreRrsetFacts basis k facts → IsNumbered basis.rrsets k rrset
    → HasSigned facts.signatures.items → IsSignedByTrust basis rrset
has_signed_by basis k rrset facts are numbered has =
    let one = zip_left (λ (signature : ℕ × Rrsig) known. AreSignatureFacts basis k are.rrset signature.0 known) are.order facts.signatures.items has.signature are.each has.among in
    signed_by basis k one.0.0 rrset numbered (one.2.signed.0 has.signed)

pub has_signed : (basis : Basis) (k : ℕ) (rrset : ReceivedRrset) (facts : RrsetFacts) → AreRrsetFacts basis k facts → IsNumbered basis.rrsets k rrset
    → IsSignedByTrust basis rrset → HasSigned facts.signatures.items
has_signed basis k rrset facts are numbered by =
    let same = one_numbered basis.rrsets k are.rrset rrset are.numbered numbered in
    let its = by.signed.its in
    let at = number_of rrset.signatures its.0 its.1 in
    let signature : IsSignatureAt rrset at.0 by.signed.rrsig = record { rdata = its.0; numbered = at.1; is = its.2 } in
    let found = signature_known basis k facts are at.0 by.signed.rrsig (subst (λ (r : ReceivedRrset). IsSignatureAt r at.0 by.signed.rrsig) (sym same) signature) in
    let secured : IsSecured basis.meaning basis.moment basis.rrsets basis.anchors k at.0 = record {
      rrset = rrset;
      numbered = numbered;
      rdata = its.0;
      signature = at.1;
      rrsig = by.signed.rrsig;
      is = its.2;
      good = record { set = by.parent; trusted = by.trusted; key = by.above; stands = by.stands; good = by.signed.good };
    } in
    record { signature = found.known; among = found.among; signed = found.are.signed.1 secured }

-- ---- what vouches for a key

pub true_by : (b : Bool) → ((IsTrue b → ⊥) → ⊥) → IsTrue b
true_by true twice = refl
true_by false twice = absurd (twice (λ yes. false≢true yes))

module _ (basis : Basis) (zone : Labels) (anchors : List VoucherFacts) (ds : List DsFacts) (are_anchors : AreAnchorFacts basis zone anchors)
    (are_ds : AreAllDsFacts basis zone ds) (place : ℕ) (key : DnskeyRecord) (placed : IsKeyPlaced basis.rrsets zone place key) where
  -- a trust anchor
  pub by_anchor : ComesOfSome IsMatched anchors place → HasAnchorMatch basis.anchors key
  by_anchor some =
      let of = of_anchor basis.rrsets zone 1 basis.anchors anchors some.source are_anchors some.among in
      let matched = matches_it basis.rrsets zone of.n (anchor_wanted of.anchor) some.source of.are place key placed some.is in record {
        anchor = of.anchor;
        among = of.among;
        matching = match_anchor of.anchor key (of.owner ∙ sym placed.owner) matched.1;
      }

  pub anchor_there : IsTrue (is_supported key.dnskey.algorithm.0) → HasAnchorMatch basis.anchors key → ComesOfSome IsMatched anchors place
  anchor_there supported has =
      let owner = anchor_match_owner has.anchor key has.matching ∙ placed.owner in
      let found = anchor_known basis.rrsets zone 1 basis.anchors anchors has.anchor are_anchors has.among owner in
      let there = match_there basis.rrsets zone found.n (anchor_wanted has.anchor) found.known found.are place key placed
      (anchor_of_use has.anchor key placed.read supported has.matching) (anchor_match has.anchor key has.matching) in
      record { source = found.known; among = found.among; is = there.1 }

  -- a record of a DS RRset with the number
  pub record_matches : (k : ℕ) (facts : DsFacts) (its : AreDsFacts basis zone k facts) (known : VoucherFacts) → Contains facts.records.items known
      → Contains known.matches.items place → SameName its.set.owner zone → its.set.rtype ≡ 43 → DelegatesTo its.set key
  record_matches k facts its known among there owner rtype =
      let of = of_record basis.rrsets zone k its.records 1 its.canonical facts.records.items known its.each among in
      let matched = matches_it basis.rrsets zone of.n (by_digest its.records of.ds) known of.are place key placed there in
      let said = nothing_said basis.rrsets zone of.n (by_digest its.records of.ds) known of.are matched.0 in
      let received = (its.in_order.members of.rdata).0 of.among in
      let read = zip_right IsDs its.set.rdata its.records of.rdata its.read received in
      let same = one_ds of.rdata read.0 of.ds read.2 of.read in
      record {
        rtype = rtype;
        records = its.records;
        read = its.read;
        usable = record {
          ds = of.ds;
          among = subst (λ (d : Ds). Contains its.records d) same read.1;
          usable = record {
            algorithm = true_by (is_supported of.ds.algorithm.0) said.0;
            digest_type = digest_supported of.ds key matched.1.1;
            counts = said.1.1.0;
          };
          matching = record {
            same_owner = owner ∙ sym placed.owner;
            algorithm = sym matched.1.0.1;
            key_tag = sym matched.1.0.0;
            digest = matched.1.1;
          };
        };
      }

  pub by_ds : ComesOfSome IsMatchedByDs ds place → IsDelegatedTo basis key
  by_ds some =
      let of = zip_left (AreDsFacts basis zone) (numbers_at basis.rrsets zone 43) ds some.source are_ds some.among in
      let k : ℕ = of.0 in
      let its = of.2 in
      let one = each_of (IsOneAt basis.rrsets zone 43) (numbers_at basis.rrsets zone 43) k (each_number basis.rrsets zone 43) of.1 in
      let same = one_numbered basis.rrsets k one.rrset its.set one.is_rrset its.numbered in
      let owner : SameName its.set.owner zone = subst (λ (r : ReceivedRrset). SameName r.owner zone) same one.owner in
      let rtype : its.set.rtype ≡ 43 = subst (λ (r : ReceivedRrset). r.rtype ≡ 43) same one.same_type in
      let by = some.is.by in
      let signed = has_signed_by basis k its.set some.source.rrset its.rrset its.numbered some.is.signed in record {
        parent = signed.parent;
        above = signed.above;
        ds = its.set;
        trusted = signed.trusted;
        stands = signed.stands;
        among = numbered_among basis.rrsets k its.set its.numbered;
        signed = signed.signed;
        to = record_matches k some.source its by.source by.among by.is owner rtype;
      }

  pub ds_there : IsTrue (is_supported key.dnskey.algorithm.0) → IsDelegatedTo basis key → ComesOfSome IsMatchedByDs ds place
  ds_there supported to =
      let usable = to.to.usable in
      let matching = usable.matching in
      let owner : SameName to.ds.owner zone = matching.same_owner ∙ placed.owner in
      let number = number_of basis.rrsets to.ds to.among in
      let k : ℕ = number.0 in
      let listed = (numbers_are basis.rrsets zone 43 (numbers_at basis.rrsets zone 43) refl).all k
      (record { rrset = to.ds; is_rrset = number.1; owner = owner; same_type = to.to.rtype }) in
      let found = zip_right (AreDsFacts basis zone) (numbers_at basis.rrsets zone 43) ds k are_ds listed in
      let facts : DsFacts = found.0 in
      let its : AreDsFacts basis zone k facts = found.2 in
      let same = one_numbered basis.rrsets k its.set to.ds its.numbered number.1 in
      let read : AllZip IsDs its.set.rdata to.to.records = subst (λ (r : ReceivedRrset). AllZip IsDs r.rdata to.to.records) (sym same) to.to.read in
      let records : to.to.records ≡ its.records = same_ds its.set.rdata to.to.records its.records read its.read in
      let of = zip_left IsDs its.set.rdata to.to.records usable.ds read usable.among in
      let canonical = (its.in_order.members of.0).1 of.1 in
      let known = record_known basis.rrsets zone k its.records 1 its.canonical facts.records.items of.0 usable.ds its.each canonical of.2 in
      let counts = subst (λ (each : List Ds). IsUsable each usable.ds) records usable.usable in
      let there = match_there basis.rrsets zone known.n (by_digest its.records usable.ds) known.known known.are place key placed
      (record { supported = counts.algorithm; digest = λ unknown. unknown counts.digest_type; counts = counts.counts })
      ((sym matching.key_tag, sym matching.algorithm), matching.digest) in
      record {
        source = facts;
        among = found.1;
        is = record {
          signed = has_signed basis k to.ds facts.rrset its.rrset number.1
              (record { parent = to.parent; above = to.above; trusted = to.trusted; stands = to.stands; signed = to.signed });
          by = record { source = known.known; among = known.among; is = there.1 };
        };
      }

pub are_vouched : (basis : Basis) (zone : Labels) (anchors : List VoucherFacts) (ds : List DsFacts) (places : List ℕ) → AreAnchorFacts basis zone anchors
    → AreAllDsFacts basis zone ds → AreMatched anchors ds places → AreVouched basis zone places
are_vouched basis zone anchors ds places are_anchors are_ds matched = record {
  only = λ place key placed there. ⊎_elim
      (λ (some : ComesOfSome IsMatched anchors place). inl (by_anchor basis zone anchors ds are_anchors are_ds place key placed some))
      (λ (some : ComesOfSome IsMatchedByDs ds place). inr (by_ds basis zone anchors ds are_anchors are_ds place key placed some))
      ((matched place).0 there);
  all = λ place key placed supported vouched. (matched place).1 (⊎_elim
      (λ (has : HasAnchorMatch basis.anchors key). inl (anchor_there basis zone anchors ds are_anchors are_ds place key placed supported has))
      (λ (to : IsDelegatedTo basis key). inr (ds_there basis zone anchors ds are_anchors are_ds place key placed supported to))
      vouched);
}

-- a list that is put behind another adds what it has
pub adds_joined : {X : Type 0} (old more : List X) → AddsJust (λ (x : X). Contains more x) old (old ++ more)
adds_joined old more = record {
  kept = λ x there. Contains-append_left old more x there;
  added = λ x there. Contains-append_right old more x there;
  only = λ x there. Contains-append_cases old more x there;
}

-- what is added for anchors, and then for DS RRsets
pub matched_are : (anchors : List VoucherFacts) (ds : List DsFacts) (a b c places : List ℕ) → a ≡ [] → AddsJust (ComesOfSome IsMatched anchors) a b
    → AddsJust (ComesOfSome IsMatchedByDs ds) b c → ((place : ℕ) → Contains places place ↔ Contains c place) → AreMatched anchors ds places
matched_are anchors ds a b c places none first second same place = (
  λ there. ⊎_elim
      (λ (before : Contains b place). ⊎_elim
      (λ (never : Contains a place). absurd (let empty = subst (λ (ns : List ℕ). Contains ns place) none never in let within = empty.1 in omega (arith, within)))
      (λ (by : ComesOfSome IsMatched anchors place). inl by)
      (first.only place before))
      (λ (by : ComesOfSome IsMatchedByDs ds place). inr by)
      (second.only place ((same place).0 there)),
  λ by. (same place).1 (⊎_elim
      (λ (its : ComesOfSome IsMatched anchors place). second.kept place (first.added place its))
      (λ (its : ComesOfSome IsMatchedByDs ds place). second.added place its)
      by),
)

pub or_cases : (x y : Bool) → (x || y) ≡ true → (x ≡ true) ⊎ (y ≡ true)
or_cases true y e = inl refl
or_cases false y e = inr e

-- whether some are signed
pub some_signed : (signatures : List SignatureFacts) → IsTrue (list_any (λ (each : SignatureFacts). each.is_signed) signatures) → HasSigned signatures
some_signed [] holds = absurd (false≢true holds)
some_signed (s ∷ signatures) holds = ⊎_elim
    (λ (here : s.is_signed ≡ true). record { signature = s; among = (0, omega arith, refl); signed = here })
    (λ (later : list_any (λ (each : SignatureFacts). each.is_signed) signatures ≡ true).
    let rest = some_signed signatures later in record {
      signature = rest.signature;
      among = (suc rest.among.0, let within = rest.among.1 in omega (arith, within), rest.among.2);
      signed = rest.signed;
    })
    (or_cases s.is_signed (list_any (λ (each : SignatureFacts). each.is_signed) signatures) holds)

or_true : (b : Bool) → (b || true) ≡ true
or_true true = refl
or_true false = refl

pub signed_some : (signatures : List SignatureFacts) → HasSigned signatures → IsTrue (list_any (λ (each : SignatureFacts). each.is_signed) signatures)
signed_some signatures has = by signatures has.among.0 has.among.1 has.among.2
  where
    by : (each : List SignatureFacts) (i : ℕ) → i < length each → get_or each i has.signature ≡ has.signature
        → IsTrue (list_any (λ (one : SignatureFacts). one.is_signed) each)
    by [] i within at = absurd (omega (arith, within))
    by (s ∷ each) zero within at =
        let on : s.is_signed ≡ true = ap (λ (x : SignatureFacts). x.is_signed) at ∙ has.signed in
        ap (λ (b : Bool). b || list_any (λ (one : SignatureFacts). one.is_signed) each) on
    by (s ∷ each) (suc i) within at =
        let rest = by each i (omega (arith, within)) at in
        ap (λ (b : Bool). s.is_signed || b) rest ∙ or_true s.is_signed
