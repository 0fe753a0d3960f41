-- The first trusted key under which a signature is good.
use Rattle.std.proofs.Common.{◌≡◌, ◌≢◌, ◌<◌, ◌≤◌, ◌+◌, ◌-◌, ◌⊎◌, inl, inr, ℕ, List, Option, Some, None, length, refl, sym, ap, ◌∙◌, subst, ⊎_elim, arith}
use Rattle.std.proofs.lemmas.Bool.{cases_lt}
use Rattle.std.proofs.lemmas.Cmp.{nat_list_cmp_total, tied_itself}
use Rattle.std.proofs.lemmas.Option.{slice_get_within}
use Rattle.std.specs.Ordering.{ordering_reverse}
use Rattle.std.specs.Prelude.{MatchOption}
use Rattle.std.specs.declared.cmp.Ordering.TheVariants.{Less, Equal, Greater}
use Rattle.dnsv_records.proofs.OneRecord.{one_rrsig}
use Rattle.dnsv_records.specs.declared.rrsig.Rrsig.{Rrsig}
use Rattle.dnsv_records.specs.Rrsig.{IsRrsig}
use Rattle.dnsv_canonical.specs.Canonical.{rdata_cmp}
use Rattle.dnsv_canonical.specs.Rrsets.{IsNumbered, ReceivedRrset}
use Rattle.dnsv_verifier.specs.Admissible.{DnskeyRecord, IsGood}
use Rattle.dnsv_chain.specs.Trusted.{IsKeyOf, IsSecured, IsTrusted}
use Rattle.dnsv_derivations.specs.Explained.{IsTodo, Setting}
use Rattle.dnsv_derivations.specs.Following.{IsGoodUnder}
use Rattle.dnsv_derivations.specs.derivations.SignerSearch.{IsFirstAmong, IsFirstTo, IsKnownSigner, IsLowestGoodKey, IsLowestIn, IsLowestOf, IsOfKey, IsSignatureAt}
use Rattle.dnsv_derivations.specs.derivations.Ways.{IsFirstSigner, IsSignedLine, IsSigner}
use Rattle.dnsv_canonical.specs.declared.number.SignatureNumber.{SignatureNumber}
use Rattle.dnsv_derivations.specs.declared.derivations.signers.Signer.{Signer}
use Rattle.std.specs.List.{AllZip}
use Rattle.dnsv_names.specs.Name.{Labels, SameName}
use Rattle.dnsv_names.specs.declared.number.RecordType.{RecordType}
use Rattle.dnsv_chain.proofs.WalkLemmas.{same_rdata_good}
use Rattle.dnsv_canonical.proofs.NumberLemmas.{IsOneAt, one_numbered}
use Rattle.dnsv_derivations.specs.derivations.NewKeys.{IsHadAbove}
use Rattle.dnsv_derivations.proofs.lemmas.intervals.ShownLemmas.{rdata_at, read_at}
use Rattle.dnsv_derivations.proofs.lemmas.derivations.WayLemmas.TrustedLemmas.{number_of, trusted_among}

-- ---- orders

not_less_chain : (a b c : List ℕ) → rdata_cmp a b ≢ Less → rdata_cmp b c ≢ Less → rdata_cmp a c ≢ Less
not_less_chain a b c first second less =
    elim (rdata_cmp b a) as (λ r. rdata_cmp b a ≡ r → ⊥) [
      | Less ↦ λ is. second (nat_list_cmp_total.trans b a c is less)
      | Equal ↦ λ is. second (nat_list_cmp_total.congr b a c is ∙ less)
      | Greater ↦ λ is. first (nat_list_cmp_total.antisymm a b ∙ ap ordering_reverse is)
    ] refl

pub itself_not_less : (a b : List ℕ) → a ≡ b → rdata_cmp a b ≢ Less
itself_not_less a b same less =
    let To : List ℕ → Type 0 = λ each. rdata_cmp a each ≡ Less in
    let turned : rdata_cmp a a ≡ Less = subst To (sym same) less in
    let tied : rdata_cmp a a ≡ Equal = tied_itself nat_list_cmp_total a in cc

pub as_known : (a b c : List ℕ) → a ≡ b → rdata_cmp a c ≢ Less → rdata_cmp b c ≢ Less
as_known a b c same never = let Above : List ℕ → Type 0 = λ each. rdata_cmp each c ≢ Less in subst Above same never

module _ (setting : Setting) (number : SignatureNumber) (n : ℕ) where
  -- of the first n + 1 RRsets one is among the first n, or is the last
  one_more : (P : ℕ → Type 0) (k : ℕ) → k ≤ n + 1 → ((k ≤ n) → P k) → P (n + 1) → P k
  one_more P k below earlier last = ⊎_elim
      (λ (behind : n < k). let same : n + 1 ≡ k = omega (arith, behind, below) in subst P same last)
      (λ (within : k ≤ n). earlier within)
      (cases_lt n k)

  pub none_found : (first : Option Signer) → IsFirstTo setting number n first
      → ((other : DnskeyRecord) → IsSigner setting number (n + 1) other → IsKnownSigner setting number (n + 1) other)
      → IsFirstTo setting number (n + 1) first
  none_found None none last = λ k other below.
      one_more (λ m. ¬ IsSigner setting number m other) k below (λ within. none k other within)
      (λ is. let known = last other is in let before = known.earlier in none known.set known.other (omega (arith, before)) known.is)
  none_found (Some signer) first last =
      let within = first.within in record {
        key = first.key;
        of = first.of;
        is = first.is;
        todo = first.todo;
        within = omega (arith, within);
        lowest = λ k other below.
            one_more (λ m. IsSigner setting number m other → rdata_cmp other.rdata first.key.rdata ≢ Less) k below
            (λ inside. first.lowest k other inside)
            (λ is.
            let known = last other is in
            let before = known.earlier in
            as_known known.other.rdata other.rdata first.key.rdata known.rdata (first.lowest known.set known.other (omega (arith, before)) known.is));
        earliest = λ k other below.
            one_more (λ m. IsSigner setting number m other → other.rdata ≡ first.key.rdata → signer.set ≤ m) k below
            (λ inside. first.earliest k other inside)
            (λ is same.
            let known = last other is in
            let before = known.earlier in
            let at = first.earliest known.set known.other (omega (arith, before)) known.is (known.rdata ∙ same) in
            omega (arith, at, before));
      }

  -- a key of the last is the first, where none before it has an RDATA that isn't above
  is_first : (found : Signer) (lowest : IsLowestIn setting number (n + 1) found)
      → ((k : ℕ) (other : DnskeyRecord) → k ≤ n → IsSigner setting number k other
      → (rdata_cmp other.rdata lowest.key.rdata ≢ Less) × (other.rdata ≢ lowest.key.rdata))
      → IsFirstTo setting number (n + 1) (Some found)
  is_first found lowest above =
      let set : found.set ≡ n + 1 = lowest.of.set in
      let Numbered : ℕ → Type 0 = λ m. IsNumbered setting.rrsets m lowest.is.set in record {
        key = lowest.key;
        of = record { set = refl; rdata = lowest.of.rdata; named = lowest.of.named };
        is = record {
          rrset = lowest.is.rrset;
          good = lowest.is.good;
          set = lowest.is.set;
          is_set = subst Numbered (sym set) lowest.is.is_set;
          stands = lowest.is.stands;
          trusted = lowest.is.trusted;
        };
        todo = lowest.todo;
        within = omega (arith, set);
        lowest = λ k other below.
            one_more (λ m. IsSigner setting number m other → rdata_cmp other.rdata lowest.key.rdata ≢ Less) k below
            (λ inside is. (above k other inside is).0)
            (λ is. ⊎_elim (λ (never : rdata_cmp other.rdata lowest.key.rdata ≢ Less). never)
            (λ (known : IsKnownSigner setting number (n + 1) other).
            let before = known.earlier in
            as_known known.other.rdata other.rdata lowest.key.rdata known.rdata (above known.set known.other (omega (arith, before)) known.is).0)
            (lowest.lowest other is));
        earliest = λ k other below.
            one_more (λ m. IsSigner setting number m other → other.rdata ≡ lowest.key.rdata → found.set ≤ m) k below
            (λ inside is same. absurd ((above k other inside is).1 same)) (λ is same. omega (arith, set));
      }

  pub only_found : (found : Signer) → ((k : ℕ) (other : DnskeyRecord) → k ≤ n → ¬ IsSigner setting number k other)
      → IsLowestIn setting number (n + 1) found → IsFirstTo setting number (n + 1) (Some found)
  only_found found none lowest = is_first found lowest (λ k other within is. absurd (none k other within is))

  pub lower_found : (first found : Signer) → IsFirstAmong setting number n first → IsLowestIn setting number (n + 1) found
      → rdata_cmp found.rdata.now first.rdata.now ≡ Less → IsFirstTo setting number (n + 1) (Some found)
  lower_found first found before lowest less =
      let lower : rdata_cmp lowest.key.rdata before.key.rdata ≡ Less = let a = lowest.of.rdata in let b = before.of.rdata in cc in
      is_first found lowest (λ k other within is.
      let above = before.lowest k other within is in (
        λ under. above (nat_list_cmp_total.trans other.rdata lowest.key.rdata before.key.rdata under lower),
        λ same. let Under : List ℕ → Type 0 = λ each. rdata_cmp each before.key.rdata ≡ Less in above (subst Under (sym same) lower),
      ))

  pub not_lower : (first found : Signer) → IsFirstAmong setting number n first → IsLowestIn setting number (n + 1) found
      → rdata_cmp found.rdata.now first.rdata.now ≢ Less → IsFirstTo setting number (n + 1) (Some first)
  not_lower first found before lowest never =
      let within = before.within in
      let at_least : rdata_cmp lowest.key.rdata before.key.rdata ≢ Less =
      λ less. never (let a = lowest.of.rdata in let b = before.of.rdata in cc) in record {
        key = before.key;
        of = before.of;
        is = before.is;
        todo = before.todo;
        within = omega (arith, within);
        lowest = λ k other below.
            one_more (λ m. IsSigner setting number m other → rdata_cmp other.rdata before.key.rdata ≢ Less) k below
            (λ inside. before.lowest k other inside)
            (λ is. ⊎_elim
            (λ (above : rdata_cmp other.rdata lowest.key.rdata ≢ Less).
            not_less_chain other.rdata lowest.key.rdata before.key.rdata above at_least)
            (λ (known : IsKnownSigner setting number (n + 1) other).
            let earlier = known.earlier in
            as_known known.other.rdata other.rdata before.key.rdata known.rdata (before.lowest known.set known.other (omega (arith, earlier)) known.is))
            (lowest.lowest other is));
        earliest = λ k other below.
            one_more (λ m. IsSigner setting number m other → other.rdata ≡ before.key.rdata → first.set ≤ m) k below
            (λ inside. before.earliest k other inside) (λ is same. omega (arith, within));
      }

-- ---- one DNSKEY RRset

module _ (setting : Setting) (number : SignatureNumber) (rrset : ReceivedRrset) (rrsig : Rrsig)
    (is_rrset : IsNumbered setting.rrsets number.rrset rrset) (its : IsSignatureAt rrset number.signature rrsig)
    (k : ℕ) (set : ReceivedRrset) (is_set : IsNumbered setting.rrsets k set) where
  abbrev Good : DnskeyRecord → Type 0
  Good key = IsGood setting.meaning setting.moment rrset rrsig key

  abbrev good_under : (key : DnskeyRecord) → Good key → IsGoodUnder setting number rrset key
  good_under key good = record {
    is_rrset = is_rrset;
    rdata = its.rdata;
    is_signature = its.is_signature;
    rrsig = rrsig;
    read = its.read;
    good = good;
  }

  pub under_good : (other : ReceivedRrset) (key : DnskeyRecord) → IsGoodUnder setting number other key → Good key
  under_good other key good =
      let same : other ≡ rrset = one_numbered setting.rrsets number.rrset other rrset good.is_rrset is_rrset in
      let Numbered : ReceivedRrset → Type 0 = λ each. IsNumbered each.signatures number.signature good.rdata in
      let rdata : good.rdata ≡ its.rdata =
      one_numbered rrset.signatures number.signature good.rdata its.rdata (subst Numbered same good.is_signature) its.is_signature in
      let Read : List ℕ → Type 0 = λ octets. IsRrsig octets good.rrsig in
      let one : good.rrsig ≡ rrsig = one_rrsig its.rdata good.rrsig rrsig (subst Read rdata good.read) its.read in
      let By : Rrsig → Type 0 = λ each. IsGood setting.meaning setting.moment other each key in
      let Over : ReceivedRrset → Type 0 = λ each. IsGood setting.meaning setting.moment each rrsig key in
      subst Over same (subst By one good.good)

  its_set : (key : DnskeyRecord) (is : IsSigner setting number k key) → is.set ≡ set
  its_set key is = one_numbered setting.rrsets k is.set set is.is_set is_set

  its_key : (key : DnskeyRecord) → IsSigner setting number k key → IsKeyOf set key
  its_key key is = let Stands : ReceivedRrset → Type 0 = λ each. IsKeyOf each key in subst Stands (its_set key is) is.stands

  pub none_good : ((key : DnskeyRecord) → IsKeyOf set key → ¬ Good key) → (key : DnskeyRecord) → ¬ IsSigner setting number k key
  none_good none key is = none key (its_key key is) (under_good is.rrset key is.good)

  pub not_trusted : ¬ IsTrusted setting.meaning setting.moment setting.rrsets setting.anchors set → (key : DnskeyRecord)
      → ¬ IsSigner setting number k key
  not_trusted never key is =
      let Trusted : ReceivedRrset → Type 0 = λ each. IsTrusted setting.meaning setting.moment setting.rrsets setting.anchors each in
      never (subst Trusted (its_set key is) is.trusted)

  pub lowest_trusted : (signer : Signer) → IsLowestGoodKey setting rrset rrsig k set signer
      → IsTrusted setting.meaning setting.moment setting.rrsets setting.anchors set → IsLowestIn setting number k signer
  lowest_trusted signer lowest trusted = record {
    key = lowest.key;
    of = lowest.of;
    is = record {
      rrset = rrset;
      good = good_under lowest.key lowest.good;
      set = set;
      is_set = is_set;
      stands = lowest.stands;
      trusted = trusted;
    };
    todo = lowest.todo;
    lowest = λ other is. inl (lowest.lowest other (its_key other is) (under_good is.rrset other is.good));
  }

  pub lowest_or_none : (found : Option Signer)
      → MatchOption found ((key : DnskeyRecord) → IsKeyOf set key → ¬ Good key) (IsLowestGoodKey setting rrset rrsig k set)
      → IsTrusted setting.meaning setting.moment setting.rrsets setting.anchors set → IsLowestOf setting number k found
  lowest_or_none None none trusted = λ key is. absurd (none_good none key is)
  lowest_or_none (Some signer) lowest trusted = lowest_trusted signer lowest trusted

  -- its RRset is one of the signer's
  pub signer_at : (key : DnskeyRecord) → IsSigner setting number k key → IsOneAt setting.rrsets rrsig.signer 48 k
  signer_at key is =
      let stands = its_key key is in
      let Of : Labels → Type 0 = λ owner. SameName owner rrsig.signer in record {
        rrset = set;
        is_rrset = is_set;
        owner = subst Of stands.owner (under_good is.rrset key is.good).admissible.zone_key.owner;
        same_type = stands.rtype;
      }

  -- a key that an earlier RRset of the owner has is known
  pub known : (key : DnskeyRecord) → IsSigner setting number k key → IsHadAbove setting (k - 1) set.owner key.rdata
      → IsKnownSigner setting number k key
  known key is above =
      let stands = its_key key is in
      let good = under_good is.rrset key is.good in
      let within = above.by.is.within in
      let from_one = is_set.0 in
      let Of : Labels → Type 0 = λ owner. SameName owner rrsig.signer in
      let other : DnskeyRecord = record { owner = above.by.is.set.owner; rdata = key.rdata; dnskey = key.dnskey } in
      record {
        set = above.number;
        other = other;
        earlier = omega (arith, within, from_one);
        is = record {
          rrset = rrset;
          good = good_under other
              (same_rdata_good setting.meaning setting.moment rrset rrsig key other stands.is stands.is refl
              (above.same_owner ∙ subst Of stands.owner good.admissible.zone_key.owner) good);
          set = above.by.is.set;
          is_set = above.by.is.is_set;
          stands = record {
            rtype = above.by.is.rtype;
            owner = refl;
            among = above.by.has;
            is = stands.is;
          };
          trusted = above.by.is.trusted;
        };
        rdata = refl;
      }

  -- the lowest of the keys that no earlier one has, or there is none
  pub lowest_new : (signer : Signer) (key : DnskeyRecord) → IsTrusted setting.meaning setting.moment setting.rrsets setting.anchors set
      → IsKeyOf set key → (good : Good key) → IsOfKey k key signer → IsTodo setting.todo good.entry signer.todo.0
      → ((other : DnskeyRecord) → IsKeyOf set other → Good other
      → (rdata_cmp other.rdata key.rdata ≢ Less) ⊎ IsHadAbove setting (k - 1) set.owner other.rdata)
      → IsLowestOf setting number k (Some signer)
  lowest_new signer key trusted stands good of todo lowest = record {
    key = key;
    of = of;
    is = record {
      rrset = rrset;
      good = good_under key good;
      set = set;
      is_set = is_set;
      stands = stands;
      trusted = trusted;
    };
    todo = todo;
    lowest = λ other is. ⊎_elim
        (λ (never : rdata_cmp other.rdata key.rdata ≢ Less). inl never)
        (λ (above : IsHadAbove setting (k - 1) set.owner other.rdata). inr (known other is above))
        (lowest other (its_key other is) (under_good is.rrset other is.good));
  }

  pub none_new : ((other : DnskeyRecord) → IsKeyOf set other → Good other → IsHadAbove setting (k - 1) set.owner other.rdata)
      → IsLowestOf setting number k None
  none_new had = λ other is. known other is (had other (its_key other is) (under_good is.rrset other is.good))

-- ---- all RRsets

module _ (setting : Setting) (number : SignatureNumber) where
  -- what is secured has a signer
  pub record HasSigner : Type 0 where
    pub set : ℕ
    pub key : DnskeyRecord
    pub is : IsSigner setting number set key

  pub has_signer : IsSecured setting.meaning setting.moment setting.rrsets setting.anchors number.rrset number.signature → HasSigner
  has_signer secured =
      let set = number_of setting.rrsets secured.good.set (trusted_among setting secured.good.set secured.good.trusted) in
      record {
        set = set.number;
        key = secured.good.key;
        is = record {
          rrset = secured.rrset;
          good = record {
            is_rrset = secured.numbered;
            rdata = secured.rdata;
            is_signature = secured.signature;
            rrsig = secured.rrsig;
            read = secured.is;
            good = secured.good.good;
          };
          set = secured.good.set;
          is_set = set.is;
          stands = secured.good.stands;
          trusted = secured.good.trusted;
        };
      }

  pub within : (k : ℕ) (key : DnskeyRecord) → IsSigner setting number k key → k ≤ length setting.rrsets
  within k key is =
      let inside = slice_get_within setting.rrsets (k - 1) is.set is.is_set.1 in
      let from_one = is.is_set.0 in omega (arith, inside, from_one)

  pub never_secured : (n : ℕ) → length setting.rrsets ≤ n → IsFirstTo setting number n None
      → ¬ IsSecured setting.meaning setting.moment setting.rrsets setting.anchors number.rrset number.signature
  never_secured n past none secured =
      let signer = has_signer secured in
      let inside = within signer.set signer.key signer.is in
      none signer.set signer.key (omega (arith, inside, past)) signer.is

  abbrev pub first_of_all : (n : ℕ) (signer : Signer) → length setting.rrsets ≤ n → (first : IsFirstAmong setting number n signer)
      → IsFirstSigner setting number signer.set first.key
  first_of_all n signer past first = record {
    is = first.is;
    lowest = λ k other is. let inside = within k other is in first.lowest k other (omega (arith, inside, past)) is;
    earliest = λ k other is same. let inside = within k other is in first.earliest k other (omega (arith, inside, past)) is same;
  }

-- ---- the line of a signature

module _ (setting : Setting) (number : SignatureNumber) (rrset : ReceivedRrset) (is_rrset : IsNumbered setting.rrsets number.rrset rrset) where
  -- the signature with the number
  pub signature_there : (rrsigs : List Rrsig) (rrsig : Rrsig) → AllZip IsRrsig rrset.signatures rrsigs
      → IsNumbered rrsigs number.signature rrsig → IsSignatureAt rrset number.signature rrsig
  signature_there rrsigs rrsig zip numbered =
      let there = rdata_at rrset.signatures rrsigs (number.signature - 1) rrsig zip numbered.1 in
      record { rdata = there.0; is_signature = (numbered.0, there.1); read = there.2 }

  -- or there is none, and then it isn't secured
  pub no_signature : (rrsigs : List Rrsig) → AllZip IsRrsig rrset.signatures rrsigs
      → ((rrsig : Rrsig) → ¬ IsNumbered rrsigs number.signature rrsig)
      → ¬ IsSecured setting.meaning setting.moment setting.rrsets setting.anchors number.rrset number.signature
  no_signature rrsigs zip none secured =
      let same : secured.rrset ≡ rrset = one_numbered setting.rrsets number.rrset secured.rrset rrset secured.numbered is_rrset in
      let Numbered : ReceivedRrset → Type 0 = λ each. IsNumbered each.signatures number.signature secured.rdata in
      let numbered : Numbered rrset = subst Numbered same secured.signature in
      let there = read_at rrset.signatures rrsigs (number.signature - 1) secured.rdata zip numbered.1 in
      none there.0 (numbered.0, there.1)

  pub the_line : (n : ℕ) (signer : Signer) (set : ReceivedRrset) (owner zone : Labels) (rtype : RecordType) → length setting.rrsets ≤ n
      → IsFirstAmong setting number n signer → IsNumbered setting.rrsets signer.set set → owner ≡ rrset.owner → rtype.0 ≡ rrset.rtype
      → zone ≡ set.owner
      → IsSignedLine setting number (record {
        owner = owner;
        rtype = rtype;
        signature = number;
        key = signer.key;
        zone = zone;
        keys = signer.set;
        todo = signer.todo;
      })
  the_line n signer set owner zone rtype past first is_set owner_is rtype_is zone_is =
      let same : rrset ≡ first.is.rrset =
      one_numbered setting.rrsets number.rrset rrset first.is.rrset is_rrset first.is.good.is_rrset in
      let set_same : set ≡ first.is.set = one_numbered setting.rrsets signer.set set first.is.set is_set first.is.is_set in record {
        key = first.key;
        first = first_of_all setting number n signer past first;
        owner = owner_is ∙ ap (λ (each : ReceivedRrset). each.owner) same;
        rtype = rtype_is ∙ ap (λ (each : ReceivedRrset). each.rtype) same;
        signature = refl;
        named = first.of.named;
        zone = zone_is ∙ ap (λ (each : ReceivedRrset). each.owner) set_same;
        todo = first.todo;
      }
