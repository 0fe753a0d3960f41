-- Keys that are vouched for, and what is added by owner.
pub mod KnownLemmas
use Rattle.std.proofs.Common.{◌≡◌, ◌<◌, ◌≤◌, ◌+◌, ◌↔◌, ℕ, Bool, true, false, Bor, List, [], ◌∷◌, ◌++◌, length, get_or, map, if◌then◌else◌, refl, sym, ap, ◌∙◌, subst, arith, ◌⊎◌, inl, inr, ⊎_elim}
use Rattle.std.proofs.lemmas.Bool.{cases_lt}
use Rattle.std.proofs.lemmas.Bool.Decides.{Decides-eqb}
use Rattle.std.proofs.lemmas.List.{map-append}
use Rattle.std.proofs.lemmas.List.Elements.{Contains-get_or, Contains-append_left, Contains-append_cases, Contains-push, Contains-push_cases}
use Rattle.std.specs.List.{AllZip, Contains}
use Rattle.dnsv_names.specs.Name.{Labels, SameName, same_name}
use Rattle.dnsv_names.specs.Order.OrderLaws.{same_name_Decides}
use Rattle.dnsv_records.proofs.OneRecord.{one_dnskey, one_ds}
use Rattle.dnsv_records.specs.Dnskey.{IsDnskey}
use Rattle.dnsv_records.specs.Ds.{IsDs}
use Rattle.dnsv_records.specs.declared.dnskey.Dnskey.{Dnskey}
use Rattle.dnsv_records.specs.declared.ds.Ds.{Ds}
use Rattle.dnsv_canonical.specs.Rdata.{rdata_of_type}
use Rattle.dnsv_canonical.specs.Rrsets.{ReceivedRrset}
use Rattle.dnsv_verifier.specs.Admissible.{DnskeyRecord}
use Rattle.dnsv_verifier.specs.declared.answer.Answer.{Answer}
use Rattle.dnsv_verifier.specs.declared.entry.Entry.{Entry}
use Rattle.dnsv_chain.specs.Trusted.{IsKeyOf}
use Rattle.dnsv_chain.specs.Chain.{AddsDelegation, AddsKeys, AddsKeysTo, AddsTrusted, AreKeysOfSet, AreKeysTo, AreVouched, HasRdata, IsSignedByVouched, IsVouchedFor}
use Rattle.dnsv_chain.specs.Signing.{AreGoodNumbers, IsGoodNumber, IsSignedUnderSome}
use Rattle.dnsv_anchors.specs.declared.anchor.Anchor.{Anchor}
use Rattle.dnsv_chain.proofs.ZipLemmas.{zip_at, zip_length}

-- ---- the records of an RRset

pub its_rdata : (rtype : ℕ) (rrset : ReceivedRrset) → rrset.rtype ≡ rtype → rdata_of_type rtype rrset ≡ rrset.rdata
its_rdata rtype rrset is = ap (λ (b : Bool). if b then rrset.rdata else []) ((Decides-eqb rrset.rtype rtype).1 is)

pub keys_read : (set : ReceivedRrset) (dnskeys : List Dnskey) → set.rtype ≡ 48 → AllZip IsDnskey (rdata_of_type 48 set) dnskeys
    → AllZip IsDnskey set.rdata dnskeys
keys_read set dnskeys is each = subst (λ (rdata : List (List ℕ)). AllZip IsDnskey rdata dnskeys) (its_rdata 48 set is) each

pub place_within : (set : ReceivedRrset) (dnskeys : List Dnskey) (i : ℕ) → set.rtype ≡ 48
    → AllZip IsDnskey (rdata_of_type 48 set) dnskeys → i < length dnskeys → i < length set.rdata
place_within set dnskeys i is each within =
    let sizes = zip_length IsDnskey set.rdata dnskeys (keys_read set dnskeys is each) in omega (arith, sizes, within)

pub all_places : (set : ReceivedRrset) (dnskeys : List Dnskey) (n : ℕ) → set.rtype ≡ 48
    → AllZip IsDnskey (rdata_of_type 48 set) dnskeys → length dnskeys ≤ n → length set.rdata ≤ n
all_places set dnskeys n is each past =
    let sizes = zip_length IsDnskey set.rdata dnskeys (keys_read set dnskeys is each) in omega (arith, sizes, past)

pub same_ds : (xs : List (List ℕ)) (a b : List Ds) → AllZip IsDs xs a → AllZip IsDs xs b → a ≡ b
same_ds [] [] [] p q = refl
same_ds [] [] (y ∷ b) p q = absurd q
same_ds [] (x ∷ a) b p q = absurd p
same_ds (o ∷ xs) [] b p q = absurd p
same_ds (o ∷ xs) (x ∷ a) [] p q = absurd q
same_ds (o ∷ xs) (x ∷ a) (y ∷ b) p q = ap (λ z. z ∷ a) (one_ds o x y p.0 q.0) ∙ ap (λ zs. y ∷ zs) (same_ds xs a b p.1 q.1)

-- ---- DS RRsets that lie elsewhere

abbrev now : Bor ReceivedRrset → ReceivedRrset
now r = r.now

-- ---- keys of a set

pub key_stands : (set : ReceivedRrset) (dnskeys : List Dnskey) (i : ℕ) (dnskey : Dnskey) (rdata : List ℕ) (key : DnskeyRecord) → set.rtype ≡ 48
    → AllZip IsDnskey (rdata_of_type 48 set) dnskeys → i < length dnskeys → dnskey ≡ get_or dnskeys i dnskey
    → ((other : List ℕ) → get_or set.rdata i other ≡ rdata) → key ≡ record { owner = set.owner; rdata = rdata; dnskey = dnskey }
    → IsKeyOf set key
key_stands set dnskeys i dnskey rdata key is each within at there made =
    let inside : i < length set.rdata = place_within set dnskeys i is each within in
    let read : IsDnskey rdata dnskey =
    subst (λ (octets : List ℕ). IsDnskey octets dnskey) (there rdata)
    (subst (λ (k : Dnskey). IsDnskey (get_or set.rdata i rdata) k) (sym at) (zip_at IsDnskey set.rdata dnskeys i rdata dnskey (keys_read set dnskeys is each) inside)) in
    subst (λ (k : DnskeyRecord). IsKeyOf set k) (sym made) (record { rtype = is; owner = refl; among = (i, inside, there rdata); is = read })

pub one_key : (set : ReceivedRrset) (a b : DnskeyRecord) → IsKeyOf set a → IsKeyOf set b → a.rdata ≡ b.rdata → a ≡ b
one_key set a b first second same =
    let read : IsDnskey b.rdata a.dnskey = subst (λ (octets : List ℕ). IsDnskey octets a.dnskey) same first.is in
    let dnskeys : a.dnskey ≡ b.dnskey = one_dnskey b.rdata a.dnskey b.dnskey read second.is in
    λ i. record { owner = (first.owner ∙ sym second.owner) i; rdata = same i; dnskey = dnskeys i }

module _ (set : ReceivedRrset) where
  pub keys_more : (n : ℕ) (keys : List DnskeyRecord) (key : DnskeyRecord) → IsKeyOf set key
      → ((other : List ℕ) → get_or set.rdata n other ≡ key.rdata) → AreKeysTo set n keys → AreKeysTo set (n + 1) (keys ++ key ∷ [])
  keys_more n keys key stands there so_far = record {
    each = λ k among. ⊎_elim (λ (before : Contains keys k). so_far.each k before)
        (λ (last : key ≡ k). subst (λ (x : DnskeyRecord). IsKeyOf set x) last stands)
        (Contains-push_cases keys key k among);
    every = λ place k below within at k_stands. ⊎_elim
        (λ (before : place < n). Contains-append_left keys (key ∷ []) k (so_far.every place k before within at k_stands))
        (λ (behind : n ≤ place). let same : place ≡ n = omega (arith, below, behind) in
        let rdata : key.rdata ≡ k.rdata = sym (there k.rdata) ∙ ap (λ (j : ℕ). get_or set.rdata j k.rdata) (sym same) ∙ at in
        subst (λ (x : DnskeyRecord). Contains (keys ++ key ∷ []) x) (one_key set key k stands k_stands rdata) (Contains-push keys key))
        (cases_lt place n);
  }

  pub all_keys : (n : ℕ) (keys : List DnskeyRecord) → length set.rdata ≤ n → AreKeysTo set n keys → AreKeysOfSet set keys
  all_keys n keys past so_far key = (
    λ among. so_far.each key among,
    λ stands. let within = stands.among.1 in so_far.every stands.among.0 key (omega (arith, within, past)) within stands.among.2 stands,
  )

module _ (anchors : List Anchor) (delegations : List ReceivedRrset) where
  pub none_vouched : AreVouched anchors delegations [] []
  none_vouched key = (
    λ among. let below = among.1 in absurd (omega (arith, below)),
    λ both. let below = both.0.1 in absurd (omega (arith, below)),
  )

  pub vouched_more : (keys vouched : List DnskeyRecord) (key : DnskeyRecord) → IsVouchedFor anchors delegations key
      → AreVouched anchors delegations keys vouched → AreVouched anchors delegations (keys ++ key ∷ []) (vouched ++ key ∷ [])
  vouched_more keys vouched key is so_far k = (
    λ among. ⊎_elim (λ (before : Contains vouched k). let both = (so_far k).0 before in (Contains-append_left keys (key ∷ []) k both.0, both.1))
        (λ (last : key ≡ k). subst (λ (x : DnskeyRecord). Contains (keys ++ key ∷ []) x × IsVouchedFor anchors delegations x) last (Contains-push keys key, is))
        (Contains-push_cases vouched key k among),
    λ both. ⊎_elim (λ (before : Contains keys k). Contains-append_left vouched (key ∷ []) k ((so_far k).1 (before, both.1)))
        (λ (last : key ≡ k). subst (λ (x : DnskeyRecord). Contains (vouched ++ key ∷ []) x) last (Contains-push vouched key))
        (Contains-push_cases keys key k both.0),
  )

  pub vouched_skip : (keys vouched : List DnskeyRecord) (key : DnskeyRecord) → ¬ IsVouchedFor anchors delegations key
      → AreVouched anchors delegations keys vouched → AreVouched anchors delegations (keys ++ key ∷ []) vouched
  vouched_skip keys vouched key never so_far k = (
    λ among. let both = (so_far k).0 among in (Contains-append_left keys (key ∷ []) k both.0, both.1),
    λ both. ⊎_elim (λ (before : Contains keys k). (so_far k).1 (before, both.1))
        (λ (last : key ≡ k). absurd (never (subst (λ (x : DnskeyRecord). IsVouchedFor anchors delegations x) (sym last) both.1)))
        (Contains-push_cases keys key k both.0),
  )

-- what is signed under some of the keys of a set that are vouched for is signed by one of them
module _ (m : Entry → Answer) (t : ℕ) (anchors : List Anchor) (delegations : List ReceivedRrset) (set : ReceivedRrset) (keys : List DnskeyRecord)
    (are : AreKeysOfSet set keys) where
  pub signed_by_vouched : (vouched : List DnskeyRecord) → AreVouched anchors delegations keys vouched
      → IsSignedUnderSome m t set vouched ↔ IsSignedByVouched m t anchors delegations set
  signed_by_vouched vouched are_vouched = (
    λ signed.
        let both = (are_vouched signed.key).0 signed.among in
        record { key = signed.key; signs = record { stands = (are signed.key).0 both.0; signed = signed.signed }; vouched = both.1 },
    λ by. record { key = by.key; among = (are_vouched by.key).1 ((are by.key).1 by.signs.stands, by.vouched); signed = by.signs.signed },
  )

-- ---- keys that are added

itself : (name : Labels) → same_name name name ≡ true
itself name = (same_name_Decides name name).1 refl

-- a value that was added for an owner
added : {T : Type 0} (owner zone : Labels) (value x : T) (old : List T)
    → Contains (old ++ (if same_name zone owner then value ∷ [] else [])) x → Contains old x ⊎ (SameName owner zone × (value ≡ x))
added owner zone value x old among =
    ⊎_elim (λ (before : Contains old x). inl before)
    (λ (last : Contains (if same_name zone owner then value ∷ [] else []) x). inr (elim (same_name zone owner) as (λ b. same_name zone owner ≡ b → Contains (if b then value ∷ [] else []) x → SameName owner zone × (value ≡ x)) [
      | true ↦ λ is only. (sym ((same_name_Decides zone owner).0 is), alone value x only)
      | false ↦ λ is only. let below = only.1 in absurd (omega (arith, below))
    ] refl last))
    (Contains-append_cases old (if same_name zone owner then value ∷ [] else []) x among)
  where
    alone : {T : Type 0} (y x : T) → Contains (y ∷ []) x → y ≡ x
    alone y x only = ⊎_elim (λ (before : Contains [] x). let below = before.1 in absurd (omega (arith, below))) (λ (same : y ≡ x). same) (Contains-push_cases [] y x only)

there_now : {T : Type 0} (owner : Labels) (value : T) (old : List T) → Contains (old ++ (if same_name owner owner then value ∷ [] else [])) value
there_now owner value old = subst (λ (b : Bool). Contains (old ++ (if b then value ∷ [] else [])) value) (sym (itself owner)) (Contains-push old value)

module _ (set : ReceivedRrset) (old : Labels → List DnskeyRecord) where
  pub key_added : (n : ℕ) (new newer : Labels → List DnskeyRecord) (key : DnskeyRecord) → IsKeyOf set key
      → ((other : List ℕ) → get_or set.rdata n other ≡ key.rdata)
      → ((name : Labels) → newer name ≡ new name ++ (if same_name name set.owner then key ∷ [] else []))
      → AddsKeysTo set n old new → AddsKeysTo set (n + 1) old newer
  key_added n new newer key stands there adds so_far =
      let keeps : (zone : Labels) (k : DnskeyRecord) → Contains (new zone) k → Contains (newer zone) k = λ zone k among.
      subst (λ (keys : List DnskeyRecord). Contains keys k) (sym (adds zone)) (Contains-append_left (new zone) (if same_name zone set.owner then key ∷ [] else []) k among) in
      record {
        cases = λ zone k among. ⊎_elim (λ (before : Contains (new zone) k). so_far.cases zone k before)
            (λ (last : SameName set.owner zone × (key ≡ k)). inr (last.0, subst (λ (x : DnskeyRecord). IsKeyOf set x) last.1 stands))
            (added set.owner zone key k (new zone) (subst (λ (keys : List DnskeyRecord). Contains keys k) (adds zone) among));
        kept = λ zone k among. keeps zone k (so_far.kept zone k among);
        all = λ place rdata below within at. ⊎_elim
            (λ (before : place < n). let found = so_far.all place rdata before within at in (found.0, keeps set.owner found.0 found.1, found.2))
            (λ (behind : n ≤ place). let same : place ≡ n = omega (arith, below, behind) in
            (key, subst (λ (keys : List DnskeyRecord). Contains keys key) (sym (adds set.owner)) (there_now set.owner key (new set.owner)), sym (there rdata) ∙ ap (λ (j : ℕ). get_or set.rdata j rdata) (sym same) ∙ at))
            (cases_lt place n);
      }

  pub key_there : (n : ℕ) (new : Labels → List DnskeyRecord) (octets : List ℕ) → ((other : List ℕ) → get_or set.rdata n other ≡ octets)
      → HasRdata (new set.owner) octets → AddsKeysTo set n old new → AddsKeysTo set (n + 1) old new
  key_there n new octets there has so_far = record {
    cases = so_far.cases;
    kept = so_far.kept;
    all = λ place rdata below within at. ⊎_elim (λ (before : place < n). so_far.all place rdata before within at)
        (λ (behind : n ≤ place). let same : place ≡ n = omega (arith, below, behind) in
        (has.0, has.1, has.2 ∙ sym (there rdata) ∙ ap (λ (j : ℕ). get_or set.rdata j rdata) (sym same) ∙ at))
        (cases_lt place n);
  }

  pub all_added : (n : ℕ) (new : Labels → List DnskeyRecord) → length set.rdata ≤ n → AddsKeysTo set n old new → AddsKeys set old new
  all_added n new past so_far = record {
    cases = so_far.cases;
    kept = so_far.kept;
    all = λ rdata among. let within = among.1 in so_far.all among.0 rdata (omega (arith, within, past)) within among.2;
  }

module _ (m : Entry → Answer) (t : ℕ) (anchors : List Anchor) (delegations : Labels → List ReceivedRrset) (set : ReceivedRrset) where
  pub trusted_added : (old new : Labels → List DnskeyRecord) → IsSignedByVouched m t anchors (delegations set.owner) set → AddsKeys set old new
      → AddsTrusted m t anchors delegations set old new
  trusted_added old new by adds = record {
    signed = λ _. adds;
    kept = adds.kept;
    cases = λ zone key among. ⊎_elim (λ (before : Contains (old zone) key). inl before)
        (λ (fresh : SameName set.owner zone × IsKeyOf set key). inr (by, fresh.0, fresh.1))
        (adds.cases zone key among);
  }

-- ---- DS RRsets that are added

module _ (m : Entry → Answer) (t : ℕ) (keys : Labels → List DnskeyRecord) (ds : ReceivedRrset) (numbers : List ℕ) (are : AreGoodNumbers m t ds keys numbers) where
  pub delegation_added : (old new : Labels → List (Bor ReceivedRrset)) (ref : Bor ReceivedRrset) → 0 < length numbers → ref.now ≡ ds
      → ((name : Labels) → new name ≡ old name ++ (if same_name name ds.owner then ref ∷ [] else []))
      → AddsDelegation m t keys ds (λ name. map (λ r. r.now) (old name)) (λ name. map (λ r. r.now) (new name))
  delegation_added old new ref some is adds =
      let some_good : IsGoodNumber m t ds keys (get_or numbers 0 0) = (are.members (get_or numbers 0 0)).0 (Contains-get_or numbers 0 0 some) in
      let adds_now : (name : Labels) → map now (new name) ≡ map now (old name) ++ (if same_name name ds.owner then ref.now ∷ [] else []) = λ name.
      ap (map now) (adds name) ∙ map-append now (old name) (if same_name name ds.owner then ref ∷ [] else [])
      ∙ ap (λ rest. map now (old name) ++ rest) (elim (same_name name ds.owner) as (λ b. map now (if b then ref ∷ [] else []) ≡ (if b then ref.now ∷ [] else [])) [
        | true ↦ refl
        | false ↦ refl
      ]) in
      record {
        good = λ s number.
            subst (λ (x : ReceivedRrset). Contains (map now (new ds.owner)) x) is
            (subst (λ (list : List ReceivedRrset). Contains list ref.now) (sym (adds_now ds.owner)) (there_now ds.owner ref.now (map now (old ds.owner))));
        kept = λ zone each among.
            subst (λ (list : List ReceivedRrset). Contains list each) (sym (adds_now zone))
            (Contains-append_left (map now (old zone)) (if same_name zone ds.owner then ref.now ∷ [] else []) each among);
        cases = λ zone each among. ⊎_elim (λ (before : Contains (map now (old zone)) each). inl before)
            (λ (fresh : SameName ds.owner zone × (ref.now ≡ each)). inr (sym fresh.1 ∙ is, (get_or numbers 0 0, some_good)))
            (added ds.owner zone ref.now each (map now (old zone)) (subst (λ (list : List ReceivedRrset). Contains list each) (adds_now zone) among));
      }

  pub delegation_skipped : (old : Labels → List ReceivedRrset) → length numbers ≡ 0 → AddsDelegation m t keys ds old old
  delegation_skipped old none = record {
    good = λ s number. let below = ((are.members s).1 number).1 in absurd (omega (arith, below, none));
    kept = λ zone each among. among;
    cases = λ zone each among. inl among;
  }
