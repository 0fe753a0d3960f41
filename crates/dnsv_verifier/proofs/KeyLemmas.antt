-- The keys of one RRset, and of all.
use Rattle.std.proofs.Common.{◌≡◌, ℕ, ◌+◌, ◌<◌, ◌≤◌, ◌==◌, Bool, true, false, cond, inl, inr, ⊎_elim, List, [], ◌∷◌, ◌++◌, length, get_or, refl, sym, ap, ◌∙◌, subst, arith}
use Rattle.std.proofs.lemmas.Bool.{cases_lt}
use Rattle.std.proofs.lemmas.Bool.Decides.{nat_tests}
use Rattle.std.specs.List.{AllZip}
use Rattle.dnsv_canonical.specs.Rdata.{rdata_of_type}
use Rattle.dnsv_canonical.specs.Rrsets.{ReceivedRrset}
use Rattle.dnsv_canonical.proofs.OrderLemmas.{zip_length}
use Rattle.dnsv_records.specs.Dnskey.{IsDnskey}
use Rattle.dnsv_records.specs.declared.dnskey.Dnskey.{Dnskey}
use Rattle.dnsv_records.proofs.OneRecord.{one_dnskey}
use Rattle.dnsv_verifier.specs.Admissible.{DnskeyRecord}
use Rattle.dnsv_verifier.specs.Asking.{AddsJust, AreKeysOf, ComesOfSome, IsKeyOf}
use Rattle.dnsv_verifier.proofs.AskLemmas.{adds_one, adds_more, adds_same, zip_at}

-- the key is one of the RRset's first n records
pub record IsKeyBefore (rrset : ReceivedRrset) (n : ℕ) (key : DnskeyRecord) : Type 0 where
  pub place : ℕ
  pub below : place < n
  pub within : place < length rrset.rdata
  pub at : get_or rrset.rdata place key.rdata ≡ key.rdata
  pub rtype : rrset.rtype ≡ 48
  pub owner : key.owner ≡ rrset.owner
  pub is : IsDnskey key.rdata key.dnskey

-- what is read of a DNSKEY RRset is of its records, and of another nothing
read_of : (rrset : ReceivedRrset) (dnskeys : List Dnskey) (b : Bool) → (rrset.rtype == 48) ≡ b
    → AllZip IsDnskey (cond b rrset.rdata []) dnskeys → (n : ℕ) → n < length dnskeys
    → (rrset.rtype ≡ 48) × AllZip IsDnskey rrset.rdata dnskeys
read_of rrset dnskeys true e are n within = (grind (arith, nat_tests), are)
read_of rrset [] false e are n within = absurd (omega (arith, within))
read_of rrset (d ∷ dnskeys) false e are n within = absurd are

module _ (rrset : ReceivedRrset) (dnskeys : List Dnskey) (are : AllZip IsDnskey (rdata_of_type 48 rrset) dnskeys) where
  pub within_rdata : (n : ℕ) → n < length dnskeys → n < length rrset.rdata
  within_rdata n below =
      let read = read_of rrset dnskeys (rrset.rtype == 48) refl are n below in
      let count = zip_length IsDnskey rrset.rdata dnskeys read.1 in
      omega arith

  -- what is read of a record
  pub reads_as : (n : ℕ) (dnskey : Dnskey) (rdata : List ℕ) → n < length dnskeys → dnskey ≡ get_or dnskeys n dnskey
      → ((other : List ℕ) → get_or rrset.rdata n other ≡ rdata) → IsDnskey rdata dnskey
  reads_as n dnskey rdata below at there =
      let read = read_of rrset dnskeys (rrset.rtype == 48) refl are n below in
      subst (λ (d : Dnskey). IsDnskey rdata d) (sym at)
      (subst (λ (r : List ℕ). IsDnskey r (get_or dnskeys n dnskey)) (there []) (zip_at IsDnskey rrset.rdata dnskeys n [] dnskey read.1 (within_rdata n below)))

  -- the key of one record more
  pub keys_more : (n : ℕ) (dnskey : Dnskey) (key : DnskeyRecord) (a b : List DnskeyRecord) → n < length dnskeys
      → dnskey ≡ get_or dnskeys n dnskey → key.owner ≡ rrset.owner
      → ((other : List ℕ) → get_or rrset.rdata n other ≡ key.rdata) → key.dnskey ≡ dnskey
      → AddsJust (IsKeyBefore rrset n) a b → AddsJust (IsKeyBefore rrset (n + 1)) a (b ++ key ∷ [])
  keys_more n dnskey key a b below at owner rdata reads so_far =
      let read = read_of rrset dnskeys (rrset.rtype == 48) refl are n below in
      let inside : n < length rrset.rdata = within_rdata n below in
      let here : IsDnskey key.rdata key.dnskey = subst (λ (d : Dnskey). IsDnskey key.rdata d) (sym reads) (reads_as n dnskey key.rdata below at rdata) in
      let new : IsKeyBefore rrset (n + 1) key =
      record { place = n; below = omega arith; within = inside; at = rdata key.rdata; rtype = read.0; owner = owner; is = here } in
      let one : (other : DnskeyRecord) (before : IsKeyBefore rrset (n + 1) other) → before.place ≡ n → other ≡ key =
      λ other before same.
      let rdatas : other.rdata ≡ key.rdata = sym before.at ∙ ap (λ (k : ℕ). get_or rrset.rdata k other.rdata) same ∙ rdata other.rdata in
      let dnskeys_are : other.dnskey ≡ key.dnskey = one_dnskey key.rdata other.dnskey key.dnskey (subst (λ (r : List ℕ). IsDnskey r other.dnskey) rdatas before.is) here in
      λ i. record { owner = (before.owner ∙ sym owner) i; rdata = rdatas i; dnskey = dnskeys_are i } in
      adds_more (IsKeyBefore rrset n) (λ other. other ≡ key) (IsKeyBefore rrset (n + 1)) a b (b ++ key ∷ []) so_far
      (adds_one (λ other. other ≡ key) b key refl (λ other same. same))
      (λ other before. record { place = before.place; below = omega (arith, before.below); within = before.within; at = before.at; rtype = before.rtype; owner = before.owner; is = before.is })
      (λ other same. subst (λ (k : DnskeyRecord). IsKeyBefore rrset (n + 1) k) (sym same) new)
      (λ other before. ⊎_elim
      (λ earlier. inl (record { place = before.place; below = earlier; within = before.within; at = before.at; rtype = before.rtype; owner = before.owner; is = before.is }))
      (λ from. inr (one other before (omega (arith, before.below, from))))
      (cases_lt before.place n))

  pub keys_all : (n : ℕ) (a b : List DnskeyRecord) → length dnskeys ≤ n → AddsJust (IsKeyBefore rrset n) a b
      → AddsJust (IsKeyOf rrset) a b
  keys_all n a b past so_far =
      adds_same (IsKeyBefore rrset n) (IsKeyOf rrset) a b so_far
      (λ key before. record { rtype = before.rtype; owner = before.owner; rdata = (before.place, before.within, before.at); is = before.is })
      (λ key of.
      let dnskey_type : (rrset.rtype == 48) ≡ true = grind (arith, nat_tests, of.rtype) in
      let read : AllZip IsDnskey rrset.rdata dnskeys = subst (λ (b : Bool). AllZip IsDnskey (cond b rrset.rdata []) dnskeys) dnskey_type are in
      let count = zip_length IsDnskey rrset.rdata dnskeys read in
      record { place = of.rdata.0; below = omega (arith, of.rdata.1); within = of.rdata.1; at = of.rdata.2; rtype = of.rtype; owner = of.owner; is = of.is })

-- the keys of all RRsets
pub just_keys : (rrsets : List ReceivedRrset) (keys : List DnskeyRecord) → AddsJust (ComesOfSome IsKeyOf rrsets) [] keys
    → AreKeysOf rrsets keys
just_keys rrsets keys adds key = (
  λ found. ⊎_elim (λ old. absurd (omega (arith, old.1)))
      (λ comes. record { rrset = comes.source; among = comes.among; rtype = comes.is.rtype; owner = comes.is.owner; rdata = comes.is.rdata; is = comes.is.is })
      (adds.only key found),
  λ among. adds.added key (record { source = among.rrset; among = among.among; is = record { rtype = among.rtype; owner = among.owner; rdata = among.rdata; is = among.is } }),
)
