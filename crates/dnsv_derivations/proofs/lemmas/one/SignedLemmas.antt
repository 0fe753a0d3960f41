-- One line says that a signature is good.
use Rattle.std.proofs.Common.{◌≡◌, ◌∙◌, ℕ, sym, ap, subst, refl}
use Rattle.dnsv_canonical.specs.Rrsets.{IsNumbered, ReceivedRrset}
use Rattle.dnsv_chain.specs.Trusted.{IsKeyOf}
use Rattle.dnsv_derivations.specs.Explained.{Setting}
use Rattle.dnsv_derivations.specs.derivations.Derivations.{IsLowestSecured}
use Rattle.dnsv_derivations.specs.derivations.OwnDerivations.{IsLowestOwn}
use Rattle.dnsv_derivations.specs.derivations.Ways.{IsSignedLine}
use Rattle.dnsv_names.specs.Name.{Labels}
use Rattle.dnsv_canonical.specs.declared.number.SignatureNumber.{SignatureNumber}
use Rattle.dnsv_lines.specs.declared.line.derivation.SignedRrset.{SignedRrset}
use Rattle.dnsv_canonical.proofs.NumberLemmas.{one_numbered}
use Rattle.dnsv_derivations.proofs.lemmas.derivations.WayLemmas.SearchLemmas.{one_key}
use Rattle.dnsv_derivations.proofs.lemmas.one.StepLemmas.{even}
use Rattle.dnsv_derivations.proofs.lemmas.one.TrustedLemmas.{AreApart, good_entry, one_name, one_todo, same_rdata}

module _ (setting : Setting) where
  -- the lowest signature that is good
  pub one_lowest : (k s t : ℕ) → IsLowestSecured setting k s → IsLowestSecured setting k t → s ≡ t
  one_lowest k s t x y = even s t (x.lowest t y.secured) (y.lowest s x.secured)

  -- the lowest that is a zone's own
  pub one_own : (zone : Labels) (k s t : ℕ) → IsLowestOwn setting zone k s → IsLowestOwn setting zone k t → s ≡ t
  one_own zone k s t x y = even s t (x.lowest t y.own) (y.lowest s x.own)

  -- the DNSKEY RRset with the first key of a signature
  pub one_keys : (number : SignatureNumber) (a b : SignedRrset) → IsSignedLine setting number a → IsSignedLine setting number b → a.keys ≡ b.keys
  one_keys number a b x y =
      let one = x.first.is in
      let other = y.first.is in
      let rdata : x.key.rdata ≡ y.key.rdata =
      same_rdata x.key.rdata y.key.rdata (y.first.lowest a.keys x.key one) (x.first.lowest b.keys y.key other) in
      even a.keys b.keys (x.first.earliest b.keys y.key other (sym rdata)) (y.first.earliest a.keys x.key one rdata)

  -- the line of a signature
  pub one_signed : AreApart setting.todo → (number : SignatureNumber) (a b : SignedRrset) → IsSignedLine setting number a
      → IsSignedLine setting number b → a ≡ b
  one_signed apart number a b x y =
      let one = x.first.is in
      let other = y.first.is in
      let rdata : x.key.rdata ≡ y.key.rdata =
      same_rdata x.key.rdata y.key.rdata (y.first.lowest a.keys x.key one) (x.first.lowest b.keys y.key other) in
      let keys : a.keys ≡ b.keys = one_keys number a b x y in
      let At : ℕ → Type 0 = λ k. IsNumbered setting.rrsets k one.set in
      let set : one.set ≡ other.set = one_numbered setting.rrsets b.keys one.set other.set (subst At keys one.is_set) other.is_set in
      let Of : ReceivedRrset → Type 0 = λ each. IsKeyOf each x.key in
      let key : x.key ≡ y.key = one_key other.set x.key y.key (subst Of set one.stands) other.stands rdata in
      let rrset : one.rrset ≡ other.rrset =
      one_numbered setting.rrsets number.rrset one.rrset other.rrset one.good.is_rrset other.good.is_rrset in
      let entry = good_entry setting number number one.rrset other.rrset x.key y.key refl key one.good other.good in
      let owner : a.owner ≡ b.owner = x.owner ∙ ap (λ (each : ReceivedRrset). each.owner) rrset ∙ sym y.owner in
      let rtype : a.rtype.0 ≡ b.rtype.0 = x.rtype ∙ ap (λ (each : ReceivedRrset). each.rtype) rrset ∙ sym y.rtype in
      let signature : a.signature ≡ b.signature = x.signature ∙ sym y.signature in
      let name = one_name x.key y.key a.key b.key key x.named y.named in
      let zone : a.zone ≡ b.zone = x.zone ∙ ap (λ (each : ReceivedRrset). each.owner) set ∙ sym y.zone in
      let todo : a.todo.0 ≡ b.todo.0 =
      one_todo setting apart one.good.good.entry other.good.good.entry a.todo.0 b.todo.0 entry x.todo y.todo in
      λ i. record {
        owner = owner i;
        rtype = record { 0 = rtype i };
        signature = signature i;
        key = name i;
        zone = zone i;
        keys = keys i;
        todo = record { 0 = todo i };
      }
