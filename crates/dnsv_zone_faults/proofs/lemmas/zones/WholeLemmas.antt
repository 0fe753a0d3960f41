-- What follows by one rule of trust from what is found of zones is found too.
use Rattle.std.proofs.Common.{◌≡◌, ℕ, suc, true, ⊎_elim, List, [], ◌∷◌, Option, Some, None, refl, sym, ap, ◌∙◌, subst, arith}
use Rattle.std.proofs.lemmas.Bool.{false≢true}
use Rattle.std.proofs.lemmas.Bool.Decides.{nat_tests}
use Rattle.std.specs.Prelude.{Contains, nat_eq, slice_get}
use Rattle.std.specs.List.{list_any}
use Rattle.dnsv_names.specs.Name.{Labels, SameName, rightmost}
use Rattle.dnsv_names.specs.Tree.AncestorLaws.{rightmost_above}
use Rattle.dnsv_names.specs.Tree.TreeLaws.{at_or_below_respects, at_or_below_trans}
use Rattle.dnsv_records.specs.declared.rrsig.Rrsig.{Rrsig}
use Rattle.dnsv_canonical.specs.Index.{numbers_at}
use Rattle.dnsv_canonical.specs.Rrsets.{IsNumbered, ReceivedRrset}
use Rattle.dnsv_canonical.proofs.OrderLemmas.{each_of, zip_at}
use Rattle.dnsv_chain.specs.Anchor.{HasAnchorMatch}
use Rattle.dnsv_chain.specs.Trusted.{SignsItsSet, anchored, delegated}
use Rattle.dnsv_chain.specs.Basis.{Basis}
use Rattle.dnsv_canonical.proofs.NumberLemmas.{each_number, IsOneAt, one_numbered}
use Rattle.dnsv_lines.specs.declared.line.fault.zone.WhyEntry.{WhyEntry}
use Rattle.dnsv_mending.specs.Faults.{answer_lines, or_else}
use Rattle.dnsv_mending.specs.Keys.{fits, fits_by, signing}
use Rattle.dnsv_mending.specs.Reasons.{IsClosed, IsClosedRrset, IsSelfSigned}
use Rattle.dnsv_mending.specs.Ways.{IsAmong}
use Rattle.dnsv_mending.specs.declared.facts.keys.DnskeyFacts.{DnskeyFacts}
use Rattle.dnsv_mending.specs.declared.facts.keys.HeldKey.{HeldKey}
use Rattle.dnsv_mending.specs.declared.facts.keys.VoucherFacts.{VoucherFacts}
use Rattle.dnsv_mending.specs.declared.facts.zone.DsFacts.{DsFacts}
use Rattle.dnsv_mending.specs.declared.facts.zone.ZoneFacts.{ZoneFacts}
use Rattle.dnsv_mending.specs.declared.told.Told.{Told}
use Rattle.dnsv_zone_keys.specs.Answers.AnswerSearch.{is_good_answer}
use Rattle.dnsv_zone_faults.specs.Dnskeys.{AreDnskeyFacts, IsOwnSignature}
use Rattle.dnsv_zone_faults.specs.Groups.{AreDsFacts, anchor_wanted}
use Rattle.dnsv_faults.specs.Signatures.{AreSignatureFacts}
use Rattle.dnsv_zone_faults.specs.Zones.{AreZoneFacts, IsZoneKeyFacts}
use Rattle.dnsv_zone_keys.proofs.lemmas.AnswerLemmas.{good_is}
use Rattle.dnsv_zone_faults.proofs.lemmas.zones.ClosedLemmas.{closed_signature, contains_of, good_by}
use Rattle.dnsv_zone_faults.proofs.lemmas.zones.InPlaceLemmas.{at_or_above}
use Rattle.dnsv_zone_faults.proofs.lemmas.zones.MatchLemmas.{match_anchor, matches_it, of_anchor}
use Rattle.dnsv_zone_faults.proofs.lemmas.zones.PlaceLemmas.{contains_at}
use Rattle.dnsv_zone_faults.proofs.lemmas.zones.TrustLemmas.{has_signed_by, numbered_among, or_cases, record_matches, zip_left}
use Rattle.dnsv_zone_faults.proofs.lemmas.zones.ZoneLemmas.{IsHeldAt, held_at}

else_none : (lines others : List Told) → or_else lines others ≡ [] → others ≡ []
else_none [] others none = none
else_none (line ∷ lines) others none = absurd (cc none)

some_equal : (n : ℕ) (xs : List ℕ) → list_any (nat_eq n) xs ≡ true → Contains xs n
some_equal n [] holds = absurd (false≢true holds)
some_equal n (x ∷ xs) holds = ⊎_elim
    (λ (here : nat_eq n x ≡ true). let same : x ≡ n = grind (arith, nat_tests, here) in (0, omega arith, same))
    (λ (later : list_any (nat_eq n) xs ≡ true). let rest = some_equal n xs later in (suc rest.0, let within = rest.1 in omega (arith, within), rest.2))
    (or_cases (nat_eq n x) (list_any (nat_eq n) xs) holds)

fits_there : (v : VoucherFacts) (r : DnskeyFacts) (k : HeldKey) → v.why ≡ None → fits v (signing r k) ≡ true → Contains v.matches.items k.key
unfolding signing
fits_there v r k none fitting =
    some_equal k.key v.matches.items (sym (ap (λ (why : Option WhyEntry). fits_by v (signing r k) why) none) ∙ fitting)

module _ (basis : Basis) (name : Labels) (t : ℕ) (zones : List ZoneFacts) (are : AreZoneFacts basis name t zones) where
  -- a key in a DNSKEY RRset of a zone
  record IsKeyOfZone (n : ℕ) (r : DnskeyFacts) (k : HeldKey) : Type 0 where
    number : ℕ
    its : AreDnskeyFacts basis (rightmost name n) number r
    known : IsHeldAt basis (rightmost name n) number its.set k

  key_of_zone : (n : ℕ) (z : ZoneFacts) (r : DnskeyFacts) (k : HeldKey) → slice_get zones n ≡ Some z → IsAmong r z.dnskeys.items → IsAmong k r.keys.items
      → IsKeyOfZone n r k
  key_of_zone n z r k at among_r among_k =
      let zone : Labels = rightmost name n in
      let of = zip_left (AreDnskeyFacts basis zone) (numbers_at basis.rrsets zone 48) z.dnskeys.items r (are.each n z at).dnskeys (contains_of r z.dnskeys.items among_r) in
      record { number = of.0; its = of.2; known = held_at basis zone of.0 of.2.set 1 of.2.canonical r.keys.items k of.2.keys (contains_of k r.keys.items among_k) }

  -- it signs the RRset
  signs : (n : ℕ) (r : DnskeyFacts) (k : HeldKey) (of : IsKeyOfZone n r k) → IsSelfSigned k → SignsItsSet basis.meaning basis.moment of.its.set of.known.is.key
  signs n r k of self =
      let s = self.0 in
      let held = of.known.is in
      let own = each_of (IsOwnSignature basis of.number of.its.set held.key) k.signatures.items s held.signatures.each (contains_of s k.signatures.items self.1) in
      let said = good_by s.answer s.number (else_none _ (answer_lines s.number s.answer) self.2) in
      let good = (good_is basis.meaning basis.moment of.its.set own.rrsig held.key s.answer own.answered).0 (ap is_good_answer said) in
      record {
        stands = held.stands;
        signed = record {
          rrsig = own.rrsig;
          its = (own.its.rdata, numbered_among of.its.set.signatures s.number.signature own.its.rdata own.its.numbered, own.its.is);
          good = good;
        };
      }

  closed_rrset : (n : ℕ) (z : ZoneFacts) (ds : DsFacts) → slice_get zones n ≡ Some z → IsAmong ds z.ds.items → IsClosedRrset zones ds.rrset
  closed_rrset n z ds at among s among_s =
      let zone : Labels = rightmost name n in
      let of = zip_left (AreDsFacts basis zone) (numbers_at basis.rrsets zone 43) z.ds.items ds (are.each n z at).ds (contains_of ds z.ds.items among) in
      let k : ℕ = of.0 in
      let rr = of.2.rrset in
      let one = zip_left (λ (signature : ℕ × Rrsig) known. AreSignatureFacts basis k rr.rrset signature.0 known) rr.order ds.rrset.signatures.items s rr.each
      (contains_of s ds.rrset.signatures.items among_s) in
      let its = one.2 in
      let here = each_of (IsOneAt basis.rrsets zone 43) (numbers_at basis.rrsets zone 43) k (each_number basis.rrsets zone 43) of.1 in
      let same = one_numbered basis.rrsets k here.rrset rr.rrset here.is_rrset rr.numbered in
      let owner : SameName rr.rrset.owner zone = subst (λ (r : ReceivedRrset). SameName r.owner zone) same here.owner in
      closed_signature basis name t zones are k rr.rrset rr.numbered one.0.0 s its (λ off.
      let up = at_or_below_respects rr.rrset.owner zone its.rrsig.signer its.rrsig.signer owner refl (at_or_above basis name t zones are k rr.rrset one.0.0 s its off) in
      at_or_below_trans name zone its.rrsig.signer (rightmost_above name n) up)

  pub whole : IsClosed zones
  whole = record {
    signed = closed_rrset;
    anchored = λ n z r v k at among_r among_v none among_k fitting self.
        let zone : Labels = rightmost name n in
        let facts = are.each n z at in
        let of = key_of_zone n z r k at among_r among_k in
        let key = of.known.is.key in
        let by = of_anchor basis.rrsets zone 1 basis.anchors z.anchors.items v facts.anchors (contains_of v z.anchors.items among_v) in
        let matched = matches_it basis.rrsets zone by.n (anchor_wanted by.anchor) v by.are k.key key of.known.is.placed (fits_there v r k none fitting) in
        let match : HasAnchorMatch basis.anchors key = record {
          anchor = by.anchor;
          among = by.among;
          matching = match_anchor by.anchor key (by.owner ∙ sym of.known.is.placed.owner) matched.1;
        } in
        of.its.trusted.1 (anchored (numbered_among basis.rrsets of.number of.its.set of.its.numbered) (signs n r k of self) match);
    delegated = λ n z r ds v k at among_r among_ds signed among_v none among_k fitting self.
        let zone : Labels = rightmost name n in
        let facts = are.each n z at in
        let of = key_of_zone n z r k at among_r among_k in
        let key = of.known.is.key in
        let of_ds = zip_left (AreDsFacts basis zone) (numbers_at basis.rrsets zone 43) z.ds.items ds facts.ds (contains_of ds z.ds.items among_ds) in
        let its = of_ds.2 in
        let here = each_of (IsOneAt basis.rrsets zone 43) (numbers_at basis.rrsets zone 43) of_ds.0 (each_number basis.rrsets zone 43) of_ds.1 in
        let same = one_numbered basis.rrsets of_ds.0 here.rrset its.set here.is_rrset its.numbered in
        let owner : SameName its.set.owner zone = subst (λ (x : ReceivedRrset). SameName x.owner zone) same here.owner in
        let rtype : its.set.rtype ≡ 43 = subst (λ (x : ReceivedRrset). x.rtype ≡ 43) same here.same_type in
        let to = record_matches basis zone z.anchors.items z.ds.items facts.anchors facts.ds k.key key of.known.is.placed of_ds.0 ds its v
        (contains_of v ds.records.items among_v) (fits_there v r k none fitting) owner rtype in
        let by = has_signed_by basis of_ds.0 its.set ds.rrset its.rrset its.numbered
        (record { signature = signed.0; among = contains_of signed.0 ds.rrset.signatures.items signed.1; signed = signed.2 }) in
        of.its.trusted.1 (delegated by.trusted by.stands (numbered_among basis.rrsets of_ds.0 its.set its.numbered) by.signed to
        (numbered_among basis.rrsets of.number of.its.set of.its.numbered) (signs n r k of self));
    held = λ n z i h key r at at_key among at_r trusted.
        let zone : Labels = rightmost name n in
        let facts = are.each n z at in
        let one = zip_at (IsZoneKeyFacts basis zone) facts.keys.keys z.keys.items i key facts.keys.each at_key in
        let holder = (one.2.holders h).0 (contains_of h key.holders.items among) in
        let of = zip_at (AreDnskeyFacts basis zone) (numbers_at basis.rrsets zone 48) z.dnskeys.items h r facts.dnskeys at_r in
        let its = of.2 in
        let number_is : holder.k ≡ of.0 = let both : Some holder.k ≡ Some of.0 = sym holder.at ∙ of.1 in cc both in
        let same = one_numbered basis.rrsets of.0 holder.set its.set (subst (λ (m : ℕ). IsNumbered basis.rrsets m holder.set) number_is holder.numbered) its.numbered in
        let listed = contains_at (numbers_at basis.rrsets zone 48) h of.0 of.1 in
        let here = each_of (IsOneAt basis.rrsets zone 48) (numbers_at basis.rrsets zone 48) of.0 (each_number basis.rrsets zone 48) listed in
        let same_here = one_numbered basis.rrsets of.0 here.rrset its.set here.is_rrset its.numbered in
        one.2.trusted.1 (record {
          set = its.set;
          trusted = its.trusted.0 trusted;
          owner = subst (λ (x : ReceivedRrset). SameName x.owner zone) same_here here.owner;
          among = subst (λ (x : ReceivedRrset). Contains x.rdata one.0) same holder.holds;
        });
  }
