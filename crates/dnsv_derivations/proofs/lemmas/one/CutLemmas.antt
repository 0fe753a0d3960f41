-- Where a name may be unsigned is told in one way.
use Rattle.std.proofs.Common.{◌≡◌, ◌∙◌, ◌+◌, ◌≤◌, ℕ, List, [], ◌∷◌, None, length, map, arith, refl, sym, ap, subst}
use Rattle.std.specs.List.{AllZip}
use Rattle.dnsv_names.specs.Name.{Labels, rightmost}
use Rattle.dnsv_records.proofs.OneRecord.{one_ds}
use Rattle.dnsv_records.specs.Ds.{IsDs}
use Rattle.dnsv_records.specs.declared.ds.Ds.{Ds}
use Rattle.dnsv_canonical.specs.Rrsets.{ReceivedRrset}
use Rattle.dnsv_chain.proofs.ChainLemmas.{same_ds}
use Rattle.dnsv_denial.specs.gathering.Evidence.{IsRecordAt}
use Rattle.dnsv_canonical.specs.declared.number.RecordNumber.{RecordNumber}
use Rattle.dnsv_denial.specs.declared.unsigned_cuts.shown_cut.ShownCut.{ShownCut}
use Rattle.dnsv_denial.specs.declared.unsigned_cuts.shown_cut.ShownCut.TheVariants as cut
use Rattle.dnsv_derivations.specs.Explained.{Setting}
use Rattle.dnsv_derivations.specs.Following.Parts.{IsUnusableRecord, IsWhy}
use Rattle.dnsv_derivations.specs.Saying.{AreBoth}
use Rattle.dnsv_derivations.specs.derivations.Derivations.{IsLowestSecured}
use Rattle.dnsv_derivations.specs.derivations.OwnDerivations.{IsSignatureTold}
use Rattle.dnsv_derivations.specs.unsigned_cuts.ShownCuts.{IsCutTold}
use Rattle.dnsv_derivations.specs.unsigned_cuts.UnsignedCuts.{AreAllTold, AreToldFrom, IsCaseTold, IsUnusableTold}
use Rattle.dnsv_derivations.specs.derivations.Ways.{record_at}
use Rattle.dnsv_lines.specs.declared.line.Line.{Line}
use Rattle.dnsv_lines.specs.declared.line.Line.TheVariants as line
use Rattle.dnsv_lines.specs.declared.line.cut.InsecureCase.TheVariants as case
use Rattle.dnsv_lines.specs.declared.line.cut.UnusableDs.{UnusableDs}
use Rattle.dnsv_lines.specs.declared.line.cut.WhyUnusable.{WhyUnusable}
use Rattle.dnsv_lines.specs.declared.line.cut.WhyUnusable.TheVariants as why
use Rattle.dnsv_canonical.specs.declared.number.SignatureNumber.{SignatureNumber}
use Rattle.dnsv_derivations.proofs.lemmas.one.DenialLemmas.{one_case, one_denial}
use Rattle.dnsv_derivations.proofs.lemmas.one.DerivationLemmas.{one_signature}
use Rattle.dnsv_derivations.proofs.lemmas.one.SignedLemmas.{one_lowest}
use Rattle.dnsv_derivations.proofs.lemmas.one.StepLemmas.{IsOne, even, one_both}
use Rattle.dnsv_derivations.proofs.lemmas.one.TrustedLemmas.{AreApart, one_record}

-- ---- records that can't be used

one_why : (u v : WhyUnusable) (records : List Ds) (ds : Ds) → IsWhy u records ds → IsWhy v records ds → u ≡ v
one_why why.Algorithm why.Algorithm records ds x y = refl
one_why why.DigestType why.DigestType records ds x y = refl
one_why why.DigestType why.DigestIgnored records ds x y = absurd (x.1 y.1)
one_why u why.Algorithm records ds x y = absurd (y x.0)
one_why why.Algorithm v records ds x y = absurd (x y.0)
one_why why.DigestIgnored why.DigestType records ds x y = absurd (y.1 x.1)
one_why why.DigestIgnored why.DigestIgnored records ds x y = refl

module _ (rrsets : List ReceivedRrset) where
  one_unusable : (u v : UnusableDs) → u.number ≡ v.number → IsUnusableRecord rrsets u → IsUnusableRecord rrsets v → u ≡ v
  one_unusable u v number x y =
      let at = one_record rrsets u.number v.number x.rrset y.rrset x.rdata y.rdata number x.at y.at in
      let Read : List ℕ → Type 0 = λ octets. IsDs octets x.ds in
      let ds : x.ds ≡ y.ds = one_ds y.rdata x.ds y.ds (subst Read at.1 x.read) y.read in
      let All : ReceivedRrset → Type 0 = λ each. AllZip IsDs each.rdata x.records in
      let records : x.records ≡ y.records = same_ds y.rrset.rdata x.records y.records (subst All at.0 x.are_read) y.are_read in
      let Among : List Ds → Type 0 = λ each. IsWhy u.why each x.ds in
      let Of : Ds → Type 0 = λ each. IsWhy u.why y.records each in
      let reason : u.why ≡ v.why = one_why u.why v.why y.records y.ds (subst Of ds (subst Among records x.why)) y.why in
      let owner : u.owner ≡ v.owner = x.owner ∙ ap (λ (each : ReceivedRrset). each.owner) at.0 ∙ sym y.owner in
      let tag : u.key.tag.0 ≡ v.key.tag.0 = x.tag ∙ ap (λ (each : Ds). each.key_tag.0) ds ∙ sym y.tag in
      let algorithm : u.key.algorithm.0 ≡ v.key.algorithm.0 = x.algorithm ∙ ap (λ (each : Ds). each.algorithm.0) ds ∙ sym y.algorithm in
      let digest : u.digest_type.0 ≡ v.digest_type.0 = x.digest_type ∙ ap (λ (each : Ds). each.digest_type.0) ds ∙ sym y.digest_type in
      λ i. record {
        why = reason i;
        owner = owner i;
        number = number i;
        key = record { tag = record { 0 = tag i }; algorithm = record { 0 = algorithm i } };
        digest_type = record { 0 = digest i };
      }

  module _ (k : ℕ) where
    one_told : (place : ℕ) (a b : List UnusableDs) → length a ≡ length b → AreToldFrom rrsets k place a → AreToldFrom rrsets k place b → a ≡ b
    one_told place [] [] count x y = refl
    one_told place [] (v ∷ b) count x y = absurd (omega (arith, count))
    one_told place (u ∷ a) [] count x y = absurd (omega (arith, count))
    one_told place (u ∷ a) (v ∷ b) count x y =
        let head : u ≡ v = one_unusable u v (x.0 ∙ sym y.0) x.1 y.1 in
        let tail : a ≡ b = one_told (place + 1) a b (omega (arith, count)) x.2 y.2 in
        λ i. head i ∷ tail i

    abbrev EndsBy : ℕ → Type 0
    EndsBy n = (place : ℕ) (rrset : ReceivedRrset) (rdata : List ℕ) → IsRecordAt rrsets (record_at k place) rrset rdata → place ≤ n

    within : (place n : ℕ) (told : List UnusableDs) → place ≤ n + 1 → EndsBy n → AreToldFrom rrsets k place told → place + length told ≤ n + 1
    within place n [] begins ends each = omega (arith, begins)
    within place n (u ∷ told) begins ends each =
        let At : RecordNumber → Type 0 = λ number. IsRecordAt rrsets number each.1.rrset each.1.rdata in
        let here : place ≤ n = ends place each.1.rrset each.1.rdata (subst At each.0 each.1.at) in
        let rest : (place + 1) + length told ≤ n + 1 = within (place + 1) n told (omega (arith, here)) ends each.2 in
        omega (arith, rest)

    one_all : IsOne (AreAllTold rrsets k)
    one_all before a b x y =
        let up = within 1 y.n x.first.told (omega arith) y.every x.first.each in
        let down = within 1 x.n y.first.told (omega arith) x.every y.first.each in
        let one = x.first.count in
        let other = y.first.count in
        let told : x.first.told ≡ y.first.told =
        one_told 1 x.first.told y.first.told (omega (arith, up, down, one, other)) x.first.each y.first.each in
        x.first.are ∙ ap (λ (each : List UnusableDs). map (λ unusable. line.Unusable unusable) each) told ∙ sym y.first.are

-- ---- what is told

module _ (setting : Setting) (apart : AreApart setting.todo) where
  one_unusable_told : (name : Labels) → IsOne (IsUnusableTold setting name)
  one_unusable_told name before a b x y =
      let Told : SignatureNumber → List Line → List Line → Type 0 = λ number.
      AreBoth (IsSignatureTold setting number) (AreBoth (IsCaseTold case.UnusableDs name None) (AreAllTold setting.rrsets number.rrset)) in
      let number_of : ℕ → ℕ → SignatureNumber = λ k s. record { rrset = k; signature = s } in
      let set : x.k ≡ y.k = even x.k y.k (x.first.first y.k y.first.is) (y.first.first x.k x.first.is) in
      let Lowest : ℕ → Type 0 = λ k. IsLowestSecured setting k x.s in
      let signature : x.s ≡ y.s = one_lowest setting y.k x.s y.s (subst Lowest set x.lowest) y.lowest in
      let number : number_of x.k x.s ≡ number_of y.k y.s = λ i. number_of (set i) (signature i) in
      let At : SignatureNumber → Type 0 = λ each. Told each before a in
      one_both (IsSignatureTold setting (number_of y.k y.s)) (AreBoth (IsCaseTold case.UnusableDs name None) (AreAllTold setting.rrsets y.k))
      (one_signature setting apart (number_of y.k y.s))
      (one_both (IsCaseTold case.UnusableDs name None) (AreAllTold setting.rrsets y.k) (one_case case.UnusableDs name None) (one_all setting.rrsets y.k))
      before a b (subst At number x.told) y.told

  pub one_cut_told : (name : Labels) (shown : ShownCut) → IsOne (IsCutTold setting name shown)
  one_cut_told name (cut.NoDs labels shown) before a b x y = one_denial setting apart name shown before a b x y
  one_cut_told name (cut.NoUsableDs labels) before a b x y = one_unusable_told (rightmost name labels) before a b x y
  one_cut_told name (cut.OptOut labels shown) before a b x y = one_denial setting apart name shown before a b x y
