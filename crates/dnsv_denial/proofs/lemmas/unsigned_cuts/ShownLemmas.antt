-- What the chains of kept zones show of cuts, chain by chain and zone by zone.
use Rattle.std.proofs.Common.{◌≡◌, ℕ, ◌+◌, ◌<◌, ◌≤◌, ◌⊎◌, Option, List, length, get_or, sym, subst, inl, inr, ⊎_elim, arith}
use Rattle.std.specs.Prelude.{Some, None, MatchOption, slice_get}
use Rattle.std.proofs.lemmas.Bool.{cases_lt}
use Rattle.std.proofs.lemmas.Option.{slice_get_cases, slice_get_within}
use Rattle.dnsv_names.specs.Name.{Labels, rightmost}
use Rattle.dnsv_names.specs.Tree.{wildcard_of}
use Rattle.dnsv_zones.specs.chains.Nsec3Chain.{Parameters}
use Rattle.dnsv_zones.specs.forms.Forms.{UnsignedCutForm}
use Rattle.dnsv_zones.specs.forms.Parts.{IsHighestCut, IsOptOutWithMostLabels, OptsOut}
use Rattle.dnsv_zones.specs.forms.RecordWords.{RecordWords, words}
use Rattle.dnsv_zones.proofs.lemmas.chains.MoreLemmas.{SayMore, unsigned_cut_more}
use Rattle.dnsv_canonical.specs.Rrsets.{ReceivedRrset}
use Rattle.dnsv_denial.specs.gathering.Kept.{AreSets, AreZones}
use Rattle.dnsv_denial.specs.proving.ChainOf.{IsChainOf}
use Rattle.dnsv_proof_forms.specs.records.Numbers.{numbers_of}
use Rattle.dnsv_denial.specs.proving.ZoneChains.{chains_of}
use Rattle.dnsv_denial.specs.unsigned_cuts.Cuts.{IsUnsignedDelegationCut, IsOptOutCut}
use Rattle.dnsv_denial.specs.unsigned_cuts.Findings.{IsFewestFound, IsMostFound}
use Rattle.dnsv_denial.specs.unsigned_cuts.ShownCuts.{IsCutOf, IsOptOutOf, IsCutIn, IsOptOutIn, IsOfFirst, AreShown, AreBoth}
use Rattle.dnsv_proof_forms.specs.words.ChainSaid.{chain_said}
use Rattle.dnsv_denial.specs.gathering.EvidenceWords.{Chain, evidence_said, nsec3_said}
use Rattle.dnsv_denial.specs.gathering.EvidenceWords.Chain.{ByNsec, ByNsec3}
use Rattle.dnsv_canonical.specs.declared.number.RecordNumber.{RecordNumber}
use Rattle.dnsv_proof_forms.specs.declared.records.chain_records.ChainRecords.{ChainRecords}
use Rattle.dnsv_denial.specs.declared.unsigned_cuts.shown_cuts.ShownCuts.{ShownCuts}
use Rattle.dnsv_proof_forms.specs.declared.records.name_hashes.NameHashes.{NameHashes}
use Rattle.dnsv_denial.specs.declared.gathering.zone_records.ZoneRecords.{ZoneRecords}
use Rattle.dnsv_denial.proofs.lemmas.proving.ChainProofLemmas.{chain_alike}
use Rattle.dnsv_denial.proofs.lemmas.proving.ZoneChainLemmas.{HasOne, HasOneOf, number_of}
use Rattle.dnsv_denial.proofs.lemmas.unsigned_cuts.FindingLemmas.{fewest_as, most_as, fewest_of_both, most_of_both}
use Rattle.dnsv_proof_forms.proofs.lemmas.words.IndexLemmas.{SayAlike, words_to, words_from}

-- ---- what is found of one and another

-- what is so of the one or of the other, is so of both
pub record IsEither (P Q R : ℕ → Type 0) : Type 0 where
  pub one : (n : ℕ) → P n → R n
  pub other : (n : ℕ) → Q n → R n
  pub back : (n : ℕ) → R n → P n ⊎ Q n

pub shown_both : (P Q R A B C : ℕ → Type 0) → IsEither P Q R → IsEither A B C → (one other next : ShownCuts)
    → AreShown P A one → AreShown Q B other → AreBoth one other next → AreShown R C next
shown_both P Q R A B C cuts outs one other next first second both = record {
  fewest = fewest_of_both P Q R cuts.one cuts.other cuts.back one.no_ds other.no_ds next.no_ds first.fewest second.fewest both.lesser;
  most = most_of_both A B C outs.one outs.other outs.back one.opt_out other.opt_out next.opt_out first.most second.most both.greater;
}

pub shown_as : (P Q A B : ℕ → Type 0) → ((n : ℕ) → P n → Q n) → ((n : ℕ) → Q n → P n) → ((n : ℕ) → A n → B n) → ((n : ℕ) → B n → A n)
    → (found : ShownCuts) → AreShown P A found → AreShown Q B found
shown_as P Q A B to from leads back found is = record {
  fewest = fewest_as P Q to from found.no_ds is.fewest;
  most = most_as A B leads back found.opt_out is.most;
}

-- ---- member by member

module _ {X : Type 0} (xs : List X) where
  one_more : (P : X → ℕ → Type 0) (n : ℕ) (x : X) → slice_get xs n ≡ Some x → IsEither (IsOfFirst xs P n) (P x) (IsOfFirst xs P (n + 1))
  one_more P n x at = record {
    one = λ labels is. record { place = is.place; member = is.member; early = omega (arith, is.early); there = is.there; holds = is.holds };
    other = λ labels holds. record { place = n; member = x; early = omega arith; there = at; holds = holds };
    back = λ labels is. ⊎_elim
        (λ (before : is.place < n). inl (record { place = is.place; member = is.member; early = before; there = is.there; holds = is.holds }))
        (λ (least : n ≤ is.place). let early = is.early in let same : is.place ≡ n = omega (arith, least, early) in
        let moved : slice_get xs n ≡ Some is.member = subst (λ k. slice_get xs k ≡ Some is.member) same is.there in
        let it : is.member ≡ x = cc in inr (subst (λ (y : X). P y labels) it is.holds))
        (cases_lt is.place n);
  }

  pub shown_with : (P Q : X → ℕ → Type 0) (n : ℕ) (x : X) (found one next : ShownCuts) → slice_get xs n ≡ Some x
      → AreShown (IsOfFirst xs P n) (IsOfFirst xs Q n) found → AreShown (P x) (Q x) one → AreBoth found one next
      → AreShown (IsOfFirst xs P (n + 1)) (IsOfFirst xs Q (n + 1)) next
  shown_with P Q n x found one next at so_far here both =
      shown_both (IsOfFirst xs P n) (P x) (IsOfFirst xs P (n + 1)) (IsOfFirst xs Q n) (Q x) (IsOfFirst xs Q (n + 1))
      (one_more P n x at) (one_more Q n x at) found one next so_far here both

  pub none_shown : (P Q : X → ℕ → Type 0) → AreShown (IsOfFirst xs P 0) (IsOfFirst xs Q 0) (record { no_ds = None; opt_out = None })
  none_shown P Q = record { fewest = λ n is. absurd (omega (arith, is.early)); most = λ n is. absurd (omega (arith, is.early)) }

  of_all : (P : X → ℕ → Type 0) (n m labels : ℕ) → length xs ≤ m → IsOfFirst xs P n labels → IsOfFirst xs P m labels
  of_all P n m labels all is = record {
    place = is.place;
    member = is.member;
    early = let within = slice_get_within xs is.place is.member is.there in omega (arith, within, all);
    there = is.there;
    holds = is.holds;
  }

  pub shown_all : (P Q : X → ℕ → Type 0) (n : ℕ) (found : ShownCuts) → length xs ≤ n
      → AreShown (IsOfFirst xs P n) (IsOfFirst xs Q n) found → AreShown (IsOfFirst xs P (length xs)) (IsOfFirst xs Q (length xs)) found
  shown_all P Q n found all is =
      shown_as (IsOfFirst xs P n) (IsOfFirst xs P (length xs)) (IsOfFirst xs Q n) (IsOfFirst xs Q (length xs))
      (λ labels. of_all P n (length xs) labels (omega arith)) (λ labels. of_all P (length xs) n labels all)
      (λ labels. of_all Q n (length xs) labels (omega arith)) (λ labels. of_all Q (length xs) n labels all) found is

some_at : {X : Type 0} (xs : List X) (n : ℕ) → n < length xs → (x : X) × (slice_get xs n ≡ Some x)
some_at {X} xs n within =
    ⊎_elim (λ (some : (x : X) × (n < length xs) × (slice_get xs n ≡ Some x) × (get_or xs n x ≡ x)). (some.0, some.2))
    (λ (none : (length xs ≤ n) × (slice_get xs n ≡ None)). absurd (omega (arith, within, none.0)))
    (slice_get_cases xs n).1

-- ---- a chain

module _ (Secured : ℕ → ℕ → Type 0) (rrsets : List ReceivedRrset) (name zone : Labels) where
  outs_to : (numbers : List RecordNumber) (by : RecordWords ℕ) (of : RecordWords RecordNumber) → SayAlike numbers by of
      → (x : Labels) → (place : ℕ) × by.OptedOut x place → (n : RecordNumber) × of.OptedOut x n
  outs_to numbers by of alike x some = let it = (alike.opted_out x).to some.0 some.1 in (it.0, it.2)

  outs_from : (numbers : List RecordNumber) (by : RecordWords ℕ) (of : RecordWords RecordNumber) → SayAlike numbers by of
      → (x : Labels) → (n : RecordNumber) × of.OptedOut x n → (place : ℕ) × by.OptedOut x place
  outs_from numbers by of alike x some = let it = (alike.opted_out x).from some.0 some.1 in (it.0, it.2)

  opts_more : {I J : Type 0} (by : RecordWords I) (of : RecordWords J) → SayMore (words by) (words of)
      → ((x : Labels) → (i : I) × by.OptedOut x i → (j : J) × of.OptedOut x j) → (labels : ℕ) → OptsOut by zone name labels → OptsOut of zone name labels
  opts_more {I} {J} by of more outs labels out = record {
    above = out.above;
    encloser = more.encloser (rightmost name labels) out.encloser;
    next_closer = ⊎_elim (λ (absent : (words by).Absent (rightmost name (labels + 1))). inl (more.absent (rightmost name (labels + 1)) absent))
        (λ (left : (i : I) × by.OptedOut (rightmost name (labels + 1)) i). inr (outs (rightmost name (labels + 1)) left)) out.next_closer;
    opted_out = ⊎_elim (λ (left : (i : I) × by.OptedOut (rightmost name (labels + 1)) i). inl (outs (rightmost name (labels + 1)) left))
        (λ (left : (i : I) × by.OptedOut (wildcard_of (rightmost name labels)) i). inr (outs (wildcard_of (rightmost name labels)) left)) out.opted_out;
  }

  cuts_of : (chain : Chain) (said : RecordWords ℕ) → SayMore (words said) (words (evidence_said Secured rrsets zone chain))
      → SayMore (words (evidence_said Secured rrsets zone chain)) (words said) → (found : Option ℕ)
      → MatchOption found ((cut : Labels) → ¬ UnsignedCutForm (words said) zone name cut) (IsHighestCut said zone name)
      → IsFewestFound (IsCutOf Secured rrsets name zone chain) found
  cuts_of chain said to from None none = λ n cut.
      none (rightmost name n) (unsigned_cut_more (words (evidence_said Secured rrsets zone chain)) (words said) from zone name (rightmost name n) cut.form)
  cuts_of chain said to from (Some m) is = record {
    holds = record { fits = is.at_or_above; form = unsigned_cut_more (words said) (words (evidence_said Secured rrsets zone chain)) to zone name (rightmost name m) is.cut };
    fewest = λ fewer less cut.
        is.fewest fewer less (unsigned_cut_more (words (evidence_said Secured rrsets zone chain)) (words said) from zone name (rightmost name fewer) cut.form);
  }

  outs_of : (Out : ℕ → Type 0) (said : RecordWords ℕ) → ((n : ℕ) → OptsOut said zone name n → Out n) → ((n : ℕ) → Out n → OptsOut said zone name n) → (found : Option ℕ)
      → MatchOption found ((n : ℕ) → ¬ OptsOut said zone name n) (IsOptOutWithMostLabels said zone name) → IsMostFound Out found
  outs_of Out said to from None none = λ n out. none n (from n out)
  outs_of Out said to from (Some m) is = record {
    holds = to m is.opts_out;
    most = λ more less out. let no_more = is.most more (from more out) in omega (arith, no_more, less);
  }

  pub chain_shown : (chain : Chain) (records : ChainRecords) → IsChainOf Secured rrsets zone chain records → (found : ShownCuts)
      → MatchOption found.no_ds ((cut : Labels) → ¬ UnsignedCutForm (words (chain_said zone records)) zone name cut) (IsHighestCut (chain_said zone records) zone name)
      → MatchOption found.opt_out ((n : ℕ) → ¬ OptsOut (chain_said zone records) zone name n) (IsOptOutWithMostLabels (chain_said zone records) zone name)
      → AreShown (IsCutOf Secured rrsets name zone chain) (IsOptOutOf Secured rrsets name zone chain) found
  chain_shown chain records are found cuts outs =
      let by = chain_said zone records in
      let of = evidence_said Secured rrsets zone chain in
      let alike = chain_alike Secured rrsets zone chain records are in
      let to = words_to (numbers_of records) by of alike in
      let from = words_from (numbers_of records) by of alike in
      record {
        fewest = cuts_of chain by to from found.no_ds cuts;
        most = outs_of (IsOptOutOf Secured rrsets name zone chain) by
            (opts_more by of to (outs_to (numbers_of records) by of alike)) (opts_more of by from (outs_from (numbers_of records) by of alike))
            found.opt_out outs;
      }

-- ---- a zone

module _ (Secured : ℕ → ℕ → Type 0) (rrsets : List ReceivedRrset) (name zone : Labels) (sets : List NameHashes) (are : AreSets Secured rrsets sets) where
  cut_has_one : (labels : ℕ) (chain : Chain) → IsCutOf Secured rrsets name zone chain labels → HasOneOf Secured rrsets zone chain
  cut_has_one labels ByNsec cut = tt
  cut_has_one labels (ByNsec3 parameters) cut =
      let said = cut.form.types in record { number = said.0; nsec3 = said.1.0; is = said.1.1; same = said.1.2.0.same_parameters }

  out_one : (parameters : Parameters) (x y : Labels) → ((n : RecordNumber) × (nsec3_said Secured rrsets zone parameters).OptedOut x n) ⊎ ((n : RecordNumber) × (nsec3_said Secured rrsets zone parameters).OptedOut y n)
      → HasOne Secured rrsets zone parameters
  out_one parameters x y (inl said) = record { number = said.0; nsec3 = said.1.0; is = said.1.1; same = said.1.2.0.same_parameters }
  out_one parameters x y (inr said) = record { number = said.0; nsec3 = said.1.0; is = said.1.1; same = said.1.2.0.same_parameters }

  out_has_one : (labels : ℕ) (chain : Chain) → IsOptOutOf Secured rrsets name zone chain labels → HasOneOf Secured rrsets zone chain
  out_has_one labels ByNsec out = tt
  out_has_one labels (ByNsec3 parameters) out = out_one parameters (rightmost name (labels + 1)) (wildcard_of (rightmost name labels)) out.opted_out

  pub zone_shown : (found : ShownCuts)
      → AreShown (IsOfFirst (chains_of sets) (IsCutOf Secured rrsets name zone) (length (chains_of sets))) (IsOfFirst (chains_of sets) (IsOptOutOf Secured rrsets name zone) (length (chains_of sets))) found
      → AreShown (IsCutIn Secured rrsets name zone) (IsOptOutIn Secured rrsets name zone) found
  zone_shown found is =
      shown_as (IsOfFirst (chains_of sets) (IsCutOf Secured rrsets name zone) (length (chains_of sets))) (IsCutIn Secured rrsets name zone)
      (IsOfFirst (chains_of sets) (IsOptOutOf Secured rrsets name zone) (length (chains_of sets))) (IsOptOutIn Secured rrsets name zone)
      (λ n of. record { chain = of.member; cut = of.holds })
      (λ n is. let it = number_of Secured rrsets zone sets are is.chain (cut_has_one n is.chain is.cut) in record {
        place = it.0;
        member = is.chain;
        early = slice_get_within (chains_of sets) it.0 is.chain it.1;
        there = it.1;
        holds = is.cut;
      })
      (λ n of. record { chain = of.member; out = of.holds })
      (λ n is. let it = number_of Secured rrsets zone sets are is.chain (out_has_one n is.chain is.out) in record {
        place = it.0;
        member = is.chain;
        early = slice_get_within (chains_of sets) it.0 is.chain it.1;
        there = it.1;
        holds = is.out;
      })
      found is

-- ---- all zones

module _ (Secured : ℕ → ℕ → Type 0) (rrsets : List ReceivedRrset) (name : Labels) (zones : List ZoneRecords) (are : AreZones Secured rrsets name zones) where
  its_place : (n : ℕ) (zone : ZoneRecords) → slice_get zones n ≡ Some zone → n ≤ length name
  its_place n zone there = let within = slice_get_within zones n zone there in let count = are.count in omega (arith, within, count)

  the_zone : (n : ℕ) → n ≤ length name → (zone : ZoneRecords) × (slice_get zones n ≡ Some zone)
  the_zone n within = let count = are.count in some_at zones n (omega (arith, within, count))

  pub all_shown : (found : ShownCuts)
      → AreShown (IsOfFirst zones (λ zone. IsCutIn Secured rrsets name zone.zone) (length zones)) (IsOfFirst zones (λ zone. IsOptOutIn Secured rrsets name zone.zone) (length zones)) found
      → AreShown (IsUnsignedDelegationCut Secured rrsets name) (IsOptOutCut Secured rrsets name) found
  all_shown found is =
      shown_as (IsOfFirst zones (λ zone. IsCutIn Secured rrsets name zone.zone) (length zones)) (IsUnsignedDelegationCut Secured rrsets name)
      (IsOfFirst zones (λ zone. IsOptOutIn Secured rrsets name zone.zone) (length zones)) (IsOptOutCut Secured rrsets name)
      (λ n of. let cut : IsCutIn Secured rrsets name (rightmost name of.place) n = subst (λ (z : Labels). IsCutIn Secured rrsets name z n) (are.each of.place of.member of.there).0 of.holds in
      (cut.cut.fits, of.place, its_place of.place of.member of.there, cut.chain, cut.cut.form))
      (λ n cut. let zone = the_zone cut.1 cut.2 in record {
        place = cut.1;
        member = zone.0;
        early = slice_get_within zones cut.1 zone.0 zone.1;
        there = zone.1;
        holds = subst (λ (z : Labels). IsCutIn Secured rrsets name z n) (sym (are.each cut.1 zone.0 zone.1).0)
            (record { chain = cut.3; cut = record { fits = cut.0; form = cut.4 } });
      })
      (λ n of. let out : IsOptOutIn Secured rrsets name (rightmost name of.place) n = subst (λ (z : Labels). IsOptOutIn Secured rrsets name z n) (are.each of.place of.member of.there).0 of.holds in
      (of.place, its_place of.place of.member of.there, out.chain, out.out))
      (λ n out. let zone = the_zone out.0 out.1 in record {
        place = out.0;
        member = zone.0;
        early = slice_get_within zones out.0 zone.0 zone.1;
        there = zone.1;
        holds = subst (λ (z : Labels). IsOptOutIn Secured rrsets name z n) (sym (are.each out.0 zone.0 zone.1).0) (record { chain = out.2; out = out.3 });
      })
      found is
