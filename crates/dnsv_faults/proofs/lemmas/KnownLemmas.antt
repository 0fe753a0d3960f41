-- Which zones are known: the speakers by their numbers of labels, and the zones one after another.
use Rattle.std.proofs.Common.{◌≡◌, ◌≢◌, ◌↔◌, ◌⊎◌, ◌+◌, ◌-◌, ◌<◌, ◌≤◌, ◌==◌, ◌||◌, ℕ, Bool, true, false, not, inl, inr, ⊎_elim, List, [], ◌∷◌, ◌++◌, length, get_or, refl, sym, ap, ◌∙◌, subst, arith, IsTrue, length-append}
use Rattle.std.proofs.Math.Seq.{get_or-append_seam}
use Rattle.std.proofs.lemmas.Bool.{cases_lt, false≢true}
use Rattle.std.proofs.lemmas.Bool.Decides.{nat_tests}
use Rattle.std.proofs.lemmas.List.{get_or_append_left}
use Rattle.std.proofs.lemmas.Option.{get_or_from_slice_get, slice_get_within}
use Rattle.std.proofs.lemmas.List.Elements.{All-contains, All-from_recursion, Contains-get_or}
use Rattle.std.specs.List.{AllZip, Contains}
use Rattle.dnsv_names.specs.Name.{Labels, IsAtOrBelow, SameName, rightmost}
use Rattle.dnsv_names.specs.Tree.AncestorLaws.{rightmost_above, rightmost_below, rightmost_length, rightmost_same}
use Rattle.dnsv_names.specs.Tree.TreeLaws.{at_or_below_length, at_or_below_respects, below_by_length, below_length, below_respects, same_labels}
use Rattle.dnsv_records.specs.Rrsig.{IsRrsig}
use Rattle.dnsv_records.specs.declared.rrsig.Rrsig.{Rrsig}
use Rattle.dnsv_records.proofs.OneRecord.{one_rrsig}
use Rattle.dnsv_canonical.specs.Index.{numbers_at}
use Rattle.dnsv_canonical.specs.Rrsets.{IsNumbered, ReceivedRrset}
use Rattle.dnsv_chain.proofs.ZipLemmas.{zip_at, zip_length}
use Rattle.dnsv_chain.specs.Basis.{Basis}
use Rattle.dnsv_chain.proofs.NumberedLemmas.{numbers_are}
use Rattle.dnsv_canonical.proofs.NumberLemmas.{IsOneAt}
use Rattle.dnsv_verifier.proofs.AskLemmas.{adds_nothing, adds_same}
use Rattle.dnsv_verifier.specs.Admissible.{IsSignatureOf}
use Rattle.dnsv_verifier.specs.Asking.{AddsJust, ComesOfSome}
use Rattle.dnsv_faults.specs.KnownZones.KnownSearch.{AreKnownTo, AreSpoken, IsAbove, IsSignedFromAbove, IsSignerAbove, IsSpokenBy}
use Rattle.dnsv_faults.specs.KnownZones.{HasOwnAnchor, HasRrset, IsFromAbove, IsKnownZone, IsSpeaker, MaySpeak}
use Rattle.dnsv_zone_keys.specs.Keys.{HasKeys}
use Rattle.dnsv_zone_keys.proofs.lemmas.IndexLemmas.{numbered_at}

-- ---- above a name

pub never_above : (name signer : Labels) (from_above : Bool) → ¬ IsAtOrBelow name signer → IsTrue false ↔ IsAbove name from_above signer
never_above name signer from_above not = (λ yes. absurd (false≢true yes), λ is. absurd (not is.at))

pub above_by_labels : (name signer : Labels) (from_above b : Bool) → IsAtOrBelow name signer → (IsTrue b ↔ (length signer < length name))
    → IsTrue (not from_above || b) ↔ IsAbove name from_above signer
above_by_labels name signer false b at test = (λ yes. record { at = at; properly = λ never. absurd (false≢true never) }, λ is. refl)
above_by_labels name signer true b at test = (
  λ yes. record { at = at; properly = λ it. below_by_length name signer at (test.0 yes) },
  λ is. test.1 (below_length name signer (is.properly refl)),
)

-- ---- signers

pub signer_added : (name signer : Labels) (from_above : Bool) (old new : List ℕ) → IsAbove name from_above signer
    → AddsJust (λ n. n ≡ length signer) old new → AddsJust (IsSignerAbove name from_above signer) old new
signer_added name signer from_above old new above adds =
    adds_same (λ n. n ≡ length signer) (IsSignerAbove name from_above signer) old new adds (λ n is. record { above = above; labels = is })
    (λ n is. is.labels)

module _ (rrset : ReceivedRrset) (rrsigs : List Rrsig) (each : AllZip IsRrsig rrset.signatures rrsigs) where
  pub read_of : (rrsig : Rrsig) → Contains rrsigs rrsig → IsSignatureOf rrset rrsig
  read_of rrsig there =
      let size = zip_length IsRrsig rrset.signatures rrsigs each in
      let within = there.1 in
      let inside : there.0 < length rrset.signatures = omega (arith, size, within) in (
        get_or rrset.signatures there.0 [],
        Contains-get_or rrset.signatures there.0 [] inside,
        subst (λ (r : Rrsig). IsRrsig (get_or rrset.signatures there.0 []) r) there.2
            (zip_at IsRrsig rrset.signatures rrsigs there.0 [] rrsig each inside),
      )

  pub read_in : (rrsig : Rrsig) → IsSignatureOf rrset rrsig → Contains rrsigs rrsig
  read_in rrsig its =
      let size = zip_length IsRrsig rrset.signatures rrsigs each in
      let k : ℕ = its.1.0 in
      let within : k < length rrset.signatures = its.1.1 in
      let there : IsRrsig its.0 (get_or rrsigs k rrsig) =
      subst (λ (rdata : List ℕ). IsRrsig rdata (get_or rrsigs k rrsig)) its.1.2
      (zip_at IsRrsig rrset.signatures rrsigs k its.0 rrsig each within) in
      (k, omega (arith, size, within), sym (one_rrsig its.0 rrsig (get_or rrsigs k rrsig) its.2 there))

  pub signers_added : (name : Labels) (from_above : Bool) (old new : List ℕ)
      → AddsJust (ComesOfSome (λ (rrsig : Rrsig). IsSignerAbove name from_above rrsig.signer) rrsigs) old new
      → AddsJust (IsSignedFromAbove name from_above rrset) old new
  signers_added name from_above old new adds =
      adds_same (ComesOfSome (λ (rrsig : Rrsig). IsSignerAbove name from_above rrsig.signer) rrsigs) (IsSignedFromAbove name from_above rrset) old new adds
      (λ n of. record { rrsig = of.source; its = read_of of.source of.among; signer = of.is })
      (λ n is. record { source = is.rrsig; among = read_in is.rrsig is.its; is = is.signer })

-- ---- speakers

module _ (name : Labels) (t : ℕ) (rrset : ReceivedRrset) where
  pub speakers_added : (from_above : Bool) (old new : List ℕ) → MaySpeak name t rrset → (IsTrue from_above ↔ IsFromAbove t rrset)
      → AddsJust (IsSignedFromAbove name from_above rrset) old new → AddsJust (IsSpokenBy name t rrset) old new
  speakers_added from_above old new may test adds =
      adds_same (IsSignedFromAbove name from_above rrset) (IsSpokenBy name t rrset) old new adds
      (λ n is.
      let signer = is.rrsig.signer in
      let above = is.signer.above in
      let fewer = at_or_below_length name signer above.at in
      let labels = is.signer.labels in
      let same : SameName signer (rightmost name n) =
      subst (λ (k : ℕ). SameName signer (rightmost name k)) (sym labels) (sym (rightmost_same name signer above.at)) in
      record {
        may = may;
        within = omega (arith, labels, fewer);
        speaks = record {
          rrsig = is.rrsig;
          its = is.its;
          signer = same;
          above = rightmost_above name n;
          properly = λ from. below_respects name name signer (rightmost name n) refl same (above.properly (test.1 from));
        };
      })
      (λ n is.
      let speaks = is.speaks in
      let back : SameName (rightmost name n) speaks.rrsig.signer = sym speaks.signer in
      record {
        rrsig = speaks.rrsig;
        its = speaks.its;
        signer = record {
          above = record {
            at = at_or_below_respects name name (rightmost name n) speaks.rrsig.signer refl back speaks.above;
            properly = λ yes. below_respects name name (rightmost name n) speaks.rrsig.signer refl back (speaks.properly (test.0 yes));
          };
          labels = sym (rightmost_length name n is.within) ∙ same_labels (rightmost name n) speaks.rrsig.signer back;
        };
      })

  pub no_speakers : (old : List ℕ) → ¬ MaySpeak name t rrset → AddsJust (IsSpokenBy name t rrset) old old
  no_speakers old not = adds_nothing (IsSpokenBy name t rrset) old (λ n is. not is.may)

nothing_in : {X : Type 0} (x : X) → ¬ Contains [] x
nothing_in x there = let within = there.1 in absurd (omega (arith, within))

pub all_spoken : (rrsets : List ReceivedRrset) (name : Labels) (t : ℕ) (numbers : List ℕ)
    → AddsJust (ComesOfSome (IsSpokenBy name t) rrsets) [] numbers → AreSpoken rrsets name t numbers
all_spoken rrsets name t numbers adds n within = (
  λ there. ⊎_elim (λ (none : Contains [] n). absurd (nothing_in n none))
      (λ (of : ComesOfSome (IsSpokenBy name t) rrsets n).
      record { rrset = of.source; among = of.among; may = of.is.may; speaks = of.is.speaks })
      (adds.only n there),
  λ is. adds.added n (record { source = is.rrset; among = is.among; is = record { may = is.may; within = within; speaks = is.speaks } }),
)

-- the number is there already
pub adds_there : (xs : List ℕ) (e : ℕ) (ys : List ℕ) → ys ≡ xs → Contains ys e → AddsJust (λ n. n ≡ e) xs xs
adds_there xs e ys same there =
    let In : List ℕ → Type 0 = λ each. Contains each e in
    let Of : ℕ → Type 0 = λ n. Contains xs n in record {
      kept = λ n was. was;
      added = λ n is. subst Of (sym is) (subst In same there);
      only = λ n was. inl was;
    }

-- ---- RRsets at a zone

module _ (rrsets : List ReceivedRrset) (zone : Labels) (rtype : ℕ) (numbers : List ℕ) (is : numbers ≡ numbers_at rrsets zone rtype) where
  one_among : (k : ℕ) → Contains numbers k → IsOneAt rrsets zone rtype k
  one_among k there =
      All-contains (IsOneAt rrsets zone rtype) numbers k (All-from_recursion (IsOneAt rrsets zone rtype) numbers (numbers_are rrsets zone rtype numbers is).each) there

  first_there : (ns : List ℕ) (b : Bool) → b ≡ (length ns == 0) → b ≡ false → (k : ℕ) × Contains ns k
  first_there [] b test so = let turned : true ≡ false = sym test ∙ so in absurd (cc turned)
  first_there (n ∷ ns) b test so = (n, (0, omega arith, refl))

  among_all : (k : ℕ) (rrset : ReceivedRrset) → IsNumbered rrsets k rrset → Contains rrsets rrset
  among_all k rrset numbered = (k - 1, slice_get_within rrsets (k - 1) rrset numbered.1, get_or_from_slice_get rrsets (k - 1) rrset rrset numbered.1)

  pub some_at : (b : Bool) → b ≡ (length numbers == 0) → IsTrue (not b) ↔ HasRrset rrsets zone rtype
  some_at b test = (
    λ so.
        let there = first_there numbers b test (off b so) in
        let one = one_among there.0 there.1 in
        record { rrset = one.rrset; among = among_all there.0 one.rrset one.is_rrset; owner = one.owner; its_type = one.same_type },
    λ has.
        let number = numbered_at rrsets rrsets has.among.0 has.rrset refl has.among.1 (sym has.among.2) in
        let there = (numbers_are rrsets zone rtype numbers is).all (has.among.0 + 1) (record { rrset = has.rrset; is_rrset = number; owner = has.owner; same_type = has.its_type }) in
        on b (not_none numbers b (has.among.0 + 1) test there),
  ) where
    off : (b : Bool) → IsTrue (not b) → b ≡ false
    off true so = absurd (false≢true so)
    off false so = refl

    on : (b : Bool) → b ≡ false → IsTrue (not b)
    on true so = absurd (false≢true (sym so))
    on false so = refl

    not_none : (ns : List ℕ) (b : Bool) (k : ℕ) → b ≡ (length ns == 0) → Contains ns k → b ≡ false
    not_none [] b k test there = absurd (let within = there.1 in omega (arith, within))
    not_none (n ∷ ns) b k test there =
        let some : (length (n ∷ ns) == 0) ≡ false = grind (arith, nat_tests) in test ∙ some

-- ---- known zones

module _ (basis : Basis) (name : Labels) (t labels : ℕ) (within : labels ≤ length name) where
  abbrev zone : Labels
  zone = rightmost name labels

  pub properly_known : IsKnownZone basis name t zone → t ≡ 43 → labels < length name
  properly_known known asked =
      let fewer = below_length name zone (known.properly asked) in
      let size = rightmost_length name labels within in
      omega (arith, fewer, size)

  pub is_known : (t ≡ 43 → labels < length name)
      → (HasOwnAnchor basis.anchors zone ⊎ HasRrset basis.rrsets zone 43 ⊎ HasRrset basis.rrsets zone 48 ⊎ IsSpeaker basis.rrsets name t zone)
      → IsKnownZone basis name t zone
  is_known proper known = record { above = rightmost_above name labels; properly = λ asked. rightmost_below name labels (proper asked); known = known }

  pub known_speaker : IsKnownZone basis name t zone → ¬ HasOwnAnchor basis.anchors zone → ¬ HasRrset basis.rrsets zone 43
      → ¬ HasRrset basis.rrsets zone 48 → IsSpeaker basis.rrsets name t zone
  known_speaker is own ds keys = last is.known where
    last : (HasOwnAnchor basis.anchors zone ⊎ HasRrset basis.rrsets zone 43 ⊎ HasRrset basis.rrsets zone 48 ⊎ IsSpeaker basis.rrsets name t zone)
        → IsSpeaker basis.rrsets name t zone
    last (inl has) = absurd (own has)
    last (inr (inl has)) = absurd (ds has)
    last (inr (inr (inl has))) = absurd (keys has)
    last (inr (inr (inr speaker))) = speaker

pub more_known : (basis : Basis) (name : Labels) (t n : ℕ) (old : List Bool) (b : Bool) → AreKnownTo basis name t n old
    → (IsTrue b ↔ IsKnownZone basis name t (rightmost name n)) → AreKnownTo basis name t (n + 1) (old ++ b ∷ [])
more_known basis name t n old b so_far one = record {
  count = length-append old (b ∷ []) ∙ ap (λ (k : ℕ). k + 1) so_far.count;
  each = λ m below. ⊎_elim
      (λ (earlier : m < n).
      let size = so_far.count in
      let at : get_or (old ++ b ∷ []) m false ≡ get_or old m false = get_or_append_left old (b ∷ []) false m (omega (arith, earlier, size)) in
      subst (λ (x : Bool). IsTrue x ↔ IsKnownZone basis name t (rightmost name m)) (sym at) (so_far.each m earlier))
      (λ (last : n ≤ m).
      let size = so_far.count in
      let place : m ≡ length old = omega (arith, last, below, size) in
      let number : n ≡ m = omega (arith, last, below) in
      let at : get_or (old ++ b ∷ []) m false ≡ b = ap (λ (i : ℕ). get_or (old ++ b ∷ []) i false) place ∙ get_or-append_seam old b [] false in
      subst (λ (x : Bool). IsTrue x ↔ IsKnownZone basis name t (rightmost name m)) (sym at)
      (subst (λ (k : ℕ). IsTrue b ↔ IsKnownZone basis name t (rightmost name k)) number one))
      (cases_lt m n);
}

-- an RRset of keys is there where there are keys
pub has_keys : (rrsets : List ReceivedRrset) (zone : Labels) → HasRrset rrsets zone 48 ↔ HasKeys rrsets zone
has_keys rrsets zone =
    let numbers = numbers_at rrsets zone 48 in
    let same = some_at rrsets zone 48 numbers refl (length numbers == 0) refl in (
      λ has none.
          let empty : not (length numbers == 0) ≡ false = ap (λ (ns : List ℕ). not (length ns == 0)) none in
          false≢true (sym empty ∙ same.1 has),
      λ keys. same.0 (some_numbers numbers keys),
    ) where
      some_numbers : (ns : List ℕ) → ns ≢ [] → IsTrue (not (length ns == 0))
      some_numbers [] some = absurd (some refl)
      some_numbers (n ∷ ns) some = let size : (length (n ∷ ns) == 0) ≡ false = grind (arith, nat_tests) in ap not size
