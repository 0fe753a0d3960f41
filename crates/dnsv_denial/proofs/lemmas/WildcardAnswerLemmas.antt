-- What is kept of answers from wildcards, by zones however they are spelled.
use Rattle.std.proofs.Common.{◌≡◌, ◌+◌, length, ℕ, Bool, true, false, cond, List, Option, Some, None, is_some, not, refl, sym, ◌∙◌, subst}
use Rattle.std.proofs.lemmas.Bool.{false≢true}
use Rattle.std.proofs.lemmas.Cmp.{ranked}
use Rattle.std.specs.BTreeMap.{BTreeMap, Updates, get}
use Rattle.std.specs.Cmp.{Equal-is}
use Rattle.std.specs.Prelude.{MatchOption}
use Rattle.std.specs.Ordering.{is_eq, nat_cmp}
use Rattle.std.specs.declared.cmp.Ordering.TheVariants.{Equal}
use Rattle.dnsv_names.specs.Name.{IsAtOrBelow, Labels, SameName, rightmost}
use Rattle.dnsv_names.specs.Tree.AncestorLaws.{rightmost_same}
use Rattle.dnsv_canonical.specs.Rrsets.{ReceivedRrset}
use Rattle.dnsv_chain.proofs.ChainLemmas.KnownLemmas.{both_equal}
use Rattle.dnsv_denial.specs.WildcardAnswers.{AreAnswers, IsShown, asked_cmp}
use Rattle.dnsv_denial.specs.declared.wildcard_answers.Shown.{Shown}
use Rattle.dnsv_denial.proofs.lemmas.proving.RespelledZoneLemmas.{above_as, closer_as, opted_out_as}

pub none_of : {X : Type 0} (found : Option X) (No : Type 0) (Yes : X → Type 0) → is_some found ≡ false → MatchOption found No Yes → No
none_of None No Yes is tells = tells
none_of (Some x) No Yes is tells = absurd (false≢true (sym is))

pub isnt : (b : Bool) → not b ≡ true → b ≡ false
isnt true is = sym is
isnt false is = refl

equal_numbers : (a b : ℕ) → is_eq (nat_cmp a b) ≡ true → a ≡ b
equal_numbers a b same = ranked a b Equal (sym ((Equal-is (nat_cmp a b)).0 same))

-- what compares as equal are the same two numbers
same_asked : (a b : ℕ × ℕ) → is_eq (asked_cmp a b) ≡ true → (a.0 ≡ b.0) × (a.1 ≡ b.1)
same_asked a b same =
    let both = both_equal (nat_cmp a.0 b.0) (nat_cmp a.1 b.1) same in (equal_numbers a.0 b.0 both.0, equal_numbers a.1 b.1 both.1)

module _ (Secured : ℕ → ℕ → Type 0) (rrsets : List ReceivedRrset) (name : Labels) where
  -- another spelling
  shown_as : (labels : ℕ) (a b : Labels) (shown : Shown) → SameName a b → IsShown Secured rrsets name labels a shown → IsShown Secured rrsets name labels b shown
  shown_as labels a b shown same is = record {
    closer = λ none proved. is.closer none (proved.0, closer_as Secured rrsets name labels b a (sym same) proved.0 proved.1);
    not_opted_out = λ none has. is.not_opted_out none (record {
      above = above_as Secured rrsets name labels b a (sym same) has.above;
      chain = has.chain;
      covering = has.covering;
      opted_out = opted_out_as Secured rrsets name labels b a (sym same) has.chain (rightmost name (labels + 1)) has.covering has.opted_out;
    });
  }

  -- the zone with so many labels is the name's own
  pub shown_here : (labels count : ℕ) (zone : Labels) (shown : Shown) → IsAtOrBelow name zone → count ≡ length zone
      → IsShown Secured rrsets name labels zone shown → IsShown Secured rrsets name labels (rightmost name count) shown
  shown_here labels count zone shown under same is =
      shown_as labels zone (rightmost name count) shown
      (sym (subst (λ (n : ℕ). SameName (rightmost name n) zone) (sym same) (rightmost_same name zone under))) is

  pub shown_there : (labels count : ℕ) (zone : Labels) (shown : Shown) (answers : BTreeMap (ℕ × ℕ) Shown) → IsAtOrBelow name zone → count ≡ length zone
      → get asked_cmp answers (count, labels) ≡ Some shown → AreAnswers Secured rrsets name answers → IsShown Secured rrsets name labels zone shown
  shown_there labels count zone shown answers under same found are =
      shown_as labels (rightmost name count) zone shown
      (subst (λ (n : ℕ). SameName (rightmost name n) zone) (sym same) (rightmost_same name zone under))
      (are.each (count, labels) shown found)

  -- one more
  pub answer_more : (old new : BTreeMap (ℕ × ℕ) Shown) (key : ℕ × ℕ) (shown : Shown) → AreAnswers Secured rrsets name old
      → Updates asked_cmp old new key (Some shown) → IsShown Secured rrsets name key.1 (rightmost name key.0) shown
      → AreAnswers Secured rrsets name new
  answer_more old new key shown answers updates is = record {
    each = λ q other found. elim (is_eq (asked_cmp key q)) as (λ b. is_eq (asked_cmp key q) ≡ b → cond b (Some shown) (get asked_cmp old q) ≡ Some other
        → IsShown Secured rrsets name q.1 (rightmost name q.0) other) [
          | true ↦ λ same there.
              let alike = same_asked key q same in
              let one : shown ≡ other = cc in
              subst (λ (x : Shown). IsShown Secured rrsets name q.1 (rightmost name q.0) x) one
              (subst (λ (n : ℕ). IsShown Secured rrsets name q.1 (rightmost name n) shown) alike.0 (subst (λ (n : ℕ). IsShown Secured rrsets name n (rightmost name key.0) shown) alike.1 is))
          | false ↦ λ _ there. answers.each q other there
        ] refl (sym (updates.0 q) ∙ found);
  }
