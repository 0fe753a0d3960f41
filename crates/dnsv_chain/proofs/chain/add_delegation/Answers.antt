use Rattle.std.proofs.Common.{◌≡◌, ◌<◌, ◌==◌, ℕ, Bool, true, false, length, refl, ap, ◌∙◌, List, arith, subst, ◌++◌, ◌∷◌, [], if◌then◌else◌}
use Rattle.std.proofs.lemmas.Bool.Decides.{nat_tests}
use Rattle.dnsv_names.specs.Name.{Labels, same_name}
use Rattle.dnsv_verifier.specs.Table.{table_answer}
use Rattle.dnsv_anchors.specs.ByOwner.{values_at}
use Rattle.dnsv_chain.specs.ByOwner.{rrsets_at}
use Rattle.dnsv_chain.proofs.ChainLemmas.{delegation_added, delegation_skipped}
use Rattle.dnsv_chain.proofs.chain.add_delegation.Goals as goal
use Rattle.dnsv_chain.proofs.chain.add_delegation.Goals.{then-not-is_empty+in_ok-add, else-not-is_empty}

some_there : (n : ℕ) (b : Bool) → b ≡ (n == 0) → b ≡ false → 0 < n
some_there n b is none = grind (arith, nat_tests)

none_there : (n : ℕ) (b : Bool) → b ≡ (n == 0) → b ≡ true → n ≡ 0
none_there n b is none = grind (arith, nat_tests)

pub returns : goal.returns
returns c =
    let table = c.args.ds.now.table.now in
    let ds = c.args.ds.now.rrset.now in
    let numbers : List ℕ = c.in_ok-numbers.numbers.items in
    let size : length c.as_slice.result.now ≡ length numbers = ap (λ (list : List ℕ). length list) c.as_slice.ensures.value in
    let test : c.is_empty.result ≡ (length numbers == 0) = c.is_empty.ensures ∙ ap (λ (n : ℕ). n == 0) size in
    elim c.if-not-is_empty.branch [
      | then-not-is_empty+in_ok-add w ↦
          let adds : (name : Labels) → values_at w.add.new.by_owner name ≡ values_at c.args.delegations.now name ++ (if same_name name ds.owner then c.args.ds.now.rrset ∷ [] else []) =
          subst (λ (owner : Labels). (name : Labels) → values_at w.add.new.by_owner name ≡ values_at c.args.delegations.now name ++ (if same_name name owner then c.args.ds.now.rrset ∷ [] else [])) w.owner.ensures w.in_ok-add.ensures in
          rw w.delegations-is (delegation_added (table_answer table) table.moment (values_at c.args.keys.now) ds numbers c.in_ok-numbers.ensures (values_at c.args.delegations.now) (values_at w.add.new.by_owner) c.args.ds.now.rrset (some_there (length numbers) c.is_empty.result test w.if-not-is_empty.true) refl adds)
      | else-not-is_empty w ↦
          rw w.delegations-is (delegation_skipped (table_answer table) table.moment (values_at c.args.keys.now) ds numbers c.in_ok-numbers.ensures (rrsets_at c.args.delegations.now) (none_there (length numbers) c.is_empty.result test w.if-not-is_empty.false))
    ]
