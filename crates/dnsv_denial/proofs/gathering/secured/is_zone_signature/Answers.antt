use Rattle.std.proofs.Common.{Bool, IsTrue, List, ℕ, ◌↔◌, ◌-◌, ◌<◌, ◌≤◌, ◌≡◌, ⊎_elim, length, refl, arith, slice_index_or}
use Rattle.std.specs.Prelude.{Some, slice_get}
use Rattle.std.proofs.lemmas.Option.{slice_get_read, slice_get_past}
use Rattle.dnsv_names.specs.Name.{Labels, SameName, same_name}
use Rattle.dnsv_names.specs.Order.OrderLaws.{same_name_Decides}
use Rattle.dnsv_records.specs.declared.rrsig.Rrsig.{Rrsig}
use Rattle.dnsv_denial.proofs.lemmas.gathering.GatherLemmas.{zone_signature, its_zone_signature, no_zone_signature, unnumbered, is_not_false, not_true}
use Rattle.dnsv_denial.proofs.gathering.secured.is_zone_signature.Goals as goal

there : (rrsigs : List Rrsig) (number : ℕ) (rrsig : Rrsig) → ¬ (number ≡ 0) → number ≤ length rrsigs → rrsig ≡ slice_index_or rrsigs (number - 1) rrsig → slice_get rrsigs (number - 1) ≡ Some rrsig
there rrsigs number rrsig not_zero within at = slice_get_read rrsigs (length rrsigs) (number - 1) rrsig refl (omega arith) at

from_one : (number : ℕ) → ¬ (number ≡ 0) → 1 ≤ number
from_one number not_zero = omega arith

same : (answer : Bool) (a b : Labels) → answer ≡ same_name a b → IsTrue answer ↔ SameName a b
same answer a b is = rw is (same_name_Decides a b)

pub returns-then-number-eq0 : goal.returns-then-number-eq0
returns-then-number-eq0 c = (
  λ false_is. cc,
  λ has. absurd (⊎_elim
      (λ (zero_is : c.args.number ≡ 0). unnumbered c.args.rrset.now c.args.zone.now c.args.number zero_is has)
      (λ (past : (c.args.number ≡ 0 → ⊥) × length c.signatures-rrsigs.result.now < c.args.number). no_zone_signature c.args.rrset.now c.args.zone.now c.args.number c.signatures-rrsigs.result.now c.signatures-rrsigs.ensures
      (slice_get_past c.signatures-rrsigs.result.now (c.args.number - 1) (omega (arith, past.1))) has)
      c.then-number-eq0.either),
)

pub returns-then-is_same : goal.returns-then-is_same
returns-then-is_same c =
    let at = there c.signatures-rrsigs.result.now c.args.number c.index-rrsigs-number.result c.if-number-eq0.false (omega (arith, c.if-number-rrsigs.false)) c.index-rrsigs-number.is in
    let plain = rw c.owner.ensures at c.is_expanded.ensures in (
      λ yes. zone_signature c.args.rrset.now c.args.zone.now c.args.number c.signatures-rrsigs.result.now c.index-rrsigs-number.result c.signatures-rrsigs.ensures (from_one c.args.number c.if-number-eq0.false) at ((same c.is_same.result c.index-rrsigs-number.result.signer c.args.zone.now c.is_same.ensures).0 c.if-is_same.true) (λ expanded. is_not_false c.is_expanded.result yes (plain.1 expanded)),
      λ has. let its = its_zone_signature c.args.rrset.now c.args.zone.now c.args.number c.signatures-rrsigs.result.now c.index-rrsigs-number.result c.signatures-rrsigs.ensures at has in not_true c.is_expanded.result (λ yes. its.1 (plain.0 yes)),
    )

pub returns : goal.returns
returns c =
    let at = there c.signatures-rrsigs.result.now c.args.number c.index-rrsigs-number.result c.if-number-eq0.false (omega (arith, c.if-number-rrsigs.false)) c.index-rrsigs-number.is in (
      λ false_is. cc,
      λ has. let its = its_zone_signature c.args.rrset.now c.args.zone.now c.args.number c.signatures-rrsigs.result.now c.index-rrsigs-number.result c.signatures-rrsigs.ensures at has in
          let yes = (same c.is_same.result c.index-rrsigs-number.result.signer c.args.zone.now c.is_same.ensures).1 its.0 in let isnt = c.if-is_same.false in cc,
    )
