-- Below the owner, the record is no cut above the name where it isn't closed.
use Rattle.std.proofs.Common.{Bool, true, false, refl, IsTrue}
use Rattle.std.specs.Prelude.{not}
use Rattle.std.specs.Bool.{Decides}
use Rattle.std.specs.FinSet as set
use Rattle.dnsv_names.specs.Order.OrderLaws.{same_name_Decides}
use Rattle.dnsv_zones.specs.zones.Types.{IsClosed}
use Rattle.dnsv_zones.specs.chains.NsecChain.{IsInBitmap}
use Rattle.dnsv_zones.proofs.words.is_no_cut_above.Goals as goal

not_test : (b : Bool) (P : Type 0) → Decides b P → (IsTrue (not b) → P → ⊥) × ((P → ⊥) → IsTrue (not b))
not_test true P d = (λ is_not p. cc, λ no_p. absurd (no_p (d.0 refl)))
not_test false P d = (λ is_not p. let holds = d.1 p in cc, λ no_p. refl)

pub returns : goal.returns
returns c =
    let test = not_test c.is_closed.result (IsClosed (IsInBitmap (λ t. set.contains c.args.nsec.now.types t))) c.is_closed.ensures in
    let apart = c.if-eq.ensures in (
      λ is_open below. test.0 is_open,
      λ no_cut_above. test.1 (no_cut_above (
        c.is_at_or_below.ensures.at_or_below.0 c.if-not-is_at_or_below.false,
        λ same. let alike = (same_name_Decides c.args.name.now c.args.owner.now).1 same in cc,
      )),
    )
