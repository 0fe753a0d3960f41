use Rattle.std.proofs.Common.{List, [], sym, subst}
use Rattle.dnsv_mending.specs.declared.facts.signature.NamedKey.{NamedKey}
use Rattle.dnsv_verifier.specs.Asking.{GivesEach}
use Rattle.dnsv_verifier.specs.Table.{table_answer}
use Rattle.dnsv_verifier.proofs.NumberedLemmas.{each_all, each_more, each_none}
use Rattle.dnsv_zone_keys.specs.Answers.AnswerSearch.{IsSaidOf}
use Rattle.dnsv_zone_keys.specs.Keys.Index.{Placed}
use Rattle.dnsv_zone_keys.specs.Keys.{IsZoneKey}
use Rattle.dnsv_faults.proofs.signature.named.answered_keys.Goals as goal

pub loop-placed-init : goal.loop-placed-init
loop-placed-init c =
    let table = c.args.table.now in
    let Said : Placed → NamedKey → Type 0 = IsSaidOf (table_answer table) table.moment c.args.rrset.now c.args.rrsig.now in
    let Signs : Placed → Type 0 = λ placed. IsZoneKey placed.key in
    subst (λ (named : List NamedKey). GivesEach Said Signs [] named) (sym c.new-named.ensures.items) (each_none Said Signs c.args.keys.now)

pub loop-placed-preserved : goal.loop-placed-preserved
loop-placed-preserved c =
    let table = c.args.table.now in
    let Said : Placed → NamedKey → Type 0 = IsSaidOf (table_answer table) table.moment c.args.rrset.now c.args.rrsig.now in
    let Signs : Placed → Type 0 = λ placed. IsZoneKey placed.key in
    each_more Said Signs c.args.keys.now c.loop-placed.placed-index c.placed-item.result _ _ c.loop-placed-test.true c.placed-item.is
    c.loop-placed.invariant c.in_ok-add_answered.ensures

pub returns : goal.returns
returns c =
    let table = c.args.table.now in
    let Said : Placed → NamedKey → Type 0 = IsSaidOf (table_answer table) table.moment c.args.rrset.now c.args.rrsig.now in
    let Signs : Placed → Type 0 = λ placed. IsZoneKey placed.key in
    each_all Said Signs c.args.keys.now c.loop-placed.placed-index _ c.loop-placed-test.false c.loop-placed.invariant
