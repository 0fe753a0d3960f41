use Rattle.std.proofs.Common.{refl}
use Rattle.std.proofs.lemmas.List.Elements.{Contains-get_or}
use Rattle.dnsv_derivations.specs.Denials.{IsPartTold}
use Rattle.dnsv_derivations.proofs.lemmas.SayingLemmas.{all_added, next_added, none_added}
use Rattle.dnsv_derivations.proofs.denials.part.add_parts.Goals as goal

pub loop-part-init : goal.loop-part-init
loop-part-init c = none_added (IsPartTold c.args.evidence.now.rrsets c.args.question.now) c.args.lines.now.items c.args.parts.now

pub add_part-requires : goal.add_part-requires
add_part-requires c =
    c.requires _ (Contains-get_or c.args.parts.now c.loop-part.part-index _ c.loop-part-test.true)

pub loop-part-preserved : goal.loop-part-preserved
loop-part-preserved c =
    next_added (IsPartTold c.args.evidence.now.rrsets c.args.question.now) c.args.parts.now c.loop-part.part-index
    _ _ c.args.lines.now.items _ _ c.loop-part-test.true refl c.loop-part.invariant c.in_ok-add_part.ensures

pub returns : goal.returns
returns c =
    all_added (IsPartTold c.args.evidence.now.rrsets c.args.question.now) c.args.parts.now c.loop-part.part-index
    c.args.lines.now.items _ c.loop-part-test.false c.loop-part.invariant
