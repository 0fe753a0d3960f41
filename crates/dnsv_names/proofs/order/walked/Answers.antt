use Rattle.std.proofs.Common.{arith, refl}
use Rattle.dnsv_names.proofs.CompareLemmas.{label_in_front, steps_on}
use Rattle.dnsv_names.proofs.order.walked.Goals as goal

pub behind_label-rest-requires : goal.behind_label-rest-requires
behind_label-rest-requires c = omega (arith, label_in_front c.loop-rest.invariant.so_far (omega (arith, c.requires.root, c.loop-rest-test.true)))

pub loop-rest-preserved : goal.loop-rest-preserved
loop-rest-preserved c =
    record {
      so_far = (steps_on c.args.octets.now c.loop-rest.rest.now c.behind_label-rest.result.now c.loop-rest.label c.loop-rest.invariant.so_far
          (omega (arith, c.requires.root, c.loop-rest-test.true)) c.behind_label-rest.ensures).label c.loop-rest.rest refl;
      far = c.loop-rest-test.true;
    }
