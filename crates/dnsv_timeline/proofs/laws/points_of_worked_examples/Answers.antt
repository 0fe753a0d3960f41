use Rattle.std.proofs.Common.{refl, arith}
use Rattle.dnsv_timeline.specs.Examples.{ends_before_it_begins, one_second, round_the_clock}
use Rattle.dnsv_timeline.proofs.ExampleLemmas.{points_of_one}
use Rattle.dnsv_timeline.proofs.WindowLemmas.{window_odd, window_usual}
use Rattle.dnsv_timeline.proofs.laws.points_of_worked_examples.Goals as goal

pub returns-clause-around : goal.returns-clause-around
returns-clause-around c =
    points_of_one 4294967280 4294967320 round_the_clock 0 12 10 22 (record { turned = omega arith; long = omega arith })
    (window_usual round_the_clock (omega arith)) refl refl (omega arith) (omega arith) (omega arith)

pub returns-clause-second : goal.returns-clause-second
returns-clause-second c =
    points_of_one 1000 2000 one_second 0 1 500 501 (record { turned = omega arith; long = omega arith })
    (window_usual one_second (omega arith)) refl refl (omega arith) (omega arith) (omega arith)

pub returns-clause-odd : goal.returns-clause-odd
returns-clause-odd c =
    points_of_one 2147483600 2147483700 ends_before_it_begins 2147483645 2147483648 45 48 (record { turned = omega arith; long = omega arith })
    (window_odd ends_before_it_begins (omega arith) (omega arith)) refl refl (omega arith) (omega arith) (omega arith)
