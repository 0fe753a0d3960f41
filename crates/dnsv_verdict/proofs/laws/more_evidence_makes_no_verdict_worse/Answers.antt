use Rattle.std.proofs.Common.{◌++◌, refl}
use Rattle.std.specs.Prelude.{suc, length}
use Rattle.dnsv_canonical.specs.Rrsets.{rrsets_from}
use Rattle.dnsv_verdict.proofs.SettledLemmas.NoLessLemmas.{no_worse}
use Rattle.dnsv_verdict.specs.Settled.NoLess.{basis_of_messages}
use Rattle.dnsv_verdict.proofs.laws.more_evidence_makes_no_verdict_worse.Goals as goal

pub returns-clause-bases : goal.returns-clause-bases
returns-clause-bases c = λ before after name t first second less is later.
    no_worse c.more_evidence_takes_no_trust_away.ensures.numbers before after name t first second less is later

pub returns-clause-captures : goal.returns-clause-captures
returns-clause-captures c = λ earlier later anchors others moment meaning better name t first second among answers is more.
    no_worse c.more_evidence_takes_no_trust_away.ensures.numbers
    (basis_of_messages earlier anchors moment meaning) (basis_of_messages (earlier ++ later) others moment better) name t first second
    (record {
      later = rrsets_from (suc (length earlier)) later;
      rrsets = c.earlier_rrsets_keep_their_numbers.ensures earlier later;
      anchors = among;
      moment = refl;
      answers = answers;
    }) is more
