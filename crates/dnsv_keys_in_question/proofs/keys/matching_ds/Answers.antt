use Rattle.std.proofs.Common.{subst}
use Rattle.dnsv_derivations.specs.Explained.{setting_in}
use Rattle.dnsv_keys_in_question.specs.KeyLines.{IsLowestDs}
use Rattle.dnsv_keys_in_question.proofs.keys.matching_ds.Goals as goal

pub returns : goal.returns
returns c =
    subst (λ key. IsLowestDs (setting_in c.args.evidence.now) key c.in_ok-lowest.lowest) c.new-digested.ensures c.in_ok-lowest.ensures
