use Rattle.std.proofs.Common.{rules}
use Rattle.std.specs.Prelude.{IsTrue}
use Rattle.dnsv_records.specs.Algorithm.{is_supported}
use Rattle.dnsv_anchors.specs.Ds.{IsSupported}
use Rattle.dnsv_derivations.proofs.lemmas.unsigned_cuts.UnusableLemmas.{ignored}
use Rattle.dnsv_derivations.proofs.unsigned_cuts.unusable.why_unusable.Goals as goal

pub returns : goal.returns
returns c = λ unusable.
    let algorithm : IsTrue (is_supported c.args.ds.now.algorithm.0) = search rules in
    let digest_type : IsSupported c.args.ds.now.digest_type.0 = search rules in
    (algorithm, digest_type, ignored c.args.records.now c.args.ds.now unusable algorithm digest_type)
