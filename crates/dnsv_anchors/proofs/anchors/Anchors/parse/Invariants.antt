use Rattle.std.proofs.Common.{◌++◌}
use Rattle.dnsv_names.proofs.LineFileLemmas.{SayTogether}
use Rattle.dnsv_names.specs.Lines.{HasLines}
use Rattle.dnsv_anchors.specs.AnchorFile.{AreFew, IsAnchorLine}
use Rattle.dnsv_anchors.proofs.anchors.Anchors.parse.Given as goal

abbrev pub invariant-loop-line : goal.invariant-loop-line
invariant-loop-line l =
    record { has : HasLines l.text (l.yielded ++ l.line-iterator); says : SayTogether IsAnchorLine AreFew l.yielded l.anchors }
