use Rattle.std.proofs.Common.{◌∙◌, subst}
use Rattle.std.specs.Prelude.{None}
use Rattle.dnsv_anchors.specs.AnchorFile.{BeginsWithAnchor, IsAnchorLine}
use Rattle.dnsv_files.proofs.FileLemmas.Text.{no_line_of_nothing, none_told}
use Rattle.dnsv_files.proofs.files.anchors.anchors_in.Goals as goal

pub returns-clause-none : goal.returns-clause-none
returns-clause-none g c = λ none wanting.
    let nothing = (c.in_ok-octets.ensures.octets None (none_told g.R.Read.remaining c.args.reader.now none)).0 in
    no_line_of_nothing IsAnchorLine (subst BeginsWithAnchor (c.deref.ensures.value ∙ nothing) (c.anchors_of.ensures.memory wanting))
