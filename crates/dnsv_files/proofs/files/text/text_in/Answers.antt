use Rattle.std.proofs.Common.{◌∙◌, subst}
use Rattle.std.specs.Prelude.{None}
use Rattle.dnsv_files.proofs.FileLemmas.Text.{none_told}
use Rattle.dnsv_files.proofs.files.text.text_in.Goals as goal

pub returns-clause-none : goal.returns-clause-none
returns-clause-none g c = λ none wanting.
    let nothing = (c.in_ok-octets.ensures.octets None (none_told g.R.Read.remaining c.args.reader.now none)).0 in
    subst g.T.FromText.begins (c.deref.ensures.value ∙ nothing) (c.from_text.ensures.memory wanting)
