use Rattle.std.proofs.Common.{refl, length}
use Rattle.std.proofs.lemmas.Option.{slice_get_read}
use Rattle.dnsv_proof_forms.proofs.lemmas.words.AllPlacesLemmas.{said_here}
use Rattle.dnsv_proof_forms.proofs.words.all_among.is_said_at.Goals as goal

pub returns : goal.returns
returns g c =
    said_here (g.W.Word.says c.args.word.now) c.args.entries.now c.args.place c.index-entries-place.result c.is_said_by.result
    (slice_get_read c.args.entries.now (length c.args.entries.now) c.args.place c.index-entries-place.result refl c.requires c.index-entries-place.is) c.is_said_by.ensures
