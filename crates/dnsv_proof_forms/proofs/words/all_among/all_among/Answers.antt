use Rattle.dnsv_proof_forms.proofs.lemmas.words.AllPlacesLemmas.{all_of_parts}
use Rattle.dnsv_proof_forms.proofs.words.all_among.all_among.Goals as goal

pub returns : goal.returns
returns g c =
    all_of_parts (g.W.Word.says c.args.word.now) c.args.entries.now c.args.one.now c.args.other.now c.add_among.new.said.items c.add_among-2.new.said.items c.in_ok-places.places.items
    c.requires.all (rw c.new-said.ensures.items at c.in_ok-add_among.ensures) c.in_ok-add_among-2.ensures c.in_ok-places.ensures.order (rw c.deref.ensures.value at c.in_ok-places.ensures.members)
