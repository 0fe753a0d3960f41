use Rattle.dnsv_explain.proofs.lemmas.telling.ExplanationLemmas.{places_added}
use Rattle.dnsv_explain.proofs.explanation.end.add_places_named.Goals as goal

pub returns : goal.returns
returns c =
    places_added c.args.evidence.now.rrsets c.capture.result.now.rrsets c.args.lines.now.items c.deref.result.now _
    c.in_ok-places.places.items c.capture.ensures c.deref.ensures.value c.in_ok-places.ensures c.in_ok-add_places.ensures
