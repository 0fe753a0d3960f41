use Rattle.std.proofs.Common.{ℕ, [], ◌∷◌}
use Rattle.std.specs.Ordering.{nat_cmp}
use Rattle.dnsv_names.specs.Name.{rightmost}
use Rattle.dnsv_names.specs.Tree.{wildcard_of}
use Rattle.dnsv_zones.specs.forms.Forms.{NoCloserForm}
use Rattle.dnsv_zones.specs.forms.Parts.{IsNoCloserPart}
use Rattle.dnsv_zones.specs.forms.RecordWords.{words}
use Rattle.dnsv_zones.specs.zones.Lookup.{IsLookup}
use Rattle.dnsv_zones.specs.zones.Lookup.Answer.{Held}
use Rattle.dnsv_zones.specs.zones.Zone.{Zone, Holds}
use Rattle.dnsv_proof_forms.specs.records.RecordsAt.{HasRecordsAt}
use Rattle.dnsv_proof_forms.specs.words.ChainSaid.{chain_said}
use Rattle.dnsv_proof_forms.proofs.lemmas.words.FirstLemmas.{if_some}
use Rattle.dnsv_proof_forms.proofs.lemmas.forms.MeaningAt.{no_closer_at}
use Rattle.dnsv_proof_forms.proofs.lemmas.forms.WildcardLemmas.{no_closer_found}
use Rattle.dnsv_proof_forms.proofs.forms.wildcard_answer.no_closer.Goals as goal

pub returns-clause-first : goal.returns-clause-first
returns-clause-first c =
    no_closer_found (chain_said c.args.apex.now c.args.records.now) c.args.apex.now c.args.name.now c.args.labels c.absent.result
    (c.is_above.ensures.above.0 c.if-not-is_above.false) (c.absent.ensures c.args.apex.now)

pub returns-clause-meaning : goal.returns-clause-meaning
returns-clause-meaning c =
    if_some (¬ NoCloserForm (words (chain_said c.args.apex.now c.args.records.now)) c.args.apex.now c.args.name.now c.args.labels)
    (IsNoCloserPart nat_cmp (chain_said c.args.apex.now c.args.records.now) c.args.apex.now c.args.name.now c.args.labels)
    (λ place. (zone : Zone) (t : ℕ) → HasRecordsAt zone c.args.apex.now c.args.records.now (place ∷ [])
    → Holds zone (wildcard_of (rightmost c.args.name.now c.args.labels)) t
    → IsLookup zone c.args.name.now t (Held (wildcard_of (rightmost c.args.name.now c.args.labels))))
    c.absent.result
    (λ place. no_closer_at c.args.apex.now c.args.name.now c.args.labels c.args.records.now place) (returns-clause-first c)
