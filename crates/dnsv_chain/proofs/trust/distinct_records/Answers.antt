use Rattle.std.proofs.Common.{◌≡◌, ℕ, List, map, ap, ◌∙◌}
use Rattle.std.proofs.lemmas.List.{take_all}
use Rattle.std.proofs.lemmas.List.Filters.{dedup_is}
use Rattle.dnsv_records.specs.declared.dnskey.Dnskey.{Dnskey}
use Rattle.dnsv_verifier.specs.Admissible.{DnskeyRecord}
use Rattle.dnsv_chain.proofs.KeptLemmas.{are_distinct}
use Rattle.dnsv_chain.proofs.trust.distinct_records.Goals as goal

pub returns : goal.returns
returns c =
    let said : DnskeyRecord → List ℕ × Dnskey = λ key. (key.rdata, key.dnskey) in
    let all : c.loop-record.distinct.items ≡ map said c.args.records.now =
    c.loop-record.invariant ∙ ap (map said) (take_all c.loop-record.record-index c.args.records.now c.loop-record-test.false) in
    are_distinct c.args.records.now c.loop-record.distinct.items c.sort_unstable.new.self.items c.dedup.new.self.items all c.sort_unstable.ensures.permutation c.sort_unstable.ensures.sorted (dedup_is _ _ _ c.dedup.ensures.filtered)
