use Rattle.std.proofs.Common.{rules}
use Rattle.std.proofs.lemmas.Fn.{always_returns_same}
use Rattle.std.specs.Ordering.{is_lt}
use Rattle.dnsv_compact.specs.Signed.{part_cmp}
use Rattle.dnsv_compact.proofs.SignedLemmas.{found_first, found_none, parted}
use Rattle.dnsv_compact.proofs.signed.first_of.Goals as goal

pub returns-then-start-signed : goal.returns-then-start-signed
returns-then-start-signed c =
    let all = c.args.signed.now in
    let entry = c.args.entry.now in
    let from = c.partition_point-start.ensures.partitioned (λ each. is_lt (part_cmp each entry)) (always_returns_same _ _ _ (λ a r f called. search rules)) (parted all c.requires entry) in
    found_none all c.requires entry c.partition_point-start.result from c.if-start-signed.true

pub returns : goal.returns
returns c =
    let all = c.args.signed.now in
    let entry = c.args.entry.now in
    let from = c.partition_point-start.ensures.partitioned (λ each. is_lt (part_cmp each entry)) (always_returns_same _ _ _ (λ a r f called. search rules)) (parted all c.requires entry) in
    found_first all c.requires entry c.partition_point-start.result from c.index-signed-start.result c.if-start-signed.false c.index-signed-start.is
