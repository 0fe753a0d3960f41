use Rattle.std.proofs.Common.{◌+◌, ◌-◌, ◌++◌, take, drop, ap, ◌∙◌, rules}
use Rattle.dnsv_message.specs.Layout.{layout_of}
use Rattle.dnsv_message.proofs.FollowLemmas.PieceLemmas.{head_within, names_behind, pieces_are}
use Rattle.dnsv_message.proofs.rdata_ref.RdataRef.pieces.Goals as goal

pub slice_bounds-head-end : goal.slice_bounds-head-end
slice_bounds-head-end c =
    let within = head_within c.self.inside.octets.now (layout_of c.self.inside.rtype.0 c.self.inside.class.0) c.of-layout.result c.self.inside.start c.self.inside.size
    c.of-layout.ensures c.self.invariant in
    search (rules, within)

pub new-requires-clause-names : goal.new-requires-clause-names
new-requires-clause-names c =
    names_behind c.self.inside.octets.now (layout_of c.self.inside.rtype.0 c.self.inside.class.0) c.of-layout.result c.self.inside.start c.self.inside.size
    c.of-layout.ensures c.self.invariant

pub returns : goal.returns
returns c =
    ap (λ rest. take (c.self.inside.start + c.of-layout.result.head - c.self.inside.start) (drop c.self.inside.start c.self.inside.octets.now) ++ rest) c.new.ensures
    ∙ pieces_are c.self.inside.octets.now (layout_of c.self.inside.rtype.0 c.self.inside.class.0) c.of-layout.result c.self.inside.start c.self.inside.size
    c.of-layout.ensures c.self.invariant
    ∙ c.self.view_is
