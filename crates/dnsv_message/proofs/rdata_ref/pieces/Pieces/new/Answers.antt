use Rattle.std.proofs.Common.{◌<◌, arith}
use Rattle.dnsv_message.proofs.FollowLemmas.{named_is_read}
use Rattle.dnsv_message.proofs.FollowLemmas.PieceLemmas.{first_named, end_is, PiecesStand-new, pieces_from-new}
use Rattle.dnsv_message.proofs.rdata_ref.pieces.Pieces.new.Goals as goal

pub unwrap-behind-requires : goal.unwrap-behind-requires
unwrap-behind-requires c =
    named_is_read c.args.octets.now c.args.place (first_named c.args.names c.args.octets.now c.args.place c.args.limit (omega (arith, c.if-names-eq0.false)) c.requires.names)
    c.name_end.result c.name_end.ensures.fault

pub invariant_of-result-2 : goal.invariant_of-result-2
invariant_of-result-2 c =
    let some : 0 < c.args.names = omega (arith, c.if-names-eq0.false) in
    let named = first_named c.args.names c.args.octets.now c.args.place c.args.limit some c.requires.names in
    PiecesStand-new c.args.names c.args.octets.now c.args.place c.args.limit c.behind_pointers.result c.unwrap-behind.result.1 some c.behind_pointers.ensures.stands
    (end_is c.args.octets.now c.args.place named c.name_end.result c.unwrap-behind.result c.unwrap-behind.ensures c.name_end.ensures.found) c.requires.names c.requires.limit

pub returns : goal.returns
returns c =
    let some : 0 < c.args.names = omega (arith, c.if-names-eq0.false) in
    let named = first_named c.args.names c.args.octets.now c.args.place c.args.limit some c.requires.names in
    pieces_from-new c.args.names c.args.octets.now c.args.place c.args.limit c.behind_pointers.result c.unwrap-behind.result.1 some
    (end_is c.args.octets.now c.args.place named c.name_end.result c.unwrap-behind.result c.unwrap-behind.ensures c.name_end.ensures.found) c.behind_pointers.ensures.same
