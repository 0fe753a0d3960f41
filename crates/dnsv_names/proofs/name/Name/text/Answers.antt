use Rattle.std.proofs.Common.{◌+◌, length, get_or, drop, refl, ap, ◌∙◌, arith}
use Rattle.arrayvec.specs.ArrayString.{array_string_len}
use Rattle.dnsv_names.specs.Name.WireLaws.{wire_not_empty}
use Rattle.dnsv_names.proofs.TextLemmas.{NextLabel, some_rest, label_in_front, next_label, all_written, text_of_labels}
use Rattle.dnsv_names.proofs.name.Name.text.Goals as goal

pub bounds-rest-0 : goal.bounds-rest-0
bounds-rest-0 c = omega (arith, ap length c.wire-rest.ensures.octets, wire_not_empty c.args.self.now)

pub bounds-rest-0-in-loop-rest : goal.bounds-rest-0-in-loop-rest
bounds-rest-0-in-loop-rest c = some_rest c.loop-rest.invariant

pub first_label-requires : goal.first_label-requires
first_label-requires c = label_in_front c.loop-rest.invariant c.loop-rest-test.true

pub push_label-requires : goal.push_label-requires
push_label-requires c = (
  omega arith,
  (next_label c.args.self.now c.loop-rest.text.bytes (array_string_len c.loop-rest.text) c.loop-rest.rest.now c.first_label.result.now
      (drop (1 + get_or c.loop-rest.rest.now 0 0) c.loop-rest.rest.now) c.loop-rest.invariant c.loop-rest-test.true c.first_label.ensures refl).room,
)

pub behind_label-rest-requires : goal.behind_label-rest-requires
behind_label-rest-requires c = label_in_front c.loop-rest.invariant c.loop-rest-test.true

pub loop-rest-preserved : goal.loop-rest-preserved
loop-rest-preserved c =
    let next : NextLabel c.args.self.now c.loop-rest.text.bytes (array_string_len c.loop-rest.text) c.loop-rest.rest.now c.first_label.result.now c.behind_label-rest.result.now =
    next_label c.args.self.now c.loop-rest.text.bytes (array_string_len c.loop-rest.text) c.loop-rest.rest.now c.first_label.result.now
    c.behind_label-rest.result.now c.loop-rest.invariant c.loop-rest-test.true c.first_label.ensures c.behind_label-rest.ensures in
    next.on c.push_label.new.text.bytes (array_string_len c.push_label.new.text) c.push_label.ensures.text c.push_label.ensures.length

pub returns : goal.returns
returns c =
    all_written c.args.self.now c.loop-rest.text.bytes (array_string_len c.loop-rest.text) c.loop-rest.rest.now c.wire-rest.ensures.name c.loop-rest.invariant c.loop-rest-test.false
    ∙ text_of_labels c.args.self.now c.wire-rest.result.now c.wire-rest.ensures.octets c.if-rest-eq0.false
