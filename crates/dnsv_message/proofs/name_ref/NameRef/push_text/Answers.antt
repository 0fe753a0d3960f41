use Rattle.std.proofs.Common.{◌++◌, ◌∙◌, sym, ap, arith, rules}
use Rattle.arrayvec.specs.ArrayString.{array_string_len}
use Rattle.dnsv_names.specs.Text.{text_of}
use Rattle.dnsv_message.proofs.FollowLemmas.{has_root}
use Rattle.dnsv_message.proofs.FollowLemmas.Writing.{room_for_text, all_written, room_kept}
use Rattle.dnsv_message.proofs.name_ref.NameRef.push_text.Goals as goal

pub returns-then-octets-place-eq0-clause-text : goal.returns-then-octets-place-eq0-clause-text
returns-then-octets-place-eq0-clause-text g c =
    let none = (has_root c.self.inside.octets.now c.self.inside.place c.self.invariant.0.named c.if-octets-place-eq0.true).none in
    c.push.ensures.ascii (omega arith) ∙ ap (λ labels. c.args.text.now.bytes ++ text_of labels) (sym none ∙ c.self.view_is)

pub push_label-requires : goal.push_label-requires
push_label-requires g c = (
  search rules,
  omega (
    arith,
    c.requires,
    room_for_text c.self.inside.octets.now c.self.inside.place c.args.text.now.bytes (array_string_len c.args.text.now) c.loop-place.text.bytes
        (array_string_len c.loop-place.text) c.loop-place.place c.loop-place.invariant (omega (arith, c.loop-place-test.true)) c.label.result.now c.label.ensures,
  ),
)

pub returns-clause-text : goal.returns-clause-text
returns-clause-text g c =
    all_written c.self.inside.octets.now c.self.inside.place c.args.text.now.bytes (array_string_len c.args.text.now) c.loop-place.text.bytes (array_string_len c.loop-place.text)
    c.loop-place.place c.loop-place.invariant c.loop-place-test.false c.self.invariant.0 (omega (arith, c.if-octets-place-eq0.false))
    ∙ ap (λ labels. c.args.text.now.bytes ++ text_of labels) c.self.view_is

pub returns-clause-length : goal.returns-clause-length
returns-clause-length g c = omega (arith, room_kept c.loop-place.invariant)
