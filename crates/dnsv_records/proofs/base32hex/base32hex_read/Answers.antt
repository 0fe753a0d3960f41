use Rattle.std.proofs.Common.{◌≡◌, ◌+◌, ◌-◌, ◌*◌, ◌<◌, ◌++◌, length, take, drop, map, Some, sym, ap, ◌∙◌, subst, arith}
use Rattle.std.proofs.lemmas.List.{length-map, take_all}
use Rattle.std.specs.Char.{to_ascii_lowercase}
use Rattle.std.specs.Int.Digits.{number_from_digits}
use Rattle.dnsv_records.specs.Base32Hex.{Base32Hex, Base32Number}
use Rattle.arrayvec.specs.ArrayVec.{array_vec_len}
use Rattle.dnsv_records.proofs.Base32Lemmas.{Base32Hex-append, Base32Number-part, same_octets}
use Rattle.dnsv_names.specs.PartLaws.{recursion-append}
use Rattle.dnsv_records.specs.OctetLaws.{take_part, map_part, length_part}
use Rattle.dnsv_records.proofs.base32hex.base32hex_read.Goals as goal

pub loop-group-preserved : goal.loop-group-preserved
loop-group-preserved c =
    let text = map to_ascii_lowercase c.args.text.now in
    let place = 8 * c.loop-group.group in
    let eight : place + 8 - place ≡ 8 = omega arith in
    let after : c.try_extend_from_slice.new.self.items ≡ c.loop-group.octets.items ++ c.octets_of.result = rw c.unwrap.ensures at c.try_extend_from_slice.ensures.ok in
    let size_after : array_vec_len c.try_extend_from_slice.new.self ≡ array_vec_len c.loop-group.octets + length c.octets_of.result = rw c.unwrap.ensures at c.try_extend_from_slice.ensures.len in
    let spelled : Base32Number (take 8 (drop place text)) c.in_ok-number.number =
    subst (λ t. Base32Number t c.in_ok-number.number) (ap (λ n. map to_ascii_lowercase (take n (drop place c.args.text.now))) eight ∙ sym (map_part to_ascii_lowercase place 8 c.args.text.now)) c.in_ok-number.ensures.found in
    let more : take (8 * (c.loop-group.group + 1)) text ≡ take place text ++ take 8 (drop place text) = take_part place 8 _ text (omega arith) in
    let size : length (take 8 (drop place text)) ≡ 8 = length_part place 8 text (omega (arith, length-map c.args.text.now to_ascii_lowercase)) in (
      rw (after, more) (Base32Hex-append _ _ _ _ c.in_ok-number.number c.loop-group.invariant.0 spelled size c.octets_of.ensures.number c.octets_of.ensures.length),
      rw after (recursion-append (λ octet. octet < 256) _ _ c.loop-group.invariant.1 c.octets_of.ensures.octets),
      omega (arith, size_after, c.octets_of.ensures.length, c.loop-group.invariant.2),
    )

pub returns-in_err-number-clause-every : goal.returns-in_err-number-clause-every
returns-in_err-number-clause-every c = λ hash is spelled.
    let text = map to_ascii_lowercase c.args.text.now in
    let place = 8 * c.loop-group.group in
    let part = Base32Number-part text (number_from_digits 256 hash) place (place + 8 - place) spelled.bits in
    let none = c.in_err-number.ensures.every part.0 (subst (λ t. Base32Number t part.0) (map_part to_ascii_lowercase place (place + 8 - place) c.args.text.now) part.1) in
    cc

pub returns-clause-every : goal.returns-clause-every
returns-clause-every c = λ hash is spelled.
    let text = map to_ascii_lowercase c.args.text.now in
    let read : c.new.result ≡ c.loop-group.octets.items = c.new.ensures ∙ rw c.unwrap-2.ensures at c.into_inner.ensures.ok in
    let all : take (8 * c.loop-group.group) text ≡ text = take_all _ text (omega (arith, length-map c.args.text.now to_ascii_lowercase)) in
    ap Some (read ∙ same_octets text _ hash c.loop-group.invariant.1 is.eight_bits (subst (λ t. Base32Hex t c.loop-group.octets.items) all c.loop-group.invariant.0) spelled)
