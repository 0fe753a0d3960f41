use Rattle.std.proofs.Common.{◌≡◌, ◌+◌, ◌-◌, ◌*◌, ◌++◌, length, take, drop, sym, ap, ◌∙◌, arith}
use Rattle.std.specs.Int.Digits.{number_from_digits}
use Rattle.arrayvec.specs.ArrayVec.{array_vec_len}
use Rattle.dnsv_records.proofs.Base32Lemmas.{Base32Hex-append}
use Rattle.dnsv_records.specs.OctetLaws.{take_part, length_part}
use Rattle.dnsv_records.proofs.base32hex.base32hex_write.Goals as goal

pub loop-group-preserved : goal.loop-group-preserved
loop-group-preserved c =
    let octets = c.octets-octets.result.now in
    let place = 5 * c.loop-group.group in
    let five : place + 5 - place ≡ 5 = omega arith in
    let whole : length octets ≡ 20 = ap length c.octets-octets.ensures.octets ∙ c.octets-octets.ensures.length in
    let after : c.try_extend_from_slice.new.self.items ≡ c.loop-group.text.items ++ c.characters_of.result = rw c.unwrap.ensures at c.try_extend_from_slice.ensures.ok in
    let size_after : array_vec_len c.try_extend_from_slice.new.self ≡ array_vec_len c.loop-group.text + length c.characters_of.result = rw c.unwrap.ensures at c.try_extend_from_slice.ensures.len in
    let number : number_from_digits 256 (take 5 (drop place octets)) ≡ c.number_of-number.result =
    ap (λ n. number_from_digits 256 (take n (drop place octets))) (sym five) ∙ sym c.number_of-number.ensures.number in
    let more : take (5 * (c.loop-group.group + 1)) octets ≡ take place octets ++ take 5 (drop place octets) = take_part place 5 _ octets (omega arith) in (
      rw (after, more) (Base32Hex-append _ _ _ _ c.number_of-number.result c.loop-group.invariant.0 c.characters_of.ensures.spelled c.characters_of.ensures.length number (length_part place 5 octets (omega arith))),
      omega (arith, size_after, c.characters_of.ensures.length, c.loop-group.invariant.1),
    )
