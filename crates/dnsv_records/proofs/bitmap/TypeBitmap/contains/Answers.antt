use Rattle.std.proofs.Common.{◌≡◌, ◌/◌, sym, ap, ◌∙◌, arith}
use Rattle.std.specs.FinSet as set
use Rattle.dnsv_records.specs.Bitmap.{has_bit}
use Rattle.dnsv_records.specs.Bitmap.Blocks.{blocks_of, bits_of}
use Rattle.dnsv_records.proofs.BitmapLemmas.{types_of-in}
use Rattle.dnsv_records.proofs.bitmap.TypeBitmap.contains.Goals as goal

pub returns : goal.returns
returns c =
    let octets = c.self.inside.octets.now in
    let t = c.args.rtype.0 in
    let bits : c.window_bits-bits.result.now ≡ bits_of (blocks_of octets) (t / 256) =
    c.window_bits-bits.ensures in
    c.has_bit.ensures ∙ ap (λ xs. has_bit xs c.from.result) bits ∙ ap (has_bit (bits_of (blocks_of octets) (t / 256))) c.from.ensures
    ∙ sym (types_of-in octets t (omega arith)) ∙ ap (λ types. set.contains types t) c.self.view_is
