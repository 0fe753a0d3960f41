use Rattle.std.proofs.Common.{Ok, ap, ◌∙◌}
use Rattle.dnsv_records.specs.Bitmap.Blocks.{types_of}
use Rattle.dnsv_records.proofs.BitmapLemmas.{AreBlocks-Bitmap, Bitmap-types_of, types_of-Bitmap}
use Rattle.dnsv_records.proofs.RecordLemmas.{no_bitmap_fault}
use Rattle.dnsv_records.proofs.bitmap.TypeBitmap.read.Goals as goal

pub returns-then-not-are_blocks-clause-every : goal.returns-then-not-are_blocks-clause-every
returns-then-not-are_blocks-clause-every c = λ types spelled.
    absurd (c.if-not-are_blocks.ensures (AreBlocks-Bitmap c.args.octets.now types spelled))

pub returns-then-not-are_blocks-clause-fault : goal.returns-then-not-are_blocks-clause-fault
returns-then-not-are_blocks-clause-fault c = λ some.
    c.if-not-are_blocks.ensures (AreBlocks-Bitmap c.args.octets.now some.0 some.1)

pub returns-clause-found : goal.returns-clause-found
returns-clause-found c =
    Bitmap-types_of c.args.octets.now c.if-not-are_blocks.ensures

pub returns-clause-every : goal.returns-clause-every
returns-clause-every c = λ types spelled.
    ap Ok (types_of-Bitmap c.args.octets.now types spelled)

pub returns-clause-every_fault : goal.returns-clause-every_fault
returns-clause-every_fault c = λ field bad.
    let octets = c.args.octets.now in
    absurd (no_bitmap_fault octets (types_of octets, Bitmap-types_of octets c.if-not-are_blocks.ensures) field bad)
