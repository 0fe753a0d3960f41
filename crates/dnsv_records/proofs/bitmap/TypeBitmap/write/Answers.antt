use Rattle.dnsv_records.proofs.BitmapLemmas.{Bitmap-types_of}
use Rattle.dnsv_records.proofs.bitmap.TypeBitmap.write.Goals as goal

pub returns : goal.returns
returns c = rw (← c.self.view_is) (Bitmap-types_of c.self.inside.octets.now c.self.invariant)
