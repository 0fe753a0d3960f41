-- Places that are one.
use Rattle.std.proofs.Common.{◌≡◌, sym, ◌∙◌}
use Rattle.dnsv_files.specs.declared.status.Place.{Place}
use Rattle.dnsv_files.specs.Files.Capture.{IsNowhere}

pub same_place : (p q : Place) → p.message ≡ q.message → p.record ≡ q.record → p.line ≡ q.line → p ≡ q
same_place p q messages records lines = λ i. record { message = messages i; «record» = records i; line = lines i }

pub same_nowhere : (p q : Place) → IsNowhere p → IsNowhere q → p ≡ q
same_nowhere p q x y = same_place p q (x.0 ∙ sym y.0) (x.1 ∙ sym y.1) (x.2 ∙ sym y.2)
