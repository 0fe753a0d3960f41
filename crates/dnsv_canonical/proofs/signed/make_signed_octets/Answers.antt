use Rattle.std.proofs.Common.{List, ℕ, ◌++◌, length, ◌∙◌, arith}
use Rattle.std.specs.Int.{w16, to_be_bytes}
use Rattle.std.specs.List.{flat_map}
use Rattle.dnsv_canonical.proofs.signed.make_signed_octets.Goals as goal

pub returns : goal.returns
returns c =
    let adds = c.in_ok-push_canonical.ensures in
    let records_of : List ℕ → List ℕ = λ front. flat_map (λ rdata. front ++ to_be_bytes w16 (length rdata) ++ rdata) adds.canonical in (
      omega arith,
      adds.canonical,
      adds.are,
      adds.added ∙ (λ i. c.in_ok-fill_front.ensures i ++ records_of ((c.as_slice.ensures.value ∙ c.in_ok-fill_record_front.ensures) i)),
    )
