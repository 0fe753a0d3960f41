use Rattle.std.proofs.Common.{◌≡◌, ◌∙◌, ap, sym}
use Rattle.dnsv_names.specs.Name.{wire}
use Rattle.dnsv_names.specs.Name.WireLaws.{wire-injective}
use Rattle.dnsv_proof_forms.specs.QuestionHashes.{HashedQuestion}
use Rattle.dnsv_verdict.proofs.case.hashed_name.HashedName.is_for.Goals as goal

pub returns : goal.returns
returns c =
    let its : c.self.inside.name ≡ c.args.self.now.name = sym c.self.invariant.0 ∙ ap (λ (each : HashedQuestion). each.name) c.self.view_is in (
      λ yes. sym its ∙ wire-injective c.self.inside.name c.args.name.now c.wire.ensures.name.each c.wire-2.ensures.name.each
          (sym c.wire.ensures.octets ∙ c.are_same.ensures.0 yes ∙ c.wire-2.ensures.octets),
      λ same. c.are_same.ensures.1 (c.wire.ensures.octets ∙ ap wire (its ∙ same) ∙ sym c.wire-2.ensures.octets),
    )
