use Rattle.std.proofs.Common.{false, subst, sym}
use Rattle.dnsv_names.specs.Name.{Labels}
use Rattle.dnsv_gaps.specs.DenialSearch.{HasSignerAbove}
use Rattle.dnsv_gaps.proofs.AnswerLemmas.{not_so, so_not}
use Rattle.dnsv_gaps.proofs.SignerLemmas.{none_above, not_stray}
use Rattle.dnsv_gaps.proofs.denials.signers.is_stray.Goals as goal

pub returns : goal.returns
returns c =
    let Above : Labels → Type 0 = λ name. HasSignerAbove c.signatures.result.now name false in (
      λ yes. none_above c.args.rrset.now c.signatures.result.now c.signatures.ensures
          (λ one. not_so c.has_signer_above.result (Above c.owner.result.now) c.has_signer_above.ensures yes (subst Above (sym c.owner.ensures) one)),
      λ stray. so_not c.has_signer_above.result (Above c.owner.result.now) c.has_signer_above.ensures
          (λ one. not_stray c.args.rrset.now c.signatures.result.now c.signatures.ensures (subst Above c.owner.ensures one) stray),
    )
