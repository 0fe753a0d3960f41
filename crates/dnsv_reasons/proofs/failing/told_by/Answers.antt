use Rattle.std.proofs.Common.{◌≡◌, Bor, ap, ◌∙◌, refl, subst}
use Rattle.std.specs.Option.{option_copied, option_map}
use Rattle.std.specs.Prelude.{IfOk, None, Option, Some}
use Rattle.dnsv_remedies.specs.Question.{lines_told}
use Rattle.dnsv_remedies.specs.Remedy.{seen}
use Rattle.dnsv_remedies.specs.declared.remedy.Remedy.{Remedy}
use Rattle.dnsv_reasons.proofs.failing.told_by.Goals as goal

seen_copied : (found : Option (Bor Remedy)) → option_map (λ remedy. seen remedy.now) found ≡ option_map seen (option_copied found)
seen_copied None = refl
seen_copied (Some remedy) = refl

pub returns : goal.returns
returns c =
    subst (λ remedy. IfOk c.lines_told.result (λ told. told.items ≡ lines_told c.args.question.now remedy))
    (seen_copied c.as_ref.result ∙ ap (option_map seen) c.as_ref.ensures.value) c.lines_told.ensures
