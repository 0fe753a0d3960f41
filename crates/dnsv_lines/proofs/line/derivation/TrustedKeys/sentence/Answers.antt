use Rattle.std.proofs.Common.{[], ◌∷◌, ◌∙◌, ap, codes, ℕ}
use Rattle.dnsv_lines.specs.Sentence.{Number, Said, plain, plain_sentence, same, under}
use Rattle.dnsv_lines.proofs.line.derivation.TrustedKeys.sentence.Goals as goal

pub returns : goal.returns
returns c =
    c.of.ensures ∙ (λ i. plain_sentence (codes "trusted") (c.plain.ensures i ∷ c.same.ensures i
    ∷ (c.same-2.ensures ∙ ap (λ (said : Said). same (codes "signature") said) c.count.ensures) i
    ∷ (c.under.ensures ∙ ap (λ (number : ℕ). under (codes "key") (codes "tag") (Number number)) c.from.ensures) i
    ∷ (c.plain-2.ensures ∙ ap (λ (number : ℕ). plain (codes "algorithm") (Number number)) c.from-2.ensures) i
    ∷ (c.same-3.ensures ∙ ap (λ (said : Said). same (codes "anchor") said) c.values.ensures.anchor) i
    ∷ (c.under-2.ensures ∙ ap (λ (said : Said). under (codes "ds") (codes "ds_rrset") said) c.values.ensures.rrset) i
    ∷ (c.plain-3.ensures ∙ ap (λ (said : Said). plain (codes "ds_record") said) c.values.ensures.place) i
    ∷ (c.under-3.ensures ∙ ap (λ (said : Said). under (codes "digest") (codes "digest_type") said) c.values.ensures.digest_type) i
    ∷ (c.same-4.ensures ∙ ap (λ (said : Said). same (codes "todo") said) c.given_count.ensures) i ∷ []))
