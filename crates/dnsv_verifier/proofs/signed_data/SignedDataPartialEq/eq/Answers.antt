use Rattle.std.proofs.Common.{◌≡◌, nat_eq, sym, ap, ◌∙◌}
use Rattle.std.specs.Cmp.Lexicographic.{bytes_decides, pointwise, texts_ties}
use Rattle.std.specs.Ordering.{is_eq}
use Rattle.dnsv_verifier.proofs.signed_data.SignedDataPartialEq.eq.Goals as goal

pub returns-clause-value : goal.returns-clause-value
returns-clause-value c = c.is_eq.ensures ∙ ap is_eq c.stand_to.ensures ∙ sym (texts_ties c.args.self.now c.args.other.now)

pub returns-clause-same : goal.returns-clause-same
returns-clause-same c =
    let own = c.args.self.now in
    let its = c.args.other.now in
    let value : c.is_eq.result ≡ pointwise nat_eq own its = c.is_eq.ensures ∙ ap is_eq c.stand_to.ensures ∙ sym (texts_ties own its) in
    (λ holds. (bytes_decides own its).0 (sym value ∙ holds), λ same. value ∙ (bytes_decides own its).1 same)
