use Rattle.std.proofs.Common.{◌≡◌, ◌∙◌, ℕ, [], length, sym, ap, append-nil}
use Rattle.dnsv_names.specs.Name.{Labels, wire}
use Rattle.dnsv_verdict.proofs.CaseLemmas.{some_is_one}
use Rattle.dnsv_verdict.proofs.target.whole_name.Goals as goal

pub returns-in_default : goal.returns-in_default
returns-in_default c = λ target is same.
    let found = c.read.ensures.every target [] is (same ∙ sym (append-nil (wire target))) in let none = c.in_default.is in cc

pub returns-then-length-octets : goal.returns-then-length-octets
returns-then-length-octets c = λ target is same.
    let found = c.read.ensures.every target [] is (same ∙ sym (append-nil (wire target))) in
    let read : (c.in-Some.name, c.in-Some.length) ≡ (target, length (wire target)) = some_is_one (sym c.in-Some.is ∙ found) in
    c.if-length-octets.true (ap (λ (each : Labels × ℕ). each.1) read ∙ sym (ap length same))
