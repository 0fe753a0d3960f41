use Rattle.std.proofs.Common.{◌≡◌, ℕ, List, ◌++◌, [], ◌∷◌, take, drop, map, sym, ap, ◌∙◌, append_assoc, arith}
use Rattle.std.proofs.lemmas.List.{take_min, drop_min, take_all, map_more, append-nil}
use Rattle.std.specs.Char.{to_ascii_lowercase}
use Rattle.dnsv_canonical.specs.CanonicalRdata.{lowered_but_last}
use Rattle.dnsv_canonical.proofs.form.names_lowered.Goals as goal

pub loop-octet-init : goal.loop-octet-init
loop-octet-init c =
    c.in_ok-extend_from_slice.ensures.items ∙ ap (λ octets. octets ++ c.split_at.result.0.now) c.new-form.ensures.items
    ∙ c.split_at.ensures.front ∙ ap (λ n. take n c.args.rdata.now) c.min.ensures
    ∙ take_min c.args.before c.args.rdata.now ∙ sym (append-nil _)

pub loop-octet-preserved : goal.loop-octet-preserved
loop-octet-preserved c =
    let lowered : List ℕ → List ℕ = λ octets. map to_ascii_lowercase octets in
    c.in_ok-push.ensures.items ∙ ap (λ form. form ++ c.to_ascii_lowercase.result ∷ []) c.loop-octet.invariant
    ∙ append_assoc (take c.args.before c.args.rdata.now) (lowered (take c.loop-octet.octet-index c.split_at-2.result.0.now)) (c.to_ascii_lowercase.result ∷ [])
    ∙ ap (λ octets. take c.args.before c.args.rdata.now ++ octets)
    (ap (λ octet. lowered (take c.loop-octet.octet-index c.split_at-2.result.0.now) ++ octet ∷ []) c.to_ascii_lowercase.ensures.value
    ∙ sym (map_more to_ascii_lowercase c.split_at-2.result.0.now c.loop-octet.octet-index 0 c.loop-octet-test.true))

pub returns : goal.returns
returns c =
    let rest : c.split_at.result.1.now ≡ drop c.args.before c.args.rdata.now =
    c.split_at.ensures.back ∙ ap (λ n. drop n c.args.rdata.now) c.min.ensures ∙ drop_min c.args.before c.args.rdata.now in
    c.in_ok-extend_from_slice-2.ensures.items
    ∙ ap (λ form. form ++ c.split_at-2.result.1.now) c.loop-octet.invariant
    ∙ ap (λ octets. (take c.args.before c.args.rdata.now ++ map to_ascii_lowercase octets) ++ c.split_at-2.result.1.now)
    (take_all c.loop-octet.octet-index c.split_at-2.result.0.now (omega arith))
    ∙ append_assoc (take c.args.before c.args.rdata.now) (map to_ascii_lowercase c.split_at-2.result.0.now) c.split_at-2.result.1.now
    ∙ ap (λ octets. take c.args.before c.args.rdata.now ++ octets)
    ((λ j. map to_ascii_lowercase (c.split_at-2.ensures.front j) ++ c.split_at-2.ensures.back j)
    ∙ ap (λ n. map to_ascii_lowercase (take n c.split_at.result.1.now) ++ drop n c.split_at.result.1.now) c.saturating_sub.ensures
    ∙ ap (lowered_but_last c.args.behind) rest)
