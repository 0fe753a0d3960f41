use Rattle.std.proofs.Common.{List, ℕ, Bor, sym, ap, ◌∙◌, arith, map}
use Rattle.std.proofs.lemmas.List.{take_all}
use Rattle.dnsv_canonical.specs.Rrsets.{first_appearances}
use Rattle.std.specs.Str.{bytes_eq}
use Rattle.dnsv_canonical.proofs.ByRrsetLemmas.{alone, seen_more, once_more, no_more}
use Rattle.dnsv_canonical.proofs.by_rrset.each_once.Goals as goal
use Rattle.dnsv_canonical.proofs.by_rrset.each_once.Goals.{then-branch+in_ok-push, else-branch}

pub returns-then-len-lt2 : goal.returns-then-len-lt2
returns-then-len-lt2 c = alone c.args.received.items (omega (arith, c.if-len-lt2.true, c.len.ensures, c.args.received.ok.0))

pub loop-rdata-preserved : goal.loop-rdata-preserved
loop-rdata-preserved c =
    let xs : List (Bor (List ℕ)) = c.as_slice-rdata-items.result.now in
    let i : ℕ = c.loop-rdata.rdata-index in (
      elim c.if-branch.branch [
        | then-branch+in_ok-push w ↦
            ap (λ v. map (λ r. r.now) v.items) w.first_ones-is ∙ ap (map (λ (r : Bor (List ℕ)). r.now)) w.in_ok-push.ensures.items
            ∙ once_more xs i _ c.loop-rdata-test.true c.loop-rdata.seen c.loop-rdata.invariant.1 c.loop-rdata.first_ones.items c.loop-rdata.invariant.0 (sym c.in_ok-insert.ensures.added ∙ w.if-branch.true)
        | else-branch w ↦
            ap (λ v. map (λ r. r.now) v.items) w.first_ones-is
            ∙ no_more xs i _ c.loop-rdata-test.true c.loop-rdata.seen c.loop-rdata.invariant.1 c.loop-rdata.first_ones.items c.loop-rdata.invariant.0 (sym c.in_ok-insert.ensures.added ∙ w.if-branch.false)
      ],
      seen_more xs i _ c.loop-rdata-test.true c.loop-rdata.seen c.insert.new.self c.in_ok-insert.ensures.updates c.loop-rdata.invariant.1,
    )

pub returns : goal.returns
returns c =
    c.loop-rdata.invariant.0
    ∙ ap (λ rs. first_appearances bytes_eq (map (λ r. r.now) rs)) (take_all c.loop-rdata.rdata-index c.as_slice-rdata-items.result.now c.loop-rdata-test.false ∙ c.as_slice-rdata-items.ensures.value)
