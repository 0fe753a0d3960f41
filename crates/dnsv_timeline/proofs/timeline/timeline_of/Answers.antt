use Rattle.std.proofs.Common.{List, ℕ, sym, subst}
use Rattle.dnsv_timeline.specs.Joined.{IsSteady}
use Rattle.dnsv_timeline.proofs.JoinLemmas.{steady_of}
use Rattle.dnsv_timeline.proofs.timeline.timeline_of.Goals as goal

pub joined-requires : goal.joined-requires
joined-requires g c =
    subst (λ (points : List ℕ). IsSteady (g.J.Judge.says c.args.judge.now) c.args.range.from c.args.range.to points) (sym c.deref.ensures.value)
    (steady_of (g.J.Judge.says c.args.judge.now) c.args.range.from c.args.range.to c.args.signatures.now c.in_ok-points.points.items c.requires
    c.in_ok-points.ensures)
