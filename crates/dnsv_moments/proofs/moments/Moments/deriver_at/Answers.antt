use Rattle.std.proofs.Common.{◌∙◌, ap, sym}
use Rattle.dnsv_chain.specs.Basis.{CaseContents, basis_of}
use Rattle.dnsv_moments.specs.Moments.{MomentsContents}
use Rattle.dnsv_moments.proofs.SayingLemmas.{case_at}
use Rattle.dnsv_moments.proofs.moments.Moments.deriver_at.Goals as goal

pub going_on-requires-clause-case : goal.going_on-requires-clause-case
going_on-requires-clause-case c =
    let held = c.self.invariant.1 in
    let inside = c.self.inside in (
      basis_of inside.table.rrsets inside.anchors.now c.nearest-nearest.result held.0,
      c.in_ok-case.ensures.basis held.0 c.nearest-nearest.result inside.table.rrsets
          (c.in_ok-table.ensures.within held.0 inside.range.from inside.range.to inside.table.rrsets held.1
          c.nearest-nearest.ensures.from c.nearest-nearest.ensures.to),
    )

pub returns-clause-case : goal.returns-clause-case
returns-clause-case c = λ meaning by begun within.
    let inside = c.self.inside in
    case_at c.args.self.now (record {
      rrsets = inside.table.rrsets;
      anchors = inside.anchors.now;
      from = inside.range.from;
      to = inside.range.to;
      table = inside.table;
    }) (sym c.self.view_is) meaning c.args.moment c.nearest-nearest.result c.in_ok-deriver.deriver by begun within
    c.nearest-nearest.ensures.same
    (λ is. c.in_ok-deriver.ensures.basis (basis_of inside.table.rrsets inside.anchors.now c.nearest-nearest.result meaning)
    (c.in_ok-case.ensures.basis meaning c.nearest-nearest.result inside.table.rrsets
    (c.in_ok-table.ensures.within meaning inside.range.from inside.range.to inside.table.rrsets is
    c.nearest-nearest.ensures.from c.nearest-nearest.ensures.to)))

pub returns-clause-evidence : goal.returns-clause-evidence
returns-clause-evidence c =
    let held = c.self.invariant.1 in
    let inside = c.self.inside in
    let case = c.in_ok-case.ensures.basis held.0 c.nearest-nearest.result inside.table.rrsets
    (c.in_ok-table.ensures.within held.0 inside.range.from inside.range.to inside.table.rrsets held.1
    c.nearest-nearest.ensures.from c.nearest-nearest.ensures.to) in
    ap (λ (case : CaseContents). case.rrsets) c.in_ok-deriver.ensures.contents
    ∙ case.rrsets ∙ ap (λ (moments : MomentsContents). moments.rrsets) c.self.view_is
