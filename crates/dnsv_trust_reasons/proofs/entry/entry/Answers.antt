use Rattle.std.proofs.Common.{List, subst, sym}
use Rattle.std.specs.Prelude.{IfOk, MatchOption}
use Rattle.dnsv_canonical.specs.Rrsets.{ReceivedRrset}
use Rattle.dnsv_anchors.specs.declared.anchor.Anchor.{Anchor}
use Rattle.dnsv_lines.specs.declared.line.fault.zone.Entry.{Entry}
use Rattle.dnsv_lines.specs.declared.line.fault.zone.EntryNumber.{EntryNumber}
use Rattle.dnsv_trust_reasons.specs.Places.{IsAnchorEntry, IsDsEntry, IsEntry}
use Rattle.dnsv_trust_reasons.proofs.entry.entry.Goals as goal

pub returns-in-Anchor : goal.returns-in-Anchor
returns-in-Anchor c =
    let facts = c.args.facts.now in
    subst (λ (number : EntryNumber). MatchOption c.anchor_entry.result
    ((each : Entry) → ¬ IsEntry facts.rrsets facts.anchors number each) (IsEntry facts.rrsets facts.anchors number)) (sym c.in-Anchor.is)
    (subst (λ (anchors : List Anchor). MatchOption c.anchor_entry.result
    ((each : Entry) → ¬ IsAnchorEntry anchors c.in-Anchor.anchor each) (IsAnchorEntry anchors c.in-Anchor.anchor))
    c.anchors.ensures c.anchor_entry.ensures)

pub returns-in-Ds : goal.returns-in-Ds
returns-in-Ds c =
    let facts = c.args.facts.now in
    subst (λ (number : EntryNumber). IfOk c.ds_entry.result (λ found. MatchOption found
    ((each : Entry) → ¬ IsEntry facts.rrsets facts.anchors number each) (IsEntry facts.rrsets facts.anchors number))) (sym c.in-Ds.is)
    (subst (λ (rrsets : List ReceivedRrset). IfOk c.ds_entry.result (λ found. MatchOption found
    ((each : Entry) → ¬ IsDsEntry rrsets c.in-Ds.record each) (IsDsEntry rrsets c.in-Ds.record)))
    c.capture.ensures c.ds_entry.ensures)
