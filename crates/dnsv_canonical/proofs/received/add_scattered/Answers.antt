use Rattle.std.proofs.Common.{◌≡◌, ◌==◌, ◌&&◌, ◌<◌, ◌^◌, ◌++◌, ◌∷◌, [], ℕ, List, map, if◌then◌else◌, sym, ap, subst, ◌∙◌}
use Rattle.std.specs.Str.{bytes_eq}
use Rattle.dnsv_message.specs.declared.record.Record.{Record}
use Rattle.dnsv_names.specs.Name.{same_name}
use Rattle.dnsv_canonical.specs.ByRrset.{rdata_at}
use Rattle.dnsv_canonical.specs.Rrsets.{first_appearances}
use Rattle.dnsv_canonical.proofs.GroupLemmas.{rrset_appears, rrset_appeared, rdata_of, had_at, had_is, left_after}
use Rattle.dnsv_canonical.proofs.received.add_scattered.Goals as goal
use Rattle.dnsv_canonical.proofs.received.add_scattered.Goals.{then-not-is_empty+in_ok-placed+in_ok-distinct_rdata+in_ok-push, else-not-is_empty}

pub loop-record-preserved : goal.loop-record-preserved
loop-record-preserved c =
    let records : List Record = c.args.records.now in
    let i : ℕ = c.loop-record.record-index in
    let x : Record = c.record-item.result in
    let grouped = sym c.is_grouped.ensures ∙ c.if-not-is_grouped.false in
    let taken : map (λ r. r.now) c.take_rdata-rdata.result.items ≡ (if had_at records i x then [] else rdata_of records x) =
    c.take_rdata-rdata.ensures.value ∙ ap (λ (r : Record). rdata_at c.loop-record.data r.rtype.0 r.name) c.record.view_is ∙ c.loop-record.invariant.1 x in
    let had : had_at records i x ≡ c.is_empty.result =
    had_is records i x c.loop-record-test.true c.record-item.is grouped (λ r. r.now) c.take_rdata-rdata.result.items taken
    ∙ ap (λ n. n == 0) (sym c.take_rdata-rdata.result.ok.0) ∙ sym c.is_empty.ensures in (
      elim c.if-not-is_empty.branch [
        | then-not-is_empty+in_ok-placed+in_ok-distinct_rdata+in_ok-push w ↦
            let rdata : map (λ r. r.now) c.take_rdata-rdata.result.items ≡ rdata_of records x = taken ∙ ap (λ b. if b then [] else rdata_of records x) (had ∙ w.if-not-is_empty.true) in
            let signatures = w.in_ok-distinct_rdata.ensures.once ∙ ap (first_appearances bytes_eq) (ap (λ (r : Record). rdata_at c.in_ok-signatures.signatures r.rtype.0 r.name) c.record.view_is ∙ c.in_ok-signatures.ensures x.name x.rtype.0 (subst (λ (r : Record). r.rtype.0 < 2 ^ 16) c.record.view_is w.distinct_rdata.ensures.fits)) in
            ap (λ v. v.items) w.rrsets-is ∙ w.in_ok-push.ensures.items
            ∙ (λ j. c.loop-record.rrsets.items ++ record { message = c.args.message; section = c.args.section; owner = (w.in_ok-placed.ensures ∙ ap (λ (r : Record). r.name) c.record.view_is) j; rtype = (c.record.view_is j).rtype.0; rdata = rdata j; signatures = signatures j } ∷ [])
            ∙ rrset_appears c.args.message c.args.section records i x c.loop-record-test.true c.record-item.is
            c.args.rrsets.now.items c.loop-record.rrsets.items c.loop-record.invariant.0 grouped (had ∙ w.if-not-is_empty.true)
        | else-not-is_empty w ↦
            ap (λ v. v.items) w.rrsets-is
            ∙ rrset_appeared c.args.message c.args.section records i x c.loop-record-test.true c.record-item.is
            c.args.rrsets.now.items c.loop-record.rrsets.items c.loop-record.invariant.0 grouped (had ∙ w.if-not-is_empty.false)
      ],
      λ first. left_after records i x c.loop-record-test.true c.record-item.is grouped first _ _ (c.loop-record.invariant.1 first) (c.take_rdata-rdata.ensures.left first.rtype.0 first.name
          ∙ ap (λ (r : Record). if (r.rtype.0 == first.rtype.0) && same_name r.name first.name then [] else rdata_at c.loop-record.data first.rtype.0 first.name) c.record.view_is),
    )
