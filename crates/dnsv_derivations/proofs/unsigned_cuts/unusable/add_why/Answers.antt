use Rattle.std.proofs.Common.{◌+◌, ◌∙◌, refl}
use Rattle.dnsv_derivations.specs.Explained.{setting_in}
use Rattle.dnsv_lines.specs.declared.line.cut.UnusableDs.{UnusableDs}
use Rattle.dnsv_derivations.proofs.lemmas.NumberedLemmas.{in_list}
use Rattle.dnsv_derivations.proofs.lemmas.unsigned_cuts.UnusableLemmas.{all_told, never_usable, none_usable, one_told, set_delegates, set_read, unusable_at}
use Rattle.dnsv_derivations.proofs.unsigned_cuts.unusable.add_why.Goals as goal

pub loop-place-preserved : goal.loop-place-preserved
loop-place-preserved c =
    let setting = setting_in c.args.evidence.now in
    let ds = c.in-Some.rrset.now in
    let numbered = in_list c.args.evidence.now.rrsets c.rrsets.result.now c.args.number ds c.rrsets.ensures c.in-Some.ensures in
    let values = c.ds_records-values.result.now in
    let name = c.requires.0 in
    let is = c.requires.1 in
    let zip = set_read setting name c.args.number ds numbered values is c.ds_records-values.ensures in
    let x = c.each-item.result in
    let unusable : UnusableDs = record {
      why = c.why_unusable.result;
      owner = c.in_ok-clone.field-0;
      number = record { rrset = c.args.number; place = c.loop-place.place + 1 };
      key = record { tag = x.record.now.key_tag; algorithm = x.record.now.algorithm };
      digest_type = x.record.now.digest_type;
    } in
    one_told c.args.evidence.now.rrsets c.args.number c.args.lines.now.items c.loop-place.place c.loop-place.lines.items
    c.push.new.self.items unusable c.in_ok-push.ensures.items refl
    (unusable_at (λ each. each.rdata.now) (λ each. each.record.now) c.args.evidence.now.rrsets c.args.number ds numbered
    (set_delegates setting name c.args.number ds numbered is).rtype values zip c.in_ok-records.records.items
    c.deref-each-items.result.now c.deref-each-items.ensures.value c.in_ok-records.ensures.order c.in_ok-records.ensures.read
    c.loop-place.place x unusable c.loop-place-test.true c.each-item.is refl (c.in_ok-clone.ensures.cases ∙ c.owner.ensures)
    (c.why_unusable.ensures
    (never_usable (λ each. each.rdata.now) (λ each. each.record.now) c.args.evidence.now.rrsets c.args.number ds numbered
    (set_delegates setting name c.args.number ds numbered is).rtype values zip c.in_ok-records.records.items
    c.deref-each-items.result.now c.deref-each-items.ensures.value c.in_ok-records.ensures.order c.in_ok-records.ensures.read
    c.loop-place.place x (none_usable setting name c.args.number ds numbered values is c.ds_records-values.ensures)
    c.loop-place-test.true c.each-item.is))
    refl refl refl)
    c.loop-place.invariant

pub returns : goal.returns
returns c =
    let setting = setting_in c.args.evidence.now in
    let ds = c.in-Some.rrset.now in
    let numbered = in_list c.args.evidence.now.rrsets c.rrsets.result.now c.args.number ds c.rrsets.ensures c.in-Some.ensures in
    let values = c.ds_records-values.result.now in
    let is = c.requires.1 in
    all_told (λ each. each.rdata.now) (λ each. each.record.now) c.args.evidence.now.rrsets c.args.number ds numbered
    (set_delegates setting c.requires.0 c.args.number ds numbered is).rtype values
    (set_read setting c.requires.0 c.args.number ds numbered values is c.ds_records-values.ensures) c.in_ok-records.records.items
    c.deref-each-items.result.now c.deref-each-items.ensures.value c.in_ok-records.ensures.order c.in_ok-records.ensures.read
    c.loop-place.place c.args.lines.now.items c.loop-place.lines.items c.loop-place-test.false c.loop-place.invariant
