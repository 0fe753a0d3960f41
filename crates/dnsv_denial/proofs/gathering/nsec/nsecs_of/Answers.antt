use Rattle.std.proofs.Common.{refl}
use Rattle.dnsv_denial.specs.gathering.Evidence.{IsNsecOf}
use Rattle.dnsv_proof_forms.specs.records.Record.{read_entry}
use Rattle.dnsv_denial.proofs.lemmas.gathering.Gathering.{all_listed, listed_next, none_listed}
use Rattle.dnsv_denial.proofs.gathering.nsec.nsecs_of.Goals as goal

pub loop-number-init : goal.loop-number-init
loop-number-init c = rw c.new-entries.ensures.items
    (none_listed (λ entry. entry.number) read_entry (IsNsecOf c.args.capture.now.rrsets) c.args.numbers.now)

pub loop-number-preserved : goal.loop-number-preserved
loop-number-preserved c =
    let got = c.in_ok-add_nsecs.ensures in
    listed_next (λ entry. entry.number) read_entry (IsNsecOf c.args.capture.now.rrsets)
    c.args.numbers.now c.loop-number.number-index _ c.loop-number.entries.items got.0 c.add_nsecs.new.entries.items c.requires c.loop-number-test.true refl got.2 got.1 c.loop-number.invariant

pub returns : goal.returns
returns c =
    all_listed (λ entry. entry.number) read_entry (IsNsecOf c.args.capture.now.rrsets)
    c.args.numbers.now c.loop-number.number-index c.loop-number.entries.items c.loop-number-test.false c.loop-number.invariant
