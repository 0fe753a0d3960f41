use Rattle.std.proofs.Common.{◌≡◌, sym, ap, ◌∙◌, refl}
use Rattle.std.proofs.lemmas.Bool.{false≢true}
use Rattle.dnsv_verifier.specs.Admissible.{DnskeyRecord, IsGood}
use Rattle.dnsv_derivations.specs.Explained.{setting_in}
use Rattle.dnsv_derivations.specs.derivations.WaySearch.{key_of}
use Rattle.dnsv_derivations.proofs.lemmas.derivations.WayLemmas.KeysLemmas.{keys_read}
use Rattle.dnsv_derivations.proofs.lemmas.derivations.WayLemmas.SearchLemmas.{lowest_of_all, none_more, none_of_all, stands_at}
use Rattle.dnsv_derivations.proofs.derivations.signers.lowest_good_key.Goals as goal

pub loop-each-preserved : goal.loop-each-preserved
loop-each-preserved c =
    let x = c.each-item.result in
    let is : c.new-key.result ≡ key_of c.args.set.now.owner x.rdata.now x.record.now =
    c.new-key.ensures ∙ ap (λ owner. key_of owner x.rdata.now x.record.now) c.owner.ensures in
    none_more (λ each. key_of c.args.set.now.owner each.rdata.now each.record.now) c.args.set.now c.deref-each-items.result.now
    (keys_read (λ each. each.rdata.now) (λ each. each.record.now) c.args.set.now c.in_ok-records.records.items c.deref-each-items.result.now
    c.deref-each-items.ensures.value c.requires c.in_ok-records.ensures.order c.in_ok-records.ensures.read)
    (IsGood (setting_in c.args.evidence.now).meaning (setting_in c.args.evidence.now).moment c.args.rrset.now c.args.rrsig.now)
    c.loop-each.each-index x c.new-key.result c.loop-each-test.true c.each-item.is is
    (λ good. false≢true (sym c.if-branch.false ∙ c.in_ok-is_good.ensures.1 good)) c.loop-each.invariant

pub returns-then-branch : goal.returns-then-branch
returns-then-branch c =
    let x = c.each-item.result in
    let is : c.new-key.result ≡ key_of c.args.set.now.owner x.rdata.now x.record.now =
    c.new-key.ensures ∙ ap (λ owner. key_of owner x.rdata.now x.record.now) c.owner.ensures in
    let in_order = keys_read (λ each. each.rdata.now) (λ each. each.record.now) c.args.set.now c.in_ok-records.records.items
    c.deref-each-items.result.now c.deref-each-items.ensures.value c.requires c.in_ok-records.ensures.order c.in_ok-records.ensures.read in
    record {
      key = c.new-key.result;
      of = record { set = refl; rdata = sym (ap (λ (key : DnskeyRecord). key.rdata) c.new-key.ensures); named = c.key_name.ensures };
      stands = stands_at (λ each. key_of c.args.set.now.owner each.rdata.now each.record.now) c.args.set.now c.deref-each-items.result.now in_order
          (IsGood (setting_in c.args.evidence.now).meaning (setting_in c.args.evidence.now).moment c.args.rrset.now c.args.rrsig.now)
          c.loop-each.each-index x c.new-key.result c.loop-each-test.true c.each-item.is is;
      good = c.in_ok-is_good.ensures.0 c.if-branch.true;
      todo = c.in_ok-todo.ensures (c.in_ok-is_good.ensures.0 c.if-branch.true);
      lowest = lowest_of_all (λ each. key_of c.args.set.now.owner each.rdata.now each.record.now) c.args.set.now c.deref-each-items.result.now in_order
          (IsGood (setting_in c.args.evidence.now).meaning (setting_in c.args.evidence.now).moment c.args.rrset.now c.args.rrsig.now)
          c.loop-each.each-index x c.new-key.result c.loop-each-test.true c.each-item.is is c.loop-each.invariant;
    }

pub returns : goal.returns
returns c =
    none_of_all (λ each. key_of c.args.set.now.owner each.rdata.now each.record.now) c.args.set.now c.deref-each-items.result.now
    (keys_read (λ each. each.rdata.now) (λ each. each.record.now) c.args.set.now c.in_ok-records.records.items c.deref-each-items.result.now
    c.deref-each-items.ensures.value c.requires c.in_ok-records.ensures.order c.in_ok-records.ensures.read)
    (IsGood (setting_in c.args.evidence.now).meaning (setting_in c.args.evidence.now).moment c.args.rrset.now c.args.rrsig.now)
    c.loop-each.each-index c.loop-each-test.false c.loop-each.invariant
