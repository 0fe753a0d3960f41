use Rattle.std.proofs.Common.{refl}
use Rattle.dnsv_derivations.specs.Explained.{setting_in}
use Rattle.dnsv_derivations.proofs.lemmas.derivations.OwnLemmas.{lowest_found, none_at_all}
use Rattle.dnsv_derivations.proofs.lemmas.NumberedLemmas.{in_list}
use Rattle.dnsv_derivations.proofs.derivations.own.lowest_own.Goals as goal

pub returns-then-is_own : goal.returns-then-is_own
returns-then-is_own c = (
  refl,
  lowest_found (setting_in c.args.evidence.now) c.args.zone.now c.args.rrset c.in-Some.found.now
      (in_list c.args.evidence.now.rrsets c.rrsets.result.now c.args.rrset c.in-Some.found.now c.rrsets.ensures c.in-Some.ensures)
      c.secured-signature-items.result.now c.secured-signature-items.ensures c.loop-signature.signature-index
      c.loop-signature-test.true (c.is_own.ensures.0 c.if-is_own.true) c.loop-signature.invariant,
)

pub returns : goal.returns
returns c =
    none_at_all (setting_in c.args.evidence.now) c.args.zone.now c.args.rrset c.in-Some.found.now
    (in_list c.args.evidence.now.rrsets c.rrsets.result.now c.args.rrset c.in-Some.found.now c.rrsets.ensures c.in-Some.ensures)
    c.secured-signature-items.result.now c.secured-signature-items.ensures c.loop-signature.signature-index
    c.loop-signature-test.false c.loop-signature.invariant
