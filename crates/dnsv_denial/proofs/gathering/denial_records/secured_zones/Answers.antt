use Rattle.std.proofs.Common.{◌≡◌, [], rules, sym, ◌∙◌, subst}
use Rattle.std.proofs.lemmas.Map.Iter.{rest_more}
use Rattle.std.specs.Map.Iter.{deref_pair}
use Rattle.dnsv_names.specs.Name.{Labels}
use Rattle.dnsv_chain.specs.Trust.{SecuredIn}
use Rattle.dnsv_denial.specs.gathering.ByZone.{AreSecuredRecords}
use Rattle.dnsv_denial.specs.gathering.Gathered.{IsListing}
use Rattle.dnsv_denial.proofs.lemmas.gathering.ByZoneLemmas.{AreZonesBefore, zone_more, zones_begin, zones_end}
use Rattle.dnsv_denial.proofs.gathering.denial_records.secured_zones.Goals as goal

pub secured_records-requires : goal.secured_records-requires
secured_records-requires c =
    let name : c.to_name.result ≡ c.in-Some.entry.0.now.0 = search rules in
    subst (λ (zone : Labels). IsListing (SecuredIn c.args.trust.now) c.args.capture.now.rrsets zone c.at-listed.result.now) (sym name)
    (subst (IsListing (SecuredIn c.args.trust.now) c.args.capture.now.rrsets c.in-Some.entry.0.now.0) (sym c.at-listed.ensures) (c.requires c.in-Some.entry.0.now.0))

pub loop-entry-init : goal.loop-entry-init
loop-entry-init c =
    let given : c.into_iter-entry-iterator.result ≡ c.args.numbers.now.entries = search rules in
    rw c.new-zones.ensures.items (subst (λ rest. AreZonesBefore (SecuredIn c.args.trust.now) c.args.capture.now.rrsets c.args.numbers.now.entries rest []) (sym given)
    (zones_begin (SecuredIn c.args.trust.now) c.args.capture.now.rrsets c.args.numbers.now.entries))

pub loop-entry-preserved : goal.loop-entry-preserved
loop-entry-preserved c =
    let entries = c.args.numbers.now.entries in
    let rest = c.next.new.self in
    let first = rest_more deref_pair c.loop-entry.entry-iterator rest c.next.result c.in-Some.entry c.in-Some.is c.next.ensures.steps in
    let spelled : c.to_name.result ≡ c.in-Some.entry.0.now.0 = search rules in
    let name : c.copied-name.result ≡ c.in-Some.entry.0.now.0 = search rules in
    let are = subst (λ (zone : Labels). AreSecuredRecords (SecuredIn c.args.trust.now) c.args.capture.now.rrsets zone c.in_ok-records.records) (spelled ∙ sym name) c.in_ok-records.ensures in
    rw c.in_ok-push.ensures.items (zone_more (SecuredIn c.args.trust.now) c.args.capture.now.rrsets entries rest (c.in-Some.entry.0.now, c.in-Some.entry.1.now) c.loop-entry.zones.items
    (record { name = c.copied-name.result; records = c.in_ok-records.records }) name are
    (subst (λ left. AreZonesBefore (SecuredIn c.args.trust.now) c.args.capture.now.rrsets entries left c.loop-entry.zones.items) first c.loop-entry.invariant))

pub returns-clause-each : goal.returns-clause-each
returns-clause-each c = c.loop-entry.invariant.each

pub returns-clause-all : goal.returns-clause-all
returns-clause-all c = λ name k there.
    zones_end (SecuredIn c.args.trust.now) c.args.capture.now.rrsets c.args.numbers.now.entries c.loop-entry.zones.items
    (subst (λ left. AreZonesBefore (SecuredIn c.args.trust.now) c.args.capture.now.rrsets c.args.numbers.now.entries left c.loop-entry.zones.items) c.in-None.ensures.steps.0 c.loop-entry.invariant) name k there
