use Rattle.std.proofs.Common.{if◌then◌else◌, Some, refl, sym, ap, ◌∙◌, map}
use Rattle.dnsv_canonical.specs.ByRrset.{rdata_at}
use Rattle.dnsv_canonical.proofs.ByRrsetLemmas.{Key, rdata_added, rdata_after, rdata_found, octets_of}
use Rattle.dnsv_canonical.proofs.by_rrset.add.Goals as goal

pub returns-in_ok-insert : goal.returns-in_ok-insert
returns-in_ok-insert c =
    let old = c.args.by_rrset.now in
    let left = c.insert.new.self in
    let key : Key = (c.args.rtype, record { 0 = c.args.owner }) in
    rdata_added old left c.insert-in-Some.new.self key c.in-Some.received c.push-in-Some.new.self c.args.rdata
    (ap octets_of (sym c.in-Some.is ∙ c.in_ok-received.ensures.old) ∙ rdata_found old key)
    (λ t name other. rdata_after old left key (Some c.push.new.self) c.in_ok-received.ensures.updates t name
    ∙ ap (λ b. if b then octets_of (Some c.push.new.self) else rdata_at old t name) other)
    c.in_ok-push-2.ensures.items c.in_ok-insert.ensures.updates

pub returns-in_default : goal.returns-in_default
returns-in_default c =
    let old = c.args.by_rrset.now in
    let key : Key = (c.args.rtype, record { 0 = c.args.owner }) in
    rdata_added old old c.insert.new.self key c.in_ok-first.first c.push.new.self c.args.rdata
    (ap (map (λ r. r.now)) c.in_ok-first.ensures.items ∙ ap octets_of (sym c.in_default.is ∙ c.in_ok-received.ensures.old) ∙ rdata_found old key)
    (λ t name other. refl)
    c.in_ok-push.ensures.items c.in_ok-received.ensures.updates
