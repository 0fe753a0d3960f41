use Rattle.std.proofs.Common.{List, ap, sym, subst, ◌∙◌, arith, map}
use Rattle.std.specs.List.{AllByRecursion}
use Rattle.dnsv_canonical.proofs.ListLemmas.{each_at}
use Rattle.dnsv_records.specs.declared.dnskey.Dnskey.{Dnskey}
use Rattle.dnsv_rrsets.specs.declared.canonical_order.ReadRecord.{ReadRecord}
use Rattle.dnsv_verifier.specs.Admissible.{DnskeyRecord}
use Rattle.dnsv_zone_keys.specs.Keys.Index.{Placed}
use Rattle.dnsv_zone_keys.specs.Keys.ZoneSearch.{IsOf, IsRead}
use Rattle.dnsv_zone_keys.proofs.lemmas.OnceLemmas.{each_push, no_more, once_more, pair, seen_more}
use Rattle.dnsv_zone_keys.proofs.keys.each_once.Goals as goal

pub loop-each-preserved-then-not-branch : goal.loop-each-preserved-then-not-branch
loop-each-preserved-then-not-branch c =
    let standing = c.args.standing.now in
    let i = c.loop-each.each-index in
    let item = c.each-item.result in (
      no_more (λ (each : ReadRecord Dnskey). each.rdata) standing i item c.loop-each-test.true c.each-item.is c.loop-each.seen c.loop-each.invariant.1
          c.loop-each.keys.items c.loop-each.invariant.0 (sym c.in_ok-insert.ensures.added ∙ c.if-not-branch.true),
      seen_more (λ (each : ReadRecord Dnskey). each.rdata) standing i item c.loop-each-test.true c.each-item.is c.loop-each.seen c.insert.new.self
          c.in_ok-insert.ensures.updates c.loop-each.invariant.1,
      c.loop-each.invariant.2,
    )

pub loop-each-preserved : goal.loop-each-preserved
loop-each-preserved c =
    let standing = c.args.standing.now in
    let i = c.loop-each.each-index in
    let item = c.each-item.result in
    let made = c.new.result in
    let key_is = ap (λ (p : Placed). p.key) c.new.ensures ∙ c.new-key.ensures in
    let place_is = ap (λ (p : Placed). p.place) c.new.ensures in
    let read : IsRead item = subst IsRead (sym c.each-item.is) (each_at IsRead standing i item c.requires c.loop-each-test.true) in
    let own : IsOf c.args.owner.now made = record {
      owner_is = ap (λ (k : DnskeyRecord). k.owner) key_is;
      read = rw key_is read;
    } in (
      ap (map pair) c.in_ok-push.ensures.items
          ∙ once_more (λ (each : ReadRecord Dnskey). each.rdata) standing i item c.loop-each-test.true c.each-item.is c.loop-each.seen
          c.loop-each.invariant.1 c.loop-each.keys.items c.loop-each.invariant.0 made
          (sym c.in_ok-insert.ensures.added ∙ c.if-not-branch.false) (omega (arith, place_is, c.len.ensures, c.loop-each.keys.ok.0))
          (ap (λ (k : DnskeyRecord). k.rdata) key_is),
      seen_more (λ (each : ReadRecord Dnskey). each.rdata) standing i item c.loop-each-test.true c.each-item.is c.loop-each.seen c.insert.new.self
          c.in_ok-insert.ensures.updates c.loop-each.invariant.1,
      subst (λ (keys : List Placed). AllByRecursion (IsOf c.args.owner.now) keys) (sym c.in_ok-push.ensures.items)
          (each_push (IsOf c.args.owner.now) c.loop-each.keys.items made c.loop-each.invariant.2 own),
    )
