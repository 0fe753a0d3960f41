use Rattle.std.proofs.Common.{ℕ, List, sym, ap, ◌∙◌, subst}
use Rattle.std.proofs.lemmas.Bool.{false≢true}
use Rattle.dnsv_verifier.proofs.NumberedLemmas.{gives_nothing, gives_pushed}
use Rattle.dnsv_verifier.specs.Admissible.{DnskeyRecord, IsGood}
use Rattle.dnsv_verifier.specs.Asking.{GivesMore}
use Rattle.dnsv_verifier.specs.Table.{table_answer}
use Rattle.dnsv_zone_faults.specs.Dnskeys.DnskeySearch.{HasFound, IsFoundPlace}
use Rattle.dnsv_zone_keys.specs.Keys.Index.{Placed}
use Rattle.dnsv_zone_faults.proofs.zone.dnskeys.own.add_good.Goals as goal

pub returns-in_default : goal.returns-in_default
returns-in_default c =
    let Good : DnskeyRecord → Type 0 = IsGood (table_answer c.args.table.now) c.args.table.now.moment c.args.rrset.now c.args.rrsig.now in
    let rdata = c.rdata.ensures ∙ ap (λ (key : DnskeyRecord). key.rdata) c.key.ensures in
    gives_nothing (IsFoundPlace c.args.keys.now Good) (HasFound c.args.keys.now Good) c.args.named.now c.args.places.now.items
    (λ has. c.in_default.ensures has.own has.among (has.rdata ∙ sym rdata))

pub returns-then-not-is_good_under : goal.returns-then-not-is_good_under
returns-then-not-is_good_under c =
    let Good : DnskeyRecord → Type 0 = IsGood (table_answer c.args.table.now) c.args.table.now.moment c.args.rrset.now c.args.rrsig.now in
    let rdata = c.rdata.ensures ∙ ap (λ (key : DnskeyRecord). key.rdata) c.key.ensures in
    gives_nothing (IsFoundPlace c.args.keys.now Good) (HasFound c.args.keys.now Good) c.args.named.now c.args.places.now.items
    (λ has.
    let same = c.requires.same has.own c.in-Some.own.now has.among c.in-Some.ensures.0 (has.rdata ∙ sym rdata ∙ sym c.in-Some.ensures.1) in
    let good = subst (λ (placed : Placed). Good placed.key) same has.such in
    false≢true (sym c.if-not-is_good_under.true ∙ c.is_good_under.ensures.1 good))

pub returns : goal.returns
returns c =
    let Good : DnskeyRecord → Type 0 = IsGood (table_answer c.args.table.now) c.args.table.now.moment c.args.rrset.now c.args.rrsig.now in
    let keys = c.args.keys.now in
    let rdata = c.rdata.ensures ∙ ap (λ (key : DnskeyRecord). key.rdata) c.key.ensures in
    let it : IsFoundPlace keys Good c.args.named.now c.place.result = record {
      own = c.in-Some.own.now;
      among = c.in-Some.ensures.0;
      rdata = c.in-Some.ensures.1 ∙ rdata;
      such = c.is_good_under.ensures.0 c.if-not-is_good_under.false;
      is = c.place.ensures;
    } in
    subst (λ (new : List ℕ). GivesMore (IsFoundPlace keys Good) (HasFound keys Good) c.args.named.now c.args.places.now.items new) (sym c.in_ok-push.ensures.items)
    (gives_pushed (IsFoundPlace keys Good) (HasFound keys Good) c.args.named.now c.args.places.now.items c.place.result it)
