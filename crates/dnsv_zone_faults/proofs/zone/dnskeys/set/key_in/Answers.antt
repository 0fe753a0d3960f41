use Rattle.std.proofs.Common.{List, ℕ, sym, ap, ◌∙◌, subst}
use Rattle.std.specs.Prelude.{Contains}
use Rattle.dnsv_records.specs.Dnskey.{IsDnskey}
use Rattle.dnsv_verifier.specs.Admissible.{DnskeyRecord}
use Rattle.dnsv_zone_keys.specs.Keys.Index.{Placed}
use Rattle.dnsv_zone_faults.proofs.lemmas.zones.KeyedLemmas.{found_in, found_some}
use Rattle.dnsv_zone_faults.proofs.zone.dnskeys.set.key_in.Goals as goal

pub returns-in-Some-clause-is : goal.returns-in-Some-clause-is
returns-in-Some-clause-is c =
    let keyed = c.args.keyed.now in
    let key = c.new-key.result in
    let is = c.new-key.ensures in
    let owner = ap (λ (k : DnskeyRecord). k.owner) is ∙ c.owner.ensures in
    let rdata = ap (λ (k : DnskeyRecord). k.rdata) is in
    let read : IsDnskey key.rdata key.dnskey = rw is c.requires.read in
    let among : Contains c.args.rrset.now.rdata key.rdata = subst (λ (r : List ℕ). Contains c.args.rrset.now.rdata r) (sym rdata) c.requires.among in
    let found = c.in-Some.placed.now in
    let there = subst (λ (keys : List Placed). Contains keys found) c.deref.ensures.value c.in-Some.ensures.0 in
    let its = found_in keyed c.requires.keyed c.requires.set.0 c.args.rrset.now c.requires.set.1 key owner read among found there (c.in-Some.ensures.1 ∙ sym rdata) in
    rw (c.new.ensures, c.place.ensures) its

pub returns-in-None-clause-is : goal.returns-in-None-clause-is
returns-in-None-clause-is c =
    let key = c.new-key.result in
    let is = c.new-key.ensures in
    let owner = ap (λ (k : DnskeyRecord). k.owner) is ∙ c.owner.ensures in
    let rdata = ap (λ (k : DnskeyRecord). k.rdata) is in
    let read : IsDnskey key.rdata key.dnskey = rw is c.requires.read in
    let among : Contains c.args.rrset.now.rdata key.rdata = subst (λ (r : List ℕ). Contains c.args.rrset.now.rdata r) (sym rdata) c.requires.among in
    absurd (found_some c.args.keyed.now c.requires.keyed c.requires.set.0 c.args.rrset.now c.requires.set.1 key owner read among
    (λ placed there same. c.in-None.ensures placed (subst (λ (keys : List Placed). Contains keys placed) (sym c.deref.ensures.value) there) (same ∙ rdata)))
