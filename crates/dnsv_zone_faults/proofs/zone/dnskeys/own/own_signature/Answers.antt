use Rattle.std.proofs.Common.{ℕ, refl, ap, ◌∙◌, subst}
use Rattle.std.specs.Option.{option_map}
use Rattle.dnsv_verifier.specs.Table.{TableContents}
use Rattle.dnsv_zone_keys.specs.Answers.AnswerSearch.{IsAskedOf}
use Rattle.dnsv_zone_faults.proofs.zone.dnskeys.own.own_signature.Goals as goal

pub good_places-requires-clause-asked : goal.good_places-requires-clause-asked
good_places-requires-clause-asked c =
    subst (λ (moment : ℕ). IsAskedOf moment c.args.rrset.now c.args.rrsig.now (option_map (λ each. each.items) c.in_ok-octets.octets))
    (c.moment.ensures ∙ ap (λ (t : TableContents). t.moment) c.table.ensures) c.in_ok-octets.ensures

pub returns : goal.returns
returns c = record {
  number = refl;
  is = refl;
  own = record {
    its = c.requires.its;
    asked = subst (λ (moment : ℕ). IsAskedOf moment c.args.rrset.now c.args.rrsig.now (option_map (λ each. each.items) c.in_ok-octets.octets))
        (c.moment.ensures ∙ ap (λ (t : TableContents). t.moment) c.table.ensures) c.in_ok-octets.ensures;
    good = c.in_ok-good.ensures;
  };
}
