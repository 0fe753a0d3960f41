use Rattle.std.proofs.Common.{ℕ, sym, ap, ◌∙◌, subst}
use Rattle.std.specs.Prelude.{Contains}
use Rattle.dnsv_records.specs.Dnskey.KeyTag.{key_tag_of}
use Rattle.dnsv_verifier.specs.Admissible.{DnskeyRecord}
use Rattle.dnsv_zone_faults.specs.Dnskeys.OwnSearch.{HasGood}
use Rattle.dnsv_zone_faults.proofs.zone.dnskeys.is_signing.Goals as goal

pub returns : goal.returns
returns c =
    let tag = c.key_tag.ensures ∙ ap (λ (key : DnskeyRecord). key_tag_of key.rdata) c.key.ensures in
    let tagged = c.tagged.ensures in (
      λ yes.
          let has : HasGood c.tagged.result.now c.place.result = c.has_good.ensures.0 yes in record {
            own = has.own;
            among = tagged.among has.own has.among;
            tag = tagged.its has.own has.among ∙ tag;
            good = subst (λ (n : ℕ). Contains has.own.good n) c.place.ensures has.good;
          },
      λ is. c.has_good.ensures.1 (record {
        own = is.own;
        among = tagged.all is.own is.among (is.tag ∙ sym tag);
        good = subst (λ (n : ℕ). Contains is.own.good n) (sym c.place.ensures) is.good;
      }),
    )
