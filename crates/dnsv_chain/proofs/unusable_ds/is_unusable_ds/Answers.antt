use Rattle.std.proofs.Common.{◌≡◌, ◌∙◌, sym, subst}
use Rattle.std.specs.Prelude.{Contains}
use Rattle.std.proofs.lemmas.Bool.{eqb-true, false_from_ne_true, not-false, not-true, not_from_false}
use Rattle.dnsv_names.specs.Name.{Labels, IsAtOrBelow}
use Rattle.dnsv_chain.proofs.UnusableDsLemmas.{ds_read, none_usable, some_number}
use Rattle.dnsv_chain.proofs.unusable_ds.is_unusable_ds.Goals as goal

pub returns : goal.returns
returns c =
    let rtype : c.args.rrset.now.rtype ≡ 43 = sym c.rtype.ensures ∙ eqb-true _ _ (not-false _ (sym c.ne.ensures ∙ c.if-ne.false)) in
    let secured = some_number c.args.secured.now c.is_empty.result c.is_empty.ensures c.if-is_empty.false in (
      λ yes. record {
        above = subst (λ (owner : Labels). IsAtOrBelow c.args.name.now owner) c.owner.ensures
            (c.is_at_or_below.ensures.at_or_below.0 c.if-not-is_at_or_below.false);
        rtype = rtype;
        signature = secured.0;
        secured = secured.1;
        records = c.ds_records.result.now;
        read = ds_read c.args.rrset.now c.ds_records.result.now rtype c.ds_records.ensures;
        none = λ has. let fails = not-true c.has_usable.result yes in let holds = c.has_usable.ensures.1 has in cc;
      },
      λ is. not_from_false c.has_usable.result (false_from_ne_true c.has_usable.result
          (λ some. none_usable (λ s. Contains c.args.secured.now s) c.args.rrset.now c.args.name.now c.ds_records.result.now c.ds_records.ensures is (c.has_usable.ensures.0 some))),
    )
