use Rattle.std.proofs.Common.{refl}
use Rattle.std.specs.Prelude.{Some}
use Rattle.dnsv_proof_forms.specs.forms.ShownUnsigned.ShowsOptOut.{opt_out, wildcard_opt_out}
use Rattle.dnsv_proof_forms.proofs.lemmas.forms.CutLemmas.{none_out_by_nsec}
use Rattle.dnsv_proof_forms.proofs.forms.unsigned.opt_out_at.Goals as goal

pub returns-then-needs_none : goal.returns-then-needs_none
returns-then-needs_none c =
    none_out_by_nsec c.args.apex.now c.args.name.now c.args.records.now c.args.labels (c.needs_none.ensures.0 c.if-needs_none.true)

pub returns-in-Some : goal.returns-in-Some
returns-in-Some c = opt_out (Some c.in_ok-encloser.encloser) c.in-Some.next_closer (record {
  above = c.is_above.ensures.above.0 c.if-not-is_above.false;
  encloser = (
    λ needs. let holds = c.needs_none.ensures.1 needs in let fails = c.if-needs_none.false in cc,
    c.in_ok-encloser.ensures c.args.apex.now,
  );
  next_closer = c.in-Some.ensures c.args.apex.now;
})

pub returns : goal.returns
returns c =
    wildcard_opt_out (record {
      labels = c.args.labels;
      encloser = Some c.in_ok-encloser.encloser;
      next_closer = c.in_ok-covering.covering;
      wildcard = c.in_ok-wildcard.wildcard;
    }) refl (record {
      none = c.in_default.ensures c.args.apex.now;
      shows = record {
        above = c.is_above.ensures.above.0 c.if-not-is_above.false;
        encloser = (
          λ needs. let holds = c.needs_none.ensures.1 needs in let fails = c.if-needs_none.false in cc,
          c.in_ok-encloser.ensures c.args.apex.now,
        );
        next_closer = c.in_ok-covering.ensures c.args.apex.now;
        wildcard = c.in_ok-wildcard.ensures c.args.apex.now;
      };
    })
