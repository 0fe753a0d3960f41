use Rattle.std.proofs.Common.{◌+◌, ap, sym, ◌∙◌}
use Rattle.dnsv_names.specs.Name.{Labels, rightmost}
use Rattle.dnsv_verdict.proofs.at_name.settling.opt_out_wildcard_cut.Goals as goal

pub returns : goal.returns
returns c =
    let found = c.in-Some.found in
    let at = c.in-Some.ensures in record {
      k = found.rrset;
      s = found.signature;
      earliest = at.0;
      next_closer = c.suffix.ensures.labels
          ∙ ap (λ (name : Labels). rightmost name (found.rrsig.now.labels + 1)) c.name.ensures
          ∙ ap (λ rrsig. rightmost c.args.view.now.name (rrsig.labels + 1)) (sym at.1);
    }
