-- the first case that holds, with those before it refuted
use Rattle.std.proofs.Common.{inl, inr}
use Rattle.dnsv_chain.specs.Trust.{SecuredIn}
use Rattle.dnsv_verdict.proofs.CaseLemmas.{nothing_settled}
use Rattle.dnsv_verdict.proofs.at_name.settling.settled.Goals as goal

pub returns-in-Some-secure_alias : goal.returns-in-Some-secure_alias
returns-in-Some-secure_alias c =
    (λ has. c.in_default.ensures has.0 has.1 has.2, c.in-Some-secure_alias.ensures.0, c.in-Some-secure_alias.ensures.1)

pub returns-in-Some-no_name : goal.returns-in-Some-no_name
returns-in-Some-no_name c = (
  λ has. c.in_default.ensures has.0 has.1 has.2,
  c.in_default-secure_alias.ensures,
  c.in-Some-no_name.ensures.first,
)

pub returns-in-Some-no_data : goal.returns-in-Some-no_data
returns-in-Some-no_data c = (
  λ has. c.in_default.ensures has.0 has.1 has.2,
  c.in_default-secure_alias.ensures,
  c.in_default-no_name.ensures.first,
  c.in-Some-no_data.ensures.first,
)

pub returns-in-Some-unsigned_cut : goal.returns-in-Some-unsigned_cut
returns-in-Some-unsigned_cut c = (
  λ has. c.in_default.ensures has.0 has.1 has.2,
  c.in_default-secure_alias.ensures,
  c.in_default-no_name.ensures.first,
  c.in_default-no_data.ensures.first,
  inl c.in-Some-unsigned_cut.ensures.first,
)

pub returns-in-Some-opt_out_wildcard_cut : goal.returns-in-Some-opt_out_wildcard_cut
returns-in-Some-opt_out_wildcard_cut c = (
  λ has. c.in_default.ensures has.0 has.1 has.2,
  c.in_default-secure_alias.ensures,
  c.in_default-no_name.ensures.first,
  c.in_default-no_data.ensures.first,
  inr (c.in_default-unsigned_cut.ensures.first, c.in-Some-opt_out_wildcard_cut.ensures),
)

pub returns : goal.returns
returns c =
    nothing_settled (SecuredIn c.args.view.now.trust) c.args.view.now.rrsets c.args.view.now.name c.args.rtype.0
    (λ has. c.in_default.ensures has.0 has.1 has.2)
    c.in_default-secure_alias.ensures
    c.in_default-no_name.ensures.first
    c.in_default-no_data.ensures.first
    c.in_default-unsigned_cut.ensures.first
    (λ k s opt_out. c.in_default-opt_out_wildcard_cut.ensures k s opt_out)
