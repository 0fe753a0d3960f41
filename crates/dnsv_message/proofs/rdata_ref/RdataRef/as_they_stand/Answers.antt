use Rattle.std.proofs.Common.{◌∙◌, sym, ap}
use Rattle.dnsv_message.specs.declared.rdata.Layout.{Layout}
use Rattle.dnsv_message.proofs.FollowLemmas.RdataFollowed.{plain_seen}
use Rattle.dnsv_message.proofs.rdata_ref.RdataRef.as_they_stand.Goals as goal

pub returns : goal.returns
returns c =
    plain_seen _ _ _ _ c.self.invariant (sym (ap (λ (layout : Layout). layout.pointers) c.of.ensures) ∙ c.if-of.false) ∙ c.self.view_is
