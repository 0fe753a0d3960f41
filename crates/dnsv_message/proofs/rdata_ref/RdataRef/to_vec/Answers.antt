use Rattle.std.proofs.Common.{◌∙◌}
use Rattle.dnsv_message.proofs.FollowLemmas.RdataFollowed.{rdata_is_read, rdata_is_found}
use Rattle.dnsv_message.proofs.rdata_ref.RdataRef.to_vec.Goals as goal

pub unwrap-requires : goal.unwrap-requires
unwrap-requires c = rdata_is_read _ _ _ _ c.self.invariant c.in_ok-rdata.rdata (rw c.of-layout.ensures at c.in_ok-rdata.ensures)

pub returns : goal.returns
returns c =
    rdata_is_found _ _ _ _ c.self.invariant c.in_ok-rdata.rdata c.unwrap.result c.unwrap.ensures (rw c.of-layout.ensures at c.in_ok-rdata.ensures) ∙ c.self.view_is
