use Rattle.std.proofs.Common.{◌∙◌}
use Rattle.dnsv_message.proofs.FollowLemmas.{named_is_read, named_is_found}
use Rattle.dnsv_message.proofs.name_ref.NameRef.to_name.Goals as goal

pub unwrap-name-requires : goal.unwrap-name-requires
unwrap-name-requires c = named_is_read _ _ c.self.invariant.0.named c.name_at.result c.name_at.ensures.fault

pub returns : goal.returns
returns c =
    named_is_found _ _ c.self.invariant.0.named c.name_at.result c.unwrap-name.result c.unwrap-name.ensures c.name_at.ensures.found ∙ c.self.view_is
