use Rattle.std.proofs.Common.{◌∷◌, ◌∙◌, sym, ap}
use Rattle.dnsv_message.specs.Following.{label_at}
use Rattle.dnsv_message.proofs.FollowLemmas.{has_label}
use Rattle.dnsv_message.proofs.name_ref.following.next_label.Goals as goal

pub behind_pointers-requires : goal.behind_pointers-requires
behind_pointers-requires c =
    (has_label c.args.octets.now c.args.place c.requires.stands.named c.requires.not_root c.requires.stands.plain).rest

pub returns-clause-labels : goal.returns-clause-labels
returns-clause-labels c =
    (has_label c.args.octets.now c.args.place c.requires.stands.named c.requires.not_root c.requires.stands.plain).labels
    ∙ ap (λ labels. label_at c.args.octets.now c.args.place ∷ labels) (sym c.behind_pointers.ensures.same)
