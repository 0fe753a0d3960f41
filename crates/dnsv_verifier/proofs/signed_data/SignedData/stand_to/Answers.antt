use Rattle.std.proofs.Common.{rules, ◌≡◌, ◌++◌, sym, ap, ◌∙◌}
use Rattle.std.proofs.lemmas.List.{append_assoc}
use Rattle.std.specs.Ordering.{ordering_then, ordering_reverse}
use Rattle.dnsv_names.specs.Octets.{octets_cmp}
use Rattle.dnsv_verifier.proofs.SignedDataLemmas.{parted, turned}
use Rattle.dnsv_verifier.proofs.signed_data.SignedData.stand_to.Goals as goal

pub returns-then-self-other : goal.returns-then-self-other
returns-then-self-other c =
    let own = c.self.inside in
    let its = c.other.inside in
    let joined : c.then_with.result ≡ ordering_then (octets_cmp own.front.now its.front.now) (octets_cmp own.records.now its.records.now) = search rules in
    joined ∙ sym (parted own.front.now its.front.now own.records.now its.records.now c.if-self-other.true)
    ∙ ap (λ all. octets_cmp (own.front.now ++ own.records.now) all) c.other.view_is
    ∙ ap (λ all. octets_cmp all c.args.other.now) c.self.view_is

pub returns-then-self-other-2 : goal.returns-then-self-other-2
returns-then-self-other-2 c =
    let own = c.self.inside in
    let its = c.other.inside in
    let first = c.split_at.result.0.now in
    let rest = c.split_at.result.1.now in
    let joined : c.then_with-then-self-other-2.result ≡ ordering_then (octets_cmp own.front.now first) (octets_cmp own.records.now (rest ++ its.records.now)) = search rules in
    joined ∙ sym (parted own.front.now first own.records.now (rest ++ its.records.now) (sym c.split_at.ensures.front_len))
    ∙ ap (λ all. octets_cmp (own.front.now ++ own.records.now) all)
    (sym (append_assoc first rest its.records.now) ∙ ap (λ front. front ++ its.records.now) (sym c.split_at.ensures.by_index.0) ∙ c.other.view_is)
    ∙ ap (λ all. octets_cmp all c.args.other.now) c.self.view_is

pub returns : goal.returns
returns c =
    let own = c.self.inside in
    let its = c.other.inside in
    let first = c.split_at-2.result.0.now in
    let rest = c.split_at-2.result.1.now in
    let joined : c.then_with-2.result ≡ ordering_then (octets_cmp first its.front.now)
    (ordering_reverse (octets_cmp its.records.now (rest ++ own.records.now))) = search rules in
    joined ∙ ap (ordering_then (octets_cmp first its.front.now)) (turned (rest ++ own.records.now) its.records.now)
    ∙ sym (parted first its.front.now (rest ++ own.records.now) its.records.now c.split_at-2.ensures.front_len)
    ∙ ap (λ all. octets_cmp all (its.front.now ++ its.records.now))
    (sym (append_assoc first rest own.records.now) ∙ ap (λ front. front ++ own.records.now) (sym c.split_at-2.ensures.by_index.0) ∙ c.self.view_is)
    ∙ ap (λ all. octets_cmp c.args.self.now all) c.other.view_is
