use Rattle.std.proofs.Common.{◌≡◌, ◌+◌, ◌++◌, ◌∷◌, [], ℕ, suc, Bor, List, append_assoc, append-nil, arith, length, map, refl, sym, ap, ◌∙◌, subst}
use Rattle.std.proofs.lemmas.Bool.{false≢true}
use Rattle.dnsv_canonical.specs.Rrsets.{ReceivedRrset}
use Rattle.dnsv_verifier.specs.Admissible.{DnskeyRecord}
use Rattle.dnsv_chain.specs.Chain.{AreVouched}
use Rattle.dnsv_chain.proofs.ChainLemmas.{none_vouched, vouched_more, vouched_skip}
use Rattle.dnsv_chain.proofs.chain.vouched_keys.Goals as goal

parts_more : (read left rest all : List DnskeyRecord) (key : DnskeyRecord) → left ≡ key ∷ rest → read ++ left ≡ all → (read ++ key ∷ []) ++ rest ≡ all
parts_more read left rest all key next parts = append_assoc read (key ∷ []) rest ∙ ap (λ list. read ++ list) (sym next) ∙ parts

size_more : (left rest : List DnskeyRecord) (key : DnskeyRecord) (size less : ℕ) → left ≡ key ∷ rest → less + 1 ≡ size → size ≡ length left → less ≡ length rest
size_more left rest key size less next one is = let longer : length left ≡ suc (length rest) = ap length next in omega (arith, one, is, longer)

none_left : (left : List DnskeyRecord) (size : ℕ) → size ≡ 0 → size ≡ length left → left ≡ []
none_left [] size none is = refl
none_left (x ∷ left) size none is = absurd (omega (arith, none, is))

pub loop-key-init : goal.loop-key-init
loop-key-init c =
    record {
      parts = c.into_iter-key-iterator.ensures.into_iter_gives.0;
      size = c.into_iter-key-iterator.ensures.into_iter_gives.1 ∙ c.args.keys.ok.0 ∙ ap length (sym c.into_iter-key-iterator.ensures.into_iter_gives.0);
      vouched = subst (λ (keys : List DnskeyRecord). AreVouched c.args.anchors.now (map (λ (r : Bor ReceivedRrset). r.now) c.args.delegations.now) [] keys)
          (sym c.new-vouched.ensures.items) (none_vouched c.args.anchors.now (map (λ (r : Bor ReceivedRrset). r.now) c.args.delegations.now));
    }

pub loop-key-preserved-in-Continue-1 : goal.loop-key-preserved-in-Continue-1
loop-key-preserved-in-Continue-1 c =
    let delegations : List ReceivedRrset = map (λ (r : Bor ReceivedRrset). r.now) c.args.delegations.now in
    record {
      parts = parts_more c.loop-key.yielded c.loop-key.key-iterator.rest.items c.next.new.self.rest.items c.args.keys.items c.in-Some.key c.in-Some.ensures.steps.0 c.loop-key.invariant.parts;
      size = size_more c.loop-key.key-iterator.rest.items c.next.new.self.rest.items c.in-Some.key c.loop-key.key-iterator.rest.len c.next.new.self.rest.len c.in-Some.ensures.steps.0 c.in-Some.ensures.steps.1 c.loop-key.invariant.size;
      vouched = subst (λ (keys : List DnskeyRecord). AreVouched c.args.anchors.now delegations (c.loop-key.yielded ++ c.in-Some.key ∷ []) keys)
          (sym c.in_ok-push.ensures.items)
          (vouched_more c.args.anchors.now delegations c.loop-key.yielded c.loop-key.vouched.items c.in-Some.key (c.is_vouched_for.ensures.0 c.if-is_vouched_for.true) c.loop-key.invariant.vouched);
    }

pub loop-key-preserved : goal.loop-key-preserved
loop-key-preserved c =
    let delegations : List ReceivedRrset = map (λ (r : Bor ReceivedRrset). r.now) c.args.delegations.now in
    record {
      parts = parts_more c.loop-key.yielded c.loop-key.key-iterator.rest.items c.next.new.self.rest.items c.args.keys.items c.in-Some.key c.in-Some.ensures.steps.0 c.loop-key.invariant.parts;
      size = size_more c.loop-key.key-iterator.rest.items c.next.new.self.rest.items c.in-Some.key c.loop-key.key-iterator.rest.len c.next.new.self.rest.len c.in-Some.ensures.steps.0 c.in-Some.ensures.steps.1 c.loop-key.invariant.size;
      vouched = vouched_skip c.args.anchors.now delegations c.loop-key.yielded c.loop-key.vouched.items c.in-Some.key
          (λ is. false≢true (sym c.if-is_vouched_for.false ∙ c.is_vouched_for.ensures.1 is)) c.loop-key.invariant.vouched;
    }

pub returns : goal.returns
returns c =
    subst (λ (keys : List DnskeyRecord). AreVouched c.args.anchors.now (map (λ (r : Bor ReceivedRrset). r.now) c.args.delegations.now) keys c.loop-key.vouched.items)
    (sym (append-nil c.loop-key.yielded) ∙ ap (λ list. c.loop-key.yielded ++ list) (sym (none_left c.loop-key.key-iterator.rest.items c.loop-key.key-iterator.rest.len c.in-None.ensures.steps.0 c.loop-key.invariant.size)) ∙ c.loop-key.invariant.parts)
    c.loop-key.invariant.vouched
