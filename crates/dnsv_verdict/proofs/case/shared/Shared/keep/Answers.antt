use Rattle.std.proofs.Common.{◌≤◌, List, length, subst, sym}
use Rattle.dnsv_proof_forms.specs.QuestionHashes.{HashedQuestion}
use Rattle.dnsv_verdict.proofs.SharedLemmas.{few_more, fewer, one_hashed_more}
use Rattle.dnsv_verdict.specs.Shared.{AreHashedIn}
use Rattle.dnsv_verdict.proofs.case.shared.Shared.keep.Goals as goal

pub returns-in_err-push : goal.returns-in_err-push
returns-in_err-push c = λ case are is. record {
  hopeful = are.hopeful;
  names = subst (λ (names : List HashedQuestion). AreHashedIn case.rrsets names) (sym c.in_err-push.ensures.items)
      (c.make_room.ensures.hashed case.rrsets are.names);
  few = subst (λ (names : List HashedQuestion). length names ≤ 9) (sym c.in_err-push.ensures.items)
      (fewer c.make_room.new.names.items (c.make_room.ensures.room are.few));
}

pub returns : goal.returns
returns c = λ case are is. record {
  hopeful = are.hopeful;
  names = subst (λ (names : List HashedQuestion). AreHashedIn case.rrsets names) (sym c.in_ok-push.ensures.items)
      (one_hashed_more case.rrsets c.make_room.new.names.items c.args.made (c.make_room.ensures.hashed case.rrsets are.names) is);
  few = subst (λ (names : List HashedQuestion). length names ≤ 9) (sym c.in_ok-push.ensures.items)
      (few_more c.make_room.new.names.items c.args.made (c.make_room.ensures.room are.few));
}
