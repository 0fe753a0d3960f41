use Rattle.std.proofs.lemmas.List.Sorted.{Contains-permutation, IsPermutation-sym}
use Rattle.dnsv_compact.proofs.signed.all_signed.Goals as goal

pub returns : goal.returns
returns c =
    let moves = c.sort_unstable.ensures.permutation in
    record {
      members = λ each. (
        λ found. (c.in_ok-signed.ensures each).0 (Contains-permutation _ _ each (IsPermutation-sym c.in_ok-signed.signed.items c.sort_unstable.new.self.items moves) found),
        λ is. Contains-permutation c.in_ok-signed.signed.items c.sort_unstable.new.self.items each moves ((c.in_ok-signed.ensures each).1 is),
      );
      sorted = c.sort_unstable.ensures.sorted;
    }
