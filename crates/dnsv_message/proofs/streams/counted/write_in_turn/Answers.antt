use Rattle.std.proofs.Common.{◌≡◌, ◌+◌, ◌-◌, List, ℕ, ◌++◌, length, take, drop, ap, sym, ◌∙◌, subst, arith}
use Rattle.std.proofs.lemmas.List.{take_rest, length-drop, drop-drop}
use Rattle.std.proofs.Math.Seq.{take-add}
use Rattle.std.specs.Io.KnownBytes.{Appends}
use Rattle.std.proofs.KnownBytes.{Appends-trans}
use Rattle.dnsv_message.proofs.streams.counted.write_in_turn.Goals as goal

-- `n` octets more were taken from those behind the first `count`
taken_more : (octets rest : List ℕ) (count n : ℕ) → rest ≡ drop count octets
    → take count octets ++ take n rest ≡ take (count + n) octets
taken_more octets rest count n same = ap (λ r. take count octets ++ take n r) same ∙ sym (take-add count n octets)

left_behind : (octets rest : List ℕ) (count n : ℕ) → rest ≡ drop count octets
    → take (length rest - n) (drop n rest) ≡ drop (count + n) octets
left_behind octets rest count n same = take_rest rest n ∙ ap (drop n) same ∙ drop-drop n count octets

pub loop-rest-preserved : goal.loop-rest-preserved
loop-rest-preserved g c =
    let (count, within, appended, same) = c.loop-rest.invariant in
    let octets = c.args.octets.now in
    let rest = c.loop-rest.rest.now in
    let n = c.in_ok-taken.taken in (
      count + n,
      omega (arith, within, ap length same, length-drop count octets, c.in_ok-taken.ensures.bound),
      subst (Appends _ _) (taken_more octets rest count n same) (Appends-trans _ _ _ _ _ appended c.in_ok-taken.ensures.bytes),
      left_behind octets rest count n same,
    )
