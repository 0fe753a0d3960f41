use Rattle.std.proofs.Common.{◌≡◌, map, string_bytes, take}
use Rattle.dnssec_check.proofs.tests.desk.words_of.Given as goal

-- the words so far
abbrev pub invariant-loop-word : goal.invariant-loop-word
invariant-loop-word l = map string_bytes l.words.items ≡ map (λ word. word.now) (take l.word-index l.given)
