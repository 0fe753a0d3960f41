use Rattle.dnsv_moments.proofs.lemmas.texts.PieceLemmas.{ArePiecesTo}
use Rattle.dnsv_moments.proofs.texts.pieces.pieces_of.Given as goal

-- those so far, and the one at hand
abbrev pub invariant-loop-stretch : goal.invariant-loop-stretch
invariant-loop-stretch l = ArePiecesTo l.capture.rrsets l.kinds l.stretches l.others l.stretch-index l.pieces.items l.piece
