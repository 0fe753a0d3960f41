use Rattle.dnsv_evidence_texts.proofs.HexLemmas.{HexSoFar-next}
use Rattle.dnsv_evidence_texts.proofs.hex_text.push_hex.Goals as goal

pub loop-rest-preserved : goal.loop-rest-preserved
loop-rest-preserved c = HexSoFar-next c.loop-rest.invariant 128 _ _ _ c.split_at.ensures.front c.split_at.ensures.back c.in_ok-push_piece.ensures
