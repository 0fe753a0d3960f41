use Rattle.dnsv_evidence_texts.proofs.HexLemmas.{digits_are_read}
use Rattle.dnsv_evidence_texts.proofs.hex_text.push_piece.Goals as goal

pub unwrap-requires : goal.unwrap-requires
unwrap-requires c = digits_are_read c.args.octets.now _ c.from_utf8.result _ _ c.from_utf8.ensures.cases c.write_digits.ensures
