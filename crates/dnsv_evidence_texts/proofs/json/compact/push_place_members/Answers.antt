use Rattle.std.proofs.Common.{string_bytes}
use Rattle.std.specs.Fmt.{decimal}
use Rattle.dnsv_evidence_texts.proofs.CompactTextLemmas.{place_written}
use Rattle.dnsv_evidence_texts.proofs.json.compact.push_place_members.Goals as goal

pub returns : goal.returns
returns c =
    let place = c.args.place.now in
    place_written (string_bytes c.args.text.now) (string_bytes c.write.new.self) (decimal place.key) (decimal place.rrset) (decimal place.signature)
    c.in_ok-write.ensures.bytes
