use Rattle.std.proofs.Common.{rules, ◌≡◌, ◌++◌, length, codes, string_bytes}
use Rattle.std.specs.Fmt.{decimal}
use Rattle.dnsv_evidence_texts.specs.Showing.{hex_of_16}
use Rattle.dnsv_evidence_texts.proofs.ShowingLemmas.{header_written}
use Rattle.dnsv_evidence_texts.proofs.showing.push_header.Goals as goal

pub returns : goal.returns
returns c =
    let message = c.args.message.now in
    let first : string_bytes c.write.new.self ≡ string_bytes c.args.text.now ++ (codes "message " ++ (decimal c.args.number ++ (codes " "
    ++ (hex_of_16 message.id ++ (codes " " ++ hex_of_16 message.flags))))) = search rules in
    let second : string_bytes c.writeln.new.self ≡ string_bytes c.write.new.self ++ (codes " " ++ (decimal (length message.questions) ++ (codes " "
    ++ (decimal (length message.answer) ++ (codes " " ++ (decimal (length message.authority) ++ (codes " " ++ (decimal (length message.additional) ++ codes "\n")))))))) = search rules in
    header_written c.args.number message (string_bytes c.args.text.now) (string_bytes c.write.new.self) (string_bytes c.writeln.new.self) first second
