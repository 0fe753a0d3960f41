use Rattle.std.proofs.Common.{codes, get_or, string_bytes, true}
use Rattle.std.specs.List.{flat_map}
use Rattle.dnsv_canonical.specs.declared.number.RecordNumber.{RecordNumber}
use Rattle.dnsv_texts.specs.Checking.{proof_json}
use Rattle.dnsv_lines.specs.Json.{parted}
use Rattle.dnsv_lines.proofs.JsonLemmas.{Parted-all, Parted-next, any_default}
use Rattle.dnsv_evidence_texts.proofs.ObjectLemmas.{array_written}
use Rattle.dnsv_texts.proofs.json.checking.push_records.Goals as goal

abbrev nothing : RecordNumber
nothing = record { rrset = 0; place = 0 }

pub loop-number-preserved : goal.loop-number-preserved
loop-number-preserved c =
    Parted-next c.loop-number.invariant (get_or c.args.records.now c.loop-number.number-index nothing) c.push_number.new.first
    (string_bytes c.push_number.new.text) c.loop-number-test.true
    (λ d. any_default c.args.records.now c.loop-number.number-index d nothing c.loop-number-test.true)
    c.in_ok-push_number.ensures.text c.in_ok-push_number.ensures.first

pub returns : goal.returns
returns c =
    array_written (string_bytes c.args.text.now) (string_bytes c.loop-number.text) (string_bytes c.push_str-2.new.self) (codes ",\"records\":[")
    (parted true (flat_map (proof_json c.args.rrsets.now) c.args.records.now)) (Parted-all c.loop-number.invariant c.loop-number-test.false)
    c.in_ok-push_str-2.ensures.bytes
