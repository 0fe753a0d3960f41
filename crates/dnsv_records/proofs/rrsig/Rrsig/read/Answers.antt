use Rattle.std.proofs.Common.{◌≡◌, ◌+◌, ◌++◌, Ok, take, drop, sym, ap, ◌∙◌, arith}
use Rattle.std.proofs.lemmas.List.{take_rest, drop-drop}
use Rattle.dnsv_names.specs.Name.{wire}
use Rattle.dnsv_records.proofs.OneRecord.{same_rrsig}
use Rattle.dnsv_records.proofs.RecordLemmas.{number_at-one, behind_name, name_and_rest, no_rrsig_fault}
use Rattle.dnsv_records.proofs.rrsig.Rrsig.read.Goals as goal

pub returns-clause-found : goal.returns-clause-found
returns-clause-found c =
    let rdata = c.args.rdata.now in
    let n = c.in-Some.length in
    let spelled : take n (drop 18 rdata) ≡ wire c.in-Some.signer = ap (take n) (sym (take_rest rdata 18)) ∙ c.in-Some.ensures.spelling in
    let signature : c.of-signature.result ≡ drop (18 + n) rdata = c.of-signature.ensures ∙ take_rest rdata (18 + n) in
    record {
      head = c.if-rdata-lt-HEAD.false;
      type_covered = c.u16_at.ensures;
      algorithm = number_at-one rdata 2 (omega arith);
      labels = number_at-one rdata 3 (omega arith);
      original_ttl = c.u32_at.ensures;
      expiration = c.u32_at-2.ensures;
      inception = c.u32_at-3.ensures;
      key_tag = c.u16_at-2.ensures;
      name = c.in-Some.ensures.name;
      rest = name_and_rest rdata 18 n c.in-Some.signer spelled ∙ ap (λ xs. wire c.in-Some.signer ++ xs) (sym signature);
    }

pub returns-clause-every : goal.returns-clause-every
returns-clause-every c = λ rrsig is.
    let rdata = c.args.rdata.now in
    let n = c.in-Some.length in
    let found = c.in-Some.ensures.every rrsig.signer rrsig.signature is.name (take_rest rdata 18 ∙ is.rest) in
    let parts = behind_name (drop 18 rdata) rrsig.signature c.in-Some.signer rrsig.signer n found is.rest in
    let signature : c.of-signature.result ≡ rrsig.signature =
    c.of-signature.ensures ∙ take_rest rdata (18 + n) ∙ sym (drop-drop n 18 rdata) ∙ parts.1 in
    let signer : c.in-Some.signer ≡ rrsig.signer = parts.0 in
    let algorithm = number_at-one rdata 2 (omega arith) ∙ sym is.algorithm in
    let labels = number_at-one rdata 3 (omega arith) ∙ sym is.labels in
    ap Ok (same_rrsig _ rrsig (c.u16_at.ensures ∙ sym is.type_covered) algorithm labels
    (c.u32_at.ensures ∙ sym is.original_ttl) (c.u32_at-2.ensures ∙ sym is.expiration) (c.u32_at-3.ensures ∙ sym is.inception)
    (c.u16_at-2.ensures ∙ sym is.key_tag) signer signature)

pub returns-clause-every_fault : goal.returns-clause-every_fault
returns-clause-every_fault c = λ field bad.
    let rdata = c.args.rdata.now in
    let n = c.in-Some.length in
    let spelled : take n (drop 18 rdata) ≡ wire c.in-Some.signer = ap (take n) (sym (take_rest rdata 18)) ∙ c.in-Some.ensures.spelling in
    absurd (no_rrsig_fault rdata c.if-rdata-lt-HEAD.false (c.in-Some.signer, drop (18 + n) rdata, c.in-Some.ensures.name, name_and_rest rdata 18 n c.in-Some.signer spelled) field bad)
