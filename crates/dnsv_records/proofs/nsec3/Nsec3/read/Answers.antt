use Rattle.std.proofs.Common.{◌≡◌, ap, Err, Ok, drop, sym, subst, ◌∙◌, arith}
use Rattle.std.proofs.lemmas.List.{take_rest}
use Rattle.std.proofs.lemmas.Result.{err_from_is_err_and}
use Rattle.dnsv_records.specs.declared.error.RecordError.TheVariants.{BadRdata}
use Rattle.dnsv_records.specs.Bitmap.{Bitmap}
use Rattle.dnsv_records.proofs.RecordLemmas.{number_at-one, bitmap_fault, same_counted, same_error, nsec3_fault_at_hash, nsec3_fault_behind}
use Rattle.dnsv_records.proofs.nsec3.Nsec3.read.Goals as goal

pub returns-in_default-split_counted-clause-every : goal.returns-in_default-split_counted-clause-every
returns-in_default-split_counted-clause-every c = λ nsec3 is.
    let salt = same_counted (drop 4 c.args.rdata.now) c.in-Some.salt.now nsec3.parameters.salt c.in-Some.behind_salt.now is.behind_salt (sym (take_rest c.args.rdata.now 4) ∙ c.in-Some.ensures.found) is.salt in
    absurd (c.in_default-split_counted.ensures.none (nsec3.next_hash, is.bits, salt.1 ∙ is.next_hash))

pub returns-in_default-split_counted-clause-fault : goal.returns-in_default-split_counted-clause-fault
returns-in_default-split_counted-clause-fault c =
    (c.in-Some.salt.now, c.in-Some.behind_salt.now, sym (take_rest c.args.rdata.now 4) ∙ c.in-Some.ensures.found, c.in_default-split_counted.ensures.none)

pub returns-in_err-types-clause-every : goal.returns-in_err-types-clause-every
returns-in_err-types-clause-every c = λ nsec3 is.
    let salt = same_counted (drop 4 c.args.rdata.now) c.in-Some.salt.now nsec3.parameters.salt c.in-Some.behind_salt.now is.behind_salt (sym (take_rest c.args.rdata.now 4) ∙ c.in-Some.ensures.found) is.salt in
    let hash = same_counted c.in-Some.behind_salt.now c.in-Some-split_counted.next_hash.now nsec3.next_hash c.in-Some-split_counted.bits.now is.bits c.in-Some-split_counted.ensures.found (salt.1 ∙ is.next_hash) in
    let spelled = subst (λ xs. Bitmap xs nsec3.types) (sym hash.1) is.bitmap in
    let none = c.in_err-types.ensures.every nsec3.types spelled in
    cc

pub returns-in_err-types-clause-fault : goal.returns-in_err-types-clause-fault
returns-in_err-types-clause-fault c =
    let p = err_from_is_err_and c.from_residual.result c.from_residual.ensures.1 in
    rw (p.1, p.2) (bitmap_fault c.in_err-types.field-0.0 _ _
    (λ bad. (
      c.in-Some.salt.now,
      c.in-Some.behind_salt.now,
      c.in-Some-split_counted.next_hash.now,
      c.in-Some-split_counted.bits.now,
      sym (take_rest c.args.rdata.now 4) ∙ c.in-Some.ensures.found,
      c.in-Some-split_counted.ensures.found,
      bad,
    ))
    c.in_err-types.ensures.fault)

pub returns-clause-every : goal.returns-clause-every
returns-clause-every c = λ nsec3 is.
    let rdata = c.args.rdata.now in
    let salt = same_counted (drop 4 rdata) c.in-Some.salt.now nsec3.parameters.salt c.in-Some.behind_salt.now is.behind_salt (sym (take_rest rdata 4) ∙ c.in-Some.ensures.found) is.salt in
    let hash = same_counted c.in-Some.behind_salt.now c.in-Some-split_counted.next_hash.now nsec3.next_hash c.in-Some-split_counted.bits.now is.bits c.in-Some-split_counted.ensures.found (salt.1 ∙ is.next_hash) in
    let spelled = subst (λ xs. Bitmap xs nsec3.types) (sym hash.1) is.bitmap in
    let told = c.in_ok-types.ensures.every nsec3.types spelled in
    let types : c.in_ok-types.types ≡ nsec3.types = cc in
    let algorithm = number_at-one rdata 0 (omega arith) ∙ sym is.algorithm in
    let flags = number_at-one rdata 1 (omega arith) ∙ sym is.flags in
    let iterations = c.u16_at.ensures ∙ sym is.iterations in
    let salt_copied = c.of.ensures ∙ salt.0 in
    let hash_copied = c.of-2.ensures ∙ hash.0 in
    λ i. Ok record {
      algorithm = record { 0 = algorithm i };
      flags = record { 0 = flags i };
      parameters = record { iterations = record { 0 = iterations i }; salt = salt_copied i };
      next_hash = hash_copied i;
      types = types i;
    }

pub returns-in_default-split_counted-clause-every_fault : goal.returns-in_default-split_counted-clause-every_fault
returns-in_default-split_counted-clause-every_fault c = λ field bad.
    let rdata = c.args.rdata.now in
    let salt = sym (take_rest rdata 4) ∙ c.in-Some.ensures.found in
    ap (λ field. Err (BadRdata field)) (nsec3_fault_at_hash rdata c.in-Some.salt.now c.in-Some.behind_salt.now c.if-rdata-lt-HEAD.false salt c.in_default-split_counted.ensures.none field bad)

pub returns-in_err-types-clause-every_fault : goal.returns-in_err-types-clause-every_fault
returns-in_err-types-clause-every_fault c = λ field bad.
    let p = err_from_is_err_and c.from_residual.result c.from_residual.ensures.1 in
    let rdata = c.args.rdata.now in
    let salt = sym (take_rest rdata 4) ∙ c.in-Some.ensures.found in
    let behind = nsec3_fault_behind rdata c.in-Some.salt.now c.in-Some.behind_salt.now c.in-Some-split_counted.next_hash.now c.in-Some-split_counted.bits.now c.if-rdata-lt-HEAD.false salt c.in-Some-split_counted.ensures.found field bad in
    rw (p.1, p.2) (same_error c.in_err-types.field-0.0 (BadRdata field) (c.in_err-types.ensures.every_fault field behind))

pub returns-clause-every_fault : goal.returns-clause-every_fault
returns-clause-every_fault c = λ field bad.
    let rdata = c.args.rdata.now in
    let salt = sym (take_rest rdata 4) ∙ c.in-Some.ensures.found in
    let behind = nsec3_fault_behind rdata c.in-Some.salt.now c.in-Some.behind_salt.now c.in-Some-split_counted.next_hash.now c.in-Some-split_counted.bits.now c.if-rdata-lt-HEAD.false salt c.in-Some-split_counted.ensures.found field bad in
    let told = c.in_ok-types.ensures.every_fault field behind in
    cc
