use Rattle.std.proofs.Common.{◌≡◌, ◌-◌, ◌++◌, Ok, length, take, drop, sym, ap, subst, ◌∙◌}
use Rattle.std.proofs.lemmas.List.{take_rest, take-append-drop}
use Rattle.std.proofs.lemmas.Result.{err_from_is_err_and}
use Rattle.dnsv_names.specs.Name.{wire}
use Rattle.dnsv_records.specs.declared.error.RecordError.TheVariants.{BadRdata}
use Rattle.dnsv_records.specs.Bitmap.{Bitmap, BitmapFault}
use Rattle.dnsv_records.proofs.RecordLemmas.{bitmap_fault, behind_name, same_error, nsec_fault_behind}
use Rattle.dnsv_records.proofs.nsec.Nsec.read.Goals as goal

pub returns-in_err-types-clause-every : goal.returns-in_err-types-clause-every
returns-in_err-types-clause-every c = λ nsec is.
    let rdata = c.args.rdata.now in
    let parts = behind_name rdata is.bits c.in-Some.next nsec.next c.in-Some.length (c.in-Some.ensures.every nsec.next is.bits is.name is.whole) is.whole in
    let spelled = subst (λ xs. Bitmap xs nsec.types) (sym (take_rest rdata c.in-Some.length ∙ parts.1)) is.bitmap in
    let none = c.in_err-types.ensures.every nsec.types spelled in
    cc

pub returns-in_err-types-clause-fault : goal.returns-in_err-types-clause-fault
returns-in_err-types-clause-fault c =
    let p = err_from_is_err_and c.from_residual.result c.from_residual.ensures.1 in
    let rdata = c.args.rdata.now in
    let n = c.in-Some.length in
    rw (p.1, p.2) (bitmap_fault c.in_err-types.field-0.0 _ _
    (λ bad. (
      c.in-Some.next,
      take (length rdata - n) (drop n rdata),
      c.in-Some.ensures.name,
      sym (take-append-drop n rdata) ∙ ap (λ xs. xs ++ drop n rdata) c.in-Some.ensures.spelling ∙ ap (λ xs. wire c.in-Some.next ++ xs) (sym (take_rest rdata n)),
      bad,
    ))
    c.in_err-types.ensures.fault)

pub returns-clause-every : goal.returns-clause-every
returns-clause-every c = λ nsec is.
    let rdata = c.args.rdata.now in
    let parts = behind_name rdata is.bits c.in-Some.next nsec.next c.in-Some.length (c.in-Some.ensures.every nsec.next is.bits is.name is.whole) is.whole in
    let spelled = subst (λ xs. Bitmap xs nsec.types) (sym (take_rest rdata c.in-Some.length ∙ parts.1)) is.bitmap in
    let told = c.in_ok-types.ensures.every nsec.types spelled in
    let types : c.in_ok-types.types ≡ nsec.types = cc in
    λ i. Ok record { next = parts.0 i; types = types i }

pub returns-in_err-types-clause-every_fault : goal.returns-in_err-types-clause-every_fault
returns-in_err-types-clause-every_fault c = λ field bad.
    let p = err_from_is_err_and c.from_residual.result c.from_residual.ensures.1 in
    let rdata = c.args.rdata.now in
    let n = c.in-Some.length in
    let behind = nsec_fault_behind rdata c.in-Some.next n c.in-Some.ensures.name c.in-Some.ensures.spelling c.in-Some.ensures.every field bad in
    let told = c.in_err-types.ensures.every_fault field (subst (λ xs. BitmapFault xs field) (sym (take_rest rdata n)) behind) in
    rw (p.1, p.2) (same_error c.in_err-types.field-0.0 (BadRdata field) told)

pub returns-clause-every_fault : goal.returns-clause-every_fault
returns-clause-every_fault c = λ field bad.
    let rdata = c.args.rdata.now in
    let n = c.in-Some.length in
    let behind = nsec_fault_behind rdata c.in-Some.next n c.in-Some.ensures.name c.in-Some.ensures.spelling c.in-Some.ensures.every field bad in
    let told = c.in_ok-types.ensures.every_fault field (subst (λ xs. BitmapFault xs field) (sym (take_rest rdata n)) behind) in
    cc
