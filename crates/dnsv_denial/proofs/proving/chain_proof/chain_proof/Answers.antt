use Rattle.std.proofs.Common.{◌≡◌, ◌<◌, List, map, sym, ap, ◌∙◌, subst}
use Rattle.std.specs.List.{AllByRecursion}
use Rattle.dnsv_names.specs.Name.{rightmost}
use Rattle.dnsv_chain.specs.Trust.{SecuredIn}
use Rattle.dnsv_proof_forms.specs.forms.ProofForms.{form_records}
use Rattle.dnsv_proof_forms.specs.forms.ShownUnsigned.{ShowsDenial}
use Rattle.dnsv_denial.specs.proving.FirstProof.{AreRecordsOf, ProofRecords}
use Rattle.dnsv_proof_forms.specs.records.Numbers.{numbers_of, number_at, record_count}
use Rattle.dnsv_proof_forms.specs.words.ChainSaid.{chain_said}
use Rattle.dnsv_denial.specs.gathering.EvidenceWords.{evidence_said}
use Rattle.dnsv_proof_forms.specs.records.Numbers.{number_cmp}
use Rattle.dnsv_canonical.specs.declared.number.RecordNumber.{RecordNumber}
use Rattle.dnsv_denial.proofs.lemmas.proving.ChainProofLemmas.{all_labels, chain_alike, chain_kinds, chain_order}
use Rattle.dnsv_proof_forms.proofs.lemmas.forms.BoundLemmas.{chain_bound}
use Rattle.dnsv_proof_forms.proofs.lemmas.forms.DenialLemmas.{form_by_place, shown_places}
use Rattle.dnsv_proof_forms.proofs.lemmas.forms.ShowsLemmas.{records_mapped, shown_by_number}
use Rattle.dnsv_denial.proofs.proving.chain_proof.chain_proof.Goals as goal

pub returns-in_default : goal.returns-in_default
returns-in_default c = λ trust rrsets chain are stands.
    c.in_default.ensures (form_by_place (numbers_of c.args.records.now)
    (chain_said c.args.zone.now c.args.records.now) (evidence_said (SecuredIn trust) rrsets c.args.zone.now chain)
    (chain_alike (SecuredIn trust) rrsets c.args.zone.now chain c.args.records.now are) c.args.zone.now c.args.name.now c.args.denial stands)

pub numbered-requires : goal.numbered-requires
numbered-requires c =
    shown_places (record_count c.args.records.now) (chain_said c.args.zone.now c.args.records.now) (chain_bound c.args.zone.now c.args.records.now)
    c.args.zone.now c.args.name.now c.args.denial c.in-Some.places c.in-Some.ensures

pub record_numbers-numbers-requires : goal.record_numbers-numbers-requires
record_numbers-numbers-requires c =
    subst (AllByRecursion (λ place. place < record_count c.args.records.now)) (sym c.form_places.ensures)
    (shown_places (record_count c.args.records.now) (chain_said c.args.zone.now c.args.records.now) (chain_bound c.args.zone.now c.args.records.now)
    c.args.zone.now c.args.name.now c.args.denial c.in-Some.places c.in-Some.ensures)

pub returns : goal.returns
returns c = λ trust rrsets chain are.
    let numbers = numbers_of c.args.records.now in
    let listed : form_records c.numbered.result ≡ map (number_at numbers) (form_records c.in-Some.places) =
    ap form_records c.numbered.ensures ∙ records_mapped (number_at numbers) c.in-Some.places in
    record {
      its_zone = ap (λ (p : ProofRecords). p.zone) c.new.ensures ∙ c.suffix.ensures.labels ∙ ap (rightmost c.args.zone.now) c.labels.ensures.count ∙ all_labels c.args.zone.now;
      kind = c.chain_kind.ensures ∙ chain_kinds (SecuredIn trust) rrsets c.args.zone.now chain c.args.records.now are;
      shows = subst (ShowsDenial number_cmp c.args.denial c.args.name.now (evidence_said (SecuredIn trust) rrsets c.args.zone.now chain) c.args.zone.now) (sym c.numbered.ensures)
          (shown_by_number numbers (chain_order (SecuredIn trust) rrsets c.args.zone.now chain c.args.records.now are)
          (chain_said c.args.zone.now c.args.records.now) (evidence_said (SecuredIn trust) rrsets c.args.zone.now chain)
          (chain_alike (SecuredIn trust) rrsets c.args.zone.now chain c.args.records.now are) c.args.zone.now c.args.name.now c.args.denial c.in-Some.places c.in-Some.ensures);
      records = subst (λ (proof : ProofRecords). AreRecordsOf (form_records c.numbered.result) proof.records) (sym c.new.ensures)
          (subst (λ (given : List RecordNumber). AreRecordsOf given c.record_numbers-numbers.result.items) (ap (map (number_at numbers)) c.form_places.ensures ∙ sym listed) c.record_numbers-numbers.ensures);
    }
