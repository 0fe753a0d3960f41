use Rattle.std.proofs.Common.{◌≡◌, subst, sym}
use Rattle.dnsv_zones.specs.forms.Nsec.{IsAbsentBy}
use Rattle.dnsv_zones.specs.forms.Nsec3.{Covers}
use Rattle.dnsv_proof_forms.specs.records.AskedHash.{hash_of}
use Rattle.dnsv_proof_forms.specs.records.Record.{read_entry, read_nsec3}
use Rattle.dnsv_proof_forms.specs.words.Asked.{asked_name}
use Rattle.dnsv_proof_forms.specs.words.ChainSaid.{chain_said, HasHashes}
use Rattle.dnsv_proof_forms.specs.words.SaidAt.{IsSaidAt, IsFirstPlace}
use Rattle.dnsv_proof_forms.proofs.words.said.absent.Goals as goal

pub returns-in-Nsec : goal.returns-in-Nsec
returns-in-Nsec c = λ apex.
    subst (λ records. IsFirstPlace ((chain_said apex records).Absent (asked_name c.args.name.now c.args.asked)) c.first_to_say.result) (sym c.in-Nsec.is)
    (subst (λ name. IsFirstPlace (IsSaidAt (λ entry. IsAbsentBy (read_entry entry) name) c.in-Nsec.entries.now) c.first_to_say.result)
    c.of-absent.ensures c.first_to_say.ensures)

pub returns-in-Nsec3 : goal.returns-in-Nsec3
returns-in-Nsec3 c = λ apex.
    let hashes = subst (HasHashes c.args.name.now) c.in-Nsec3.is c.requires.hashes in
    subst (λ records. IsFirstPlace ((chain_said apex records).Absent (asked_name c.args.name.now c.args.asked)) c.first_cover.result) (sym c.in-Nsec3.is)
    (subst (λ name. IsFirstPlace (IsSaidAt (λ entry. Covers (hash_of c.in-Nsec3.hashed.now) (read_nsec3 entry) (asked_name name c.args.asked)
    × ((read_nsec3 entry).flags ≡ 0)) c.in-Nsec3.hashed.now.entries.now) c.first_cover.result) hashes.0 c.first_cover.ensures)
