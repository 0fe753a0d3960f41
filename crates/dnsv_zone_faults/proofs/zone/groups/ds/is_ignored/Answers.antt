use Rattle.std.proofs.Common.{◌≡◌, Some}
use Rattle.dnsv_digest.specs.DigestAlgorithm.{digest_algorithm_of}
use Rattle.dnsv_digest.specs.declared.digest_algorithm.DigestAlgorithm.TheVariants.{Sha1}
use Rattle.dnsv_zone_faults.proofs.lemmas.GroupLemmas.{ignored_sha1}
use Rattle.dnsv_zone_faults.proofs.zone.groups.ds.is_ignored.Goals as goal

pub returns-in-Some-Sha1 : goal.returns-in-Some-Sha1
returns-in-Some-Sha1 c = λ records are.
    let is : digest_algorithm_of c.args.ds.now.digest_type.0 ≡ Some Sha1 = cc (c.from_number.ensures, c.in-Some-Sha1.is, c.in-Some-Sha1.field-0-is) in
    ignored_sha1 records c.args.ds.now c.args.ignored.sha1 is are.sha1
