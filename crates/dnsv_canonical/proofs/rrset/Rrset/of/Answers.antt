use Rattle.std.proofs.Common.{refl, subst, sym}
use Rattle.std.specs.List.{AllByRecursion}
use Rattle.dnsv_canonical.proofs.ReadableLemmas.WellFormedLemmas.{HasRrsig, signatures_read}
use Rattle.dnsv_canonical.proofs.rrset.Rrset.of.Goals as goal

pub read_each-requires : goal.read_each-requires
read_each-requires c = λ k.
    ((refl, tt), subst (AllByRecursion HasRrsig) (sym c.signatures.ensures) (signatures_read c.args.received.rtype c.args.received.signatures c.requires.each_signature))
