use Rattle.std.proofs.Common.{List, subst, sym}
use Rattle.dnsv_compact.specs.CompactList.{AreInPlaces}
use Rattle.dnsv_compact.specs.Signed.{AreSignedIn}
use Rattle.dnsv_compact.specs.declared.key.ListedKey.{ListedKey}
use Rattle.dnsv_compact.specs.declared.signed.Signed.{Signed}
use Rattle.dnsv_compact.proofs.PlaceLemmas.{given_of_asked}
use Rattle.dnsv_compact.proofs.list.CompactList.of.Goals as goal

pub places_of-requires-clause-given : goal.places_of-requires-clause-given
places_of-requires-clause-given c = λ entry there.
    let are = subst (λ (signed : List Signed). AreSignedIn c.args.range.from c.args.range.to c.args.rrsets.now signed) (sym c.deref-2.ensures.value) c.in_ok-signed.ensures in
    given_of_asked c.args.range.from c.args.range.to c.args.rrsets.now c.deref-2.result.now entry are (c.requires entry there)

pub returns : goal.returns
returns c =
    let are = subst (λ (signed : List Signed). AreSignedIn c.args.range.from c.args.range.to c.args.rrsets.now signed) (sym c.deref-2.ensures.value) c.in_ok-signed.ensures in
    record {
      keys = c.in_ok-keys.ensures;
      each = subst (λ (keys : List ListedKey). AreInPlaces c.args.range.from c.args.range.to c.args.rrsets.now keys c.args.entries.now c.in_ok-places.places.items)
          c.deref.ensures.value (c.in_ok-places.ensures c.args.range.from c.args.range.to c.args.rrsets.now are);
    }
