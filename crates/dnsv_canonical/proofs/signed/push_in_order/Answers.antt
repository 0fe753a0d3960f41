use Rattle.std.proofs.Common.{List, ℕ, ◌++◌, length, map, refl, ap, ◌∙◌, arith, subst, sym}
use Rattle.std.proofs.lemmas.List.{get_or-map, length-map, take_all}
use Rattle.std.specs.Borrow.{Bor}
use Rattle.std.specs.Int.{w16, to_be_bytes}
use Rattle.std.specs.List.{flat_map}
use Rattle.dnsv_canonical.specs.Canonical.{IsCanonical}
use Rattle.dnsv_canonical.proofs.ReadableLemmas.{OnOk-weaker}
use Rattle.dnsv_canonical.proofs.SignedLemmas.{canonical_short, one_signed, records_more}
use Rattle.dnsv_canonical.proofs.signed.push_in_order.Goals as goal

pub returns-then-forms-eq1 : goal.returns-then-forms-eq1
returns-then-forms-eq1 c =
    OnOk-weaker c.push_record.result (one_signed c.args.front.now c.args.forms.now _ c.args.octets.now.items c.push_record.new.octets.items (omega (arith, c.if-forms-eq1.true))) c.push_record.ensures

pub loop-rdata-preserved : goal.loop-rdata-preserved
loop-rdata-preserved c =
    let size : List ℕ → List ℕ = λ rdata. to_be_bytes w16 (length rdata) in
    records_more (λ r. r.now) (λ rdata. c.args.front.now ++ size rdata ++ rdata) c.args.octets.now.items c.loop-rdata.octets.items c.push_record-in-loop-rdata.new.octets.items c.args.front.now _
    c.deref-rdata-items.result.now c.loop-rdata.rdata-index _ c.loop-rdata-test.true refl c.loop-rdata.invariant c.in_ok-push_record.ensures

pub push_record-requires-in-loop-rdata : goal.push_record-requires-in-loop-rdata
push_record-requires-in-loop-rdata c =
    let items : List (Bor (List ℕ)) = c.deref-rdata-items.result.now in
    canonical_short (map (λ r. r.now) c.args.forms.now) (map (λ r. r.now) items) c.loop-rdata.rdata-index _ c.requires
    (subst (λ (xs : List (Bor (List ℕ))). IsCanonical (map (λ r. r.now) c.args.forms.now) (map (λ r. r.now) xs)) (sym c.deref-rdata-items.ensures.value) c.in_ok-sorted.ensures.order)
    (omega (arith, c.loop-rdata-test.true, length-map items (λ (r : Bor (List ℕ)). r.now)))
    (get_or-map (λ (r : Bor (List ℕ)). r.now) items c.loop-rdata.rdata-index _ _ c.loop-rdata-test.true)

pub returns : goal.returns
returns c = record {
  canonical = map (λ r. r.now) c.in_ok-sorted.sorted.items;
  are = c.in_ok-sorted.ensures.order;
  added = c.loop-rdata.invariant
      ∙ ap (λ (rs : List (Bor (List ℕ))). c.args.octets.now.items ++ flat_map (λ rdata. c.args.front.now ++ to_be_bytes w16 (length rdata) ++ rdata) (map (λ r. r.now) rs))
      (take_all c.loop-rdata.rdata-index c.deref-rdata-items.result.now (omega arith) ∙ c.deref-rdata-items.ensures.value);
}
