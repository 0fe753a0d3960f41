use Rattle.std.proofs.Common.{◌≡◌, ◌++◌, ◌∷◌, [], List, ℕ, if◌then◌else◌, sym, ap, ◌∙◌, subst}
use Rattle.std.proofs.lemmas.List.Elements.{Contains-append_left}
use Rattle.std.specs.List.{Contains}
use Rattle.dnsv_names.specs.Name.{Labels, same_name}
use Rattle.dnsv_anchors.specs.declared.by_owner.key.OwnerKey.{OwnerKey}
use Rattle.dnsv_records.specs.declared.dnskey.Dnskey.{Dnskey}
use Rattle.dnsv_verifier.proofs.KeyLemmas.{reads_as}
use Rattle.dnsv_verifier.specs.Admissible.{DnskeyRecord}
use Rattle.dnsv_anchors.specs.ByOwner.{values_at}
use Rattle.dnsv_chain.specs.Chain.{HasRdata}
use Rattle.dnsv_anchors.proofs.ByOwnerLemmas.{values_same}
use Rattle.dnsv_chain.proofs.ChainLemmas.{place_within, all_places, key_stands, key_added, key_there, all_added}
use Rattle.dnsv_chain.proofs.ChainLemmas.KnownLemmas.{found_known, added_key, known_more, known_unchanged}
use Rattle.dnsv_chain.proofs.chain.add_keys.Goals as goal
use Rattle.dnsv_chain.proofs.chain.add_keys.Goals.{then-branch+in_ok-add, else-branch}

pub rdata-rdata-requires : goal.rdata-rdata-requires
rdata-rdata-requires c =
    place_within c.args.set.now c.dnskeys-dnskey-items.result.now c.loop-place.place c.requires.rtype c.dnskeys-dnskey-items.ensures c.loop-place-test.true

pub new-key-requires : goal.new-key-requires
new-key-requires c =
    reads_as c.args.set.now c.dnskeys-dnskey-items.result.now c.dnskeys-dnskey-items.ensures c.loop-place.place c.dnskey-item.result c.rdata-rdata.result.now c.loop-place-test.true c.dnskey-item.is c.rdata-rdata.ensures.value

pub loop-place-preserved : goal.loop-place-preserved
loop-place-preserved c =
    let set = c.args.set.now in
    let old = values_at c.args.keys.now in
    let new = values_at c.loop-place.keys in
    let i : ℕ = c.loop-place.place in
    let dnskeys = c.dnskeys-dnskey-items.result.now in
    let rdata = c.rdata-rdata.result.now in
    let owner : c.of.result ≡ set.owner = c.of.ensures ∙ c.owner.ensures in
    let key : OwnerKey × (List ℕ × Dnskey) = (record { 0 = c.of.result }, c.new.result) in
    let octets : key.1.0 ≡ rdata = ap (λ (each : List ℕ × Dnskey). each.0) c.new.ensures in
    elim c.if-branch.branch [
      | then-branch+in_ok-add w ↦
          let newer = values_at w.add.new.by_owner in
          let made : w.new-key.result ≡ record { owner = set.owner; rdata = rdata; dnskey = c.dnskey-item.result } =
          w.new-key.ensures ∙ (λ j. record { owner = w.owner-then-branch.ensures j; rdata = rdata; dnskey = c.dnskey-item.result }) in
          let stands = key_stands set dnskeys i c.dnskey-item.result rdata w.new-key.result c.requires.rtype c.dnskeys-dnskey-items.ensures c.loop-place-test.true c.dnskey-item.is c.rdata-rdata.ensures.value made in
          let adds : (name : Labels) → newer name ≡ new name ++ (if same_name name set.owner then w.new-key.result ∷ [] else []) =
          subst (λ (owner : Labels). (name : Labels) → newer name ≡ new name ++ (if same_name name owner then w.new-key.result ∷ [] else [])) w.owner-then-branch-2.ensures w.in_ok-add.ensures in
          rw w.keys-is (record {
            adds = key_added set old i new newer w.new-key.result stands (λ other. c.rdata-rdata.ensures.value other ∙ sym (ap (λ (k : DnskeyRecord). k.rdata) made)) adds c.loop-place.invariant.adds;
            known = known_more new newer c.loop-place.known c.insert.new.self key c.loop-place.invariant.known c.in_ok-insert.ensures.updates
                (λ zone k among. subst (λ (keys : List DnskeyRecord). Contains keys k) (sym (adds zone)) (Contains-append_left (new zone) (if same_name zone set.owner then w.new-key.result ∷ [] else []) k among))
                (λ a b same. values_same w.add.new.by_owner a b same)
                (subst (λ (each : List ℕ). HasRdata (newer c.of.result) each) (sym octets)
                (subst (λ (name : Labels). HasRdata (newer name) rdata) (sym owner)
                (subst (λ (octets : List ℕ). HasRdata (newer set.owner) octets) (ap (λ (k : DnskeyRecord). k.rdata) made)
                (added_key set.owner w.new-key.result (new set.owner) (newer set.owner) (adds set.owner)))));
          })
      | else-branch w ↦
          rw w.keys-is (record {
            adds = key_there set old i new rdata c.rdata-rdata.ensures.value (subst (λ (each : List ℕ). HasRdata (new set.owner) each) octets (found_known c.loop-place.known new key set.owner owner c.loop-place.invariant.known (sym c.in_ok-insert.ensures.added ∙ w.if-branch.false))) c.loop-place.invariant.adds;
            known = known_unchanged new c.loop-place.known c.insert.new.self c.in_ok-insert.field-0 w.if-branch.false c.in_ok-insert.ensures.unchanged c.loop-place.invariant.known;
          })
    ]

pub returns-clause-adds : goal.returns-clause-adds
returns-clause-adds c =
    let set = c.args.set.now in
    all_added set (values_at c.args.keys.now) c.loop-place.place (values_at c.loop-place.keys)
    (all_places set c.dnskeys-dnskey-items.result.now c.loop-place.place c.requires.rtype c.dnskeys-dnskey-items.ensures c.loop-place-test.false)
    c.loop-place.invariant.adds
