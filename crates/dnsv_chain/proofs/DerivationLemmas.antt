-- Trust and lists of links say the same.
use Rattle.std.proofs.Common.{◌≡◌, ℕ, List, [], ◌∷◌, ◌++◌, length, refl, sym, ap, ◌∙◌, subst}
use Rattle.dnsv_names.specs.Name.{Labels, SameName}
use Rattle.dnsv_names.specs.Order.{IsBelow}
use Rattle.dnsv_names.specs.Tree.TreeLaws.{below_respects, key_of_same, same_labels, same_of_key}
use Rattle.dnsv_canonical.specs.Rrsets.{ReceivedRrset}
use Rattle.dnsv_verifier.specs.Admissible.{DnskeyRecord}
use Rattle.dnsv_verifier.specs.declared.answer.Answer.{Answer}
use Rattle.dnsv_verifier.specs.declared.entry.Entry.{Entry}
use Rattle.dnsv_chain.specs.Derivation.{IsLink, LeadsTo, HasDerivation}
use Rattle.dnsv_chain.specs.Trusted.{IsKeyOf, IsSignedUnder, DelegatesTo, IsTrusted, anchored, delegated}
use Rattle.dnsv_anchors.specs.declared.anchor.Anchor.{Anchor}

-- the DS RRset has the owner of the set whose key it matches
pub same_owner_labels : (ds set : ReceivedRrset) (key : DnskeyRecord) → DelegatesTo ds key → IsKeyOf set key
    → length ds.owner ≡ length set.owner
same_owner_labels ds set key delegates stands =
    same_labels ds.owner key.owner delegates.usable.matching.same_owner ∙ ap (λ (name : Labels). length name) stands.owner

-- a DS RRset that is good under a key of a set has an owner below the set's, and so has the set whose key it matches
pub goes_down : {m : Entry → Answer} {t : ℕ} {parent ds set : ReceivedRrset} {above key : DnskeyRecord}
    → IsKeyOf parent above → IsSignedUnder m t ds above → DelegatesTo ds key → IsKeyOf set key
    → IsBelow set.owner parent.owner
goes_down {parent = parent} {ds = ds} {set = set} {above = above} {key = key} stands signed delegates is_key =
    let signer : Labels = signed.rrsig.signer in
    let zone : SameName signer above.owner =
    same_of_key signer above.owner (sym (key_of_same above.owner signer signed.good.admissible.zone_key.owner)) in
    let below : IsBelow key.owner above.owner =
    below_respects ds.owner key.owner signer above.owner delegates.usable.matching.same_owner zone (signed.good.admissible.signer.ds delegates.rtype) in
    subst (λ (owner : Labels). IsBelow owner parent.owner) is_key.owner (subst (λ (owner : Labels). IsBelow key.owner owner) stands.owner below)

module _ (m : Entry → Answer) (t : ℕ) (rs : List ReceivedRrset) (anchors : List Anchor) where
  one_more : (first : ReceivedRrset) (sets : List ReceivedRrset) (parent set : ReceivedRrset)
      → LeadsTo m t rs first sets parent → IsLink m t rs parent set → LeadsTo m t rs first (sets ++ set ∷ []) set
  one_more first [] parent set leads link =
      (subst (λ (above : ReceivedRrset). IsLink m t rs above set) (sym leads) link, refl)
  one_more first (next ∷ sets) parent set leads link = (leads.0, one_more next sets parent set leads.1 link)

  pub derivation_of : {set : ReceivedRrset} → IsTrusted m t rs anchors set → HasDerivation m t rs anchors set
  derivation_of (anchored {set = set} {key = key} among signs matching) = record {
    first = set;
    anchored = record { among = among; key = key; signs = signs; anchored = matching };
    sets = [];
    leads = refl;
  }
  derivation_of (delegated {parent = parent} {ds = ds} {set = set} {above = above} {key = key} trusted stands among signed delegates set_among signs) =
      let before : HasDerivation m t rs anchors parent = derivation_of trusted in
      let link : IsLink m t rs parent set = record {
        signer = above;
        stands = stands;
        ds = ds;
        ds_among = among;
        ds_signed = signed;
        key = key;
        delegated = delegates;
        among = set_among;
        signs = signs;
        goes_down = goes_down stands signed delegates signs.stands;
      } in
      record {
        first = before.first;
        anchored = before.anchored;
        sets = before.sets ++ set ∷ [];
        leads = one_more before.first before.sets parent set before.leads link;
      }

  down : (first : ReceivedRrset) (sets : List ReceivedRrset) (last : ReceivedRrset) → IsTrusted m t rs anchors first
      → LeadsTo m t rs first sets last → IsTrusted m t rs anchors last
  down first [] last trusted leads = subst (λ (set : ReceivedRrset). IsTrusted m t rs anchors set) leads trusted
  down first (next ∷ sets) last trusted leads =
      let link = leads.0 in
      down next sets last (delegated trusted link.stands link.ds_among link.ds_signed link.delegated link.among link.signs) leads.1

  pub trusted_by_derivation : (set : ReceivedRrset) → HasDerivation m t rs anchors set → IsTrusted m t rs anchors set
  trusted_by_derivation set derivation =
      let top = derivation.anchored in
      down derivation.first derivation.sets set (anchored top.among top.signs top.anchored) derivation.leads
