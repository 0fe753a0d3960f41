-- What a form means for a zone, where its words are true there.
use Rattle.std.proofs.Common.{inl, ◌≡◌, ◌≢◌, ℕ, ◌+◌, ◌<◌, Bool, length, refl, inr, arith}
use Rattle.dnsv_names.specs.Name.{Labels, SameName, IsAtOrBelow, rightmost}
use Rattle.dnsv_names.specs.Order.{IsBelow}
use Rattle.dnsv_names.specs.Tree.{wildcard_of}
use Rattle.dnsv_names.specs.Tree.TreeLaws.{same_at_or_below, at_or_below_trans}
use Rattle.dnsv_zones.specs.zones.TypeNumbers.{ns, cname, soa, ds}
use Rattle.dnsv_zones.specs.zones.Types.{IsDelegation, Denies, IsUnsignedDelegation}
use Rattle.dnsv_zones.specs.zones.Zone.{Zone, IsOwner, Holds, IsNode, IsClosedAt, IsWellFormed}
use Rattle.dnsv_zones.specs.zones.Lookup.{IsClosestEncloser, IsLookup}
use Rattle.dnsv_zones.specs.zones.Lookup.Answer.{Held, NoData, NoName}
use Rattle.dnsv_zones.specs.zones.Lookup.IsSource.{itself}
use Rattle.dnsv_zones.specs.chains.NsecChain.{IsInBitmap, IsBitmapOf}
use Rattle.dnsv_zones.specs.chains.Nsec3Chain.{IsAsked}
use Rattle.dnsv_zones.specs.chains.Nsec3Chain.IsAsked.{itself as asked_above, wildcard as asked_wildcard}
use Rattle.dnsv_zones.specs.forms.Forms.{Words, IsAbove, EndsAt, NoNameForm, NoDataForm, EmptyForm, NoWildcardDataForm, EmptyWildcardForm, NoDataForms, NoCloserForm, UnsignedCutForm}
use Rattle.dnsv_names.specs.Tree.AncestorLaws.{rightmost_above, rightmost_below, wildcard_below}
use Rattle.dnsv_zones.proofs.lemmas.zones.ZoneLemmas.{holds_owner, owner_node, node_above, closest, nothing_closed}
use Rattle.dnsv_zones.proofs.lemmas.zones.LookupLemmas.{IsMissing, node_here, missing_no_name, missing_no_data, missing_held}
use Rattle.dnsv_zones.proofs.lemmas.chains.BitmapLemmas.{plain_type, delegation_bits}

-- a node of the zone with these types, of which something is said
pub record Told (zone : Zone) (name : Labels) (Says : (ℕ → Type 0) → Type 0) : Type 0 where
  pub node : IsNode zone name
  pub types : ℕ → Bool
  pub bitmap : IsBitmapOf zone name types
  pub said : Says (IsInBitmap types)

pub record IsEmptyNonTerminal (zone : Zone) (name : Labels) : Type 0 where
  pub node : IsNode zone name
  pub no_owner : ¬ IsOwner zone name

-- what the records say of the names that a question asks for is so
pub record AreTrue (zone : Zone) (words : Words) (name : Labels) : Type 1 where
  pub encloser : (x : Labels) → IsAsked name x → IsAtOrBelow x zone.apex → words.Encloser x → IsNode zone x
  pub absent : (x : Labels) → words.Absent x → ¬ IsNode zone x
  pub empty_non_terminal : (x : Labels) → IsAtOrBelow x zone.apex → words.EmptyNonTerminal x → IsEmptyNonTerminal zone x
  pub types : (x : Labels) (Says : (ℕ → Type 0) → Type 0) → IsAsked name x → words.TypesAt x Says → Told zone x Says
  pub open_above : (labels : ℕ) → IsClosestEncloser zone name labels → words.Encloser (rightmost name labels)
      → words.Absent (rightmost name (labels + 1)) → (cut : Labels) → IsBelow name cut → ¬ IsClosedAt zone cut

-- a node whose types are denied
pub record IsDenied (zone : Zone) (name : Labels) (t : ℕ) : Type 0 where
  pub no_type : ¬ Holds zone name t
  pub no_alias : ¬ Holds zone name cname
  pub no_cut : t ≢ ds → ¬ IsDelegation (Holds zone name)
  pub no_apex : t ≡ ds → ¬ Holds zone name soa

denied : (zone : Zone) (name : Labels) (t : ℕ) → Told zone name (λ has. Denies has t) → IsDenied zone name t
denied zone name t told = record {
  no_type = λ holds. told.said.no_type (told.bitmap.all t holds);
  no_alias = λ holds. told.said.no_alias (told.bitmap.all cname holds);
  no_cut = λ other delegation. told.said.side.1 other (delegation_bits zone name told.types told.bitmap delegation);
  no_apex = λ is_ds holds. told.said.side.0 is_ds (told.bitmap.all soa holds);
}

-- an empty non-terminal has no types
empty_denied : (zone : Zone) (name : Labels) (t : ℕ) → ¬ IsOwner zone name → IsDenied zone name t
empty_denied zone name t none = record {
  no_type = λ holds. none (holds_owner zone name t holds);
  no_alias = λ holds. none (holds_owner zone name cname holds);
  no_cut = λ other delegation. none (holds_owner zone name ns delegation.servers);
  no_apex = λ is_ds holds. none (holds_owner zone name soa holds);
}

denied_here : (zone : Zone) (name : Labels) (t : ℕ) → IsWellFormed zone → IsNode zone name → IsDenied zone name t → IsLookup zone name t (NoData name)
denied_here zone name t well node none = (
  node_here zone name t well node none.no_cut none.no_apex,
  (itself node, none.no_type, none.no_alias),
)

-- where the wildcard holds a type, nothing closer does
pub held_at_wildcard : (zone : Zone) (words : Words) (apex name : Labels) (labels t : ℕ) → IsWellFormed zone → SameName apex zone.apex → ((x : Labels) → words.Absent x → ¬ IsNode zone x) → NoCloserForm words apex name labels → Holds zone (wildcard_of (rightmost name labels)) t → IsLookup zone name t (Held (wildcard_of (rightmost name labels)))
held_at_wildcard zone words apex name labels t well same absent form holds =
    let ce = rightmost name labels in
    let star : IsNode zone (wildcard_of ce) = owner_node zone (wildcard_of ce) well (holds_owner zone (wildcard_of ce) t holds) in
    let within : IsAtOrBelow ce zone.apex = at_or_below_trans ce apex zone.apex form.above.within (same_at_or_below apex zone.apex same) in
    let node : IsNode zone ce = node_above zone (wildcard_of ce) ce star (wildcard_below ce).0 within in
    let encloser : IsClosestEncloser zone name labels =
    closest zone name labels form.above.proper node (absent (rightmost name (labels + 1)) form.next_closer) in
    missing_held zone name labels t well
    (record { encloser = encloser; open_above = nothing_closed zone name labels well encloser (inr star) }) holds

module _ (zone : Zone) (words : Words) (apex name : Labels) (well : IsWellFormed zone) (same : SameName apex zone.apex) (true_ : AreTrue zone words name) where
  within_zone : (x : Labels) → IsAtOrBelow x apex → IsAtOrBelow x zone.apex
  within_zone x within = at_or_below_trans x apex zone.apex within (same_at_or_below apex zone.apex same)

  -- the closest encloser and its wildcard are asked for
  encloser_asked : (labels : ℕ) → IsAsked name (rightmost name labels)
  encloser_asked labels = asked_above (rightmost name labels) (rightmost_above name labels)

  wildcard_asked : (labels : ℕ) → labels < length name → IsAsked name (wildcard_of (rightmost name labels))
  wildcard_asked labels proper = asked_wildcard (rightmost name labels) (rightmost_below name labels proper)

  ends_missing : (labels : ℕ) → EndsAt words apex name labels → IsMissing zone name labels
  ends_missing labels ends =
      let node : IsNode zone (rightmost name labels) =
      true_.encloser (rightmost name labels) (encloser_asked labels) (within_zone (rightmost name labels) ends.above.within) ends.encloser in
      let encloser : IsClosestEncloser zone name labels =
      closest zone name labels ends.above.proper node (true_.absent (rightmost name (labels + 1)) ends.next_closer) in
      record { encloser = encloser; open_above = true_.open_above labels encloser ends.encloser ends.next_closer }

  star_within : (labels : ℕ) → IsAbove apex name labels → IsAtOrBelow (wildcard_of (rightmost name labels)) zone.apex
  star_within labels above =
      at_or_below_trans (wildcard_of (rightmost name labels)) (rightmost name labels) zone.apex (wildcard_below (rightmost name labels)).0
      (within_zone (rightmost name labels) above.within)

  pub no_name : (t : ℕ) → NoNameForm words apex name → IsLookup zone name t NoName
  no_name t form =
      missing_no_name zone name form.labels t well (ends_missing form.labels form.ends)
      (true_.absent (wildcard_of (rightmost name form.labels)) form.wildcard)

  pub no_data : (t : ℕ) → NoDataForm words apex name t → IsLookup zone name t (NoData name)
  no_data t form =
      let told : Told zone name (λ has. Denies has t) =
      true_.types name (λ has. Denies has t) (asked_above name (same_at_or_below name name refl)) form.types in
      denied_here zone name t well told.node (denied zone name t told)

  pub empty : (t : ℕ) → EmptyForm words apex name → IsLookup zone name t (NoData name)
  empty t form =
      let told = true_.empty_non_terminal name (within_zone name form.within) form.empty_non_terminal in
      denied_here zone name t well told.node (empty_denied zone name t told.no_owner)

  pub no_wildcard_data : (t : ℕ) (form : NoWildcardDataForm words apex name t) → IsLookup zone name t (NoData (wildcard_of (rightmost name form.labels)))
  no_wildcard_data t form =
      let star = wildcard_of (rightmost name form.labels) in
      let told : Told zone star (λ has. Denies has t) =
      true_.types star (λ has. Denies has t) (wildcard_asked form.labels form.ends.above.proper) form.types in
      let none = denied zone star t told in
      missing_no_data zone name form.labels t well (ends_missing form.labels form.ends) told.node none.no_type none.no_alias

  pub empty_wildcard : (t : ℕ) (form : EmptyWildcardForm words apex name) → IsLookup zone name t (NoData (wildcard_of (rightmost name form.labels)))
  empty_wildcard t form =
      let star = wildcard_of (rightmost name form.labels) in
      let told = true_.empty_non_terminal star (star_within form.labels form.ends.above) form.empty_non_terminal in
      let none = empty_denied zone star t told.no_owner in
      missing_no_data zone name form.labels t well (ends_missing form.labels form.ends) told.node none.no_type none.no_alias

  pub any_no_data : (t : ℕ) → NoDataForms words apex name t → (source : Labels) × IsLookup zone name t (NoData source)
  any_no_data t (inl form) = (name, no_data t form)
  any_no_data t (inr (inl form)) = (name, empty t form)
  any_no_data t (inr (inr (inl form))) = (wildcard_of (rightmost name form.labels), no_wildcard_data t form)
  any_no_data t (inr (inr (inr form))) = (wildcard_of (rightmost name form.labels), empty_wildcard t form)

  pub unsigned_cut : (cut : Labels) → UnsignedCutForm words apex name cut → IsUnsignedDelegation (Holds zone cut)
  unsigned_cut cut form =
      let told : Told zone cut IsUnsignedDelegation = true_.types cut IsUnsignedDelegation (asked_above cut form.at_or_above) form.types in
      record {
        delegation = record {
          servers = plain_type zone cut told.types ns (λ is. omega arith) (λ is. omega arith) told.bitmap told.said.delegation.servers;
          no_apex = λ holds. told.said.delegation.no_apex (told.bitmap.all soa holds);
        };
        no_ds = λ holds. told.said.no_ds (told.bitmap.all ds holds);
      }
