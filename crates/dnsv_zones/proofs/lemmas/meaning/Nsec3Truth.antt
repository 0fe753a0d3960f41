-- What NSEC3 records of a zone's chain say is so.
use Rattle.std.proofs.Common.{◌≡◌, ◌≢◌, ℕ, ◌+◌, ◌⊎◌, List, [], ◌∷◌, map, sym, ap, ◌∙◌, inl, inr, ⊎_elim}
use Rattle.std.proofs.lemmas.Cmp.{tied_itself, nat_list_cmp_total}
use Rattle.std.proofs.lemmas.Bool.Decides.{Decides-eqb}
use Rattle.std.specs.Prelude.{nat_eq}
use Rattle.std.specs.List.{AllByRecursion}
use Rattle.dnsv_names.specs.Name.{Labels, SameName, rightmost}
use Rattle.dnsv_names.specs.Order.{IsBelow, label_cmp}
use Rattle.dnsv_names.specs.Tree.{wildcard_of}
use Rattle.dnsv_names.specs.Circle.{has, IsMember}
use Rattle.dnsv_zones.specs.Any.{Any}
use Rattle.dnsv_zones.specs.zones.Types.{IsClosed}
use Rattle.dnsv_zones.specs.zones.Zone.{Zone, IsNode, IsClosedAt, IsWellFormed}
use Rattle.dnsv_zones.specs.zones.Lookup.{IsClosestEncloser}
use Rattle.dnsv_zones.specs.chains.NsecChain.{IsInBitmap, IsBitmapOf}
use Rattle.dnsv_zones.specs.chains.Nsec3Chain.{Nsec3Record, NameHash, IsUnsignedEnd, IsChained, AreChainNames, IsInNsec3Chain, IsAsked, HasNoCollision}
use Rattle.dnsv_zones.specs.chains.Nsec3Chain.IsAsked.{itself as asked_above}
use Rattle.dnsv_zones.specs.forms.Nsec3.{Matches, Covers, nsec3_words, IsCovered, IsOptedOut, OptOutForm}
use Rattle.dnsv_names.specs.Tree.AncestorLaws.{rightmost_above}
use Rattle.dnsv_names.specs.Tree.TreeLaws.{decided}
use Rattle.dnsv_zones.proofs.lemmas.AnyLemmas.{any_map, found_of}
use Rattle.dnsv_zones.proofs.lemmas.zones.ZoneLemmas.{node_respects, nothing_closed}
use Rattle.dnsv_zones.proofs.lemmas.meaning.MeaningLemmas.{Told, AreTrue}
use Rattle.dnsv_zones.proofs.lemmas.chains.BitmapLemmas.{closed_bits, bitmap_respects}

-- the hash of a name of the chain is a member of the circle of hashes
hash_by : (hash : NameHash) (names : List Labels) (name : Labels) → Any (λ each. SameName each name) names → has label_cmp (map hash.of names) (hash.of name)
hash_by hash [] name some = absurd some
hash_by hash (first ∷ names) name some =
    ⊎_elim (λ (same : SameName first name).
    inl (ap (label_cmp (hash.of name)) (hash.respects_case first name same) ∙ tied_itself nat_list_cmp_total (hash.of name)))
    (λ (rest : Any (λ each. SameName each name) names). inr (hash_by hash names name rest)) some

pub hash_member : (hash : NameHash) (names : List Labels) (name : Labels) → IsChained names name → IsMember label_cmp (map hash.of names) (hash.of name)
hash_member hash names name chained = record { there = hash_by hash names name chained.entry }

-- a cover is without the Opt-Out flag, or with it
pub absent_or_opted_out : (hash : NameHash) (x : Labels) (records : List Nsec3Record) → IsCovered hash records x
    → (nsec3_words hash records).Absent x ⊎ IsOptedOut hash records x
absent_or_opted_out hash x [] some = absurd some
absent_or_opted_out hash x (r ∷ records) some =
    ⊎_elim (λ (here : Covers hash r x). ⊎_elim (λ (without : r.flags ≡ 0). inl (inl (here, without))) (λ (opted : ¬ (r.flags ≡ 0)). inr (inl (here, opted)))
    (decided (nat_eq r.flags 0) (Decides-eqb r.flags 0)))
    (λ (rest : IsCovered hash records x). ⊎_elim (λ (none : (nsec3_words hash records).Absent x). inl (inr none)) (λ (opted : IsOptedOut hash records x). inr (inr opted))
    (absent_or_opted_out hash x records rest))
    some

-- the name is of the chain, and these are its types
pub record IsMatched (zone : Zone) (names : List Labels) (r : Nsec3Record) (name : Labels) : Type 0 where
  pub is_chained : IsChained names name
  pub node : IsNode zone name
  pub types : IsBitmapOf zone name r.types

module _ (zone : Zone) (hash : NameHash) (names : List Labels) (r : Nsec3Record) (there : IsInNsec3Chain zone hash names r) where
  -- no name of the chain is covered
  pub covered_not_chained : (x : Labels) → Covers hash r x → ¬ IsChained names x
  covered_not_chained x covers chained = there.next.none_between (hash.of x) (hash_member hash names x chained) covers.gap

  -- a name that is covered without Opt-Out is no node
  pub without_opt_out_no_node : (x : Labels) → Covers hash r x → r.flags ≡ 0 → ¬ IsNode zone x
  without_opt_out_no_node x covers without_opt_out node = there.without_opt_out without_opt_out x node covers.gap

module _ (zone : Zone) (hash : NameHash) (names : List Labels) (chain : AreChainNames zone names) (r : Nsec3Record) (there : IsInNsec3Chain zone hash names r) where
  -- the record that matches a name is that name's
  pub matched : (name x : Labels) → HasNoCollision zone hash name → IsAsked name x → Matches hash r x → IsMatched zone names r x
  matched name x apart asked matches =
      let node : IsNode zone there.name = chain.nodes there.name there.is_chained in
      let same : SameName there.name x = apart x there.name asked node (sym there.is_hash ∙ matches.same_hash) in
      record {
        is_chained = record { entry = by same names there.is_chained.entry };
        node = node_respects zone there.name x same node;
        types = bitmap_respects zone there.name x r.types same there.types;
      }
    where
      by : SameName there.name x → (list : List Labels) → Any (λ each. SameName each there.name) list → Any (λ each. SameName each x) list
      by same [] some = absurd some
      by same (first ∷ list) some =
          ⊎_elim (λ (here : SameName first there.name). inl (here ∙ same)) (λ (rest : Any (λ each. SameName each there.name) list). inr (by same list rest)) some

  -- a node that is covered is an unsigned end
  pub covered_unsigned : (x : Labels) → Covers hash r x → IsNode zone x → IsUnsignedEnd zone x
  covered_unsigned x covers node =
      ⊎_elim (λ (chained : IsChained names x). absurd (covered_not_chained zone hash names r there x covers chained)) (λ (end : IsUnsignedEnd zone x). end) (chain.all x node)

  -- a closest encloser is no delegation and has no DNAME
  pub encloser_open : (name x : Labels) → HasNoCollision zone hash name → IsAsked name x → Matches hash r x → ¬ IsClosed (IsInBitmap r.types) → ¬ IsClosedAt zone x
  encloser_open name x apart asked matches open_ closed = open_ (closed_bits zone x r.types (matched name x apart asked matches).types closed)

module _ (zone : Zone) (hash : NameHash) (names : List Labels) (records : List Nsec3Record) (all : AllByRecursion (IsInNsec3Chain zone hash names) records) where
  pub absent : (x : Labels) → Any (λ r. Covers hash r x × (r.flags ≡ 0)) records → ¬ IsNode zone x
  absent x some =
      let by = found_of (λ (r : Nsec3Record). Covers hash r x × (r.flags ≡ 0)) (IsInNsec3Chain zone hash names) records all some in
      without_opt_out_no_node zone hash names by.member by.kind x by.holds.0 by.holds.1

  pub covered_end : AreChainNames zone names → (x : Labels) → Any (λ r. Covers hash r x) records → IsNode zone x → IsUnsignedEnd zone x
  covered_end chain x some =
      let by = found_of (λ (r : Nsec3Record). Covers hash r x) (IsInNsec3Chain zone hash names) records all some in
      covered_unsigned zone hash names chain by.member by.kind x by.holds

  -- Under Opt-Out the flag stands over the next closer name; or that is no node, and the wildcard is an unsigned end.
  pub opted_out_wildcard : AreChainNames zone names → (apex name : Labels) (labels : ℕ) → OptOutForm hash records apex name labels
      → IsOptedOut hash records (rightmost name (labels + 1))
      ⊎ ((¬ IsNode zone (rightmost name (labels + 1)))
      × (IsNode zone (wildcard_of (rightmost name labels)) → IsUnsignedEnd zone (wildcard_of (rightmost name labels))))
  opted_out_wildcard chain apex name labels form =
      let next = rightmost name (labels + 1) in
      let star = wildcard_of (rightmost name labels) in
      ⊎_elim (λ (opted : IsOptedOut hash records next). inl opted)
      (λ (opted : IsOptedOut hash records star). ⊎_elim
      (λ (none : (nsec3_words hash records).Absent next). inr (
        absent next none,
        covered_end chain star (any_map (λ r. Covers hash r star × (r.flags ≢ 0)) (λ r. Covers hash r star) records (λ r both. both.0) opted),
      ))
      (λ (both : IsOptedOut hash records next). inl both)
      (absent_or_opted_out hash next records form.next_closer))
      form.opted_out

module _ (zone : Zone) (hash : NameHash) (names : List Labels) (records : List Nsec3Record) (name : Labels) (well : IsWellFormed zone) (chain : AreChainNames zone names) (apart : HasNoCollision zone hash name) (all : AllByRecursion (IsInNsec3Chain zone hash names) records) where
  types : (x : Labels) (Says : (ℕ → Type 0) → Type 0) → IsAsked name x → Any (λ r. Matches hash r x × Says (IsInBitmap r.types)) records → Told zone x Says
  types x Says asked some =
      let by = found_of (λ (r : Nsec3Record). Matches hash r x × Says (IsInBitmap r.types)) (IsInNsec3Chain zone hash names) records all some in
      let match = matched zone hash names chain by.member by.kind name x apart asked by.holds.0 in
      record { node = match.node; types = by.member.types; bitmap = match.types; said = by.holds.1 }

  -- what matches as a closest encloser is a node with no delegation and no DNAME
  pub open_node : (x : Labels) → IsAsked name x → Any (λ r. Matches hash r x × ¬ IsClosed (IsInBitmap r.types)) records → IsNode zone x × ¬ IsClosedAt zone x
  open_node x asked told =
      let by = found_of (λ (r : Nsec3Record). Matches hash r x × ¬ IsClosed (IsInBitmap r.types)) (IsInNsec3Chain zone hash names) records all told in (
        (matched zone hash names chain by.member by.kind name x apart asked by.holds.0).node,
        encloser_open zone hash names chain by.member by.kind name x apart asked by.holds.0 by.holds.1,
      )

  open_above : (labels : ℕ) → IsClosestEncloser zone name labels → Any (λ r. Matches hash r (rightmost name labels) × ¬ IsClosed (IsInBitmap r.types)) records → (cut : Labels) → IsBelow name cut → ¬ IsClosedAt zone cut
  open_above labels ce told =
      let x = rightmost name labels in
      nothing_closed zone name labels well ce (inl (open_node x (asked_above x (rightmost_above name labels)) told).1)

  pub nsec3_true : AreTrue zone (nsec3_words hash records) name
  nsec3_true = record {
    encloser = λ x asked within told. (open_node x asked told).0;
    absent = absent zone hash names records all;
    empty_non_terminal = λ x within told. absurd told;
    types = types;
    open_above = λ labels ce told some. open_above labels ce told;
  }
