-- Records that stand together: the RRsets of a section as it grows by a run of one RRset's records at a time.
use Rattle.std.proofs.Common.{◌≡◌, ℕ, ◌+◌, ◌<◌, ◌==◌, ◌^◌, ◌&&◌, ◌||◌, Bool, true, false, cond, List, [], ◌∷◌, ◌++◌, length, get_or, take, drop, not, map, Bor, refl, sym, ap, ◌∙◌, subst, append_assoc, append-nil}
use Rattle.std.specs.Int.{w16, to_be_bytes}
use Rattle.std.specs.List.{AllByRecursion, filter, list_any, starts_with}
use Rattle.std.specs.Prelude.{nat_eq}
use Rattle.std.specs.Str.{bytes_eq}
use Rattle.std.specs.Ordering.{is_eq}
use Rattle.std.specs.BTreeSet as sorted
use Rattle.std.specs.BTreeSet.{BTreeSet, contains}
use Rattle.std.proofs.lemmas.Bool.{and_parts, eqb-true, or_parts, true≢false}
use Rattle.std.proofs.lemmas.Cmp.{nat_eq_equiv}
use Rattle.std.proofs.lemmas.List.{map-append, take_more}
use Rattle.std.proofs.Math.Seq.{take-add}
use Rattle.std.proofs.lemmas.List.Elements.{filter-append}
use Rattle.std.proofs.lemmas.List.Folds.{list_any-append}
use Rattle.dnsv_names.specs.Name.{Labels, same_name}
use Rattle.dnsv_message.specs.declared.record.Record.{Record}
use Rattle.dnsv_message.specs.declared.record.Section.{Section}
use Rattle.dnsv_records.specs.OctetLaws.{recursion-append}
use Rattle.dnsv_canonical.specs.Rrsets.{ReceivedRrset, first_appearances, forms_rrsets, is_grouped, same_rrset, is_signature, rrset_of, rrsets_in}
use Rattle.dnsv_canonical.specs.Runs.{Fits, IsRun, IsSilent, SignsJust}
use Rattle.dnsv_canonical.proofs.EvidenceLemmas.{first_appearances_kept}
use Rattle.dnsv_canonical.proofs.OrderLemmas.{each_kept}
use Rattle.dnsv_canonical.proofs.ByRrsetLemmas.{Key, key_cmp, key_of, same_key_ties}
use Rattle.dnsv_canonical.proofs.GroupLemmas.{any_of_filter, first_appearances-push, same_name_equiv, same_rrset_itself}
use Rattle.dnsv_canonical.proofs.GroupLemmas.AppearanceLemmas.{any_same, each_differs, same_rrset_equiv}

-- ---- lists

module _ {X : Type 0} (p : X → Bool) where
  filter_pass : (xs : List X) (x : X) → p x ≡ true → filter p (xs ++ x ∷ []) ≡ filter p xs ++ x ∷ []
  filter_pass xs x is = filter-append p xs (x ∷ []) ∙ ap (λ b. filter p xs ++ cond b (x ∷ []) []) is

  filter_fail : (xs : List X) (x : X) → p x ≡ false → filter p (xs ++ x ∷ []) ≡ filter p xs
  filter_fail xs x is = filter-append p xs (x ∷ []) ∙ ap (λ b. filter p xs ++ cond b (x ∷ []) []) is ∙ append-nil (filter p xs)

  none_pass : (xs : List X) → AllByRecursion (λ x. p x ≡ false) xs → filter p xs ≡ []
  none_pass [] none = refl
  none_pass (x ∷ xs) none = ap (λ b. cond b (x ∷ filter p xs) (filter p xs)) none.0 ∙ none_pass xs none.1

  none_found : (xs : List X) → AllByRecursion (λ x. p x ≡ false) xs → list_any p xs ≡ false
  none_found [] none = refl
  none_found (x ∷ xs) none = λ i. none.0 i || none_found xs none.1 i

  none_chosen : (q : X → Bool) (xs : List X) → AllByRecursion (λ x. (p x && q x) ≡ false) xs → AllByRecursion (λ x. q x ≡ false) (filter p xs)
  none_chosen q [] none = tt
  none_chosen q (x ∷ xs) none = kept (p x) refl (none_chosen q xs none.1) where
    kept : (b : Bool) → p x ≡ b → AllByRecursion (λ y. q y ≡ false) (filter p xs) → AllByRecursion (λ y. q y ≡ false) (cond b (x ∷ filter p xs) (filter p xs))
    kept true is rest = (sym (ap (λ b. b && q x) is) ∙ none.0, rest)
    kept false is rest = rest

each_two : {X : Type 0} (P Q R : X → Type 0) → ((x : X) → P x → Q x → R x) → (xs : List X) → AllByRecursion P xs → AllByRecursion Q xs → AllByRecursion R xs
each_two P Q R leads [] ps qs = tt
each_two P Q R leads (x ∷ xs) ps qs = (leads x ps.0 qs.0, each_two P Q R leads xs ps.1 qs.1)

map_same : {X Y : Type 0} (f g : X → Y) (xs : List X) → AllByRecursion (λ x. f x ≡ g x) xs → map f xs ≡ map g xs
map_same f g [] same = refl
map_same f g (x ∷ xs) same = λ i. same.0 i ∷ map_same f g xs same.1 i

-- those that are the same as one that is there appear first no more
none_appears : (earlier : List Record) (x : Record) → list_any (λ y. same_rrset y x) earlier ≡ true → (more : List Record) → AllByRecursion (λ r. same_rrset x r ≡ true) more → first_appearances same_rrset (earlier ++ more) ≡ first_appearances same_rrset earlier
none_appears earlier x there [] alike = ap (first_appearances same_rrset) (append-nil earlier)
none_appears earlier x there (r ∷ more) alike =
    ap (first_appearances same_rrset) (sym (append_assoc earlier (r ∷ []) more))
    ∙ none_appears (earlier ++ r ∷ []) x (list_any-append (λ y. same_rrset y x) earlier (r ∷ []) ∙ ap (λ b. b || (same_rrset r x || false)) there) more alike.1
    ∙ first_appearances-push same_rrset earlier r
    ∙ ap (λ b. first_appearances same_rrset earlier ++ cond b [] (r ∷ [])) (sym (any_same same_rrset same_rrset_equiv r x earlier alike.0) ∙ there)
    ∙ append-nil (first_appearances same_rrset earlier)

-- ---- what a record says of an RRset

-- whether a record of q's RRset is among these
abbrev pub had : List Record → Record → Bool
had records q = list_any (λ r. is_grouped r && same_rrset r q) records

-- a record that belongs to an RRset is no signature
grouped_unsigned : (r : Record) → is_grouped r ≡ true → (owner : Labels) (rtype : ℕ) → is_signature owner rtype r ≡ false
grouped_unsigned r grouped owner rtype = by (r.rtype.0 == 46) refl where
  by : (b : Bool) → (r.rtype.0 == 46) ≡ b → is_signature owner rtype r ≡ false
  by true is = absurd (true≢false (sym (and_parts (r.class.0 == 1) (forms_rrsets r.rtype.0) grouped).1 ∙ ap forms_rrsets (eqb-true r.rtype.0 46 is)))
  by false is = λ i. ((is i && (r.class.0 == 1)) && starts_with nat_eq r.rdata (to_be_bytes w16 rtype)) && same_name r.name owner

-- ---- runs

no_run : (x : Record) → IsRun x [] [] []
no_run x = record { belong = refl; sign = refl; alike = tt; silent = λ q fits apart. tt }

module _ (x : Record) (run : List Record) (rdata signatures : List (List ℕ)) (so_far : IsRun x run rdata signatures) (r : Record) where
  pub one_belongs : is_grouped r ≡ true → same_rrset x r ≡ true → IsRun x (run ++ r ∷ []) (rdata ++ r.rdata ∷ []) signatures
  one_belongs grouped same =
      let octets : Record → List ℕ = λ s. s.rdata in
      let own : Record → Bool = same_rrset x in
      let signs : Record → Bool = is_signature x.name x.rtype.0 in
      record {
        belong = ap (λ d. d ++ r.rdata ∷ []) so_far.belong ∙ sym (map-append octets (filter own (filter is_grouped run)) (r ∷ []))
            ∙ ap (map octets) (sym (ap (filter own) (filter_pass is_grouped run r grouped) ∙ filter_pass own (filter is_grouped run) r same));
        sign = so_far.sign ∙ ap (map octets) (sym (filter_fail signs run r (grouped_unsigned r grouped x.name x.rtype.0)));
        alike = subst (AllByRecursion (λ s. same_rrset x s ≡ true)) (sym (filter_pass is_grouped run r grouped))
            (recursion-append (λ s. same_rrset x s ≡ true) (filter is_grouped run) (r ∷ []) so_far.alike (same, tt));
        silent = λ q fits apart. recursion-append (IsSilent q) run (r ∷ []) (so_far.silent q fits apart)
            (record { other = λ i. grouped i && (sym (same_rrset_equiv.congr x r q same) ∙ apart) i; unsigned = grouped_unsigned r grouped q.name q.rtype.0 }, tt);
      }

  pub one_signs : Fits x → SignsJust x.name x.rtype.0 r → IsRun x (run ++ r ∷ []) rdata (signatures ++ r.rdata ∷ [])
  one_signs fits just =
      let octets : Record → List ℕ = λ s. s.rdata in
      let own : Record → Bool = same_rrset x in
      let signs : Record → Bool = is_signature x.name x.rtype.0 in
      record {
        belong = so_far.belong ∙ ap (λ rs. map octets (filter own rs)) (sym (filter_fail is_grouped run r ungrouped));
        sign = ap (λ d. d ++ r.rdata ∷ []) so_far.sign ∙ sym (map-append octets (filter signs run) (r ∷ [])) ∙ ap (map octets) (sym (filter_pass signs run r it));
        alike = subst (AllByRecursion (λ s. same_rrset x s ≡ true)) (sym (filter_fail is_grouped run r ungrouped)) so_far.alike;
        silent = λ q within apart. recursion-append (IsSilent q) run (r ∷ []) (so_far.silent q within apart) (
          record {
            other = λ i. ungrouped i && same_rrset r q;
            unsigned = just q.name q.rtype.0 within ∙ (λ i. nat_eq_equiv.symm q.rtype.0 x.rtype.0 i && same_name x.name q.name) ∙ apart;
          },
          tt,
        );
      }
    where
      it : is_signature x.name x.rtype.0 r ≡ true
      it = just x.name x.rtype.0 fits ∙ (λ i. nat_eq_equiv.refl x.rtype.0 i && same_name_equiv.refl x.name i)

      ungrouped : is_grouped r ≡ false
      ungrouped = by (is_grouped r) refl where
        by : (b : Bool) → is_grouped r ≡ b → is_grouped r ≡ false
        by true is = absurd (true≢false (sym it ∙ grouped_unsigned r is x.name x.rtype.0))
        by false is = is

-- a run begins with the record itself
pub run_begins : (x : Record) → is_grouped x ≡ true → IsRun x (x ∷ []) (x.rdata ∷ []) []
run_begins x grouped = one_belongs x [] [] [] (no_run x) x grouped (same_rrset_itself x)

abbrev octets_of_each : List (Bor (List ℕ)) → List (List ℕ)
octets_of_each slices = map (λ r. r.now) slices

module _ (x : Record) where
  pub run_starts : is_grouped x ≡ true → (rdata signatures : List (Bor (List ℕ))) → octets_of_each rdata ≡ x.rdata ∷ [] → signatures ≡ [] → IsRun x (x ∷ []) (octets_of_each rdata) (octets_of_each signatures)
  run_starts grouped rdata signatures one none =
      subst (λ d. IsRun x (x ∷ []) d (octets_of_each signatures)) (sym one) (subst (λ s. IsRun x (x ∷ []) (x.rdata ∷ []) (octets_of_each s)) (sym none) (run_begins x grouped))

  module _ (behind : List Record) (i : ℕ) (r : Record) (within : i < length behind) (at : r ≡ get_or behind i r) (rdata signatures more : List (Bor (List ℕ))) (so_far : IsRun x (x ∷ take i behind) (octets_of_each rdata) (octets_of_each signatures)) (pushed : Bor (List ℕ)) (own : pushed.now ≡ r.rdata) where
    next_run : (d s : List (List ℕ)) → IsRun x (x ∷ (take i behind ++ r ∷ [])) d s → IsRun x (x ∷ take (i + 1) behind) d s
    next_run d s run = subst (λ rs. IsRun x (x ∷ rs) d s) (sym (take_more behind i r within ∙ ap (λ s. take i behind ++ s ∷ []) (sym at))) run

    one_octets : (before : List (Bor (List ℕ))) → more ≡ before ++ pushed ∷ [] → octets_of_each more ≡ octets_of_each before ++ r.rdata ∷ []
    one_octets before is = ap octets_of_each is ∙ map-append (λ (b : Bor (List ℕ)). b.now) before (pushed ∷ []) ∙ ap (λ o. octets_of_each before ++ o ∷ []) own

    pub run_belongs : is_grouped r ≡ true → same_rrset x r ≡ true → more ≡ rdata ++ pushed ∷ [] → (others : List (Bor (List ℕ))) → others ≡ signatures → IsRun x (x ∷ take (i + 1) behind) (octets_of_each more) (octets_of_each others)
    run_belongs grouped same is others as_before =
        next_run (octets_of_each more) (octets_of_each others)
        (subst (λ d. IsRun x (x ∷ (take i behind ++ r ∷ [])) d (octets_of_each others)) (sym (one_octets rdata is))
        (subst (λ s. IsRun x (x ∷ (take i behind ++ r ∷ [])) (octets_of_each rdata ++ r.rdata ∷ []) (octets_of_each s)) (sym as_before)
        (one_belongs x (x ∷ take i behind) (octets_of_each rdata) (octets_of_each signatures) so_far r grouped same)))

    pub run_signs : Fits x → SignsJust x.name x.rtype.0 r → more ≡ signatures ++ pushed ∷ [] → (others : List (Bor (List ℕ))) → others ≡ rdata → IsRun x (x ∷ take (i + 1) behind) (octets_of_each others) (octets_of_each more)
    run_signs fits just is others as_before =
        next_run (octets_of_each others) (octets_of_each more)
        (subst (λ s. IsRun x (x ∷ (take i behind ++ r ∷ [])) (octets_of_each others) s) (sym (one_octets signatures is))
        (subst (λ d. IsRun x (x ∷ (take i behind ++ r ∷ [])) (octets_of_each d) (octets_of_each signatures ++ r.rdata ∷ [])) (sym as_before)
        (one_signs x (x ∷ take i behind) (octets_of_each rdata) (octets_of_each signatures) so_far r fits just)))

-- ---- a section as it grows

-- records of which none is left over: each of them speaks of an RRset that has a record among them, or of none
pub record AreTogether (done : List Record) : Type 0 where
  pub fit : AllByRecursion Fits (filter is_grouped done)
  pub silent : (q : Record) → Fits q → had done q ≡ false → AllByRecursion (IsSilent q) done

pub nothing_together : AreTogether []
nothing_together = record { fit = tt; silent = λ q fits none. tt }

module _ (message : ℕ) (section : Section) (done more : List Record) (q : Record) where
  abbrev octets : Record → List ℕ
  octets r = r.rdata

  abbrev own : List Record → List Record
  own records = filter (same_rrset q) (filter is_grouped records)

  abbrev signing : List Record → List Record
  signing records = filter (is_signature q.name q.rtype.0) records

  own_parts : own (done ++ more) ≡ own done ++ own more
  own_parts = ap (filter (same_rrset q)) (filter-append is_grouped done more) ∙ filter-append (same_rrset q) (filter is_grouped done) (filter is_grouped more)

  no_own : (records : List Record) → AllByRecursion (IsSilent q) records → own records ≡ []
  no_own records silent =
      none_pass (same_rrset q) (filter is_grouped records) (none_chosen is_grouped (same_rrset q) records
      (each_kept (IsSilent q) (λ r. (is_grouped r && same_rrset q r) ≡ false) records (λ r is. ap (λ b. is_grouped r && b) (same_rrset_equiv.symm q r) ∙ is.other) silent))

  no_signing : (records : List Record) → AllByRecursion (IsSilent q) records → signing records ≡ []
  no_signing records silent = none_pass (is_signature q.name q.rtype.0) records (each_kept (IsSilent q) (λ r. is_signature q.name q.rtype.0 r ≡ false) records (λ r is. is.unsigned) silent)

  rrset_alike : (records : List Record) → own (done ++ more) ≡ own records → signing (done ++ more) ≡ signing records → rrset_of message section (done ++ more) q ≡ rrset_of message section records q
  rrset_alike records owned signed = λ i. record {
    message = message;
    section = section;
    owner = q.name;
    rtype = q.rtype.0;
    rdata = map octets (owned i);
    signatures = first_appearances bytes_eq (map octets (signed i));
  }

  -- what says nothing of an RRset leaves it as it is
  rrset_stays : AllByRecursion (IsSilent q) more → rrset_of message section (done ++ more) q ≡ rrset_of message section done q
  rrset_stays silent =
      rrset_alike done (own_parts ∙ ap (λ rs. own done ++ rs) (no_own more silent) ∙ append-nil (own done))
      (filter-append (is_signature q.name q.rtype.0) done more ∙ ap (λ rs. signing done ++ rs) (no_signing more silent) ∙ append-nil (signing done))

  rrset_behind : AllByRecursion (IsSilent q) done → rrset_of message section (done ++ more) q ≡ rrset_of message section more q
  rrset_behind silent =
      rrset_alike more (own_parts ∙ ap (λ rs. rs ++ own more) (no_own done silent))
      (filter-append (is_signature q.name q.rtype.0) done more ∙ ap (λ rs. rs ++ signing more) (no_signing done silent))

module _ (message : ℕ) (section : Section) (done : List Record) (so_far : AreTogether done) where
  abbrev firsts : List Record → List Record
  firsts records = first_appearances same_rrset (filter is_grouped records)

  grown : (run more : List Record) → firsts (done ++ run) ≡ firsts done ++ more → AllByRecursion (λ q. AllByRecursion (IsSilent q) run) (filter is_grouped done) → rrsets_in message section (done ++ run) ≡ rrsets_in message section done ++ map (rrset_of message section (done ++ run)) more
  grown run more appear silent =
      let make : List Record → Record → ReceivedRrset = rrset_of message section in
      ap (map (make (done ++ run))) appear ∙ map-append (make (done ++ run)) (firsts done) more
      ∙ ap (λ rs. rs ++ map (make (done ++ run)) more)
      (map_same (make (done ++ run)) (make done) (firsts done)
      (first_appearances_kept same_rrset (λ q. make (done ++ run) q ≡ make done q) (filter is_grouped done)
      (each_kept (λ q. AllByRecursion (IsSilent q) run) (λ q. make (done ++ run) q ≡ make done q) (filter is_grouped done) (λ q is. rrset_stays message section done run q is) silent)))

  module _ (x : Record) (ungrouped : is_grouped x ≡ false) (unsigned : (owner : Labels) (rtype : ℕ) → is_signature owner rtype x ≡ false) where
    says_nothing : (q : Record) → IsSilent q x
    says_nothing q = record { other = λ i. ungrouped i && same_rrset x q; unsigned = unsigned q.name q.rtype.0 }

    -- a record that speaks of no RRset
    pub passed_over : rrsets_in message section (done ++ x ∷ []) ≡ rrsets_in message section done
    passed_over =
        grown (x ∷ []) [] (ap (first_appearances same_rrset) (filter_fail is_grouped done x ungrouped) ∙ sym (append-nil (firsts done)))
        (each_kept Fits (λ q. AllByRecursion (IsSilent q) (x ∷ [])) (filter is_grouped done) (λ q fits. (says_nothing q, tt)) so_far.fit)
        ∙ append-nil (rrsets_in message section done)

    pub together_still : AreTogether (done ++ x ∷ [])
    together_still = record {
      fit = subst (AllByRecursion Fits) (sym (filter_fail is_grouped done x ungrouped)) so_far.fit;
      silent = λ q fits none. recursion-append (IsSilent q) done (x ∷ [])
          (so_far.silent q fits (or_parts (had done q) (had (x ∷ []) q) (sym (list_any-append (λ r. is_grouped r && same_rrset r q) done (x ∷ [])) ∙ none)).0) (says_nothing q, tt);
    }

    pub had_still : (q : Record) → had (done ++ x ∷ []) q ≡ had done q
    had_still q =
        list_any-append (λ r. is_grouped r && same_rrset r q) done (x ∷ [])
        ∙ ap (λ b. had done q || (b || false)) ((says_nothing q).other) ∙ nothing (had done q)
      where
        nothing : (b : Bool) → (b || (false || false)) ≡ b
        nothing true = refl
        nothing false = refl

  module _ (x : Record) (rest : List Record) (rdata signatures : List (List ℕ)) (run : IsRun x (x ∷ rest) rdata signatures) (fits : Fits x) (grouped : is_grouped x ≡ true) where
    alike_behind : AllByRecursion (λ r. same_rrset x r ≡ true) (filter is_grouped rest)
    alike_behind = (subst (λ b. AllByRecursion (λ r. same_rrset x r ≡ true) (cond b (x ∷ filter is_grouped rest) (filter is_grouped rest))) grouped run.alike).1

    has_itself : (q : Record) → same_rrset x q ≡ true → had (x ∷ rest) q ≡ true
    has_itself q same = λ i. (grouped i && same i) || had rest q

    had_run : (q : Record) → Fits q → had (x ∷ rest) q ≡ same_rrset x q
    had_run q within = by (same_rrset x q) refl where
      by : (b : Bool) → same_rrset x q ≡ b → had (x ∷ rest) q ≡ same_rrset x q
      by true is = has_itself q is ∙ sym is
      by false is =
          none_found (λ r. is_grouped r && same_rrset r q) (x ∷ rest) (each_kept (IsSilent q) (λ r. (is_grouped r && same_rrset r q) ≡ false) (x ∷ rest) (λ r s. s.other) (run.silent q within is)) ∙ sym is

    pub had_then : (q : Record) → Fits q → had (done ++ x ∷ rest) q ≡ (had done q || same_rrset x q)
    had_then q within = list_any-append (λ r. is_grouped r && same_rrset r q) done (x ∷ rest) ∙ ap (λ b. had done q || b) (had_run q within)

    pub together_then : AreTogether (done ++ x ∷ rest)
    together_then = record {
      fit = subst (AllByRecursion Fits) (sym (filter-append is_grouped done (x ∷ rest)))
          (recursion-append Fits (filter is_grouped done) (filter is_grouped (x ∷ rest)) so_far.fit
          (each_kept (λ r. same_rrset x r ≡ true) Fits (filter is_grouped (x ∷ rest)) (λ r same. subst (λ n. n < 2 ^ 16) (eqb-true x.rtype.0 r.rtype.0 (and_parts (x.rtype.0 == r.rtype.0) (same_name x.name r.name) same).0) fits) run.alike));
      silent = λ q within none.
          let parts = or_parts (had done q) (same_rrset x q) (sym (had_then q within) ∙ none) in
          recursion-append (IsSilent q) done (x ∷ rest) (so_far.silent q within parts.0) (run.silent q within parts.1);
    }

    module _ (new : had done x ≡ false) where
      none_earlier : list_any (λ y. same_rrset y x) (filter is_grouped done) ≡ false
      none_earlier = any_of_filter is_grouped (λ r. same_rrset r x) done ∙ new

      there : list_any (λ y. same_rrset y x) (filter is_grouped done ++ x ∷ []) ≡ true
      there = list_any-append (λ y. same_rrset y x) (filter is_grouped done) (x ∷ []) ∙ (λ i. none_earlier i || (same_rrset_itself x i || false))

      x_appears : firsts (done ++ x ∷ rest) ≡ firsts done ++ x ∷ []
      x_appears =
          ap (first_appearances same_rrset) (filter-append is_grouped done (x ∷ rest) ∙ ap (λ b. filter is_grouped done ++ cond b (x ∷ filter is_grouped rest) (filter is_grouped rest)) grouped
          ∙ sym (append_assoc (filter is_grouped done) (x ∷ []) (filter is_grouped rest)))
          ∙ none_appears (filter is_grouped done ++ x ∷ []) x there (filter is_grouped rest) alike_behind
          ∙ first_appearances-push same_rrset (filter is_grouped done) x
          ∙ ap (λ b. firsts done ++ cond b [] (x ∷ [])) none_earlier

      -- a run of an RRset that had no record before
      pub run_added : rrsets_in message section (done ++ x ∷ rest) ≡ rrsets_in message section done ++ record { message = message; section = section; owner = x.name; rtype = x.rtype.0; rdata = rdata; signatures = first_appearances bytes_eq signatures } ∷ []
      run_added =
          grown (x ∷ rest) (x ∷ []) x_appears
          (each_two Fits (λ q. same_rrset q x ≡ false) (λ q. AllByRecursion (IsSilent q) (x ∷ rest)) (λ q within apart. run.silent q within (same_rrset_equiv.symm x q ∙ apart))
          (filter is_grouped done) so_far.fit (each_differs same_rrset (filter is_grouped done) x none_earlier))
          ∙ ap (λ rrset. rrsets_in message section done ++ rrset ∷ [])
          (rrset_behind message section done (x ∷ rest) x (so_far.silent x fits new)
          ∙ (λ i. record { message = message; section = section; owner = x.name; rtype = x.rtype.0; rdata = sym run.belong i; signatures = first_appearances bytes_eq (sym run.sign i) }))

-- ---- the RRsets that are seen

-- whether the RRset is seen
abbrev pub is_kept : BTreeSet Key → Record → Bool
is_kept seen q = contains key_cmp seen (key_of q.rtype.0 q.name)

pub kept_then : (old new : BTreeSet Key) (k : Key) (q : Record) → sorted.Updates key_cmp old new k true → is_kept new q ≡ cond ((k.0.0 == q.rtype.0) && same_name k.1.0.now q.name) true (is_kept old q)
kept_then old new k q updates = updates.0 (key_of q.rtype.0 q.name) ∙ ap (λ b. cond b true (is_kept old q)) (same_key_ties k (key_of q.rtype.0 q.name))

either : (b had : Bool) → cond b true had ≡ (had || b)
either true true = refl
either true false = refl
either false true = refl
either false false = refl

-- ---- the loop over a section

-- the RRsets of the records so far, none of which belongs elsewhere, and which are seen
pub record IsReadTo (message : ℕ) (section : Section) (done : List Record) (rrsets : List ReceivedRrset) (seen : BTreeSet Key) : Type 0 where
  pub are : rrsets ≡ rrsets_in message section done
  pub together : AreTogether done
  pub kept : (q : Record) → Fits q → is_kept seen q ≡ had done q

none_kept : (keys : List Key) (k : Key) → keys ≡ [] → contains key_cmp (record { keys = keys }) k ≡ false
none_kept keys k none = ap (list_any (λ key. is_eq (key_cmp k key))) none

pub nothing_read : (message : ℕ) (section : Section) (rrsets : List ReceivedRrset) (seen : BTreeSet Key) → rrsets ≡ [] → seen.keys ≡ [] → IsReadTo message section [] rrsets seen
nothing_read message section rrsets seen none empty = record { are = none; together = nothing_together; kept = λ q fits. none_kept seen.keys (key_of q.rtype.0 q.name) empty }

not_true : (b : Bool) → not b ≡ true → b ≡ false
not_true true is = absurd (true≢false (sym is))
not_true false is = refl

module _ (message : ℕ) (section : Section) (records : List Record) (i : ℕ) (x : Record) (within : i < length records) (at : x ≡ get_or records i x) (rrsets : List ReceivedRrset) (seen : BTreeSet Key) (so_far : IsReadTo message section (take i records) rrsets seen) where
  abbrev done : List Record
  done = take i records

  one_further : done ++ x ∷ [] ≡ take (i + 1) records
  one_further = ap (λ r. done ++ r ∷ []) at ∙ sym (take_more records i x within)

  pub one_passed : is_grouped x ≡ false → ((x.rtype.0 == 46) && (x.class.0 == 1)) ≡ false → IsReadTo message section (take (i + 1) records) rrsets seen
  one_passed ungrouped no_rrsig =
      let unsigned : (owner : Labels) (rtype : ℕ) → is_signature owner rtype x ≡ false = λ owner rtype. (λ j. (no_rrsig j && starts_with nat_eq x.rdata (to_be_bytes w16 rtype)) && same_name x.name owner) in
      subst (λ records. IsReadTo message section records rrsets seen) one_further (record {
        are = so_far.are ∙ sym (passed_over message section done so_far.together x ungrouped unsigned);
        together = together_still message section done so_far.together x ungrouped unsigned;
        kept = λ q fits. so_far.kept q fits ∙ sym (had_still message section done so_far.together x ungrouped unsigned q);
      })

  module _ (count : ℕ) (rdata signatures : List (List ℕ)) (run : IsRun x (x ∷ take count (drop (i + 1) records)) rdata signatures) (fits : Fits x) (grouped : is_grouped x ≡ true) where
    run_further : done ++ x ∷ take count (drop (i + 1) records) ≡ take (i + 1 + count) records
    run_further =
        sym (append_assoc done (x ∷ []) (take count (drop (i + 1) records))) ∙ ap (λ front. front ++ take count (drop (i + 1) records)) one_further
        ∙ sym (take-add (i + 1) count records)

    pub run_taken : not (is_kept seen x) ≡ true → (more : List ReceivedRrset) → more ≡ rrsets ++ record { message = message; section = section; owner = x.name; rtype = x.rtype.0; rdata = rdata; signatures = first_appearances bytes_eq signatures } ∷ [] → (new : BTreeSet Key) → ((q : Record) → is_kept new q ≡ cond (same_rrset x q) true (is_kept seen q)) → IsReadTo message section (take (i + 1 + count) records) more new
    run_taken absent more is new kept =
        let rest : List Record = take count (drop (i + 1) records) in
        let first : had done x ≡ false = sym (so_far.kept x fits) ∙ not_true (is_kept seen x) absent in
        subst (λ records. IsReadTo message section records more new) run_further (record {
          are = is ∙ ap (λ rs. rs ++ record { message = message; section = section; owner = x.name; rtype = x.rtype.0; rdata = rdata; signatures = first_appearances bytes_eq signatures } ∷ []) so_far.are
              ∙ sym (run_added message section done so_far.together x rest rdata signatures run fits grouped first);
          together = together_then message section done so_far.together x rest rdata signatures run fits grouped;
          kept = λ q fit. kept q ∙ ap (cond (same_rrset x q) true) (so_far.kept q fit) ∙ either (same_rrset x q) (had done q)
              ∙ sym (had_then message section done so_far.together x rest rdata signatures run fits grouped q fit);
        })
