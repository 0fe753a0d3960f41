-- A message is evidence, or is refused for just one reason.
use Rattle.std.proofs.Common.{◌≡◌, ◌≢◌, ◌⊎◌, inl, inr, ⊎_elim, ℕ, zero, suc, ◌+◌, ◌≤◌, Bool, true, false, List, [], ◌∷◌, ◌++◌, length, get_or, take, drop, Option, Some, None, refl, sym, ap, ◌∙◌, subst, arith, append_assoc, length-append, ◌↔◌}
use Rattle.std.specs.Prelude.{Contains, bit_and, flat_map, nat_eq, ◌&&◌}
use Rattle.std.specs.Cmp.Lexicographic.{pointwise}
use Rattle.std.specs.List.{AllByRecursion, list_any}
use Rattle.std.proofs.lemmas.List.{append-nil, drop_at, take_all, take_more}
use Rattle.dnsv_names.specs.Name.{Labels, IsName, wire}
use Rattle.dnsv_names.specs.Octets.{number_at}
use Rattle.dnsv_names.specs.Name.WireLaws.{wire-front}
use Rattle.dnsv_message.specs.declared.record.Record.{Record}
use Rattle.dnsv_message.specs.Fits.{FitsMessage, FitsRecord}
use Rattle.dnsv_message.specs.Message.{Contents, records_of}
use Rattle.dnsv_message.specs.Parts.{HasParts}
use Rattle.dnsv_records.specs.declared.dnskey.Dnskey.{Dnskey}
use Rattle.dnsv_records.specs.declared.ds.Ds.{Ds}
use Rattle.dnsv_records.specs.declared.nsec.Nsec.{Nsec}
use Rattle.dnsv_records.specs.declared.nsec3.Nsec3.{Nsec3}
use Rattle.dnsv_records.specs.declared.nsec3.Nsec3Parameters.{Nsec3Parameters}
use Rattle.dnsv_records.specs.declared.rrsig.Rrsig.{Rrsig}
use Rattle.dnsv_records.specs.Bitmap.{IsBitmap}
use Rattle.dnsv_records.specs.DecisionLaws.{Or, all_or, at_most_or, number_or, usable_or}
use Rattle.dnsv_records.specs.Dnskey.{IsDnskey}
use Rattle.dnsv_records.specs.Ds.{IsDs}
use Rattle.dnsv_records.specs.Nsec.{IsNsec}
use Rattle.dnsv_records.specs.Nsec3.{IsNsec3, IsUsable}
use Rattle.dnsv_records.specs.Rrsig.{IsRrsig}
use Rattle.dnsv_canonical.specs.declared.capture.CaptureError.{CaptureError}
use Rattle.dnsv_canonical.specs.declared.capture.CaptureError.TheVariants.{OutOfMemory, NotAResponse, Truncated, BadRdata, Limit}
use Rattle.dnsv_canonical.specs.Evidence.{AreParameters, AreUsableParameters, AreParametersAmong, AtMost, Evidence, IsEvidence, IsFirstBad, IsReadable, IsReasonAgainst, IsSmall, IsWithinLimits, nsec3_rdata, with_message}
use Rattle.dnsv_canonical.specs.Rdata.{IsLaidOut}
use Rattle.dnsv_canonical.specs.Rrsets.{ReceivedRrset}
use Rattle.dnsv_canonical.proofs.CanonicalLemmas.{canonical_some}
use Rattle.dnsv_canonical.proofs.LimitLemmas.{few_where_canonical}
use Rattle.dnsv_canonical.proofs.ParameterLemmas.{AreParameters-had, AreParameters-known, AreParameters-new, any_contains, contains_any, few_pairs, no_pair_unusable, pair_of_usable}
use Rattle.dnsv_canonical.proofs.ReadableLemmas.{IsFirstBad-behind}

-- ---- one reason

readable_at : (before behind : List Record) (bad : Record) → AllByRecursion IsReadable (before ++ bad ∷ behind) → IsReadable bad
readable_at [] behind bad each = each.0
readable_at (x ∷ before) behind bad each = readable_at before behind bad each.1

no_first_bad : (records : List Record) (k : ℕ) → AllByRecursion IsReadable records → IsFirstBad records k → ⊥
no_first_bad records k each first = first.5 (readable_at first.0 first.2 first.1 (subst (AllByRecursion IsReadable) first.3 each))

same_length : (xs ys bs cs : List Record) (x y : Record) → xs ++ x ∷ bs ≡ ys ++ y ∷ cs → AllByRecursion IsReadable xs → ¬ IsReadable x → AllByRecursion IsReadable ys → ¬ IsReadable y → length xs ≡ length ys
same_length [] [] bs cs x y same each bad other worse = refl
same_length [] (b ∷ ys) bs cs x y same each bad other worse = let first : b ≡ x = cc in absurd (bad (subst IsReadable first other.0))
same_length (a ∷ xs) [] bs cs x y same each bad other worse = let first : a ≡ y = cc in absurd (worse (subst IsReadable first each.0))
same_length (a ∷ xs) (b ∷ ys) bs cs x y same each bad other worse =
    let rest : xs ++ x ∷ bs ≡ ys ++ y ∷ cs = cc in
    ap suc (same_length xs ys bs cs x y rest each.1 bad other.1 worse)

-- the first record that can't be read is one alone
one_first_bad : (records : List Record) (k l : ℕ) → IsFirstBad records k → IsFirstBad records l → k ≡ l
one_first_bad records k l p q =
    p.6 ∙ ap suc (same_length p.0 q.0 p.2 q.2 p.1 q.1 (sym p.3 ∙ q.3) p.4 p.5 q.4 q.5) ∙ sym q.6

pub evidence_or_refused : (held : Evidence) (message : Contents) (error : CaptureError) → error ≢ OutOfMemory → IsEvidence held message → IsReasonAgainst held message error → ⊥
evidence_or_refused held message OutOfMemory other is refused = other refl
evidence_or_refused held message NotAResponse other is refused = refused is.0.0
evidence_or_refused held message Truncated other is refused = is.0.1 refused.1
evidence_or_refused held message (BadRdata k) other is refused = no_first_bad (records_of message) k is.1 refused.1
evidence_or_refused held message Limit other is refused = refused.2 is.2

pub one_reason : (held : Evidence) (message : Contents) (a b : CaptureError) → a ≢ OutOfMemory → b ≢ OutOfMemory → IsReasonAgainst held message a → IsReasonAgainst held message b → a ≡ b
one_reason held message OutOfMemory b first second p q = absurd (first refl)
one_reason held message a OutOfMemory first second p q = absurd (second refl)
one_reason held message NotAResponse NotAResponse first second p q = refl
one_reason held message NotAResponse Truncated first second p q = absurd (p q.0)
one_reason held message Truncated NotAResponse first second p q = absurd (q p.0)
one_reason held message Truncated Truncated first second p q = refl
one_reason held message (BadRdata k) (BadRdata l) first second p q = ap BadRdata (one_first_bad (records_of message) k l p.1 q.1)
one_reason held message (BadRdata k) Limit first second p q = absurd (no_first_bad (records_of message) k q.1 p.1)
one_reason held message a NotAResponse first second p q = absurd (q p.0.0)
one_reason held message a Truncated first second p q = absurd (p.0.1 q.1)
one_reason held message Truncated b first second p q = absurd (q.0.1 p.1)
one_reason held message NotAResponse b first second p q = absurd (p q.0.0)
one_reason held message Limit (BadRdata l) first second p q = absurd (no_first_bad (records_of message) l p.1 q.1)
one_reason held message Limit Limit first second p q = refl

-- ---- whether a record can be read

one_name : (names : List Labels) → length names ≡ 1 → (name : Labels) × (names ≡ name ∷ [])
one_name [] count = absurd (omega (arith, count))
one_name (name ∷ []) count = (name, refl)
one_name (name ∷ other ∷ names) count = absurd (omega (arith, count))

-- what stands behind so many octets is one name and the rest
named_rest : (head : ℕ) (rdata before : List ℕ) (names : List Labels) (behind : List ℕ) (name : Labels) → length before ≡ head → names ≡ name ∷ [] → rdata ≡ before ++ flat_map wire names ++ behind → drop head rdata ≡ wire name ++ behind
named_rest head rdata before names behind name size one whole =
    ap (drop head) (whole ∙ append_assoc before (flat_map wire names) behind) ∙ drop_at before (flat_map wire names ++ behind) head size
    ∙ ap (λ ns. flat_map wire ns ++ behind) one ∙ ap (λ octets. octets ++ behind) (append-nil (wire name))

rrsig_of_parts : (rdata : List ℕ) → HasParts 46 1 rdata → (rrsig : Rrsig) × IsRrsig rdata rrsig
rrsig_of_parts rdata has =
    let name = one_name has.1 has.3.count in
    let named : IsName name.0 = (subst (AllByRecursion IsName) name.1 has.3.each).0 in
    let size : length has.0 ≡ 18 = has.3.head in (
      record {
        type_covered = record { 0 = number_at rdata 0 2 };
        algorithm = record { 0 = number_at rdata 2 1 };
        labels = number_at rdata 3 1;
        original_ttl = record { 0 = number_at rdata 4 4 };
        expiration = record { 0 = number_at rdata 8 4 };
        inception = record { 0 = number_at rdata 12 4 };
        key_tag = record { 0 = number_at rdata 16 2 };
        signer = name.0;
        signature = has.2;
      },
      record {
        head = omega (arith, ap length has.4, length-append (has.0 ++ flat_map wire has.1) has.2, length-append has.0 (flat_map wire has.1), size);
        type_covered = refl;
        algorithm = refl;
        labels = refl;
        original_ttl = refl;
        expiration = refl;
        inception = refl;
        key_tag = refl;
        name = named;
        rest = named_rest 18 rdata has.0 has.1 has.2 name.0 size name.1 has.4;
      },
    )

-- ---- whether the limits hold of an RRset

keys_or : (rrset : ReceivedRrset) → Or (rrset.rtype ≡ 48 → AtMost 16 (Contains rrset.rdata))
keys_or rrset =
    let canonical = canonical_some rrset.rdata in
    let few = few_where_canonical 16 rrset.rdata canonical.0 canonical.1 in
    ⊎_elim
    (λ is. ⊎_elim (λ short. inl (λ _. few.0 short)) (λ long. inr (λ keys. long (few.1 (keys is)))) (at_most_or (length canonical.0) 16))
    (λ other. inl (λ is. absurd (other is)))
    (number_or rrset.rtype 48)

small_or : (rrset : ReceivedRrset) → Or (IsSmall rrset)
small_or rrset =
    ⊎_elim (λ keys. ⊎_elim (λ few. inl (record { keys = keys; signatures = few })) (λ none. inr (λ small. none small.signatures)) (at_most_or (length rrset.signatures) 16))
    (λ none. inr (λ small. none small.keys)) (keys_or rrset)

-- the parameters of a record, if it is usable
record Found (rdata : List ℕ) : Type 0 where
  found : Option Nsec3Parameters
  reads : (parameters : Nsec3Parameters) → (found ≡ Some parameters) ↔ AreUsableParameters rdata parameters

among_or : (all : List Nsec3Parameters) (parameters : Nsec3Parameters) → Or (Contains all parameters)
among_or all parameters = test (list_any (λ y. nat_eq y.iterations.0 parameters.iterations.0 && pointwise nat_eq y.salt parameters.salt) all) refl where
  test : (is : Bool) → list_any (λ y. nat_eq y.iterations.0 parameters.iterations.0 && pointwise nat_eq y.salt parameters.salt) all ≡ is → Or (Contains all parameters)
  test true is = inl (any_contains all parameters is)
  test false is = inr (λ among. let turned : true ≡ false = sym (contains_any all parameters among) ∙ is in cc)

more_parameters : (earlier : List (List ℕ)) (all : List Nsec3Parameters) → AreParameters earlier all → (rdata : List ℕ) (found : Option Nsec3Parameters) → ((parameters : Nsec3Parameters) → (found ≡ Some parameters) ↔ AreUsableParameters rdata parameters)
    → (more : List Nsec3Parameters) × AreParameters (earlier ++ rdata ∷ []) more
more_parameters earlier all are rdata None reads = (all, AreParameters-known earlier all are rdata None reads (λ parameters none. cc))
more_parameters earlier all are rdata (Some parameters) reads =
    ⊎_elim
    (λ had. (all, AreParameters-had earlier all are rdata (Some parameters) reads parameters refl had))
    (λ new. (all ++ parameters ∷ [], AreParameters-new earlier all are rdata (Some parameters) reads parameters refl new))
    (among_or all parameters)

-- ---- whether a message is refused

abbrev IsRefusedSomehow : Evidence → Contents → Type 0
IsRefusedSomehow held message = (error : CaptureError) × (error ≢ OutOfMemory) × IsReasonAgainst held message error

-- ---- with the laws of records

-- the laws of the layer below: octets are a record or not, and not two
pub record RecordLaws : Type 0 where
  pub dnskey : (rdata : List ℕ) → Or ((dnskey : Dnskey) × IsDnskey rdata dnskey)
  pub ds : (rdata : List ℕ) → Or ((ds : Ds) × IsDs rdata ds)
  pub nsec3 : (rdata : List ℕ) → Or ((nsec3 : Nsec3) × IsNsec3 rdata nsec3)
  pub bitmap : (octets : List ℕ) → Or (IsBitmap octets)
  pub one_nsec3 : (rdata : List ℕ) (a b : Nsec3) → IsNsec3 rdata a → IsNsec3 rdata b → a ≡ b

module _ (laws : RecordLaws) where
  nsec_or : (rdata : List ℕ) → HasParts 47 1 rdata → Or ((nsec : Nsec) × IsNsec rdata nsec)
  nsec_or rdata has =
      let name = one_name has.1 has.3.count in
      let named : IsName name.0 = (subst (AllByRecursion IsName) name.1 has.3.each).0 in
      let whole : rdata ≡ wire name.0 ++ has.2 = named_rest 0 rdata has.0 has.1 has.2 name.0 has.3.head name.1 has.4 in
      ⊎_elim
      (λ bitmap. inl (record { next = name.0; types = bitmap.0 }, record { name = named; bits = has.2; whole = whole; bitmap = bitmap.1 }))
      (λ none. inr (λ is. none (subst IsBitmap (wire-front is.0.next name.0 is.1.bits has.2 is.1.name.each named.each (sym is.1.whole ∙ whole)).1 (is.0.types, is.1.bitmap))))
      (laws.bitmap has.2)

  laid_or : (rtype : ℕ) (rdata : List ℕ) → HasParts rtype 1 rdata → Or (IsLaidOut rtype rdata)
  laid_or rtype rdata has =
      ⊎_elim (λ is. ⊎_elim
      (λ read. inl (record { ds = λ _. read; rrsig = λ other. absurd (omega (arith, is, other)); nsec = λ other. absurd (omega (arith, is, other)); dnskey = λ other. absurd (omega (arith, is, other)); nsec3 = λ other. absurd (omega (arith, is, other)) }))
      (λ none. inr (λ laid. none (laid.ds is))) (laws.ds rdata))
      (λ not_ds. ⊎_elim
      (λ is. inl (record { ds = λ other. absurd (not_ds other); rrsig = λ _. rrsig_of_parts rdata (subst (λ n. HasParts n 1 rdata) is has); nsec = λ other. absurd (omega (arith, is, other)); dnskey = λ other. absurd (omega (arith, is, other)); nsec3 = λ other. absurd (omega (arith, is, other)) }))
      (λ not_rrsig. ⊎_elim (λ is. ⊎_elim
      (λ read. inl (record { ds = λ other. absurd (not_ds other); rrsig = λ other. absurd (not_rrsig other); nsec = λ _. read; dnskey = λ other. absurd (omega (arith, is, other)); nsec3 = λ other. absurd (omega (arith, is, other)) }))
      (λ none. inr (λ laid. none (laid.nsec is))) (nsec_or rdata (subst (λ n. HasParts n 1 rdata) is has)))
      (λ not_nsec. ⊎_elim (λ is. ⊎_elim
      (λ read. inl (record { ds = λ other. absurd (not_ds other); rrsig = λ other. absurd (not_rrsig other); nsec = λ other. absurd (not_nsec other); dnskey = λ _. read; nsec3 = λ other. absurd (omega (arith, is, other)) }))
      (λ none. inr (λ laid. none (laid.dnskey is))) (laws.dnskey rdata))
      (λ not_dnskey. ⊎_elim (λ is. ⊎_elim
      (λ read. inl (record { ds = λ other. absurd (not_ds other); rrsig = λ other. absurd (not_rrsig other); nsec = λ other. absurd (not_nsec other); dnskey = λ other. absurd (not_dnskey other); nsec3 = λ _. read }))
      (λ none. inr (λ laid. none (laid.nsec3 is))) (laws.nsec3 rdata))
      (λ not_nsec3. inl (record { ds = λ other. absurd (not_ds other); rrsig = λ other. absurd (not_rrsig other); nsec = λ other. absurd (not_nsec other); dnskey = λ other. absurd (not_dnskey other); nsec3 = λ other. absurd (not_nsec3 other) }))
      (number_or rtype 50)) (number_or rtype 48)) (number_or rtype 47)) (number_or rtype 46)) (number_or rtype 43)

  readable_or : (r : Record) → FitsRecord r → Or (IsReadable r)
  readable_or r fits =
      ⊎_elim
      (λ internet. ⊎_elim (λ laid. inl (λ _. laid)) (λ none. inr (λ can. none (can internet))) (laid_or r.rtype.0 r.rdata (subst (λ n. HasParts r.rtype.0 n r.rdata) internet fits.parts)))
      (λ other. inl (λ internet. absurd (other internet)))
      (number_or r.class.0 1)

  first_bad_or : (rs : List Record) → AllByRecursion FitsRecord rs → AllByRecursion IsReadable rs ⊎ ((k : ℕ) × IsFirstBad rs k)
  first_bad_or [] fits = inl tt
  first_bad_or (r ∷ rs) fits =
      ⊎_elim
      (λ can. ⊎_elim (λ all. inl (can, all)) (λ first. inr (1 + first.0, IsFirstBad-behind (r ∷ []) rs first.0 (can, tt) first.1)) (first_bad_or rs fits.1))
      (λ bad. inr (1, ([], r, rs, refl, tt, bad, refl)))
      (readable_or r fits.0)

  -- ---- whether the limits hold, of the parameters and of all

  found_in : (rdata : List ℕ) → Found rdata
  found_in rdata =
      ⊎_elim
      (λ (read : (nsec3 : Nsec3) × IsNsec3 rdata nsec3).
      let one : (other : Nsec3) → IsNsec3 rdata other → read.0 ≡ other = λ other is. laws.one_nsec3 rdata read.0 other read.1 is in
      ⊎_elim
      (λ (usable : IsUsable read.0). record { found = Some read.0.parameters; reads = pair_of_usable rdata read.0 read.1 usable one })
      (λ (unusable : ¬ IsUsable read.0). record { found = None; reads = no_pair_unusable rdata read.0 unusable one })
      (usable_or read.0))
      (λ (none : ¬ ((nsec3 : Nsec3) × IsNsec3 rdata nsec3)). record { found = None; reads = λ parameters. (λ same. cc, λ of. absurd (none (of.0, of.1))) })
      (laws.nsec3 rdata)

  parameters_up_to : (received : List (List ℕ)) (n : ℕ) → n ≤ length received → (all : List Nsec3Parameters) × AreParameters (take n received) all
  parameters_up_to received zero within = ([], record { distinct = tt; members = λ parameters. (λ found. absurd (omega (arith, found.1)), λ among. absurd (omega (arith, among.1.1))) })
  parameters_up_to received (suc n) within =
      let so_far = parameters_up_to received n (omega arith) in
      let rdata : List ℕ = get_or received n [] in
      let found = found_in rdata in
      let count : suc n ≡ n + 1 = omega arith in
      let next : take (suc n) received ≡ take n received ++ rdata ∷ [] = ap (λ k. take k received) count ∙ take_more received n [] (omega arith) in
      subst (λ front. (all : List Nsec3Parameters) × AreParameters front all) (sym next) (more_parameters (take n received) so_far.0 so_far.1 rdata found.found found.reads)

  parameters_or : (received : List (List ℕ)) → Or (AtMost 8 (AreParametersAmong received))
  parameters_or received =
      let all = subst (λ front. (all : List Nsec3Parameters) × AreParameters front all) (take_all (length received) received (omega arith)) (parameters_up_to received (length received) (omega arith)) in
      let few = few_pairs 8 received all.0 all.1 in
      ⊎_elim (λ short. inl (few.0 short)) (λ long. inr (λ some. long (few.1 some))) (at_most_or (length all.0) 8)

  limits_or : (held : Evidence) → Or (IsWithinLimits held)
  limits_or held =
      ⊎_elim (λ messages. ⊎_elim (λ records. ⊎_elim (λ rrsets. ⊎_elim
      (λ parameters. inl (record { messages = messages; records = records; rrsets = rrsets; parameters = parameters }))
      (λ none. inr (λ within. none within.parameters)) (parameters_or (nsec3_rdata held.rrsets)))
      (λ none. inr (λ within. none within.rrsets)) (all_or IsSmall small_or held.rrsets))
      (λ none. inr (λ within. none within.records)) (at_most_or held.records 4096))
      (λ none. inr (λ within. none within.messages)) (at_most_or held.messages 64)

  pub evidence_or_reason : (held : Evidence) (message : Contents) → FitsMessage message → IsEvidence held message ⊎ IsRefusedSomehow held message
  evidence_or_reason held message fits =
      ⊎_elim (λ response. ⊎_elim
      (λ cut. inr (Truncated, (λ same. cc), (response, cut)))
      (λ uncut. ⊎_elim (λ can. ⊎_elim
      (λ within. inl ((response, uncut), can, within))
      (λ beyond. inr (Limit, (λ same. cc), ((response, uncut), can, beyond))) (limits_or (with_message held message)))
      (λ first. inr (BadRdata first.0, (λ same. cc), ((response, uncut), first.1))) (first_bad_or (records_of message) fits.records))
      (number_or (bit_and message.flags 0x0200) 0x0200))
      (λ query. inr (NotAResponse, (λ same. cc), query))
      (number_or (bit_and message.flags 0x8000) 0x8000)
