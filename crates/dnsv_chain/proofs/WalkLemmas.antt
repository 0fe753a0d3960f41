-- One walk finds all trust.
use Rattle.std.proofs.Common.{◌≡◌, ◌<◌, ◌≤◌, ◌+◌, ◌-◌, ℕ, List, [], ◌∷◌, ◌++◌, length, get_or, take, Some, sym, ap, ◌∙◌, subst, arith, ◌⊎◌, inl, inr, ⊎_elim}
use Rattle.std.proofs.lemmas.List.{take_more, take_all}
use Rattle.std.proofs.lemmas.List.Elements.{Contains-push_cases}
use Rattle.std.proofs.lemmas.Option.{slice_get_within, slice_get-get_or, get_or_from_slice_get}
use Rattle.std.specs.List.{Contains, slice_get}
use Rattle.dnsv_names.specs.Name.{Labels, SameName}
use Rattle.dnsv_records.proofs.OneRecord.{one_dnskey}
use Rattle.dnsv_records.specs.Dnskey.{IsDnskey}
use Rattle.dnsv_records.specs.declared.rrsig.Rrsig.{Rrsig}
use Rattle.dnsv_canonical.specs.Rrsets.{ReceivedRrset}
use Rattle.dnsv_verifier.specs.Admissible.{DnskeyRecord, IsGood}
use Rattle.dnsv_verifier.specs.declared.answer.Answer.{Answer}
use Rattle.dnsv_verifier.specs.declared.entry.Entry.{Entry}
use Rattle.dnsv_chain.specs.Trusted.{IsKeyOf, IsTrusted, anchored, delegated}
use Rattle.dnsv_chain.specs.Chain.{AddsDelegation, AddsTrusted, AreKeysByOwner, HasKeys, HasRdata, IsDelegation, IsSignedByVouched, IsWalked}
use Rattle.dnsv_chain.specs.Order.{AreSteps, IsStepOf}
use Rattle.dnsv_chain.specs.Signing.{IsGoodNumber}
use Rattle.dnsv_anchors.specs.declared.anchor.Anchor.{Anchor}
use Rattle.dnsv_chain.specs.declared.order.Step.{Step}
use Rattle.dnsv_chain.proofs.DerivationLemmas.{same_owner_labels}
use Rattle.dnsv_chain.proofs.StepLemmas.{earlier, fewer_first, ds_first, one_rrset}
use Rattle.dnsv_chain.proofs.TrustedLemmas.{trusted_among, trusted_rtype, fewer_labels}

-- A key is a value: what is good under one is good under another of the same RDATA, whose owner is the signer too.
pub same_rdata_good : (m : Entry → Answer) (t : ℕ) (rrset : ReceivedRrset) (rrsig : Rrsig) (key other : DnskeyRecord)
    → IsDnskey key.rdata key.dnskey → IsDnskey other.rdata other.dnskey → other.rdata ≡ key.rdata → SameName other.owner rrsig.signer
    → IsGood m t rrset rrsig key → IsGood m t rrset rrsig other
same_rdata_good m t rrset rrsig key other read other_read same owner good =
    let dnskeys : key.dnskey ≡ other.dnskey =
    one_dnskey other.rdata key.dnskey other.dnskey (subst (λ (octets : List ℕ). IsDnskey octets key.dnskey) (sym same) read) other_read in
    let admissible = good.admissible in
    let moved : IsGood m t rrset rrsig (record { owner = key.owner; rdata = other.rdata; dnskey = other.dnskey }) =
    subst (λ (k : DnskeyRecord). IsGood m t rrset rrsig k) (λ i. record { owner = key.owner; rdata = sym same i; dnskey = dnskeys i }) good in
    record {
      admissible = record {
        over = moved.admissible.over;
        timely = moved.admissible.timely;
        signer = moved.admissible.signer;
        unexpanded = moved.admissible.unexpanded;
        zone_key = record { owner = owner; protocol = moved.admissible.zone_key.protocol; zone_key = moved.admissible.zone_key.zone_key };
        named = record { algorithm = moved.admissible.named.algorithm; key_tag = moved.admissible.named.key_tag; supported = moved.admissible.named.supported };
      };
      entry = moved.entry;
      is = record { algorithm = moved.is.algorithm; key_field = moved.is.key_field; signed_data = moved.is.signed_data; signature = moved.is.signature };
      valid = moved.valid;
    }

module _ (m : Entry → Answer) (t : ℕ) (rs : List ReceivedRrset) (anchors : List Anchor) where
  -- a signature with a number is one of the RRset's
  numbered_signature : (rrset : ReceivedRrset) (s : ℕ) (rdata : List ℕ) → slice_get rrset.signatures (s - 1) ≡ Some rdata → Contains rrset.signatures rdata
  numbered_signature rrset s rdata at =
      (s - 1, slice_get_within rrset.signatures (s - 1) rdata at, get_or_from_slice_get rrset.signatures (s - 1) rdata rdata at)

  module _ (keys : Labels → List DnskeyRecord) (delegations : Labels → List ReceivedRrset)
      (keys_same : (a b : Labels) → SameName a b → keys a ≡ keys b) (delegations_same : (a b : Labels) → SameName a b → delegations a ≡ delegations b)
      (steps : List Step) (steps_are : AreSteps rs steps) where
    module _ (done : List Step) (walked : IsWalked m t rs anchors done keys delegations) where
      pub delegation_of_number : (ds : ReceivedRrset) (s : ℕ) → Contains rs ds → IsGoodNumber m t ds keys s → IsDelegation m t rs anchors ds
      delegation_of_number ds s among number =
          let key = walked.keys_are number.rrsig.signer number.good.key number.good.among in
          record {
            among = among;
            parent = key.set;
            trusted = key.trusted;
            above = number.good.key;
            stands = key.stands;
            signed = record { rrsig = number.rrsig; its = (number.rdata, numbered_signature ds s number.rdata number.signature.1, number.is); good = number.good.good };
          }

      pub trusted_of_vouched : (set : ReceivedRrset) → Contains rs set → IsSignedByVouched m t anchors (delegations set.owner) set → IsTrusted m t rs anchors set
      trusted_of_vouched set among by =
          ⊎_elim (λ matching. anchored among by.signs matching)
          (λ some. let delegation = walked.delegations_are set.owner some.ds some.among in
          delegated delegation.trusted delegation.stands delegation.among delegation.signed some.delegates among by.signs)
          by.vouched

    module _ (i : ℕ) (step : Step) (within : i < length steps) (at : step ≡ get_or steps i step) (walked : IsWalked m t rs anchors (take i steps) keys delegations) where
      pub number_of_delegation : (ds : ReceivedRrset) → IsStepOf rs step ds → ds.rtype ≡ 43 → IsDelegation m t rs anchors ds
          → (s : ℕ) × IsGoodNumber m t ds keys s
      number_of_delegation ds for_it rtype delegation =
          let parent = delegation.parent in
          let signed = delegation.signed in
          let rrsig = signed.rrsig in
          let found = steps_are.every parent (trusted_among delegation.trusted) (inr (trusted_rtype delegation.trusted)) in
          let above : Step = found.0 in
          let above_is : IsStepOf rs above parent = found.2 in
          let fewer : length parent.owner < length ds.owner = fewer_labels rtype delegation.stands signed in
          let above_labels : above.labels ≡ length parent.owner = above_is.labels in
          let its_labels : step.labels ≡ length ds.owner = for_it.labels in
          let before = earlier steps step above i steps_are.rising within at found.1 (fewer_first above step (omega arith)) in
          let has : HasRdata (keys parent.owner) delegation.above.rdata =
          walked.keys_all above parent before above_is delegation.trusted delegation.above.rdata delegation.stands.among in
          let signer : SameName parent.owner rrsig.signer =
          subst (λ (owner : Labels). SameName owner rrsig.signer) delegation.stands.owner signed.good.admissible.zone_key.owner in
          let among : Contains (keys rrsig.signer) has.0 = subst (λ (list : List DnskeyRecord). Contains list has.0) (keys_same parent.owner rrsig.signer signer) has.1 in
          let key = walked.keys_are rrsig.signer has.0 among in
          let owner : SameName has.0.owner rrsig.signer = subst (λ (name : Labels). SameName name rrsig.signer) (sym key.stands.owner) key.owner in
          let rdata : List ℕ = signed.its.0 in
          let k : ℕ = signed.its.1.0 in
          let inside : k < length ds.signatures = signed.its.1.1 in
          let place : k + 1 - 1 ≡ k = omega arith in (
            k + 1,
            record {
              rdata = rdata;
              signature = (omega arith, ap (λ (j : ℕ). slice_get ds.signatures j) place ∙ slice_get-get_or ds.signatures k rdata inside ∙ ap (λ (o : List ℕ). Some o) signed.its.1.2);
              rrsig = rrsig;
              is = signed.its.2;
              good = record {
                key = has.0;
                among = among;
                good = same_rdata_good m t ds rrsig delegation.above has.0 delegation.stands.is key.stands.is has.2 owner signed.good;
              };
            },
          )

      pub vouched_of_trusted : (set : ReceivedRrset) → IsStepOf rs step set → IsTrusted m t rs anchors set
          → IsSignedByVouched m t anchors (delegations set.owner) set
      vouched_of_trusted set for_it (anchored {key = key} among signs matching) = record { key = key; signs = signs; vouched = inl matching }
      vouched_of_trusted set for_it (delegated {parent = parent} {ds = ds} {above = above} {key = key} trusted stands among signed delegates set_among signs) =
          let delegation : IsDelegation m t rs anchors ds =
          record { among = among; parent = parent; trusted = trusted; above = above; stands = stands; signed = signed } in
          let found = steps_are.every ds among (inl delegates.rtype) in
          let ds_step : Step = found.0 in
          let ds_is : IsStepOf rs ds_step ds = found.2 in
          let ds_labels : ds_step.labels ≡ length ds.owner = ds_is.labels in
          let its_labels : step.labels ≡ length set.owner = for_it.labels in
          let sizes : length ds.owner ≡ length set.owner = same_owner_labels ds set key delegates signs.stands in
          let ds_type : ds_step.rtype.0 ≡ 43 = ds_is.rtype ∙ delegates.rtype in
          let its_type : step.rtype.0 ≡ 48 = for_it.rtype ∙ signs.stands.rtype in
          let before = earlier steps step ds_step i steps_are.rising within at found.1 (ds_first ds_step step (omega arith) (omega arith)) in
          let owner : SameName ds.owner set.owner =
          subst (λ (name : Labels). SameName ds.owner name) signs.stands.owner delegates.usable.matching.same_owner in
          let there : Contains (delegations set.owner) ds =
          subst (λ (list : List ReceivedRrset). Contains list ds) (delegations_same ds.owner set.owner owner) (walked.delegations_all ds_step ds before ds_is delegates.rtype delegation) in
          record { key = key; signs = signs; vouched = inr (record { ds = ds; among = there; delegates = delegates }) }

      -- the last of the steps that are done, or one before it
      last_or_before : (other : Step) → Contains (take (i + 1) steps) other → Contains (take i steps) other ⊎ (step ≡ other)
      last_or_before other among =
          Contains-push_cases (take i steps) step other
          (subst (λ (list : List Step). Contains list other) (take_more steps i step within ∙ ap (λ (s : Step). take i steps ++ s ∷ []) (sym at)) among)

      pub walked_delegation : (ds : ReceivedRrset) (new : Labels → List ReceivedRrset) → IsStepOf rs step ds → ds.rtype ≡ 43 → Contains rs ds
          → AddsDelegation m t keys ds delegations new → IsWalked m t rs anchors (take (i + 1) steps) keys new
      walked_delegation ds new for_it rtype among adds = record {
        keys_are = walked.keys_are;
        keys_all = λ other set done other_is trusted. ⊎_elim
            (λ (before : Contains (take i steps) other). walked.keys_all other set before other_is trusted)
            (λ (last : step ≡ other).
            let same : set ≡ ds = one_rrset rs step set ds (subst (λ (s : Step). IsStepOf rs s set) (sym last) other_is) for_it in
            let dnskey : set.rtype ≡ 48 = trusted_rtype trusted in
            let both : set.rtype ≡ 43 = ap (λ (r : ReceivedRrset). r.rtype) same ∙ rtype in
            absurd (omega (arith, dnskey, both)))
            (last_or_before other done);
        delegations_are = λ zone each there. ⊎_elim
            (λ (before : Contains (delegations zone) each). walked.delegations_are zone each before)
            (λ (fresh : (each ≡ ds) × ((s : ℕ) × IsGoodNumber m t ds keys s)).
            subst (λ (r : ReceivedRrset). IsDelegation m t rs anchors r) (sym fresh.0) (delegation_of_number (take i steps) walked ds fresh.1.0 among fresh.1.1))
            (adds.cases zone each there);
        delegations_all = λ other each done other_is each_type delegation. ⊎_elim
            (λ (before : Contains (take i steps) other). adds.kept each.owner each (walked.delegations_all other each before other_is each_type delegation))
            (λ (last : step ≡ other).
            let same : ds ≡ each = one_rrset rs step ds each for_it (subst (λ (s : Step). IsStepOf rs s each) (sym last) other_is) in
            let here : IsDelegation m t rs anchors ds = subst (λ (r : ReceivedRrset). IsDelegation m t rs anchors r) (sym same) delegation in
            let number = number_of_delegation ds for_it rtype here in
            subst (λ (r : ReceivedRrset). Contains (new r.owner) r) same (adds.good number.0 number.1))
            (last_or_before other done);
      }

      pub walked_trusted : (set : ReceivedRrset) (new : Labels → List DnskeyRecord) → IsStepOf rs step set → set.rtype ≡ 48 → Contains rs set
          → AddsTrusted m t anchors delegations set keys new → IsWalked m t rs anchors (take (i + 1) steps) new delegations
      walked_trusted set new for_it rtype among adds = record {
        keys_are = λ zone key there. ⊎_elim
            (λ (before : Contains (keys zone) key). walked.keys_are zone key before)
            (λ (fresh : IsSignedByVouched m t anchors (delegations set.owner) set × SameName set.owner zone × IsKeyOf set key).
            record { set = set; trusted = trusted_of_vouched (take i steps) walked set among fresh.0; owner = fresh.1; stands = fresh.2 })
            (adds.cases zone key there);
        keys_all = λ other each done other_is trusted rdata rdata_among. ⊎_elim
            (λ (before : Contains (take i steps) other).
            let has = walked.keys_all other each before other_is trusted rdata rdata_among in (has.0, adds.kept each.owner has.0 has.1, has.2))
            (λ (last : step ≡ other).
            let same : each ≡ set = one_rrset rs step each set (subst (λ (s : Step). IsStepOf rs s each) (sym last) other_is) for_it in
            let here : IsTrusted m t rs anchors set = subst (λ (r : ReceivedRrset). IsTrusted m t rs anchors r) same trusted in
            let has : HasKeys set (new set.owner) = (adds.signed (vouched_of_trusted set for_it here)).all in
            let all : HasKeys each (new each.owner) = subst (λ (r : ReceivedRrset). HasKeys r (new r.owner)) (sym same) has in
            all rdata rdata_among)
            (last_or_before other done);
        delegations_are = walked.delegations_are;
        delegations_all = λ other each done other_is each_type delegation. ⊎_elim
            (λ (before : Contains (take i steps) other). walked.delegations_all other each before other_is each_type delegation)
            (λ (last : step ≡ other).
            let same : each ≡ set = one_rrset rs step each set (subst (λ (s : Step). IsStepOf rs s each) (sym last) other_is) for_it in
            let both : each.rtype ≡ 48 = ap (λ (r : ReceivedRrset). r.rtype) same ∙ rtype in
            absurd (omega (arith, each_type, both)))
            (last_or_before other done);
      }

    -- in the end all is done
    pub all_walked : (n : ℕ) → length steps ≤ n → IsWalked m t rs anchors (take n steps) keys delegations → AreKeysByOwner m t rs anchors keys
    all_walked n past walked = record {
      are = walked.keys_are;
      all = λ set trusted rdata among.
          let found = steps_are.every set (trusted_among trusted) (inr (trusted_rtype trusted)) in
          let done : Contains (take n steps) found.0 = subst (λ (list : List Step). Contains list found.0) (sym (take_all n steps past)) found.1 in
          walked.keys_all found.0 set done found.2 trusted rdata among;
      same = keys_same;
    }
