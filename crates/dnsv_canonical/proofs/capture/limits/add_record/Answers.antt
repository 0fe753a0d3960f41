use Rattle.dnsv_canonical.specs.Evidence.{AreParameters}
use Rattle.std.proofs.Common.{◌≡◌, Bool, List, ◌∷◌, ◌++◌, [], length, true, false, refl, sym, ap, ◌∙◌, subst, append_assoc, arith, length-append, ◌↔◌, IsTrue, Some, None}
use Rattle.std.specs.Prelude.{Contains}
use Rattle.dnsv_records.specs.declared.nsec3.Nsec3Parameters.{Nsec3Parameters}
use Rattle.dnsv_canonical.proofs.ParameterLemmas.{AreParameters-known, AreParameters-had, AreParameters-new, no_pair_unusable, one_too_many, pair_of_usable}
use Rattle.dnsv_canonical.proofs.capture.limits.add_record.Goals as goal

not_among : (kept fresh lent : List Nsec3Parameters) (pair : Nsec3Parameters) (answer : Bool) → lent ≡ fresh → (IsTrue answer ↔ Contains (kept ++ lent) pair) → answer ≡ false → ¬ Contains (kept ++ fresh) pair
not_among kept fresh lent pair answer same decides none among =
    let turned : true ≡ false = sym (decides.1 (subst (λ xs. Contains (kept ++ xs) pair) (sym same) among)) ∙ none in cc

pub returns-then-not-is_usable-clause-all : goal.returns-then-not-is_usable-clause-all
returns-then-not-is_usable-clause-all c = λ earlier rdata is are.
    AreParameters-known earlier (c.args.kept.now ++ c.args.fresh.now.items) are rdata None
    (no_pair_unusable rdata c.args.nsec3.now (λ usable. let turned : true ≡ false = sym (c.is_usable.ensures.1 usable) ∙ c.if-not-is_usable.true in cc)
    (λ other. c.record_laws.ensures.one_nsec3 rdata c.args.nsec3.now other is))
    (λ pair some. cc)

pub returns-then-is_among-clause-all : goal.returns-then-is_among-clause-all
returns-then-is_among-clause-all c = λ earlier rdata is are.
    AreParameters-had earlier (c.args.kept.now ++ c.args.fresh.now.items) are rdata (Some c.args.nsec3.now.parameters)
    (pair_of_usable rdata c.args.nsec3.now is (c.is_usable.ensures.0 c.if-not-is_usable.false) (λ other. c.record_laws.ensures.one_nsec3 rdata c.args.nsec3.now other is))
    c.args.nsec3.now.parameters refl
    (subst (λ fresh. Contains (c.args.kept.now ++ fresh) c.args.nsec3.now.parameters) c.as_slice.ensures.value (c.is_among.ensures.0 c.if-is_among.true))

pub returns-then-saturating_add-ge-PARAMETERS_LIMIT-clause-refused : goal.returns-then-saturating_add-ge-PARAMETERS_LIMIT-clause-refused
returns-then-saturating_add-ge-PARAMETERS_LIMIT-clause-refused c = λ earlier rdata is are.
    one_too_many 8 (earlier ++ rdata ∷ []) (c.args.kept.now ++ c.args.fresh.now.items) c.args.nsec3.now.parameters
    (AreParameters-new earlier (c.args.kept.now ++ c.args.fresh.now.items) are rdata (Some c.args.nsec3.now.parameters)
    (pair_of_usable rdata c.args.nsec3.now is (c.is_usable.ensures.0 c.if-not-is_usable.false) (λ other. c.record_laws.ensures.one_nsec3 rdata c.args.nsec3.now other is))
    c.args.nsec3.now.parameters refl
    (not_among c.args.kept.now c.args.fresh.now.items c.as_slice.result.now c.args.nsec3.now.parameters c.is_among.result c.as_slice.ensures.value c.is_among.ensures c.if-is_among.false))
    (omega (arith, c.if-saturating_add-ge-PARAMETERS_LIMIT.true, c.saturating_add.ensures, c.len.ensures, length-append c.args.kept.now c.args.fresh.now.items))

pub returns-clause-all : goal.returns-clause-all
returns-clause-all c = λ earlier rdata is are.
    subst (λ pairs. AreParameters (earlier ++ rdata ∷ []) pairs)
    (append_assoc c.args.kept.now c.args.fresh.now.items (c.args.nsec3.now.parameters ∷ [])
    ∙ ap (λ salt. c.args.kept.now ++ (c.args.fresh.now.items ++ record { iterations = c.args.nsec3.now.parameters.iterations; salt = salt } ∷ [])) (sym c.copied.ensures)
    ∙ ap (λ fresh. c.args.kept.now ++ fresh) (sym c.in_ok-push.ensures.items))
    (AreParameters-new earlier (c.args.kept.now ++ c.args.fresh.now.items) are rdata (Some c.args.nsec3.now.parameters)
    (pair_of_usable rdata c.args.nsec3.now is (c.is_usable.ensures.0 c.if-not-is_usable.false) (λ other. c.record_laws.ensures.one_nsec3 rdata c.args.nsec3.now other is))
    c.args.nsec3.now.parameters refl
    (not_among c.args.kept.now c.args.fresh.now.items c.as_slice.result.now c.args.nsec3.now.parameters c.is_among.result c.as_slice.ensures.value c.is_among.ensures c.if-is_among.false))

pub returns-clause-few : goal.returns-clause-few
returns-clause-few c = λ few.
    omega (
      arith,
      ap (λ fresh. length (c.args.kept.now ++ fresh)) c.in_ok-push.ensures.items,
      length-append c.args.kept.now (c.args.fresh.now.items ++ record { iterations = c.args.nsec3.now.parameters.iterations; salt = c.copied.result } ∷ []),
      length-append c.args.fresh.now.items (record { iterations = c.args.nsec3.now.parameters.iterations; salt = c.copied.result } ∷ []),
      c.if-saturating_add-ge-PARAMETERS_LIMIT.false,
      c.saturating_add.ensures,
      c.len.ensures,
    )
