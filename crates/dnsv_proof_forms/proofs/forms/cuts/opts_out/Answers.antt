use Rattle.std.proofs.Common.{ℕ, ◌+◌, refl, inl, inr, ⊎_elim}
use Rattle.dnsv_names.specs.Name.{rightmost}
use Rattle.dnsv_names.specs.Tree.{wildcard_of}
use Rattle.dnsv_zones.specs.forms.RecordWords.{words}
use Rattle.dnsv_proof_forms.specs.words.ChainSaid.{chain_said}
use Rattle.dnsv_proof_forms.proofs.forms.cuts.opts_out.Goals as goal

pub returns-then-is_opted_out : goal.returns-then-is_opted_out
returns-then-is_opted_out c =
    let next = (c.is_opted_out.ensures c.args.apex.now).0 c.if-is_opted_out.true in (
      λ yes. record {
        above = c.is_above.ensures.above.0 c.if-not-is_above.false;
        encloser = c.has_encloser.ensures.0 c.if-not-has_encloser.false;
        next_closer = inr next;
        opted_out = inl next;
      },
      λ out. refl,
    )

pub returns-then-not-is_absent : goal.returns-then-not-is_absent
returns-then-not-is_absent c =
    let said = chain_said c.args.apex.now c.args.records.now in (
      λ yes. let bad : ⊥ = cc in absurd bad,
      λ out. absurd (⊎_elim
          (λ (absent : (words said).Absent (rightmost c.args.name.now (c.args.labels + 1))).
          let holds = (c.is_absent.ensures c.args.apex.now).1 absent in let fails = c.if-not-is_absent.true in cc)
          (λ (next : (place : ℕ) × said.OptedOut (rightmost c.args.name.now (c.args.labels + 1)) place).
          let holds = (c.is_opted_out.ensures c.args.apex.now).1 next in let fails = c.if-is_opted_out.false in cc) out.next_closer),
    )

pub returns : goal.returns
returns c =
    let said = chain_said c.args.apex.now c.args.records.now in (
      λ yes. record {
        above = c.is_above.ensures.above.0 c.if-not-is_above.false;
        encloser = c.has_encloser.ensures.0 c.if-not-has_encloser.false;
        next_closer = inl ((c.is_absent.ensures c.args.apex.now).0 c.if-not-is_absent.false);
        opted_out = inr ((c.is_opted_out-2.ensures c.args.apex.now).0 yes);
      },
      λ out. ⊎_elim
          (λ (next : (place : ℕ) × said.OptedOut (rightmost c.args.name.now (c.args.labels + 1)) place).
          let bad : ⊥ = let holds = (c.is_opted_out.ensures c.args.apex.now).1 next in let fails = c.if-is_opted_out.false in cc in absurd bad)
          (λ (star : (place : ℕ) × said.OptedOut (wildcard_of (rightmost c.args.name.now c.args.labels)) place).
          (c.is_opted_out-2.ensures c.args.apex.now).1 star) out.opted_out,
    )
