use Rattle.dnsv_verifier.proofs.admissible.is_verifiable_within.Goals as goal

pub returns-then-is_valid_within : goal.returns-then-is_valid_within
returns-then-is_valid_within c =
    let valid = c.is_valid_within.ensures.0 c.if-is_valid_within.true in (
      λ fit. record {
        moment = valid.moment;
        begins = valid.begins;
        ends = valid.ends;
        verifiable = (c.is_fit.ensures valid.moment valid.valid).0 fit;
      },
      λ within. (c.is_fit.ensures within.moment within.verifiable.timely).1 within.verifiable,
    )
