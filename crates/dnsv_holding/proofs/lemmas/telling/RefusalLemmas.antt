-- What is refused in the place of what is told.
use Rattle.std.proofs.Common.{ℕ, Ok, Err, inl, inr, refl}
use Rattle.dnsv_names.specs.Name.{Labels}
use Rattle.dnsv_chain.specs.Basis.{Basis}
use Rattle.dnsv_verdict.proofs.ReportLemmas.{no_error}
use Rattle.dnsv_verdict.specs.Report.{Refuses}
use Rattle.dnsv_verdict.specs.declared.error.VerdictError.TheVariants.{BadQuestion, OutOfMemory}

module _ {T U : Type 0} (basis : Basis) (name : Labels) (t : ℕ) (value : T) (refuses : Refuses {T = T} basis name t (Ok value)) where
  -- a question that isn't refused still isn't
  pub not_refused : (other : U) → Refuses {T = U} basis name t (Ok other)
  not_refused other = record {
    question = λ not_asked. absurd (no_error value BadQuestion (inl (refuses.question not_asked)));
    told = tt;
    refused = λ error is. absurd (no_error value error (refuses.refused error is));
  }

  -- memory may run out of it
  pub without_memory : Refuses {T = U} basis name t (Err OutOfMemory)
  without_memory = record {
    question = λ not_asked. absurd (no_error value BadQuestion (inl (refuses.question not_asked)));
    told = inl refl;
    refused = λ error is. inr refl;
  }
