-- How the program ends where its words ask for nothing.
use Rattle.std.proofs.Common.{◌≡◌, ◌≤◌, ◌⊎◌, ℕ, List, Option, Some, None, sym, ◌∙◌, inl, inr, arith}
use Rattle.std.specs.Prelude.{IfSome}
use Rattle.dnsv_commands.specs.declared.command_line.CommandLineError.{CommandLineError}
use Rattle.dnsv_commands.specs.declared.command_line.CommandLineError.TheVariants as line
use Rattle.dnsv_commands.specs.CommandLine.{IsRefused, command_line_code}
use Rattle.dnsv_program.specs.Program.{BeganText, IsEnd, RefusedWords, WroteText}

-- the exit status of the error, or 1 where help that was asked for wasn't written
abbrev pub EndsSo : CommandLineError → ℕ → Type 0
EndsSo error code = (code ≡ command_line_code error) ⊎ ((command_line_code error ≡ 0) × (code ≡ 1))

-- the output was left alone, but where help was written or its write failed
abbrev pub Leaves : CommandLineError → ℕ → Type 0 → Type 0 → Type 0
Leaves error code Same Failed = (code ≡ 0) ⊎ Same ⊎ ((command_line_code error ≡ 0) × (code ≡ 1) × Failed)

no_end_of_1 : (code : ℕ) → code ≡ 1 → IsEnd code → ⊥
no_end_of_1 code is_1 (inl is_0) = omega (arith, is_1, is_0)
no_end_of_1 code is_1 (inr between) = omega (arith, is_1, between.0)

no_end_of_2 : (code : ℕ) → code ≡ 2 → IsEnd code → ⊥
no_end_of_2 code is_2 (inl is_0) = omega (arith, is_2, is_0)
no_end_of_2 code is_2 (inr between) = omega (arith, is_2, between.0)

-- of the words that ask for nothing, those that ask for help end as a whole text does
end_of_words : (error : CommandLineError) (code : ℕ) → code ≡ command_line_code error → IsEnd code → code ≡ 0
end_of_words line.OutOfMemory code is ends = absurd (no_end_of_1 code is ends)
end_of_words (line.Help refusal) code is ends = is
end_of_words error code is ends = absurd (no_end_of_2 code is ends)

pub at_most_2 : (error : CommandLineError) → command_line_code error ≤ 2
at_most_2 line.NotText = omega arith
at_most_2 error = omega arith

pub at_most_7 : (error : CommandLineError) (code : ℕ) → EndsSo error code → code ≤ 7
at_most_7 error code (inl is) = omega (arith, is, at_most_2 error)
at_most_7 error code (inr (asked, is_1)) = omega (arith, is_1)

pub no_7_of_words : (error : CommandLineError) (code : ℕ) → EndsSo error code → code ≡ 7 → ⊥
no_7_of_words error code (inl is) is_7 = omega (arith, is, is_7, at_most_2 error)
no_7_of_words error code (inr (asked, is_1)) is_7 = omega (arith, is_1, is_7)

pub words_untouched : {Same Failed : Type 0} (error : CommandLineError) (code : ℕ) → Leaves error code Same Failed → code ≡ 2 → Same
words_untouched error code (inl is_0) is_2 = absurd (omega (arith, is_0, is_2))
words_untouched error code (inr (inl same)) is_2 = same
words_untouched error code (inr (inr (asked, is_1, failed))) is_2 = absurd (omega (arith, is_1, is_2))

module _ (given : Option (List (List ℕ))) (error : CommandLineError) (code : ℕ) where
  of_words : (octets_at : List ℕ → Option (List ℕ)) (old new : Option (List ℕ)) (Helped : Type 0) (told : Option (List (List ℕ))) → IfSome told (λ words. IsRefused words error)
      → code ≡ command_line_code error → Helped → IfSome told (λ words. WroteText words octets_at old new code ⊎ (RefusedWords words code × Helped))
  of_words octets_at old new Helped None refused is helped = tt
  of_words octets_at old new Helped (Some words) refused is helped = inr (record { error = error; refused = refused; code_told = sym is }, helped)

  pub words_done : (octets_at : List ℕ → Option (List ℕ)) (old new : Option (List ℕ)) (Helped : Type 0) → IfSome given (λ words. IsRefused words error) → EndsSo error code
      → (code ≡ 0 → Helped) → IsEnd code → IfSome given (λ words. WroteText words octets_at old new code ⊎ (RefusedWords words code × Helped))
  words_done octets_at old new Helped refused (inl is) helped ends = of_words octets_at old new Helped given refused is (helped (end_of_words error code is ends))
  words_done octets_at old new Helped refused (inr (asked, is_1)) helped ends = absurd (no_end_of_1 code is_1 ends)

  misused_in : (told : Option (List (List ℕ))) → IfSome told (λ words. IsRefused words error) → command_line_code error ≡ 2 → IfSome told (λ words. RefusedWords words 2)
  misused_in None refused is = tt
  misused_in (Some words) refused is = record { error = error; refused = refused; code_told = is }

  pub words_misused : IfSome given (λ words. IsRefused words error) → EndsSo error code → code ≡ 2 → IfSome given (λ words. RefusedWords words 2)
  words_misused refused (inl is) is_2 = misused_in given refused (sym is ∙ is_2)
  words_misused refused (inr (asked, is_1)) is_2 = absurd (omega (arith, is_1, is_2))

  helped : (octets_at : List ℕ → Option (List ℕ)) (old new : Option (List ℕ)) (told : Option (List (List ℕ))) → IfSome told (λ words. IsRefused words error)
      → command_line_code error ≡ 0 → IfSome told (λ words. BeganText words octets_at old new ⊎ RefusedWords words 0)
  helped octets_at old new None refused asked = tt
  helped octets_at old new (Some words) refused asked = inr (record { error = error; refused = refused; code_told = asked })

  pub words_failed : {Same Failed First : Type 0} (octets_at : List ℕ → Option (List ℕ)) (old new : Option (List ℕ)) → IfSome given (λ words. IsRefused words error)
      → Leaves error code Same Failed → code ≡ 1
      → Same ⊎ ((Failed × IfSome given (λ words. BeganText words octets_at old new ⊎ RefusedWords words 0)) ⊎ First)
  words_failed octets_at old new refused (inl is_0) is_1 = absurd (omega (arith, is_0, is_1))
  words_failed octets_at old new refused (inr (inl same)) is_1 = inl same
  words_failed octets_at old new refused (inr (inr (asked, is, failed))) is_1 = inr (inl (failed, helped octets_at old new given refused asked))

  pub words_refused : {Any : Type 0} → EndsSo error code → code ≡ 7 → Any
  words_refused ends is_7 = absurd (no_7_of_words error code ends is_7)

-- a beginning of the text is one of the two
pub began_so : (given : Option (List (List ℕ))) (octets_at : List ℕ → Option (List ℕ)) (old new : Option (List ℕ)) → IfSome given (λ words. BeganText words octets_at old new)
    → IfSome given (λ words. BeganText words octets_at old new ⊎ RefusedWords words 0)
began_so None octets_at old new holds = tt
began_so (Some words) octets_at old new holds = inl holds
