-- The number that an option gives.
use Rattle.std.proofs.Common.{◌≡◌, ◌≤◌, ◌∙◌, ℕ, List, Option, Some, None, ap, inl, inr, refl, sym}
use Rattle.std.specs.Prelude.{IfSome, Result, is_some, option_and_then}
use Rattle.std.specs.Str.Parse.{ParsesUnsigned}
use Rattle.clap.specs.Words.{ReadsOne, Row, Text, first_of, one_of}
use Rattle.dnsv_commands.specs.CommandLine.{MayHaveNumber, number_said}
use Rattle.dnsv_commands.proofs.CommandLineLemmas.Words.{number_reads}

-- a number that is read of an option is the one that its value says
abbrev pub IsGiven : ℕ → Option Text → Option ℕ → Type 0
IsGiven last text number = (option_and_then (number_said last) text ≡ number) × IfSome number (λ n. n ≤ last)
    × (is_some number ≡ is_some text)

pub number_given : (last : ℕ) (E : Type 0) (G : List ℕ → Result ℕ E → Type 0) (option : Text) (rows : List Row) (number : Option ℕ)
    → MayHaveNumber option last rows → (one_of option rows ≡ None → number ≡ None)
    → ((text : Text) → one_of option rows ≡ Some text → ReadsOne G text number)
    → ((u : List ℕ) (x : Result ℕ E) → G u x → ParsesUnsigned 64 10 u x) → IsGiven last (first_of option rows) number
number_given last E G option rows number (inl absent) none value only =
    let is = none absent.1 in
    (rw (absent.0, is) refl, rw is tt, rw (absent.0, is) refl)
number_given last E G option rows number (inr text) none value only =
    let got = number_reads last E G text.0 number (value text.0 text.2) only text.3 in
    (ap (option_and_then (number_said last)) text.1 ∙ got.3 ∙ sym got.1, rw got.1 got.2, ap is_some got.1 ∙ sym (ap is_some text.1))
