-- Options whose value is a number within limits.
use Rattle.std.proofs.Common.{subst, ◌≡◌}
use Rattle.std.specs.Prelude.{ℤ, Option, Some, pos}
use Rattle.clap.specs.Words.{NarrowsTo, Rule}
use Rattle.clap.specs.declared.builder.ValueParser.{ValueParser}
use Rattle.clap.specs.declared.builder.ValueParser.TheVariants as parser

-- a rule with this reader of its value
abbrev pub read_by : Option ValueParser → Rule → Rule
read_by p r = record r { parser = p }

-- a reader of any number, narrowed to those up to the greatest one
pub narrowed_to : (greatest first last : ℤ) (r : ValueParser) → NarrowsTo (parser.Unsigned 0 18446744073709551615) (Some first) (Some last) r
    → first ≡ pos 0 → last ≡ greatest → NarrowsTo (parser.Unsigned 0 18446744073709551615) (Some (pos 0)) (Some greatest) r
narrowed_to greatest first last r narrows is_first is_last =
    subst (λ (z : ℤ). NarrowsTo (parser.Unsigned 0 18446744073709551615) (Some (pos 0)) (Some z) r) is_last
    (subst (λ (z : ℤ). NarrowsTo (parser.Unsigned 0 18446744073709551615) (Some z) (Some last) r) is_first narrows)
