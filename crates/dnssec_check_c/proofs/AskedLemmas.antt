-- A request that judges what is asked is the one that a call asks.
use Rattle.std.proofs.Common.{◌≡◌, ◌<◌, ◌^◌, ℕ, List, subst, sym, string_bytes}
use Rattle.std.specs.Prelude.{⊤, IsUtf8}
use Rattle.dnsv_questions.specs.declared.format.Format.{Format}
use Rattle.dnsv_commands.specs.declared.request.Asking.{Asking}
use Rattle.dnsv_commands.specs.declared.request.Asking.TheVariants as asking
use Rattle.dnsv_commands.specs.declared.request.Known.{Known}
use Rattle.dnsv_commands.specs.declared.request.Request.{Request}
use Rattle.dnsv_commands.specs.declared.request.Request.TheVariants as request
use Rattle.dnssec_check_c.specs.Asked.{AsksEach, AsksOne, IsKnown, IsManner, Judges}
use Rattle.dnssec_check_c.specs.declared.options.Options.{Options}

abbrev pub IsOne : List ℕ → ℕ → Asking → Type 0
IsOne name rtype (asking.One said number) = (string_bytes said ≡ name) × (number.0 ≡ rtype)
IsOne name rtype (asking.Each questions) = ⊥

abbrev pub AreMany : Asking → Type 0
AreMany (asking.One said number) = ⊥
AreMany (asking.Each questions) = ⊤

in_manner : (options : Options) (moment at : ℕ) (form written : Format) → at ≡ moment → written ≡ form → IsManner options moment form
    → IsManner options at written
in_manner options moment at form written same_moment same_form manner =
    subst (λ (each : Format). IsManner options at each) (sym same_form) (subst (λ (each : ℕ). IsManner options each form) (sym same_moment) manner)

-- one question
pub one_asked : (options : Options) (name : List ℕ) (rtype : ℕ) (asks : Asking) (held : Known) (moment : ℕ) (form : Format) (asked : Request)
    → Judges asks held moment form options.why asked → IsOne name rtype asks → IsUtf8 name → rtype < 2 ^ 16 → IsKnown held options.verified → IsManner options moment form
    → AsksOne options name rtype asked
one_asked options name rtype asks held moment form (request.Check capture anchors at (asking.Each questions) knows keys macs written why) judges is utf8 low known manner =
    absurd (subst (λ (each : Asking). IsOne name rtype each) (sym judges.0) is)
one_asked options name rtype asks held moment form (request.Check capture anchors at (asking.One text kind) knows keys macs written why) judges is utf8 low known manner =
    let one : IsOne name rtype (asking.One text kind) = subst (λ (each : Asking). IsOne name rtype each) (sym judges.0) is in
    (utf8, one.0, low, one.1, subst (λ (each : Known). IsKnown each options.verified) (sym judges.1) known, in_manner options moment at form written judges.2 judges.3 manner, judges.4)
one_asked options name rtype asks held moment form asked judges is utf8 low known manner = absurd judges

-- the questions of a text
pub each_asked : (options : Options) (asks : Asking) (held : Known) (moment : ℕ) (form : Format) (asked : Request)
    → Judges asks held moment form options.why asked → AreMany asks → IsKnown held options.verified → IsManner options moment form → AsksEach options asked
each_asked options asks held moment form (request.Check capture anchors at (asking.One text kind) knows keys macs written why) judges are known manner =
    absurd (subst AreMany (sym judges.0) are)
each_asked options asks held moment form (request.Check capture anchors at (asking.Each questions) knows keys macs written why) judges are known manner =
    (subst (λ (each : Known). IsKnown each options.verified) (sym judges.1) known, in_manner options moment at form written judges.2 judges.3 manner, judges.4)
each_asked options asks held moment form asked judges are known manner = absurd judges
