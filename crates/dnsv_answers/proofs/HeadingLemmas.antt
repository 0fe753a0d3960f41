-- The heading of a file of answers, as its fields are read.
use Rattle.std.proofs.Common.{◌≡◌, ◌<◌, ◌≤◌, ◌^◌, ℕ, List, [], ◌∷◌, Ok, Option, Some, None, codes, length, sym, ap, subst, ◌∙◌, arith}
use Rattle.std.proofs.lemmas.Fmt.{decimal_injective}
use Rattle.std.specs.Fmt.{decimal}
use Rattle.std.specs.Option.{MatchOption}
use Rattle.hex.specs.Hex.{decode_of}
use Rattle.dnsv_names.specs.Lines.LineLaws.{AreFields-only}
use Rattle.dnsv_names.specs.Lines.{AreFields}
use Rattle.dnsv_answers.specs.Heading.{AreMoments, IsHeading, SaysDigest, SaysHeading, SaysMoment}
use Rattle.dnsv_answers.specs.declared.heading.Heading.{Heading}
use Rattle.dnsv_answers.specs.declared.heading.Moments.{Moments}
use Rattle.dnsv_answers.specs.declared.heading.Moments.TheVariants.{At, Between}

-- ---- what is no heading

pub no_digest : (word digest : List ℕ) (behind : List (List ℕ)) → ((octets : List ℕ) → word ≡ codes "of" → SaysDigest digest octets → ⊥)
    → (heading : Heading) → SaysHeading (word ∷ digest ∷ behind) heading → ⊥
no_digest word digest behind none heading says =
    let are = says.are in
    let word_is : word ≡ codes "of" = cc in
    let digest_is : says.digest ≡ digest = cc in
    none heading.digest word_is (subst (λ (d : List ℕ). SaysDigest d heading.digest) digest_is says.is_digest)

moment_of_one : (text : List ℕ) (fields : List (List ℕ)) (moments : Moments) → fields ≡ text ∷ [] → ((moment : ℕ) → SaysMoment text moment → ⊥)
    → AreMoments fields moments → ⊥
moment_of_one text fields (At moment) is none (digits, same, says) =
    let digits_is : digits ≡ text = cc in none moment (subst (λ (d : List ℕ). SaysMoment d moment) digits_is says)
moment_of_one text fields (Between first last) is none (from, to, same, says, more) =
    let size : length (from ∷ to ∷ []) ≡ length (text ∷ []) = ap (λ (xs : List (List ℕ)). length xs) (sym same ∙ is) in omega arith

behind_of : (word digest : List ℕ) (behind : List (List ℕ)) (heading : Heading) (says : SaysHeading (word ∷ digest ∷ behind) heading) → says.behind ≡ behind
behind_of word digest behind heading says = let are = says.are in cc

pub no_moment : (word digest text : List ℕ) → ((moment : ℕ) → SaysMoment text moment → ⊥)
    → (heading : Heading) → SaysHeading (word ∷ digest ∷ text ∷ []) heading → ⊥
no_moment word digest text none heading says =
    moment_of_one text says.behind heading.moments (behind_of word digest (text ∷ []) heading says) none says.moments

first_of_two : (first last : List ℕ) (fields : List (List ℕ)) (moments : Moments) → fields ≡ first ∷ last ∷ []
    → ((moment : ℕ) → SaysMoment first moment → ⊥) → AreMoments fields moments → ⊥
first_of_two first last fields (At moment) is none (digits, same, says) =
    let size : length (digits ∷ []) ≡ length (first ∷ last ∷ []) = ap (λ (xs : List (List ℕ)). length xs) (sym same ∙ is) in omega arith
first_of_two first last fields (Between a b) is none (from, to, same, says, more) =
    let from_is : from ≡ first = cc in none a (subst (λ (d : List ℕ). SaysMoment d a) from_is says)

pub no_first : (word digest first last : List ℕ) → ((moment : ℕ) → SaysMoment first moment → ⊥)
    → (heading : Heading) → SaysHeading (word ∷ digest ∷ first ∷ last ∷ []) heading → ⊥
no_first word digest first last none heading says =
    first_of_two first last says.behind heading.moments (behind_of word digest (first ∷ last ∷ []) heading says) none says.moments

-- ---- how many fields

-- a line whose fields are none is none
pub no_heading : (line : List ℕ) (fields : List (List ℕ)) → AreFields line fields → ((heading : Heading) → SaysHeading fields heading → ⊥)
    → (heading : Heading) → IsHeading line heading → ⊥
no_heading line fields are none heading (others, also, says) =
    none heading (subst (λ (each : List (List ℕ)). SaysHeading each heading) (AreFields-only line others fields also are) says)

-- ---- a line is one heading

same_moment : (digits others : List ℕ) (a b : ℕ) → digits ≡ others → SaysMoment digits a → SaysMoment others b → a ≡ b
same_moment digits others a b same p q =
    decimal_injective a b (omega (arith, p.fits)) (omega (arith, q.fits)) (sym p.is ∙ same ∙ q.is)

same_moments : (fields : List (List ℕ)) (a b : Moments) → AreMoments fields a → AreMoments fields b → a ≡ b
same_moments fields (At a) (At b) (d, p, x) (e, q, y) =
    let same : d ≡ e = cc in ap (λ (m : ℕ). At m) (same_moment d e a b same x y)
same_moments fields (At a) (Between b c) (d, p, x) (e, f, q, y, z) =
    let size : length (d ∷ []) ≡ length (e ∷ f ∷ []) = ap (λ (xs : List (List ℕ)). length xs) (sym p ∙ q) in absurd (omega arith)
same_moments fields (Between b c) (At a) (e, f, q, y, z) (d, p, x) =
    let size : length (d ∷ []) ≡ length (e ∷ f ∷ []) = ap (λ (xs : List (List ℕ)). length xs) (sym p ∙ q) in absurd (omega arith)
same_moments fields (Between a b) (Between c d) (e, f, p, x, y) (g, h, q, z, w) =
    let first : e ≡ g = cc in
    let last : f ≡ h = cc in
    ap (λ (m : ℕ). Between m b) (same_moment e g a c first x z) ∙ ap (λ (m : ℕ). Between c m) (same_moment f h b d last y w)

same_digest : (digits others a b : List ℕ) → digits ≡ others → SaysDigest digits a → SaysDigest others b → a ≡ b
same_digest digits others a b same p q =
    let first : decode_of digits ≡ Ok a = p.decoded in
    let second : decode_of others ≡ Ok b = q.decoded in
    let both : decode_of digits ≡ decode_of others = ap (λ (d : List ℕ). decode_of d) same in
    cc

same_said : (fields : List (List ℕ)) (a b : Heading) → SaysHeading fields a → SaysHeading fields b → a ≡ b
same_said fields a b p q =
    let first = p.are in
    let second = q.are in
    let digests : p.digest ≡ q.digest = cc in
    let behind : p.behind ≡ q.behind = cc in
    let one = same_digest p.digest q.digest a.digest b.digest digests p.is_digest q.is_digest in
    let two = same_moments p.behind a.moments b.moments p.moments (subst (λ (each : List (List ℕ)). AreMoments each b.moments) (sym behind) q.moments) in
    λ i. record { digest = one i; moments = two i }

pub one_heading : (line : List ℕ) (a b : Heading) → IsHeading line a → IsHeading line b → a ≡ b
one_heading line a b (fields, are, p) (others, also, q) =
    same_said fields a b p (subst (λ (each : List (List ℕ)). SaysHeading each b) (AreFields-only line others fields also are) q)

-- ---- what was found

-- what the fields of a line say, the line says
pub heading_told : (line : List ℕ) (fields : List (List ℕ)) (found : Option Heading) → AreFields line fields
    → MatchOption found ((heading : Heading) → SaysHeading fields heading → ⊥) (SaysHeading fields)
    → MatchOption found ((heading : Heading) → IsHeading line heading → ⊥) (IsHeading line)
heading_told line fields None are says = no_heading line fields are says
heading_told line fields (Some heading) are says = (fields, are, says)

-- a number past the last moment is none
pub past_last : (text : List ℕ) (number : ℕ) → text ≡ decimal number → number < 2 ^ 64 → 281474976710656 ≤ number → (moment : ℕ) → SaysMoment text moment → ⊥
past_last text number is small past moment says =
    let same : number ≡ moment = decimal_injective number moment small (omega (arith, says.fits)) (sym is ∙ says.is) in
    omega (arith, past, same, says.fits)
