use Rattle.std.proofs.Common.{◌≡◌, ◌∙◌, ℕ, List, [], ◌∷◌, sym, subst}
use Rattle.std.proofs.lemmas.Bool.{false≢true}
use Rattle.std.proofs.lemmas.Option.{MatchOption-at_none}
use Rattle.dnsv_names.specs.Lines.LineLaws.{AreFields-only}
use Rattle.dnsv_names.specs.Text.{IsTextOf}
use Rattle.dnsv_tsig.proofs.key_ring.key_text.Goals as goal

pub returns-in_default : goal.returns-in_default
returns-in_default c = λ key is. MatchOption-at_none _ _ c.in_default.is c.two_fields.ensures is.text is.coded is.fields

pub returns-in_default-parse : goal.returns-in_default-parse
returns-in_default-parse c = λ key is.
    let same = AreFields-only c.args.line.now.octets (is.text ∷ is.coded ∷ []) (c.in-Some.text.now ∷ c.in-Some.coded.now ∷ []) is.fields c.in-Some.ensures in
    let text : is.text ≡ c.in-Some.text.now = cc in
    let Spells : List ℕ → Type 0 = λ octets. IsTextOf octets key.name in
    c.in_default-parse.not-Ok key.name (c.parse.ensures.every key.name is.is_name (subst Spells text is.name))

pub returns-then-not-is_base64 : goal.returns-then-not-is_base64
returns-then-not-is_base64 c = λ key is.
    let same = AreFields-only c.args.line.now.octets (is.text ∷ is.coded ∷ []) (c.in-Some.text.now ∷ c.in-Some.coded.now ∷ []) is.fields c.in-Some.ensures in
    let coded : c.in-Some.coded.now ≡ is.coded = cc in
    false≢true (sym c.if-not-is_base64.true ∙ c.is_base64.ensures.1 (record { octets = key.secret; are = is.octets; coded = coded ∙ is.secret }))

pub returns : goal.returns
returns c =
    record {
      text = c.in-Some.text.now;
      fields = c.in-Some.ensures;
      is_name = c.in-Ok.ensures.name.0;
      spells = c.in-Ok.ensures.name.1;
      is = c.is_base64.ensures.0 c.if-not-is_base64.false;
    }
