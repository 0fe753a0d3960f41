use Rattle.std.proofs.Common.{◌≡◌, ◌++◌, ◌∷◌, [], codes, map, rules, string_bytes, true}
use Rattle.std.specs.Fmt.{decimal}
use Rattle.std.specs.List.{flat_map}
use Rattle.dnsv_lines.specs.Json.{member, name_json, parted, quoted}
use Rattle.dnsv_moments.specs.texts.Shown.{border_json}
use Rattle.dnsv_moments.specs.texts.Text.{interval_json, question_members}
use Rattle.dnsv_moments.proofs.lemmas.texts.TextLemmas.{timeline_written}
use Rattle.dnsv_moments.proofs.texts.json.timeline_json.Goals as goal

pub returns : goal.returns
returns c =
    let question = c.args.question.now in
    let pieces = c.args.pieces.now in
    let s1 : string_bytes c.push_question.new.text
    ≡ codes "{" ++ parted true (question_members question.name.now question.rtype.0 question.range.from question.range.to) = search rules in
    timeline_written (string_bytes c.push_question.new.text) (string_bytes c.push_str.new.self) (string_bytes c.push_intervals.new.text)
    (string_bytes c.push_str-2.new.self) (string_bytes c.push_edges.new.text) (string_bytes c.push_str-3.new.self)
    (member (codes "command") (quoted (codes "timeline")))
    (member (codes "name") (name_json question.name.now) ∷ member (codes "type") (decimal question.rtype.0)
    ∷ member (codes "from") (decimal question.range.from) ∷ member (codes "to") (decimal question.range.to) ∷ [])
    (map (interval_json c.args.kinds) pieces) (flat_map (λ piece. map border_json piece.borders) pieces)
    s1 c.in_ok-push_str.ensures.bytes c.in_ok-push_intervals.ensures c.in_ok-push_str-2.ensures.bytes c.in_ok-push_edges.ensures
    c.in_ok-push_str-3.ensures.bytes
