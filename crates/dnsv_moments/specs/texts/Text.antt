-- The text of a timeline: its intervals, with the signatures that end and begin between them.
use Rattle.std.specs.Prelude.{◌≡◌, ℕ, Bool, true, false, List, [], ◌∷◌, ◌++◌, codes, map}
use Rattle.std.specs.Fmt.{decimal}
use Rattle.std.specs.List.{flat_map}
use Rattle.dnsv_names.specs.Name.{Labels}
use Rattle.dnsv_canonical.specs.Rrsets.{ReceivedRrset}
use Rattle.dnsv_canonical.specs.declared.number.SignatureNumber.{SignatureNumber}
use Rattle.dnsv_lines.specs.Json.{array, member, name_json, object, parted, quoted}
use Rattle.dnsv_texts.specs.Checking.{signature_members}
use Rattle.dnsv_evidence_texts.specs.Question.{lower_text}
use Rattle.dnsv_evidence_texts.specs.Json.{object_line}
use Rattle.dnsv_questions.specs.declared.format.Format.{Format}
use Rattle.dnsv_questions.specs.declared.format.Format.TheVariants.{Json, Lines}
use Rattle.dnsv_timeline.specs.declared.stretch.Stretch.{Stretch}
use Rattle.dnsv_moments.specs.validity.Said.{Said}
use Rattle.dnsv_moments.specs.declared.validity.kind.Kind.{Kind}
use Rattle.dnsv_moments.specs.declared.validity.kind.Kind.TheVariants as kind
use Rattle.dnsv_verdict.specs.VerdictError.{verdict_error_code}
use Rattle.dnsv_moments.specs.Kinds.{kind_word}
use Rattle.dnsv_moments.specs.texts.Pieces.{ArePieces, Piece}
use Rattle.dnsv_moments.specs.texts.Shown.{border_json, border_line}

-- ---- lines

-- the word of the kind, and of a refusal its number
abbrev pub kind_text : Kind → List ℕ
kind_text (kind.Refused error) = codes "refused " ++ decimal (verdict_error_code error)
kind_text other = kind_word other

-- what carries it, where more than kinds is shown
abbrev pub carried : Bool → List ℕ → List ℕ
carried true text = []
carried false text = text

-- an interval: its first moment and its last, and what is said at each
abbrev pub interval_line : Bool → Piece → List ℕ
interval_line kinds piece =
    decimal piece.from ++ codes " " ++ decimal piece.to ++ codes " " ++ kind_text piece.first.told.kind
    ++ carried kinds piece.first.told.text ++ codes "\n"

-- the borders in front of an interval, and the interval
abbrev pub piece_lines : Bool → Piece → List ℕ
piece_lines kinds piece = flat_map border_line piece.borders ++ interval_line kinds piece

-- the question
abbrev pub question_line : Labels → ℕ → List ℕ
question_line name t = codes "timeline " ++ lower_text name ++ codes " " ++ decimal t ++ codes "\n"

-- ---- JSON

-- the exit status that goes with the kind
abbrev pub kind_status : Kind → ℕ
kind_status kind.SecureAnswer = 0
kind_status kind.SecureAlias = 0
kind_status kind.SecureNoName = 0
kind_status kind.SecureNoData = 0
kind_status kind.Insecure = 3
kind_status kind.Pending = 4
kind_status kind.Bogus = 5
kind_status kind.Indeterminate = 6
kind_status (kind.Refused error) = 7

-- the verdict's word, or the number of the refusal
abbrev pub kind_member : Kind → List ℕ
kind_member (kind.Refused error) = member (codes "refused") (decimal (verdict_error_code error))
kind_member other = member (codes "verdict") (quoted (kind_word other))

abbrev pub kind_members : Kind → List (List ℕ)
kind_members kind = kind_member kind ∷ member (codes "status") (decimal (kind_status kind)) ∷ []

abbrev pub by_json : SignatureNumber → List ℕ
by_json number = object (signature_members number.rrset number.signature)

-- the signatures that derive it
abbrev pub by_member : List SignatureNumber → List ℕ
by_member by = member (codes "by") (array (map by_json by))

-- what carries it and derives it, behind other members, where more than kinds is shown
abbrev pub carried_json : Bool → Said → List ℕ
carried_json true said = []
carried_json false said = said.told.text ++ parted false (by_member said.by ∷ [])

abbrev pub interval_json : Bool → Piece → List ℕ
interval_json kinds piece =
    codes "{" ++ parted true (member (codes "from") (decimal piece.from) ∷ member (codes "to") (decimal piece.to)
    ∷ kind_members piece.first.told.kind) ++ carried_json kinds piece.first ++ codes "}"

abbrev pub question_members : Labels → ℕ → ℕ → ℕ → List (List ℕ)
question_members name t from to =
    member (codes "command") (quoted (codes "timeline")) ∷ member (codes "name") (name_json name)
    ∷ member (codes "type") (decimal t) ∷ member (codes "from") (decimal from) ∷ member (codes "to") (decimal to) ∷ []

-- the borders of all intervals, in order
abbrev pub edges_json : List Piece → List ℕ
edges_json pieces = array (flat_map (λ piece. map border_json piece.borders) pieces)

-- ---- both

abbrev pub pieces_text : Format → Bool → Labels → ℕ → ℕ → ℕ → List Piece → List ℕ
pieces_text Lines kinds name t from to pieces = question_line name t ++ flat_map (piece_lines kinds) pieces
pieces_text Json kinds name t from to pieces = object_line (question_members name t from to
    ++ (member (codes "intervals") (array (map (interval_json kinds) pieces))
    ∷ member (codes "edges") (edges_json pieces) ∷ []))

-- this is the text of a timeline with these stretches, whose texts have that format
pub record IsTimelineText (format : Format) (kinds : Bool) (rrsets : List ReceivedRrset) (name : Labels) (t from to : ℕ)
    (stretches : List (Stretch Said)) (text : List ℕ) : Type 0 where
  pub pieces : List Piece
  pub are : ArePieces rrsets kinds stretches pieces
  pub is : text ≡ pieces_text format kinds name t from to pieces
