-- The text of `list --compact`: what a verifier has to check, each octet once.
use Rattle.std.specs.Prelude.{ℕ, Bool, List, [], ◌∷◌, ◌++◌, codes, map}
use Rattle.std.specs.Fmt.{decimal}
use Rattle.std.specs.List.{flat_map}
use Rattle.dnsv_names.specs.Name.{wire}
use Rattle.dnsv_compact.specs.CompactList.{ListContents, ListedRrset, ListedSignature}
use Rattle.dnsv_compact.specs.declared.key.ListedKey.{ListedKey}
use Rattle.dnsv_compact.specs.declared.place.Place.{Place}
use Rattle.dnsv_answers.specs.declared.heading.Moments.{Moments}
use Rattle.dnsv_lines.specs.Json.{array, member, object, quoted}
use Rattle.dnsv_questions.specs.declared.format.Format.{Format}
use Rattle.dnsv_questions.specs.declared.format.Format.TheVariants.{Json, Lines}
use Rattle.dnsv_evidence_texts.specs.Hex.{hex_text}
use Rattle.dnsv_evidence_texts.specs.Json.{object_line, octets_json}
use Rattle.dnsv_evidence_texts.specs.Moments.{moments_members}
use Rattle.dnsv_evidence_texts.specs.Parts.{part}
use Rattle.dnsv_evidence_texts.specs.Showing.{texts_from}

-- ---- the lines

-- a key by its number: its algorithm and its octets
abbrev pub key_line : ℕ → ListedKey → List ℕ
key_line number key =
    codes "key " ++ decimal number ++ codes " " ++ decimal key.algorithm.0 ++ codes " " ++ hex_text key.key ++ codes "\n"

-- a signature of the RRset with the number: its number, its RDATA without the signature, and the signature
abbrev pub signature_line : ℕ → ListedSignature → List ℕ
signature_line rrset signature =
    codes "signature " ++ decimal rrset ++ codes " " ++ decimal signature.number ++ codes " " ++ hex_text signature.front
    ++ codes " " ++ hex_text signature.octets ++ codes "\n"

-- an RDATA behind others
abbrev pub rdata_text : List ℕ → List ℕ
rdata_text rdata = codes " " ++ hex_text rdata

-- an RRset: its number, its owner in wire form, its type and its RDATA
abbrev pub rrset_line : ListedRrset → List ℕ
rrset_line rrset =
    codes "rrset " ++ decimal rrset.number ++ codes " " ++ hex_text (wire rrset.owner) ++ codes " " ++ decimal rrset.rtype
    ++ flat_map rdata_text rrset.rdata ++ codes "\n"

-- and its signatures behind it
abbrev pub rrset_lines : ListedRrset → List ℕ
rrset_lines rrset = rrset_line rrset ++ flat_map (signature_line rrset.number) rrset.signatures

-- an entry by its number: those of its key, its RRset and its signature
abbrev pub place_line : ℕ → Place → List ℕ
place_line number place =
    codes "todo " ++ decimal number ++ codes " " ++ decimal place.key ++ codes " " ++ decimal place.rrset ++ codes " "
    ++ decimal place.signature ++ codes "\n"

-- the keys, the RRsets and the entries
abbrev pub compact_lines : ListContents → List ℕ
compact_lines list =
    texts_from key_line 1 list.keys ++ flat_map rrset_lines list.rrsets ++ texts_from place_line 1 list.todo

-- ---- the object

abbrev pub key_json : ListedKey → List ℕ
key_json key = object (member (codes "algorithm") (decimal key.algorithm.0) ∷ member (codes "key") (octets_json key.key) ∷ [])

abbrev pub signature_json : ListedSignature → List ℕ
signature_json signature = object (member (codes "signature") (decimal signature.number)
    ∷ member (codes "front") (octets_json signature.front) ∷ member (codes "octets") (octets_json signature.octets) ∷ [])

abbrev pub rrset_json : ListedRrset → List ℕ
rrset_json rrset = object (member (codes "rrset") (decimal rrset.number)
    ∷ member (codes "owner") (octets_json (wire rrset.owner)) ∷ member (codes "type") (decimal rrset.rtype)
    ∷ member (codes "rdata") (array (map octets_json rrset.rdata))
    ∷ member (codes "signatures") (array (map signature_json rrset.signatures)) ∷ [])

abbrev pub place_json : Place → List ℕ
place_json place = object (member (codes "key") (decimal place.key) ∷ member (codes "rrset") (decimal place.rrset)
    ∷ member (codes "signature") (decimal place.signature) ∷ [])

-- ---- parts of either

abbrev pub signatures_part : ℕ → Format → Bool → List ListedSignature → List ℕ
signatures_part rrset format first listed = part (signature_line rrset) signature_json format first listed

abbrev pub rrsets_part : Format → Bool → List ListedRrset → List ℕ
rrsets_part format first listed = part rrset_lines rrset_json format first listed

-- ---- the text

-- lines, or JSON with the moment or the range
abbrev pub compact_text : Format → Moments → ListContents → List ℕ
compact_text Lines moments list = compact_lines list
compact_text Json moments list = object_line (member (codes "command") (quoted (codes "list"))
    ∷ moments_members moments ++ member (codes "keys") (array (map key_json list.keys))
    ∷ member (codes "rrsets") (array (map rrset_json list.rrsets)) ∷ member (codes "todo") (array (map place_json list.todo)) ∷ [])
