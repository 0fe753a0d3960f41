-- The message that a TSIG record signs, and its MAC (RFC 8945 4.3, 5.2).
use Rattle.std.specs.Prelude.{ℕ, ◌-◌, List, [], ◌∷◌, ◌++◌, length, Option, Some, None, drop}
use Rattle.std.specs.Int.{w16, w64, to_be_bytes}
use Rattle.dnsv_names.specs.Name.{Labels, wire, lower_case}
use Rattle.dnsv_names.specs.Octets.{number_at}
use Rattle.dnsv_message.specs.Grammar.{part_of}
use Rattle.dnsv_digest.specs.Hmac.{hmac_sha256_of}
use Rattle.dnsv_tsig.specs.Tsig.{TsigFields}

-- the message without its last record, which begins at the place: one record less is counted in the additional
-- section, and the identifier is the original one (RFC 8945 4.3.2)
abbrev pub stripped : List ℕ → ℕ → ℕ → List ℕ
stripped octets place original_id =
    to_be_bytes w16 original_id ++ part_of octets 2 8 ++ to_be_bytes w16 (number_at octets 10 2 - 1)
    ++ part_of octets 12 (place - 12)

-- the MAC of the request behind its length, where there was a request (RFC 8945 4.3.1)
abbrev pub request_part : Option (List ℕ) → List ℕ
request_part None = []
request_part (Some mac) = to_be_bytes w16 (length mac) ++ mac

-- a number in 48 bits
abbrev pub six_octets : ℕ → List ℕ
six_octets number = drop 2 (to_be_bytes w64 number)

-- What is signed of the record itself (RFC 8945 4.3.3): the key's name, class ANY, TTL 0, the algorithm's name, and all
-- fields but the MAC and the original ID. Names are in lower case and uncompressed.
abbrev pub tsig_variables : Labels → TsigFields → List ℕ
tsig_variables owner tsig =
    wire (lower_case owner) ++ to_be_bytes w16 255 ++ 0 ∷ 0 ∷ 0 ∷ 0 ∷ [] ++ wire (lower_case tsig.algorithm)
    ++ six_octets tsig.time_signed ++ to_be_bytes w16 tsig.fudge ++ to_be_bytes w16 tsig.error
    ++ to_be_bytes w16 (length tsig.other) ++ tsig.other

-- the right MAC of octets whose TSIG record begins at the place
abbrev pub tsig_mac_of : List ℕ → Option (List ℕ) → List ℕ → ℕ → Labels → TsigFields → List ℕ
tsig_mac_of secret request octets place owner tsig =
    hmac_sha256_of secret (request_part request ++ stripped octets place tsig.original_id ++ tsig_variables owner tsig)
