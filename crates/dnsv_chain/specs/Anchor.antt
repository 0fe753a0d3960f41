-- Trust anchors: the keys that a validator is told to begin with (RFC 4033 2, RFC 4035 5).
use Rattle.std.specs.Prelude.{◌≡◌, List, Contains}
use Rattle.dnsv_names.specs.Name.{SameName}
use Rattle.dnsv_verifier.specs.Admissible.{DnskeyRecord}
use Rattle.dnsv_chain.specs.Ds.{IsMatch}
use Rattle.dnsv_anchors.specs.declared.anchor.Anchor.{Anchor}
use Rattle.dnsv_anchors.specs.declared.anchor.Anchor.TheVariants.{Ds, Key}

-- An anchor matches a key of its owner: a DS record as one of the zone above does, a DNSKEY record by its whole RDATA.
abbrev pub IsAnchorMatch : Anchor → DnskeyRecord → Type 0
IsAnchorMatch (Ds owner ds) key = IsMatch owner ds key
IsAnchorMatch (Key owner rdata) key = SameName owner key.owner × (rdata ≡ key.rdata)

-- one of the anchors matches the key
pub record HasAnchorMatch (anchors : List Anchor) (key : DnskeyRecord) : Type 0 where
  pub anchor : Anchor
  pub among : Contains anchors anchor
  pub matching : IsAnchorMatch anchor key
