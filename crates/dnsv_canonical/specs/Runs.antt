-- Runs of records that stand together, while a section is read. No public clause cites this module.
use Rattle.std.specs.Prelude.{◌≡◌, ℕ, ◌<◌, ◌^◌, ◌==◌, ◌&&◌, false, true, List, map, filter}
use Rattle.std.specs.List.{AllByRecursion}
use Rattle.dnsv_names.specs.Name.{Labels, same_name}
use Rattle.dnsv_message.specs.declared.record.Record.{Record}
use Rattle.dnsv_canonical.specs.Rrsets.{is_grouped, is_signature, same_rrset}

-- the type of the record has 16 bits
abbrev pub Fits : Record → Type 0
Fits q = q.rtype.0 < 2 ^ 16

-- the record is a signature over the RRset of the owner and type, and over no other
abbrev pub SignsJust : Labels → ℕ → Record → Type 0
SignsJust owner rtype r =
    (other : Labels) (t : ℕ) → t < 2 ^ 16 → is_signature other t r ≡ ((t == rtype) && same_name owner other)

-- the record neither belongs to q's RRset nor covers it
pub record IsSilent (q r : Record) : Type 0 where
  pub other : (is_grouped r && same_rrset r q) ≡ false
  pub unsigned : is_signature q.name q.rtype.0 r ≡ false

-- the records speak of x's RRset alone: they are its records and signatures, with this RDATA
pub record IsRun (x : Record) (run : List Record) (rdata signatures : List (List ℕ)) : Type 0 where
  pub belong : rdata ≡ map (λ r. r.rdata) (filter (same_rrset x) (filter is_grouped run))
  pub sign : signatures ≡ map (λ r. r.rdata) (filter (is_signature x.name x.rtype.0) run)
  pub alike : AllByRecursion (λ r. same_rrset x r ≡ true) (filter is_grouped run)
  pub silent : (q : Record) → Fits q → same_rrset x q ≡ false → AllByRecursion (IsSilent q) run
