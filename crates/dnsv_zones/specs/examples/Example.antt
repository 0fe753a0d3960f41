-- A small zone and two records of its chain: `e.` has its apex with SOA and NS, `a.e.` with A, and the delegation
-- `s.e.`, and no `b.e.`. It shows that the premises of the laws can be met.
use Rattle.std.specs.Prelude.{ℕ, ◌==◌, ◌||◌, Bool, List, [], ◌∷◌}
use Rattle.dnsv_names.specs.Name.{Labels}
use Rattle.dnsv_zones.specs.zones.Zone.{Zone}
use Rattle.dnsv_zones.specs.chains.NsecChain.{NsecRecord}

abbrev pub e_name : Labels
e_name = (101 ∷ []) ∷ []

abbrev pub a_name : Labels
a_name = (97 ∷ []) ∷ e_name

abbrev pub b_name : Labels
b_name = (98 ∷ []) ∷ e_name

abbrev pub s_name : Labels
s_name = (115 ∷ []) ∷ e_name

abbrev pub apex_types : ℕ → Bool
apex_types t = (t == 2) || (t == 6)

abbrev pub address_types : ℕ → Bool
address_types t = t == 1

abbrev pub cut_types : ℕ → Bool
cut_types t = t == 2

abbrev pub zone : Zone
zone = record {
  apex = e_name;
  entries = record { owner = e_name; types = apex_types }
      ∷ record { owner = a_name; types = address_types }
      ∷ record { owner = s_name; types = cut_types } ∷ [];
}

-- the records of the apex and of `a.e.`
abbrev pub records : List NsecRecord
records = record { owner = e_name; next = a_name; types = apex_types }
    ∷ record { owner = a_name; next = s_name; types = address_types } ∷ []
