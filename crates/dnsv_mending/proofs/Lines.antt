-- Lines that are there, or not yet.
use Rattle.std.proofs.Common.{◌≡◌, ◌++◌, true, false, List, [], ◌∷◌, refl, sym}
use Rattle.std.proofs.lemmas.Bool.{false≢true}
use Rattle.dnsv_mending.specs.Faults.{or_else}
use Rattle.dnsv_mending.specs.Mend.{is_none}
use Rattle.dnsv_mending.specs.declared.told.Told.{Told}

pub none_before : (lines others : List Told) → is_none lines ≡ true → or_else lines others ≡ lines ++ others
none_before [] others h = refl
none_before (line ∷ lines) others h = absurd (false≢true h)

pub some_before : (lines others : List Told) → is_none lines ≡ false → or_else lines others ≡ lines
some_before [] others h = absurd (false≢true (sym h))
some_before (line ∷ lines) others h = refl
