-- Entries that rise, so that one is looked up by halves. No public clause cites this module.
use Rattle.std.specs.Prelude.{◌≡◌, ◌<◌, ℕ, List, get_or, length}
use Rattle.std.specs.declared.cmp.Ordering.TheVariants.{Less}
use Rattle.dnsv_verifier.specs.Entry.{entry_cmp}
use Rattle.dnsv_verifier.specs.declared.entry.Entry.{Entry}

-- of the first n each is less than those behind it
pub record AreRisingTo (entries : List Entry) (n : ℕ) : Type 0 where
  pub less : (i j : ℕ) (d : Entry) → i < j → j < n → j < length entries → entry_cmp (get_or entries i d) (get_or entries j d) ≡ Less

-- of all
abbrev pub AreRising : List Entry → Type 0
AreRising entries = AreRisingTo entries (length entries)
