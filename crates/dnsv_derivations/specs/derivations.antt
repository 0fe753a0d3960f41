-- What derives a DNSKEY RRset or a signature, and how that is looked for.
pub mod Climb
pub mod Derivations
pub mod HeldTo
pub mod KeptWays
pub mod NewKeys
pub mod OwnDerivations
pub mod OwnSearch
pub mod SignerSearch
pub mod WaySearch
pub mod Ways
