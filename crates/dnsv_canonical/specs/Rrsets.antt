-- The RRsets of messages and their signatures (RFC 2181 5, RFC 4035 5.3.1).
use Rattle.std.specs.Prelude.{◌≡◌, ◌≤◌, ◌-◌, ℕ, zero, suc, ◌==◌, nat_le, Bool, not, ◌&&◌, List, [], ◌∷◌, ◌++◌, map, filter, take, nat_eq, Option, None, Some, slice_get}
use Rattle.std.specs.Int.{w16, to_be_bytes}
use Rattle.std.specs.List.{enumerate_from, list_any, starts_with}
use Rattle.std.specs.Str.{bytes_eq}
use Rattle.dnsv_names.specs.Name.{Labels, same_name}
use Rattle.dnsv_message.specs.declared.record.Record.{Record}
use Rattle.dnsv_message.specs.declared.record.Section.{Section}
use Rattle.dnsv_message.specs.declared.record.Section.TheVariants.{Answer, Authority, Additional}
use Rattle.dnsv_message.specs.Message.{Contents}

-- the element has the number, from 1 on, in the list
abbrev pub IsNumbered : {X : Type 0} → List X → ℕ → X → Type 0
IsNumbered xs number x = (1 ≤ number) × (slice_get xs (number - 1) ≡ Some x)

-- that element, if there is one
abbrev pub at_number : {X : Type 0} → List X → ℕ → Option X
at_number xs zero = None
at_number xs (suc place) = slice_get xs place

-- an RRset: the number of its message, from 1 on, its section, the owner as its first record spells it, its type,
-- the RDATA of its records as received, and the RDATA of its signatures
pub record ReceivedRrset : Type 0 where
  pub message : ℕ
  pub section : Section
  pub owner : Labels
  pub rtype : ℕ
  pub rdata : List (List ℕ)
  pub signatures : List (List ℕ)

-- the types below 128 that form no RRset: 0, MD, MF, MB, MG, MR, MINFO, RP, AFSDB, RT, SIG, PX, NXT, NAPTR, KX, A6,
-- OPT and RRSIG
abbrev pub ungrouped_types : List ℕ
ungrouped_types = 0 ∷ 3 ∷ 4 ∷ 7 ∷ 8 ∷ 9 ∷ 14 ∷ 17 ∷ 18 ∷ 21 ∷ 24 ∷ 26 ∷ 30 ∷ 35 ∷ 36 ∷ 38 ∷ 41 ∷ 46 ∷ []

-- whether records of the type form RRsets: those of 128 to 255, which stand for no data, don't either
abbrev pub forms_rrsets : ℕ → Bool
forms_rrsets rtype =
    not (list_any (λ other. other == rtype) ungrouped_types) && not (nat_le 128 rtype && nat_le rtype 255)

-- whether the record belongs to an RRset: it is of class IN, and of a type that forms them
abbrev pub is_grouped : Record → Bool
is_grouped r = (r.class.0 == 1) && forms_rrsets r.rtype.0

-- whether two records of one section that belong to RRsets belong to the same
abbrev pub same_rrset : Record → Record → Bool
same_rrset a b = (a.rtype.0 == b.rtype.0) && same_name a.name b.name

-- whether an element, behind its place from 0 on, is the same as none of those before that place
abbrev pub appears_first : {X : Type 0} → (X → X → Bool) → List X → ℕ × X → Bool
appears_first same xs placed = not (list_any (λ earlier. same earlier placed.1) (take placed.0 xs))

-- the elements that are the same as none before them, in order
abbrev pub first_appearances : {X : Type 0} → (X → X → Bool) → List X → List X
first_appearances same xs = map (λ placed. placed.1) (filter (appears_first same xs) (enumerate_from 0 xs))

-- whether the record is an IN RRSIG at the owner that covers the type, which its RDATA begins with
abbrev pub is_signature : Labels → ℕ → Record → Bool
is_signature owner rtype r =
    (r.rtype.0 == 46) && (r.class.0 == 1) && starts_with nat_eq r.rdata (to_be_bytes w16 rtype)
    && same_name r.name owner

-- the RDATA of the section's signatures over the RRset of the owner and type, in order, of equal ones the first
abbrev pub signatures_of : List Record → Labels → ℕ → List (List ℕ)
signatures_of records owner rtype =
    first_appearances bytes_eq (map (λ r. r.rdata) (filter (is_signature owner rtype) records))

-- the RRset in the section that the record belongs to, which is its first
abbrev pub rrset_of : ℕ → Section → List Record → Record → ReceivedRrset
rrset_of message section records first = record {
  message = message;
  section = section;
  owner = first.name;
  rtype = first.rtype.0;
  rdata = map (λ r. r.rdata) (filter (same_rrset first) (filter is_grouped records));
  signatures = signatures_of records first.name first.rtype.0;
}

-- the RRsets of a section, by first appearance
abbrev pub rrsets_in : ℕ → Section → List Record → List ReceivedRrset
rrsets_in message section records =
    map (rrset_of message section records) (first_appearances same_rrset (filter is_grouped records))

-- the RRsets of the message, which has the number, by section
abbrev pub message_rrsets : ℕ → Contents → List ReceivedRrset
message_rrsets number message =
    rrsets_in number Answer message.answer ++ rrsets_in number Authority message.authority
    ++ rrsets_in number Additional message.additional

-- the RRsets of messages of which the first has the number
abbrev pub rrsets_from : ℕ → List Contents → List ReceivedRrset
rrsets_from number [] = []
rrsets_from number (message ∷ messages) = message_rrsets number message ++ rrsets_from (suc number) messages

-- the RRsets of all messages: the k-th of them, from 1 on, is RRset k
abbrev pub rrsets_of : List Contents → List ReceivedRrset
rrsets_of messages = rrsets_from 1 messages
