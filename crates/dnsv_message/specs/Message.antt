-- What a message holds (RFC 1035 4.1).
use Rattle.std.specs.Prelude.{ℕ, List, ◌++◌}
use Rattle.dnsv_message.specs.declared.record.Question.{Question}
use Rattle.dnsv_message.specs.declared.record.Record.{Record}
use Rattle.dnsv_message.specs.declared.record.Section.{Section}
use Rattle.dnsv_message.specs.declared.record.Section.TheVariants.{Answer, Authority, Additional}

-- the header's identifier and flags, the questions, and the three sections of records
pub record Contents : Type 0 where
  pub id : ℕ
  pub flags : ℕ
  pub questions : List Question
  pub answer : List Record
  pub authority : List Record
  pub additional : List Record

-- the message with these parts
abbrev pub contents_of : ℕ → ℕ → List Question → List Record → List Record → List Record → Contents
contents_of id flags questions answer authority additional = record {
  id = id;
  flags = flags;
  questions = questions;
  answer = answer;
  authority = authority;
  additional = additional;
}

-- the records of one section
abbrev pub section_of : Contents → Section → List Record
section_of message Answer = message.answer
section_of message Authority = message.authority
section_of message Additional = message.additional

-- the records of all three sections, in order: the k-th of them, from 1 on, is the message's record k
abbrev pub records_of : Contents → List Record
records_of message = message.answer ++ message.authority ++ message.additional
