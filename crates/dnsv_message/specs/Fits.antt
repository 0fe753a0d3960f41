-- What is true of every message: its names are names, its numbers fit their fields, and its RDATA is as its type asks.
use Rattle.std.specs.Prelude.{◌<◌, ◌≤◌, ◌^◌, length}
use Rattle.std.specs.List.{AllByRecursion}
use Rattle.dnsv_names.specs.Name.{IsName}
use Rattle.dnsv_names.specs.Octets.{AreOctets}
use Rattle.dnsv_message.specs.declared.record.Question.{Question}
use Rattle.dnsv_message.specs.declared.record.Record.{Record}
use Rattle.dnsv_message.specs.Message.{Contents, records_of}
use Rattle.dnsv_message.specs.Parts.{HasParts}

-- a question (RFC 1035 4.1.2)
pub record FitsQuestion (question : Question) : Type 0 where
  pub name : IsName question.name
  pub rtype : question.rtype.0 < 2 ^ 16
  pub class : question.class.0 < 2 ^ 16

-- a record (RFC 1035 4.1.3), whose RDATA has at most 65,535 octets with its names written out too
pub record FitsRecord (resource : Record) : Type 0 where
  pub name : IsName resource.name
  pub rtype : resource.rtype.0 < 2 ^ 16
  pub class : resource.class.0 < 2 ^ 16
  pub ttl : resource.ttl.0 < 2 ^ 32
  pub size : length resource.rdata ≤ 65535
  pub octets : AreOctets resource.rdata
  pub parts : HasParts resource.rtype.0 resource.class.0 resource.rdata

-- a message (RFC 1035 4.1)
pub record FitsMessage (message : Contents) : Type 0 where
  pub id : message.id < 2 ^ 16
  pub flags : message.flags < 2 ^ 16
  pub question_count : length message.questions < 2 ^ 16
  pub answer_count : length message.answer < 2 ^ 16
  pub authority_count : length message.authority < 2 ^ 16
  pub additional_count : length message.additional < 2 ^ 16
  pub questions : AllByRecursion FitsQuestion message.questions
  pub records : AllByRecursion FitsRecord (records_of message)
