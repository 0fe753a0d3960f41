-- What is explained of the case of a question.
use Rattle.std.specs.Prelude.{List}
use Rattle.dnsv_verifier.specs.Table.{hopeful, table_answer}
use Rattle.dnsv_verifier.specs.declared.entry.Entry.{Entry}
use Rattle.dnsv_chain.specs.Basis.{CaseContents, Basis, basis_of}
pub use Rattle.dnsv_derivations.specs.Explained.{Explained}

-- what it is judged by
abbrev pub basis_in : Explained → Basis
basis_in explained =
    basis_of explained.rrsets explained.anchors explained.table.moment (table_answer explained.table)

-- what a question's case has of it
abbrev pub explained_by : CaseContents → List Entry → Explained
explained_by case todo = record {
  rrsets = case.rrsets;
  anchors = case.anchors;
  table = case.table;
  todo = todo;
}

-- the same with each Unknown of the table Valid, and the entries that were Unknown
abbrev pub hoped : Explained → List Entry → Explained
hoped explained unknown = record {
  rrsets = explained.rrsets;
  anchors = explained.anchors;
  table = hopeful explained.table;
  todo = unknown;
}
