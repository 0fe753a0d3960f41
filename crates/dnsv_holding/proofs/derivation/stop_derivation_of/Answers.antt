use Rattle.std.proofs.Common.{[]}
use Rattle.dnsv_verdict.specs.Traced.{hashes_on_way}
use Rattle.dnsv_verdict.specs.declared.verdict.Verdict.TheVariants.{SecureAlias}
use Rattle.dnsv_derivations.specs.Explained.{Explained}
use Rattle.dnsv_holding.proofs.lemmas.telling.DerivedLemmas.{alias_told}
use Rattle.dnsv_holding.proofs.lemmas.telling.SecureLemmas.{alias_secure, settled_by}
use Rattle.dnsv_holding.proofs.lemmas.telling.TellLemmas.{last_hashed}
use Rattle.dnsv_holding.proofs.derivation.stop_derivation_of.Goals as goal

pub add_links-requires-clause-way : goal.add_links-requires-clause-way
add_links-requires-clause-way c =
    let stopped = c.args.stopped.now in
    rw (c.as_slice-links.ensures.value, c.deref.ensures.value) (record {
      t = c.requires.stopped.1;
      name = c.requires.stopped.0;
      last = stopped.alias.name;
      leads = c.requires.stopped.2.way.leads;
      each_name = c.requires.kept;
    })

pub add_link-requires-clause-hashes : goal.add_link-requires-clause-hashes
add_link-requires-clause-hashes c =
    let stopped = c.args.stopped.now in
    last_hashed c.args.case.now.rrsets stopped.links c.as_slice-links.result.now stopped.alias.name (hashes_on_way stopped)
    c.hashes_at-hashes.result.now c.as_slice-links.ensures.value c.requires.kept c.hashes_at-hashes.ensures

pub add_link-requires-clause-secure : goal.add_link-requires-clause-secure
add_link-requires-clause-secure c =
    let alias = c.args.stopped.now.alias in
    let explained : Explained = c.args.evidence.now in
    alias_secure explained alias.name c.requires.stopped.1 alias.rrset alias.signature
    (settled_by c.args.case.now explained [] c.requires.evidence alias.name c.requires.stopped.1 (SecureAlias alias.rrset alias.signature)
    tt c.requires.stopped.2.is_alias)

pub returns : goal.returns
returns c =
    let stopped = c.args.stopped.now in
    alias_told c.args.evidence.now c.args.case.now c.requires.evidence stopped.links stopped.alias c.new-lines.result.items _ _
    c.new-lines.ensures.items (rw c.as_slice-links.ensures.value at c.in_ok-add_links.ensures) c.in_ok-add_link.ensures
