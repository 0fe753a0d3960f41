use Rattle.std.proofs.Common.{Option, Some, None, length, refl, subst, sym, ◌∙◌}
use Rattle.std.proofs.lemmas.Bool.{false≢true}
use Rattle.dnsv_verifier.proofs.EntryLemmas.{one_entry}
use Rattle.dnsv_verifier.specs.Admissible.{DnskeyRecord}
use Rattle.dnsv_verifier.specs.Table.{TableContents, table_answer}
use Rattle.dnsv_derivations.specs.derivations.SignerSearch.{IsLowestValid}
use Rattle.dnsv_derivations.specs.Explained.{setting_in}
use Rattle.dnsv_derivations.proofs.lemmas.derivations.SignerLemmas.{lowest_new, lowest_or_none, none_new, not_trusted}
use Rattle.dnsv_derivations.proofs.lemmas.derivations.ValidLemmas.{lowest_of_new, none_of_new, valid_good}
use Rattle.dnsv_derivations.proofs.derivations.signers.lowest_in.Goals as goal

pub returns-then-not-branch : goal.returns-then-not-branch
returns-then-not-branch c = λ key is.
    absurd (not_trusted (setting_in c.args.evidence.now) c.args.number c.args.rrset.now c.args.rrsig.now c.requires.rrset c.requires.rrsig
    c.args.k c.args.set.now c.requires.set
    (λ trusted. false≢true (sym c.if-not-branch.true ∙ c.in_ok-is_trusted.ensures.1 trusted)) key is)

pub returns-in_default : goal.returns-in_default
returns-in_default c =
    lowest_or_none (setting_in c.args.evidence.now) c.args.number c.args.rrset.now c.args.rrsig.now c.requires.rrset c.requires.rrsig
    c.args.k c.args.set.now c.requires.set c.in_ok-lowest_good_key.field-0 c.in_ok-lowest_good_key.ensures
    (c.in_ok-is_trusted.ensures.0 c.if-not-branch.false)

pub returns-in_default-lowest_valid : goal.returns-in_default-lowest_valid
returns-in_default-lowest_valid c =
    let setting = setting_in c.args.evidence.now in
    let keys = c.in-Some.keys.now in
    let Lowest : TableContents → Option DnskeyRecord → Type 0 =
    λ table found. IsLowestValid (table_answer table) c.args.rrsig.now c.args.octets.now c.args.set.now keys (length keys) found in
    let None_valid : TableContents → Type 0 = λ table. Lowest table None in
    none_new setting c.args.number c.args.rrset.now c.args.rrsig.now c.requires.rrset c.requires.rrsig c.args.k c.args.set.now c.requires.set
    (none_of_new setting c.args.rrset.now c.args.rrsig.now c.args.octets.now c.requires.octets
    (one_entry c.args.rrset.now c.args.rrsig.now) c.args.k c.args.set.now keys
    (c.in-Some.ensures c.args.set.now c.requires.set (c.in_ok-is_trusted.ensures.0 c.if-not-branch.false))
    (subst None_valid c.table.ensures (subst (Lowest c.table.result.now) c.in_default-lowest_valid.is c.lowest_valid.ensures)))

pub returns : goal.returns
returns c =
    let setting = setting_in c.args.evidence.now in
    let keys = c.in-Some.keys.now in
    let key = c.in-Some-lowest_valid.key in
    let trusted = c.in_ok-is_trusted.ensures.0 c.if-not-branch.false in
    let Lowest : TableContents → Option DnskeyRecord → Type 0 =
    λ table found. IsLowestValid (table_answer table) c.args.rrsig.now c.args.octets.now c.args.set.now keys (length keys) found in
    let Some_valid : TableContents → Type 0 = λ table. Lowest table (Some key) in
    let lowest : Some_valid c.args.evidence.now.table =
    subst Some_valid c.table.ensures (subst (Lowest c.table.result.now) c.in-Some-lowest_valid.is c.lowest_valid.ensures) in
    let good = valid_good setting c.args.rrset.now c.args.rrsig.now c.args.octets.now c.requires.octets
    (one_entry c.args.rrset.now c.args.rrsig.now) key lowest.1 in
    lowest_new setting c.args.number c.args.rrset.now c.args.rrsig.now c.requires.rrset c.requires.rrsig c.args.k c.args.set.now c.requires.set
    _ key trusted lowest.0 good (record { set = refl; rdata = c.rdata.ensures; named = c.key_name.ensures }) (c.in_ok-todo.ensures good)
    (lowest_of_new setting c.args.rrset.now c.args.rrsig.now c.args.octets.now c.requires.octets
    (one_entry c.args.rrset.now c.args.rrsig.now) c.args.k c.args.set.now keys
    (c.in-Some.ensures c.args.set.now c.requires.set trusted) key lowest)
