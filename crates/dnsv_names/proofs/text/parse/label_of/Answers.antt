use Rattle.std.proofs.Common.{◌≡◌, ◌<◌, ◌≤◌, length, Some, sym, ap, ◌∙◌, arith}
use Rattle.std.proofs.lemmas.Bool.Decides.{nat_tests}
use Rattle.std.specs.Option.{option_map}
use Rattle.dnsv_names.specs.Text.Reading.{octet_of}
use Rattle.dnsv_names.proofs.ParseLemmas.{IsLabel-so_far, octet_found, SpelledSoFar-next}
use Rattle.dnsv_names.proofs.text.parse.label_of.Goals as goal

pub returns-in-46-2-clause-label : goal.returns-in-46-2-clause-label
returns-in-46-2-clause-label c =
    let some : 0 < length c.loop-rest.label.items = grind (arith, nat_tests) in
    IsLabel-so_far c.loop-rest.invariant.0 some c.loop-rest.invariant.1

pub returns-then-is_full-clause-fault : goal.returns-then-is_full-clause-fault
returns-then-is_full-clause-fault c =
    let so_far = c.loop-rest.invariant.0 in
    let found : octet_of c.loop-rest.rest.now ≡ Some (c.in_ok-octet.octet, c.in_ok-octet.behind.now) =
    sym c.octet_of.ensures ∙ ap (option_map (λ found. (found.0, found.1.now))) c.in_ok-octet.ensures.ok_part in
    let next = octet_found c.loop-rest.rest.now c.in_ok-octet.octet c.in_ok-octet.behind.now found in
    let full : length c.loop-rest.label.items ≡ 63 = grind (arith, nat_tests) in
    record {
      front = so_far.front;
      rest = c.loop-rest.rest.now;
      begun = c.loop-rest.label.items;
      form = so_far.form;
      at_most_63 = c.loop-rest.invariant.1;
      octets = so_far.spells;
      there = λ whole. ((next.piece, c.in_ok-octet.behind.now, c.in_ok-octet.octet, next.form, next.spells), full);
    }

pub loop-rest-preserved : goal.loop-rest-preserved
loop-rest-preserved c =
    let found : octet_of c.loop-rest.rest.now ≡ Some (c.in_ok-octet.octet, c.in_ok-octet.behind.now) =
    sym c.octet_of.ensures ∙ ap (option_map (λ found. (found.0, found.1.now))) c.in_ok-octet.ensures.ok_part in
    let room : length c.push.new.self.items ≤ 63 = grind (arith, nat_tests) in
    (rw c.push.ensures.items (SpelledSoFar-next c.args.text.now c.loop-rest.label.items c.loop-rest.rest.now c.in_ok-octet.octet c.in_ok-octet.behind.now c.loop-rest.invariant.0 found), room)
