use Rattle.std.proofs.Common.{◌≡◌, ℕ, ap, subst, List, false}
use Rattle.std.proofs.lemmas.List.{length-map, map-append}
use Rattle.std.specs.Option.{option_copied}
use Rattle.dnsv_names.specs.Lines.{NumberedLine, is_passed_over}
use Rattle.dnsv_names.proofs.LineLemmas.FieldLemmas.{reads_none, reads_more, reads_few, reads_empty, reads_many, reads_all, some_octets, no_octets}
use Rattle.dnsv_names.proofs.lines.Line.fields.Goals as goal

pub loop-rest-init : goal.loop-rest-init
loop-rest-init g c =
    rw c.new-fields.ensures (reads_none c.args.self.now.octets c.self.inside.octets.now (ap (λ (line : NumberedLine). line.octets) c.self.view_is))

pub returns-in_err-rest-clause-none : goal.returns-in_err-rest-clause-none
returns-in_err-rest-clause-none g c =
    let P : List ℕ → Type 0 = λ line. is_passed_over line ≡ false in
    let kept = subst P (ap (λ (line : NumberedLine). line.octets) c.self.view_is) c.self.invariant in
    rw c.from_residual.ensures
    (reads_few (rw c.in_err-rest.was at c.loop-rest.invariant) kept g.row.N _ (length-map _ _) c.loop-rest-test.ensures.value)

pub returns-then-is_empty-clause-none : goal.returns-then-is_empty-clause-none
returns-then-is_empty-clause-none g c =
    let P : List ℕ → Type 0 = λ line. is_passed_over line ≡ false in
    let kept = subst P (ap (λ (line : NumberedLine). line.octets) c.self.view_is) c.self.invariant in
    λ fields are size.
    reads_empty (rw c.in_ok-rest.was at c.loop-rest.invariant) kept c.first_piece.result.0.now (option_copied c.first_piece.result.1) c.first_piece.ensures (no_octets _ c.if-is_empty.ensures) fields are

pub loop-rest-preserved : goal.loop-rest-preserved
loop-rest-preserved g c =
    rw (c.push.ensures.items, map-append)
    (reads_more (rw c.in_ok-rest.was at c.loop-rest.invariant) c.first_piece.result.0.now _ c.first_piece.ensures (some_octets _ c.if-is_empty.ensures))

pub returns-then-is_some-clause-none : goal.returns-then-is_some-clause-none
returns-then-is_some-clause-none g c =
    let P : List ℕ → Type 0 = λ line. is_passed_over line ≡ false in
    let kept = subst P (ap (λ (line : NumberedLine). line.octets) c.self.view_is) c.self.invariant in
    reads_many c.loop-rest.rest c.loop-rest.invariant c.if-is_some.ensures kept g.row.N _ (length-map _ _) c.loop-rest-test.ensures.value

pub returns-clause-found : goal.returns-clause-found
returns-clause-found g c = reads_all c.loop-rest.rest c.loop-rest.invariant c.if-is_some.ensures
