use Rattle.std.proofs.Common.{◌≡◌, ◌+◌, ◌++◌, ◌∷◌, [], ℕ, suc, List, append_assoc, append-nil, arith, length, map, refl, sym, ap, ◌∙◌, subst}
use Rattle.std.proofs.lemmas.List.{map-append}
use Rattle.dnsv_lines.specs.declared.line.Line.{Line}
use Rattle.dnsv_lines.specs.declared.line.Line.TheVariants as line
use Rattle.dnsv_lines.specs.declared.line.place.RrsetPlace.{RrsetPlace}
use Rattle.dnsv_explain.proofs.explanation.end.add_places.Goals as goal

parts_more : (read left rest all : List RrsetPlace) (place : RrsetPlace) → left ≡ place ∷ rest → read ++ left ≡ all
    → (read ++ place ∷ []) ++ rest ≡ all
parts_more read left rest all place next parts =
    append_assoc read (place ∷ []) rest ∙ ap (λ list. read ++ list) (sym next) ∙ parts

size_more : (left rest : List RrsetPlace) (place : RrsetPlace) (size less : ℕ) → left ≡ place ∷ rest → less + 1 ≡ size
    → size ≡ length left → less ≡ length rest
size_more left rest place size less next one is =
    let longer : length left ≡ suc (length rest) = ap length next in omega (arith, one, is, longer)

none_left : (left : List RrsetPlace) (size : ℕ) → size ≡ 0 → size ≡ length left → left ≡ []
none_left [] size none is = refl
none_left (x ∷ left) size none is = absurd (omega (arith, none, is))

added_more : (old mid new : List Line) (read : List RrsetPlace) (place : RrsetPlace) → new ≡ mid ++ line.Rrset place ∷ []
    → mid ≡ old ++ map (λ each. line.Rrset each) read → new ≡ old ++ map (λ each. line.Rrset each) (read ++ place ∷ [])
added_more old mid new read place pushed is =
    pushed ∙ ap (λ front. front ++ line.Rrset place ∷ []) is
    ∙ append_assoc old (map (λ each. line.Rrset each) read) (line.Rrset place ∷ [])
    ∙ ap (λ rest. old ++ rest) (sym (map-append (λ each. line.Rrset each) read (place ∷ [])))

pub loop-place-init : goal.loop-place-init
loop-place-init c = record {
  parts = c.into_iter-place-iterator.ensures.into_iter_gives.0;
  size = c.into_iter-place-iterator.ensures.into_iter_gives.1 ∙ c.args.places.ok.0
      ∙ ap length (sym c.into_iter-place-iterator.ensures.into_iter_gives.0);
  added = sym (append-nil c.args.lines.now.items);
}

pub loop-place-preserved : goal.loop-place-preserved
loop-place-preserved c = record {
  parts = parts_more c.loop-place.yielded c.loop-place.place-iterator.rest.items c.next.new.self.rest.items c.args.places.items
      c.in-Some.place c.in-Some.ensures.steps.0 c.loop-place.invariant.parts;
  size = size_more c.loop-place.place-iterator.rest.items c.next.new.self.rest.items c.in-Some.place
      c.loop-place.place-iterator.rest.len c.next.new.self.rest.len c.in-Some.ensures.steps.0 c.in-Some.ensures.steps.1
      c.loop-place.invariant.size;
  added = added_more c.args.lines.now.items _ _ c.loop-place.yielded c.in-Some.place c.in_ok-push.ensures.items
      c.loop-place.invariant.added;
}

pub returns : goal.returns
returns c =
    let All : List RrsetPlace → Type 0 = λ all. c.loop-place.lines.items ≡ c.args.lines.now.items ++ map (λ place. line.Rrset place) all in
    subst All
    (sym (append-nil c.loop-place.yielded)
    ∙ ap (λ list. c.loop-place.yielded ++ list)
    (sym (none_left c.loop-place.place-iterator.rest.items c.loop-place.place-iterator.rest.len c.in-None.ensures.steps.0
    c.loop-place.invariant.size))
    ∙ c.loop-place.invariant.parts)
    c.loop-place.invariant.added
