use Rattle.dnsv_files.specs.Bounds.{begin_of, end_of}
use Rattle.dnsv_work.specs.Span.{moments_of}
use Rattle.dnsv_work.proofs.WorkLemmas.Listing.{unknown_asked}
use Rattle.dnsv_work.proofs.listing.still_to_check.Goals as goal

pub entries_text-requires : goal.entries_text-requires
entries_text-requires g c = λ entry found.
    let moments = moments_of c.args.span.now in
    let table = rw (c.range-range.ensures.from, c.range-range.ensures.to) at c.in_ok-table.ensures.table in
    rw c.rrsets.ensures.value (unknown_asked (g.V.Verifier.meaning c.args.verifier.now) (begin_of moments) (end_of moments) c.args.held.now.rrsets c.in_ok-table.table table
    c.in_ok-unknown.unknown c.in_ok-unknown.ensures.value entry found)
