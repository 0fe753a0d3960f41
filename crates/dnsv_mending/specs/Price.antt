-- What it costs to mend some faults: how many there are of each class, and which price is the lower one.
use Rattle.std.specs.Prelude.{Bool}
use Rattle.std.specs.Ordering.{is_lt, nat_cmp, ordering_then}
use Rattle.std.specs.declared.cmp.Ordering.{Ordering}
use Rattle.dnsv_names.specs.Count.{counted}
use Rattle.dnsv_mending.specs.declared.price.Class.{Class}
use Rattle.dnsv_mending.specs.declared.price.Class.TheVariants as class
use Rattle.dnsv_mending.specs.declared.price.Price.{Price}

-- no faults
abbrev pub none : Price
none = record { missing = 0; stripped = 0; not_signing = 0; unfit = 0; lacking = 0; time = 0; not_fitting = 0; bad = 0; unanswered = 0 }

-- one fault of a class
abbrev pub one : Class → Price
one class.Missing = record none { missing = 1 }
one class.Stripped = record none { stripped = 1 }
one class.NotSigning = record none { not_signing = 1 }
one class.Unfit = record none { unfit = 1 }
one class.Lacking = record none { lacking = 1 }
one class.Time = record none { time = 1 }
one class.NotFitting = record none { not_fitting = 1 }
one class.Bad = record none { bad = 1 }
one class.Unanswered = record none { unanswered = 1 }

-- the faults of both
abbrev pub add : Price → Price → Price
add p q = record {
  missing = counted p.missing q.missing;
  stripped = counted p.stripped q.stripped;
  not_signing = counted p.not_signing q.not_signing;
  unfit = counted p.unfit q.unfit;
  lacking = counted p.lacking q.lacking;
  time = counted p.time q.time;
  not_fitting = counted p.not_fitting q.not_fitting;
  bad = counted p.bad q.bad;
  unanswered = counted p.unanswered q.unanswered;
}

-- by the first class in which they differ: so one fault of a class is dearer than any number of those behind it
abbrev pub price_cmp : Price → Price → Ordering
price_cmp p q = ordering_then (nat_cmp p.missing q.missing) (ordering_then (nat_cmp p.stripped q.stripped)
    (ordering_then (nat_cmp p.not_signing q.not_signing) (ordering_then (nat_cmp p.unfit q.unfit)
    (ordering_then (nat_cmp p.lacking q.lacking) (ordering_then (nat_cmp p.time q.time)
    (ordering_then (nat_cmp p.not_fitting q.not_fitting) (ordering_then (nat_cmp p.bad q.bad) (nat_cmp p.unanswered q.unanswered))))))))

-- the lower price
abbrev pub is_cheaper : Price → Price → Bool
is_cheaper p q = is_lt (price_cmp p q)
