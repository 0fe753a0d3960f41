-- Signatures of which worked examples speak.
use Rattle.dnsv_timeline.specs.declared.times.Times.{Times}

-- from six seconds before 2^32 to five behind it
abbrev pub round_the_clock : Times
round_the_clock = record { inception = record { 0 = 4294967290 }; expiration = record { 0 = 5 } }

abbrev pub one_second : Times
one_second = record { inception = record { 0 = 1500 }; expiration = record { 0 = 1500 } }

-- the expiration is four seconds before the inception, so 2^32 - 4 behind it
abbrev pub ends_before_it_begins : Times
ends_before_it_begins = record { inception = record { 0 = 0 }; expiration = record { 0 = 4294967292 } }
