-- The files that a request names.
use Rattle.std.specs.Prelude.{ℕ, List, Option, Some, None, string_bytes}
use Rattle.std.specs.Option.{option_map}
use Rattle.dnsv_commands.specs.declared.request.Asking.TheVariants as asking
use Rattle.dnsv_commands.specs.declared.request.Listing.TheVariants as listing
use Rattle.dnsv_commands.specs.declared.request.Known.TheVariants as known
use Rattle.dnsv_commands.specs.declared.request.Request.{Request}
use Rattle.dnsv_commands.specs.declared.request.Request.TheVariants as request

-- the path of the file of captured messages
abbrev pub capture_of : Request → List ℕ
capture_of (request.Show capture) = string_bytes capture
capture_of (request.List capture moment statements lists format) = string_bytes capture
capture_of (request.ListRange capture from to statements form format) = string_bytes capture
capture_of (request.Timeline capture anchors from to asked rtype known kinds format) = string_bytes capture
capture_of (request.Check capture anchors moment asked known keys macs format why) = string_bytes capture

-- the path of the file of trust anchors, where one is read
abbrev pub anchors_of : Request → Option (List ℕ)
anchors_of (request.Show capture) = None
anchors_of (request.List capture moment statements lists format) = None
anchors_of (request.ListRange capture from to statements form format) = None
anchors_of (request.Timeline capture anchors from to asked rtype known kinds format) = Some (string_bytes anchors)
anchors_of (request.Check capture anchors moment asked known keys macs format why) = Some (string_bytes anchors)

-- the path of the file of statements, where one is read
abbrev pub statements_of : Request → Option (List ℕ)
statements_of (request.Show capture) = None
statements_of (request.List capture moment statements listing.All format) = None
statements_of (request.List capture moment statements (listing.Todo form) format) = option_map string_bytes statements
statements_of (request.ListRange capture from to statements form format) = option_map string_bytes statements
statements_of (request.Timeline capture anchors from to asked rtype (known.Statements statements) kinds format) =
    option_map string_bytes statements
statements_of (request.Timeline capture anchors from to asked rtype (known.Answers answers) kinds format) = None
statements_of (request.Check capture anchors moment asked (known.Statements statements) keys macs format why) =
    option_map string_bytes statements
statements_of (request.Check capture anchors moment asked (known.Answers answers) keys macs format why) = None

-- the path of the file of answers, where one is read
abbrev pub answers_of : Request → Option (List ℕ)
answers_of (request.Show capture) = None
answers_of (request.List capture moment statements lists format) = None
answers_of (request.ListRange capture from to statements form format) = None
answers_of (request.Timeline capture anchors from to asked rtype (known.Statements statements) kinds format) = None
answers_of (request.Timeline capture anchors from to asked rtype (known.Answers answers) kinds format) =
    Some (string_bytes answers)
answers_of (request.Check capture anchors moment asked (known.Statements statements) keys macs format why) = None
answers_of (request.Check capture anchors moment asked (known.Answers answers) keys macs format why) =
    Some (string_bytes answers)

-- the path of the file of keys, where one is read
abbrev pub keys_of : Request → Option (List ℕ)
keys_of (request.Show capture) = None
keys_of (request.List capture moment statements lists format) = None
keys_of (request.ListRange capture from to statements form format) = None
keys_of (request.Timeline capture anchors from to asked rtype known kinds format) = None
keys_of (request.Check capture anchors moment asked known keys macs format why) = option_map string_bytes keys

-- the path of the file of the MACs of requests, where one is read: never without keys
abbrev pub macs_of : Request → Option (List ℕ)
macs_of (request.Show capture) = None
macs_of (request.List capture moment statements lists format) = None
macs_of (request.ListRange capture from to statements form format) = None
macs_of (request.Timeline capture anchors from to asked rtype known kinds format) = None
macs_of (request.Check capture anchors moment asked known None macs format why) = None
macs_of (request.Check capture anchors moment asked known (Some keys) macs format why) = option_map string_bytes macs

-- the path of the file of questions, where one is read
abbrev pub questions_of : Request → Option (List ℕ)
questions_of (request.Show capture) = None
questions_of (request.List capture moment statements lists format) = None
questions_of (request.ListRange capture from to statements form format) = None
questions_of (request.Timeline capture anchors from to asked rtype known kinds format) = None
questions_of (request.Check capture anchors moment (asking.One name rtype) known keys macs format why) = None
questions_of (request.Check capture anchors moment (asking.Each questions) known keys macs format why) =
    Some (string_bytes questions)
