use Rattle.std.proofs.Common.{◌≡◌}
use Rattle.std.specs.List.{list_all}
use Rattle.rkt_http.specs.Headers.{fields_of}
use Rattle.rkt_message.specs.Sent.{is_sendable}
use Rattle.rkt_message.proofs.head.are_sendable.Given as goal

-- those so far can be sent
abbrev pub invariant-loop-name : goal.invariant-loop-name
invariant-loop-name l = list_all is_sendable l.name-iterator ≡ list_all is_sendable (fields_of l.headers)
