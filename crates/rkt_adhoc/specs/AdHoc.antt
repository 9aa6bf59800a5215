-- What fairings of one kind tell.
use Rattle.std.specs.Prelude.{true, false}
use Rattle.rkt_fairing.specs.declared.kind.Kind.{Kind}

-- each kind alone
abbrev pub request_kind : Kind
request_kind = record { ignite = false; liftoff = false; request = true; response = false; shutdown = false; singleton = false }

abbrev pub response_kind : Kind
response_kind =
    record { ignite = false; liftoff = false; request = false; response = true; shutdown = false; singleton = false }

abbrev pub ignite_kind : Kind
ignite_kind = record { ignite = true; liftoff = false; request = false; response = false; shutdown = false; singleton = false }

abbrev pub liftoff_kind : Kind
liftoff_kind = record { ignite = false; liftoff = true; request = false; response = false; shutdown = false; singleton = false }

abbrev pub shutdown_kind : Kind
shutdown_kind =
    record { ignite = false; liftoff = false; request = false; response = false; shutdown = true; singleton = false }
