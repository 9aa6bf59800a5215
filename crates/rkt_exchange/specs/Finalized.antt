-- What is found as the fairings of a response are lent it.
use Rattle.std.specs.Prelude.{ℕ, List}
use Rattle.rkt_dispatch.specs.Finalizing.{pending_cookies, settled, with_cookies, with_server}
use Rattle.rkt_routing.specs.Found.{Found}
use Rattle.rkt_exchange.specs.Answers.{Outgoing}

-- what was found as the fairings of a response are lent it: with the cookies that are pending at a moment, which are pending no
-- more, and the server's name
abbrev pub finalized : {V C S : Type 0} → List ℕ → ℕ → Found V C S → Outgoing V C S
finalized ident moment found = record {
  request = found.request;
  at = record {
    response = with_server ident (with_cookies found.response (pending_cookies found.kept moment));
    kept = settled found.kept;
  };
}
