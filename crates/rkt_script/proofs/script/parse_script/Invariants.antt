use Rattle.std.proofs.Common.{◌≤◌, ◌+◌, ℕ, List, [], length}
use Rattle.std.specs.Option.{option_map}
use Rattle.rkt_script.specs.declared.script.ScriptRequest.{ScriptRequest}
use Rattle.rkt_script.specs.declared.script.TheConstants.{SCRIPT_LIMIT}
use Rattle.rkt_script.specs.Script.{lines_of, AreGood, IsFirstBad, Offers}
use Rattle.rkt_script.proofs.Offered.{OffersSo}
use Rattle.rkt_script.proofs.script.parse_script.Given as goal

-- what holds of the rest decides what holds of the whole
abbrev pub invariant-loop-rest : goal.invariant-loop-rest
invariant-loop-rest l =
    (AreGood l.room l.requests.items (lines_of l.rest) → AreGood SCRIPT_LIMIT [] (lines_of l.script))
    × ((number : ℕ) → IsFirstBad l.number l.room l.requests.items (lines_of l.rest) number → IsFirstBad 1 SCRIPT_LIMIT [] (lines_of l.script) number)
    × ((offered : List ScriptRequest) → OffersSo (option_map (λ v. v.items) l.offered) l.room l.requests.items (lines_of l.rest) offered → Offers l.script offered)
    × (l.number + length l.rest ≤ length l.script + 1)

abbrev pub decreases-loop-rest : goal.decreases-loop-rest
decreases-loop-rest l = length l.rest
