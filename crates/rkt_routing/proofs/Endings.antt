-- How an exchange begins, waits and ends.
use Rattle.std.specs.Prelude.{◌≡◌, List, [], ◌∷◌}
use Rattle.std.proofs.Common.{refl, subst}
use Rattle.rkt_message.specs.Response.{ResponseOf}
use Rattle.rkt_request.specs.Lent.{Lent}
use Rattle.rkt_request.specs.Seen.{Seen}
use Rattle.rkt_source.specs.declared.source.Gate.{Gate}
use Rattle.rkt_routing.specs.Beginning.{Beginning}
use Rattle.rkt_routing.specs.Relations.{Relations}
use Rattle.rkt_routing.specs.Invariant.{Answered, InvariantAt, WaitsAt}
use Rattle.rkt_routing.specs.declared.stage.Live.{Live}
use Rattle.rkt_routing.specs.declared.stage.Stage.TheVariants as stage
use Rattle.rkt_routing.specs.Table.{SeenTable}
use Rattle.std.proofs.lemmas.List.{append-nil}
use Rattle.rkt_request.specs.declared.bad.Bad.{Bad}
use Rattle.rkt_routing.specs.Routed.{Finds, Routes}
use Rattle.rkt_routing.specs.Invariant.{EndsSo, Moves, begins}
use Rattle.rkt_routing.specs.declared.stage.Moved.{Moved}
use Rattle.rkt_routing.specs.declared.stage.Moved.TheVariants as moved
use Rattle.rkt_routing.specs.declared.stage.RoutedOf.TheVariants as routed
use Rattle.rkt_routing.specs.declared.stage.Stage.{Stage}
use Rattle.rkt_routing.specs.BetweenLaws.{backs_none}

module _ {V B C S H HTask K KTask N : Type 0} (rel : Relations V B C S H HTask K KTask) (table : SeenTable H K N) where
  -- routing stands where it begins
  pub stands_first : (request : Seen V) (faults : List Bad) (body : B) (ctx : Lent C)
      → InvariantAt rel (record { at = record { request = request; body = body; kept = ctx.kept }; faults = faults }) table (record { request = request; ctx = ctx; calls = [] }) (begins faults body)
  stands_first request [] body ctx = record { leads = λ rest found done. done; backs = backs_none ctx.kept.shutdown }
  stands_first request (fault ∷ faults) body ctx = record { leads = λ rest found done. done; backs = backs_none ctx.kept.shutdown }

module _ {V B C S H HTask K KTask N : Type 0} (rel : Relations V B C S H HTask K KTask) (first : Beginning V B C) (table : SeenTable H K N) where
  -- one that waits stands
  pub waits_stand : (live : Live (Seen V) (Lent C)) (stage : Stage B HTask KTask) → WaitsAt rel first table live stage → InvariantAt rel first table live stage
  waits_stand live (stage.Next behind body status again) waits = absurd waits
  waits_stand live (stage.Trying call) waits = waits.0
  waits_stand live (stage.Catch status) waits = absurd waits
  waits_stand live (stage.Catching call) waits = waits.0

  -- a move that was Pending waits
  pub moves_wait : (live : Live (Seen V) (Lent C)) (what : Moved (Stage B HTask KTask) (ResponseOf S)) (stage : Stage B HTask KTask) → what ≡ moved.Pending stage → Moves rel first table live what
      → WaitsAt rel first table live stage
  moves_wait live what stage is moves = subst (Moves rel first table live) is moves

  -- it stands there under another Gate too
  pub stands_under : (live : Live (Seen V) (Lent C)) (gate : Gate) (stage : Stage B HTask KTask) → InvariantAt rel first table live stage
      → InvariantAt rel first table (record live { ctx = record live.ctx { gate = gate } }) stage
  stands_under live gate (stage.Next behind body status again) stands = stands
  stands_under live gate (stage.Trying call) was = record {
    before = was.before;
    status = was.status;
    behind = was.behind;
    route = was.route;
    found = was.found;
    next = was.next;
    mounted_is = was.mounted_is;
    between = was.between;
    making = was.making;
  }
  stands_under live gate (stage.Catch status) stands = stands
  stands_under live gate (stage.Catching call) was = record {
    before = was.before;
    catcher = was.catcher;
    handler = was.handler;
    found = was.found;
    handles = was.handles;
    chosen = was.chosen;
    making = was.making;
  }

  -- a response that was found ends it
  pub ends_found : (live : Live (Seen V) (Lent C)) (response : ResponseOf S) → Answered rel first table live response → EndsSo rel first table (routed.Found live response)
  ends_found live response answered = (
    subst (λ calls. Routes rel table first.faults first.at calls (Finds (record { response = response; request = live.request; kept = live.ctx.kept }))) (append-nil live.calls)
        (answered.leads [] (record { response = response; request = live.request; kept = live.ctx.kept }) (refl, refl)),
    answered.backs,
  )
