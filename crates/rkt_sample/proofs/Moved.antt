-- What stands below another base.
use Rattle.std.proofs.Common.{◌≡◌, ◌∙◌, ℕ, List, ap, subst, sym}
use Rattle.rkt_grammar.specs.Grammar.{LeavesAt}
use Rattle.rkt_route.specs.Catcher.{IsMovedTo as CatcherIsMovedTo}
use Rattle.rkt_route.specs.Route.{IsMovedTo}
use Rattle.rkt_route.specs.RouteUri.{mounted_at, path_alone}
use Rattle.rkt_route.specs.declared.catcher.Catcher.{Catcher}
use Rattle.rkt_route.specs.declared.route.Route.{Route}
use Rattle.rkt_uri.specs.Origin.{IsOrigin, SaysWhatItSpells, Target, normalized, target_of}
use Rattle.rkt_uri.specs.declared.origin_place.Profile.TheVariants.{Request}
use Rattle.rkt_sample.specs.Mounted.{catcher_below, route_below}
use Rattle.rkt_sample.specs.declared.catcher.SampleCatcher.{SampleCatcher}
use Rattle.rkt_sample.specs.declared.route.SampleRoute.{SampleRoute}

-- what a base's text leaves no grammar at
pub base_stands : (base text : List ℕ) (at : ℕ) → text ≡ base → IsOrigin Request base → LeavesAt (IsOrigin Request) text at → ⊥
base_stands base text at is origin leaves = leaves.outside (subst (IsOrigin Request) (sym is) origin)

pub moved_catcher : SaysWhatItSpells → (catcher : Catcher SampleCatcher) (base text : List ℕ) (moved : Catcher SampleCatcher) → text ≡ base → CatcherIsMovedTo catcher text moved → moved ≡ catcher_below base catcher
moved_catcher says catcher base text moved is moves =
    moves.kept ∙ ap (λ (target : Target). record catcher { base = normalized (path_alone target) }) (sym (says Request text moves.base moves.spelled) ∙ ap target_of is)

pub moved_route : SaysWhatItSpells → (route : Route SampleRoute (Unit {0})) (base text : List ℕ) (moved : Route SampleRoute (Unit {0})) → text ≡ base → IsMovedTo route text moved → moved ≡ route_below base route
moved_route says route base text moved is moves =
    moves.kept
    ∙ ap (λ u. record route { uri = u })
    (moves.mounted.joined ∙ ap (λ (target : Target). mounted_at target route.uri.unmounted) (sym (says Request text moves.mounted.base moves.mounted.spelled) ∙ ap target_of is))
