-- Items that were moved to a base of two paths.
use Rattle.std.proofs.Common.{◌≡◌, ◌++◌, ◌∙◌, ℕ, Err, List, ap, subst, sym}
use Rattle.rkt_base.specs.Want.{IfRefused}
use Rattle.rkt_base.specs.declared.want.Want.{Want}
use Rattle.rkt_base.specs.declared.want.Want.TheVariants.{Refused}
use Rattle.rkt_uri.specs.Origin.{SaysWhatItSpells, Target, normalized, target_of}
use Rattle.rkt_uri.specs.declared.origin_place.Profile.TheVariants.{Request}
use Rattle.rkt_route.specs.Catcher.{IsMovedTo as CatcherIsMovedTo}
use Rattle.rkt_route.specs.Route.{IsMovedTo}
use Rattle.rkt_route.specs.RouteUri.{mounted_at, path_alone}
use Rattle.rkt_route.specs.declared.catcher.Catcher.{Catcher}
use Rattle.rkt_route.specs.declared.route.Route.{Route}
use Rattle.rkt_fairing.specs.Below.{catcher_below, route_below}

pub moved_catcher : {C : Type 0} → SaysWhatItSpells → (catcher : Catcher C) (path text : List ℕ) (moved : Catcher C) → text ≡ path ++ catcher.base.path → CatcherIsMovedTo catcher text moved
    → moved ≡ catcher_below path catcher
moved_catcher says catcher path text moved is moves =
    moves.kept ∙ ap (λ (base : Target). record catcher { base = normalized (path_alone base) }) (sym (says Request text moves.base moves.spelled) ∙ ap target_of is)

pub moved_route : {H S : Type 0} → SaysWhatItSpells → (route : Route H S) (path text : List ℕ) (moved : Route H S) → text ≡ path ++ route.uri.base.path → IsMovedTo route text moved
    → moved ≡ route_below path route
moved_route says route path text moved is moves =
    moves.kept
    ∙ ap (λ u. record route { uri = u })
    (moves.mounted.joined ∙ ap (λ (base : Target). mounted_at base route.uri.unmounted) (sym (says Request text moves.mounted.base moves.mounted.spelled) ∙ ap target_of is))

-- what is said of a refusal that a call answered
pub was_refused : {E : Type 0} (want : Want E) (e : E) (P : E → Type 0) → want ≡ Refused e → IfRefused {T = Unit {0}} (Err want) P → P e
was_refused want e P is refused = subst (λ (w : Want _). IfRefused {T = Unit {0}} (Err w) P) is refused
