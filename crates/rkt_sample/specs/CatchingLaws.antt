-- That the catchers of the sample keep the laws of catchers.
use Rattle.rkt_router.specs.CallbackLaws.{at_once_keeps}
use Rattle.rkt_router.specs.Callbacks.{Keeps}
use Rattle.rkt_sample.specs.Catching.{added_by, catch_calling}
use Rattle.rkt_sample.specs.RoutingLaws.{grows_added}

pub catchers_keep : {V C R : Type 0} → Keeps (catch_calling {V = V} {C = C} {R = R})
catchers_keep = at_once_keeps _ _ (λ catcher refused before after answer is. rw is.1 (grows_added (added_by catcher) before))
