use Rattle.std.proofs.Common.{subst, sym}
use Rattle.rkt_uri.specs.Origin.{IsOrigin}
use Rattle.rkt_uri.specs.declared.origin_place.Profile.TheVariants.{Request}
use Rattle.rkt_sample.proofs.Spelled.{catch_base_spelled}
use Rattle.rkt_sample.proofs.catcher.SampleCatcher.mounted.Goals as goal

pub catcher_below-requires : goal.catcher_below-requires
catcher_below-requires c = subst (IsOrigin Request) (sym c.base.ensures) (catch_base_spelled c.args.self)
