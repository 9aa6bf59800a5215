use Rattle.std.proofs.Common.{◌≡◌, Some, refl}
use Rattle.rkt_life.specs.declared.build_error.BuildError.TheVariants.{Base, Code}
use Rattle.rkt_route.specs.Catcher.{IsErrorCode}
use Rattle.rkt_lines.specs.Building.{IsCatcherFault}
use Rattle.rkt_lines.proofs.Faults.{only_memory, told_fault}
use Rattle.rkt_lines.proofs.Rooted.{root_is_origin}
use Rattle.rkt_lines.proofs.building.RocketOfAppBuildingBuilds.catcher.Goals as goal

pub returns-in_err-catchers-clause-refused : goal.returns-in_err-catchers-clause-refused
returns-in_err-catchers-clause-refused g c =
    told_fault (IsCatcherFault c.args.code) tt Code (λ e. (c.args.code ≡ Some e.code) × ¬ IsErrorCode e.code) (λ e cause. cause)
    c.catchers.result c.in_err-catchers.field-0.0 c.from_residual.result c.in_err-catchers.was c.from_residual.ensures.1 c.catchers.ensures.refused

pub returns-in_err-register-clause-refused : goal.returns-in_err-register-clause-refused
returns-in_err-register-clause-refused g c =
    only_memory (IsCatcherFault c.args.code) tt Base _ root_is_origin
    c.register.result c.in_err-register.field-0.0 c.in_err-register.field-0.0.error c.from_residual-in_err-register.result
    c.in_err-register.was refl c.from_residual-in_err-register.ensures.1 c.register.ensures.refused
