use Rattle.std.proofs.Common.{refl}
use Rattle.rkt_dispatch.proofs.SetMethods.{one_override}
use Rattle.rkt_dispatch.specs.Overridden.{overridden}
use Rattle.rkt_dispatch.proofs.overriding.has_one_override.Goals as goal

pub returns-clause-some : goal.returns-clause-some
returns-clause-some g c = λ front.
    let read = c.has_form-form.ensures in (overridden read.0 front c.args.request.now, record { content_type = read.0; read = read.1; request = refl })

pub returns-clause-once : goal.returns-clause-once
returns-clause-once g c = one_override c.args.request.now
