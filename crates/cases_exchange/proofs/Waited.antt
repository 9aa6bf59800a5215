-- What the last poll of a call that waits answers.
use Rattle.std.specs.Prelude.{◌≡◌, ℕ, List}
use Rattle.rkt_router.specs.Calling.{AnswersPoll}
use Rattle.rkt_router.specs.declared.step.Step.{Step}
use Rattle.rkt_router.specs.declared.step.Step.TheVariants.{Pending, Done, Fault, Starved}
use Rattle.rkt_source.specs.declared.source.Gate.{Gate}
use Rattle.cases_exchange.specs.Changers.{waiting}
use Rattle.cases_exchange.specs.Pages.{IsLast}
use Rattle.cases_exchange.specs.declared.changer.Changer.{Changer}

pub answers_last : {H Held A : Type 0} (Grown : Held → Held → Type 0) (changer : Changer) (handed : H) (before now : Held) (gates : List Gate) (n task : ℕ) (step : Step A) → IsLast step → Grown before now → task ≡ n
    → AnswersPoll (waiting Grown) changer handed before gates n step task now
answers_last Grown changer handed before now gates n task Pending last grown same = absurd last
answers_last Grown changer handed before now gates n task (Done answer) last grown same = grown
answers_last Grown changer handed before now gates n task Fault last grown same = (tt, (grown, same))
answers_last Grown changer handed before now gates n task Starved last grown same = (grown, same)
