-- That callbacks keep their laws.
use Rattle.rkt_request.specs.Lent.{Kept, Grows}
use Rattle.rkt_request.specs.LentLaws.{grows_same}
use Rattle.rkt_router.specs.Callbacks.{Keeps, at_once}

-- a call that is done at once keeps them where what it leaves does
pub at_once_keeps : {Self H C A Task : Type 0} (Holds : Self → H → Task → Type 0)
    (may : Self → H → Kept C → A → Kept C → Type 0)
    → ((callback : Self) (handed : H) (before after : Kept C) (answer : A)
    → may callback handed before answer after
    → Grows before after)
    → Keeps (at_once Holds may)
at_once_keeps Holds may grows = record {
  done = λ callback handed before after gates answer is. grows callback handed before after answer is;
  begun = λ callback handed task before now gates n begun. grows_same before now begun.1;
}
