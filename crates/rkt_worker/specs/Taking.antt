-- What comes of asking a link for the source of its body.
use Rattle.std.specs.Prelude.{◌≡◌, ◌↔◌, false, Option, Result, Ok, Err, IfSome, IsSome}
use Rattle.std.specs.Option.{ForSome}
use Rattle.rkt_base.specs.declared.poll.Poll.{Poll}
use Rattle.rkt_base.specs.declared.poll.Poll.TheVariants.{Ready, Pending}
use Rattle.rkt_source.specs.Cancel.{Cancellable}
use Rattle.rkt_source.specs.declared.stage.Refused.{Refused}
use Rattle.rkt_source.specs.declared.stage.Stage.TheVariants.{Active}
use Rattle.rkt_link.specs.Asked.{GivesBody, IsUntouched}
use Rattle.rkt_link.specs.Link.{LinkMeaning, with_source_taken}
use Rattle.rkt_source.specs.Source.{Meaning}

module _ {S : Type 0} (sources : S → Meaning) where
  -- it gives the source once: untouched, and of the body that it asks
  pub record TakesSource (old : LinkMeaning) (answer : Option S) (new : LinkMeaning) : Type 0 where
    pub once : IsSome answer ↔ (old.source_taken ≡ false)
    pub link : new ≡ with_source_taken old
    pub untouched : IfSome answer (λ source. IsUntouched (sources source))
    pub body : IfSome answer (λ source. ForSome old.asked (λ asked. GivesBody asked (sources source)))

  -- and it answers at once
  abbrev pub AnswersNow : LinkMeaning → Poll (Option S) → LinkMeaning → Type 0
  AnswersNow old (Ready answer) new = TakesSource old answer new
  AnswersNow old Pending new = ⊥

module _ {K S : Type 0} (links : K → LinkMeaning) (sources : S → Meaning) where
  -- a link that nothing cuts off is asked, and stays so
  abbrev pub TakenAs : Cancellable K → Poll (Result (Option S) Refused) → Cancellable K → Type 0
  TakenAs old (Ready (Ok answer)) new = (new.stage ≡ Active) × TakesSource sources (links old.io) answer (links new.io)
  TakenAs old (Ready (Err refused)) new = ⊥
  TakenAs old Pending new = ⊥
