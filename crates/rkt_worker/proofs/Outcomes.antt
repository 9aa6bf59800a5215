-- What is known of a result, an option, an end, and a piece that was not taken.
use Rattle.std.proofs.Common.{◌≡◌, ◌≢◌, Option, Some, None, subst, sym, ◌∙◌}
use Rattle.std.specs.Option.{ForSome}
use Rattle.std.specs.Prelude.{IsNone}
use Rattle.rkt_board.specs.declared.history.End.{End as Ending}
use Rattle.rkt_board.specs.declared.history.End.TheVariants.{Answered, Lost, Cut, Failed, Abandoned, Starved}
use Rattle.rkt_source.specs.Cancel.{Cancellable}
use Rattle.rkt_link.specs.Link.{LinkMeaning}
use Rattle.rkt_message.specs.declared.piece.Piece.{Piece}
use Rattle.rkt_worker.specs.Gates.{IsCutOff, Watched}
use Rattle.rkt_worker.specs.Handing.{PutAs}

pub some_none : {T : Type 0} (t : T) → IsNone (Some t) → ⊥
some_none t none = absurd (cc none)

-- what is told of a run holds where there is none
pub for_none : {T : Type 0} (P : T → Type 0) (run : Option T) → run ≡ None → ForSome run P
for_none P run none t is = absurd (cc (sym none ∙ is))

-- and where it is told of the one that there is
pub for_one : {T : Type 0} (P : T → Type 0) (run : T) → P run → ForSome (Some run) P
for_one P run known t is = let same : run ≡ t = cc is in subst P same known

pub not_abandoned : (end : Ending) → end ≡ Starved → end ≢ Abandoned
not_abandoned end starved abandoned = absurd (cc (sym starved ∙ abandoned))

-- a piece that was not taken ended the response, and its link is gone where it was cut off
pub put_cuts : {K : Type 0} (links : K → LinkMeaning) (watched : Watched) (old new : Cancellable K) (piece : Piece) (ended : Ending) → PutAs links watched old piece new (Some ended) → IsCutOff watched new.stage ended
put_cuts links watched old new piece Lost put = tt
put_cuts links watched old new piece (Cut saw cut) put = put.1
put_cuts links watched old new piece Answered put = tt
put_cuts links watched old new piece (Failed failure) put = tt
put_cuts links watched old new piece Abandoned put = absurd put
put_cuts links watched old new piece Starved put = tt
