-- Two ways of answering in one type.
use Rattle.std.specs.Prelude.{ℕ, List, Option}
use Rattle.rkt_request.specs.Lent.{Grows, Kept}
use Rattle.rkt_router.specs.Callbacks.{GivesBack, Handed, Keeps, KeepsHandler, Reply}
use Rattle.rkt_router.specs.Calling.{Calling}
use Rattle.rkt_source.specs.declared.source.Gate.{Gate}
use Rattle.rkt_answers.specs.declared.one_of.OneOf.{OneOf}
use Rattle.rkt_answers.specs.declared.one_of.OneOf.TheVariants.{First, Second}

-- a call of the one, or of the other, and never of both
module _ {L R Handed Held Answer S U : Type 0} (CL : Calling L Handed Held Answer S) (CR : Calling R Handed Held Answer U) where
  abbrev pub MayBoth : OneOf L R → Handed → Held → List Gate → Answer → Held → Type 0
  MayBoth (First callback) handed before gates answer after = CL.may callback handed before gates answer after
  MayBoth (Second callback) handed before gates answer after = CR.may callback handed before gates answer after

  abbrev pub BegunBoth : OneOf L R → Handed → OneOf S U → Held → Held → List Gate → ℕ → Type 0
  BegunBoth (First callback) handed (First task) before now gates n = CL.begun callback handed task before now gates n
  BegunBoth (First callback) handed (Second task) before now gates n = ⊥
  BegunBoth (Second callback) handed (First task) before now gates n = ⊥
  BegunBoth (Second callback) handed (Second task) before now gates n = CR.begun callback handed task before now gates n

  abbrev pub pendings_both : OneOf L R → Handed → Held → ℕ
  pendings_both (First callback) handed before = CL.pendings callback handed before
  pendings_both (Second callback) handed before = CR.pendings callback handed before

  abbrev pub MayFaultBoth : OneOf L R → Handed → Held → Type 0
  MayFaultBoth (First callback) handed before = CL.may_fault callback handed before
  MayFaultBoth (Second callback) handed before = CR.may_fault callback handed before

  abbrev pub one_of : Calling (OneOf L R) Handed Held Answer (OneOf S U)
  one_of = record { may = MayBoth; begun = BegunBoth; pendings = pendings_both; may_fault = MayFaultBoth }

-- that the laws are kept which both keep
module _ {L R H C A S U : Type 0} {CL : Calling L H (Kept C) A S} {CR : Calling R H (Kept C) A U} (first : Keeps CL)
    (second : Keeps CR) where
  done_both : (callback : OneOf L R) (handed : H) (before after : Kept C) (gates : List Gate) (answer : A)
      → MayBoth CL CR callback handed before gates answer after
      → Grows before after
  done_both (First callback) handed before after gates answer is = first.done callback handed before after gates answer is
  done_both (Second callback) handed before after gates answer is = second.done callback handed before after gates answer is

  begun_both : (callback : OneOf L R) (handed : H) (task : OneOf S U) (before now : Kept C) (gates : List Gate) (n : ℕ)
      → BegunBoth CL CR callback handed task before now gates n
      → Grows before now
  begun_both (First callback) handed (First task) before now gates n is = first.begun callback handed task before now gates n is
  begun_both (First callback) handed (Second task) before now gates n is = absurd is
  begun_both (Second callback) handed (First task) before now gates n is = absurd is
  begun_both (Second callback) handed (Second task) before now gates n is =
      second.begun callback handed task before now gates n is

  pub one_of_keeps : Keeps (one_of CL CR)
  one_of_keeps = record { done = done_both; begun = begun_both }

module _ {L R V B C K S U : Type 0} {whole : B → Option (List ℕ)} {CL : Calling L (Handed V B) (Kept C) (Reply K B) S}
    {CR : Calling R (Handed V B) (Kept C) (Reply K B) U} (first : KeepsHandler whole CL) (second : KeepsHandler whole CR) where
  forwards_both : (callback : OneOf L R) (handed : Handed V B) (before after : Kept C) (gates : List Gate) (reply : Reply K B)
      → MayBoth CL CR callback handed before gates reply after
      → GivesBack whole handed.body reply
  forwards_both (First callback) handed before after gates reply is = first.forwards callback handed before after gates reply is
  forwards_both (Second callback) handed before after gates reply is =
      second.forwards callback handed before after gates reply is

  pub one_of_keeps_handler : KeepsHandler whole (one_of CL CR)
  one_of_keeps_handler = record { keeps = one_of_keeps first.keeps second.keeps; forwards = forwards_both }
