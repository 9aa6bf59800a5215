use Rattle.std.proofs.Common.{ap}
use Rattle.rkt_serve.proofs.Lighting.{if_failed}
use Rattle.rkt_serve.proofs.launch.begin.Goals as goal

pub returns-in_err-log : goal.returns-in_err-log
returns-in_err-log g c =
    let answer = c.from_residual.result in
    let failed = c.from_residual.ensures.0 in
    record {
      blank = if_failed _ answer failed;
      empty = if_failed _ answer failed;
      room = if_failed _ answer failed;
      lends = if_failed _ answer failed;
      lifts = if_failed _ answer failed;
      tables = if_failed _ answer failed;
      handle = if_failed _ answer failed;
    }

pub returns-in_err-room : goal.returns-in_err-room
returns-in_err-room g c =
    let answer = c.from_residual-in_err-room.result in
    let failed = c.from_residual-in_err-room.ensures.0 in
    record {
      blank = if_failed _ answer failed;
      empty = if_failed _ answer failed;
      room = if_failed _ answer failed;
      lends = if_failed _ answer failed;
      lifts = if_failed _ answer failed;
      tables = if_failed _ answer failed;
      handle = if_failed _ answer failed;
    }

pub returns-in_err-shutdown : goal.returns-in_err-shutdown
returns-in_err-shutdown g c =
    let answer = c.from_residual-in_err-shutdown.result in
    let failed = c.from_residual-in_err-shutdown.ensures.0 in
    record {
      blank = if_failed _ answer failed;
      empty = if_failed _ answer failed;
      room = if_failed _ answer failed;
      lends = if_failed _ answer failed;
      lifts = if_failed _ answer failed;
      tables = if_failed _ answer failed;
      handle = if_failed _ answer failed;
    }

pub returns-in_err-calls : goal.returns-in_err-calls
returns-in_err-calls g c =
    let answer = c.from_residual-in_err-calls.result in
    let failed = c.from_residual-in_err-calls.ensures.0 in
    record {
      blank = if_failed _ answer failed;
      empty = if_failed _ answer failed;
      room = if_failed _ answer failed;
      lends = if_failed _ answer failed;
      lifts = if_failed _ answer failed;
      tables = if_failed _ answer failed;
      handle = if_failed _ answer failed;
    }

pub returns-clause-blank : goal.returns-clause-blank
returns-clause-blank g c = c.in_ok-log.ensures

pub returns-clause-empty : goal.returns-clause-empty
returns-clause-empty g c = c.in_ok-room.ensures.empty

pub returns-clause-room : goal.returns-clause-room
returns-clause-room g c = rw (ap (λ fairings. fairings.places) c.liftoff.ensures.kept) c.in_ok-room.ensures.room

pub returns-clause-lends : goal.returns-clause-lends
returns-clause-lends g c = c.in_ok-shutdown.ensures.copy

pub returns-clause-lifts : goal.returns-clause-lifts
returns-clause-lifts g c = rw c.split.ensures.same at c.in_ok-calls.ensures.lifts

pub returns-clause-tables : goal.returns-clause-tables
returns-clause-tables g c = c.liftoff.ensures.tables

pub returns-clause-handle : goal.returns-clause-handle
returns-clause-handle g c = rw c.split.ensures.same at c.liftoff.ensures.handle
