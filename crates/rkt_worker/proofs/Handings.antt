-- What becomes of a link that a trip may cut off.
use Rattle.std.proofs.Common.{◌≡◌, ◌≤◌, ◌-◌, ◌+◌, inl, inr, ℕ, Bool, true, false, Option, None, Some, Result, if◌then◌else◌, refl, ap, sym, subst, ◌∙◌, arith, MutBor}
use Rattle.std.specs.Prelude.{nat_le}
use Rattle.std.proofs.lemmas.Bool.{leb-true}
use Rattle.std.specs.Fn.{Once, FnOnceReturnsAtMut}
use Rattle.rkt_base.specs.declared.poll.Poll.{Poll}
use Rattle.rkt_base.specs.declared.poll.Poll.TheVariants.{Ready, Pending}
use Rattle.rkt_source.specs.Cancel.{Cancellable, Cancels, ClosedAt, Ending, advanced, granted, is_open, late, noticed, run_out, withheld}
use Rattle.rkt_source.specs.declared.stage.Refused.{Refused}
use Rattle.rkt_source.specs.declared.stage.Stage.{Stage}
use Rattle.rkt_source.specs.declared.stage.Stage.TheVariants.{Active, Grace, Mercy, Gone}
use Rattle.rkt_link.specs.Clock.{IsWithin}
use Rattle.rkt_link.specs.Link.{LinkMeaning, AfterHand, ComesBack}
use Rattle.rkt_link.specs.declared.link.Delivery.{Delivery}
use Rattle.rkt_message.specs.declared.piece.Piece.{Piece}
use Rattle.rkt_source.specs.declared.source.Gate.{Gate}
use Rattle.rkt_worker.specs.Gates.{IsCut, IsGateOf, IsSeen, MayStand, Watched, WatchedOn}
use Rattle.rkt_worker.specs.Handing.{HandsOver, IsPast, PutAs, ShutsAs}
use Rattle.rkt_board.specs.declared.history.End.{End as Ended}
use Rattle.rkt_board.specs.declared.history.End.TheVariants.{Cut}

-- what was seen and cut off then, still was
pub seen_on : (v w : Watched) (saw : ℕ) → WatchedOn v w → IsSeen v saw → IsSeen w saw
seen_on v w saw on seen = record {
  tripped = (seen.tripped.0, on.trip seen.tripped.0 seen.tripped.1, seen.tripped.2);
  told = omega (arith, seen.told, on.rises);
  within = subst (λ (window : Option (ℕ × ℕ)). IsWithin window saw) (sym on.window) seen.within;
}

pub cut_on : (v w : Watched) (saw cut : ℕ) → WatchedOn v w → IsCut v saw cut → IsCut w saw cut
cut_on v w saw cut on is = record {
  seen = seen_on v w saw on is.seen;
  grace = subst (λ (n : ℕ). saw + n ≤ cut) (sym on.grace) is.grace;
  told = omega (arith, is.told, on.rises);
  within = subst (λ (window : Option (ℕ × ℕ)). IsWithin window cut) (sym on.window) is.within;
}

pub stands_on : (v w : Watched) (stage : Stage) → WatchedOn v w → MayStand v stage → MayStand w stage
stands_on v w Active on stands = tt
stands_on v w (Grace saw) on stands = seen_on v w saw on stands
stands_on v w (Mercy saw cut) on stands = cut_on v w saw cut on stands
stands_on v w (Gone saw cut) on stands = cut_on v w saw cut on stands

module _ (watched : Watched) (gate : Gate) (is : IsGateOf watched gate) where
  -- a trip that was seen then is over its grace by now, or not yet
  graced : (saw : ℕ) → IsSeen watched saw → MayStand watched (run_out gate.grace gate.moment (Grace saw))
  graced saw seen = by_test (nat_le gate.grace (gate.moment - saw)) refl
    where
      by_test : (t : Bool) → nat_le gate.grace (gate.moment - saw) ≡ t → MayStand watched (if t then Mercy saw gate.moment else Grace saw)
      by_test true over = record {
        seen = seen;
        grace = omega (arith, leb-true gate.grace (gate.moment - saw) over, seen.told, is.last, is.grace);
        told = omega (arith, is.last);
        within = is.within;
      }
      by_test false over = seen

  noticed_by : (trip : Option ℕ) → gate.tripped ≡ trip → MayStand watched (run_out gate.grace gate.moment (noticed trip gate.moment Active))
  noticed_by None there = tt
  noticed_by (Some word) there = graced gate.moment (record { tripped = (is.trip word there).0; told = omega (arith, is.last); within = is.within })

  -- so a link stands as it may that is polled under this Gate
  pub stands_next : (stage : Stage) → MayStand watched stage → MayStand watched (advanced gate stage)
  stands_next Active stands = noticed_by gate.tripped refl
  stands_next (Grace saw) stands = graced saw stands
  stands_next (Mercy saw cut) stands = stands
  stands_next (Gone saw cut) stands = stands

  pub cut_past : (stage : Stage) (saw cut : ℕ) → IsPast stage saw cut → MayStand watched stage → IsCut watched saw cut
  cut_past stage saw cut (inl mercy) stands = subst (MayStand watched) mercy stands
  cut_past stage saw cut (inr gone) stands = subst (MayStand watched) gone stands

-- so it stands as it may that was polled then, and not cut off
pub stands_then : (v w : Watched) (gate : Gate) (old new : Stage) → WatchedOn v w → IsGateOf w gate → MayStand v old → new ≡ advanced gate old → MayStand w new
stands_then v w gate old new on is stands next = subst (MayStand w) (sym next) (stands_next w gate is old (stands_on v w old on stands))

-- a response ended that was cut off, with nothing of the piece sent
pub put_cut : {K : Type 0} (links : K → LinkMeaning) (watched : Watched) (old new : Cancellable K) (piece : Piece) (ended : Ended) (saw cut : ℕ) → ended ≡ Cut saw cut → links new.io ≡ links old.io → new.stage ≡ Gone saw cut
    → IsCut watched saw cut → PutAs links watched old piece new (Some ended)
put_cut links watched old new piece ended saw cut is same gone past = subst (λ (e : Ended). PutAs links watched old piece new (Some e)) (sym is) (same, (gone, past))

module _ {K : Type 0} (links : K → LinkMeaning) (shuts : K → Poll (Unit {0}) → K → Type 0) (keeps : (k l : K) (answer : Poll (Unit {0})) → shuts k answer l → links l ≡ links k) (gate : Gate) (old : Cancellable K) (piece : Piece) (new : Cancellable K) where
  refused_by : (stage : Stage) (refusal : Poll Refused) → advanced gate old.stage ≡ stage → ClosedAt shuts gate stage old.io new refusal → HandsOver links gate old piece new (withheld refusal)
  refused_by Active refusal at closed = absurd closed
  refused_by (Grace saw) refusal at closed = absurd closed
  refused_by (Mercy saw cut) refusal at closed = by_late (late gate cut) refusal closed
    where
      by_late : (t : Bool) (refusal : Poll Refused) → Ending shuts t saw cut old.io new refusal → HandsOver links gate old piece new (withheld refusal)
      by_late true refusal ending = subst (λ (r : Poll Refused). HandsOver links gate old piece new (withheld r)) (sym ending.1) (saw, cut, inl at, ap (λ (c : Cancellable K). c.stage) ending.0, ap (λ (c : Cancellable K). links c.io) ending.0)
      by_late false Pending ending = (saw, cut, at, ending.0, keeps old.io new.io Pending ending.1)
      by_late false (Ready r) ending = (saw, cut, inl at, ending.0, keeps old.io new.io (Ready tt) ending.1)
  refused_by (Gone saw cut) refusal at closed =
      subst (λ (r : Poll Refused). HandsOver links gate old piece new (withheld r)) (sym closed.1) (saw, cut, inr at, ap (λ (c : Cancellable K). c.stage) closed.0, ap (λ (c : Cancellable K). links c.io) closed.0)

  -- the machine hands a piece over, or the link is past its grace
  pub hands_over : {F : Type 0} (call : Once F (MutBor K × Unit {0}) (Poll Delivery × (MutBor K × Unit {0}))) (f : F)
      → (answer : Poll (Result Delivery Refused)) → Cancels shuts (FnOnceReturnsAtMut call f) gate old new answer
      → ((r : Poll Delivery) (p q : MutBor K) → call.post f (p, tt) (r, (q, tt)) → (handed : Delivery) × (r ≡ Ready handed) × AfterHand handed (links p.now) piece (links q.now) × ComesBack handed piece)
      → HandsOver links gate old piece new answer
  hands_over call f answer (inl (open_at, stage, made)) hands =
      let called = made.1 in
      let handed = hands made.0 called.shown called.left called.met in
      let link : AfterHand handed.0 (links old.io) piece (links new.io) =
      subst (λ (k : K). AfterHand handed.0 (links k) piece (links new.io)) called.shows (subst (λ (k : K). AfterHand handed.0 (links called.shown.now) piece (links k)) called.leaves handed.2) in
      subst (λ (a : Poll (Result Delivery Refused)). HandsOver links gate old piece new a) (sym (made.2 ∙ ap granted handed.1)) (open_at, stage, link, handed.3)
  hands_over call f answer (inr (refusal, closed, is)) hands = subst (λ (a : Poll (Result Delivery Refused)). HandsOver links gate old piece new a) (sym is) (refused_by (advanced gate old.stage) refusal refl closed)

module _ {K : Type 0} (links : K → LinkMeaning) (shuts : K → Poll (Unit {0}) → K → Type 0) (keeps : (k l : K) (answer : Poll (Unit {0})) → shuts k answer l → links l ≡ links k) (gate : Gate) (old new : Cancellable K) where
  shut_by : (saw cut : ℕ) (t : Bool) (refusal : Poll Refused) → Ending shuts t saw cut old.io new refusal → ShutsAs links saw cut old new (withheld refusal)
  shut_by saw cut true refusal ending = subst (λ (r : Poll Refused). ShutsAs links saw cut old new (withheld r)) (sym ending.1) (ap (λ (c : Cancellable K). c.stage) ending.0, ap (λ (c : Cancellable K). links c.io) ending.0)
  shut_by saw cut false Pending ending = (ending.0, keeps old.io new.io Pending ending.1)
  shut_by saw cut false (Ready r) ending = (ending.0, keeps old.io new.io (Ready tt) ending.1)

  -- and one that is past it is shut, or not yet
  pub shuts_so : {F : Type 0} (called : Once F (MutBor K × Unit {0}) (Poll (Unit {0}) × (MutBor K × Unit {0}))) (f : F) (saw cut : ℕ) → old.stage ≡ Mercy saw cut → (answer : Poll (Result (Unit {0}) Refused)) → Cancels shuts (FnOnceReturnsAtMut called f) gate old new answer → ShutsAs links saw cut old new answer
  shuts_so called f saw cut at answer (inl (open_at, stage, made)) = absurd (cc (subst (λ (s : Stage). is_open (advanced gate s) ≡ true) at open_at))
  shuts_so called f saw cut at answer (inr (refusal, closed, is)) =
      subst (λ (a : Poll (Result (Unit {0}) Refused)). ShutsAs links saw cut old new a) (sym is)
      (shut_by saw cut (late gate cut) refusal (subst (λ (s : Stage). ClosedAt shuts gate (advanced gate s) old.io new refusal) at closed))
