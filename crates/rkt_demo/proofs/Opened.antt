-- What a peek at the body of a request shows, and what it leaves, is one thing where no read is refused.
use Rattle.std.proofs.Common.{zero, suc, ◌≡◌, ◌≤◌, ◌⊎◌, ◌||◌, inl, inr, ℕ, List, [], ◌∷◌, Bool, true, false, Option, Some, None, length, take, refl, ap, ◌∙◌, sym, arith}
use Rattle.std.specs.Prelude.{IfSome, IsTrue}
use Rattle.std.proofs.lemmas.Bool.{false≢true}
use Rattle.rkt_source.specs.Cancel.{Cancellable, is_gone}
use Rattle.rkt_data.specs.Body.{WasRefused}
use Rattle.rkt_data.specs.CountedSource.{SameTap, Tapped}
use Rattle.rkt_exchange.specs.Peeks.{CutPeekOf, RanBy, cuts}
use Rattle.rkt_router.specs.Calls.{GateRule}
use Rattle.rkt_sample.specs.Bodies.{IsUncut, IsUncutBody, SampleBody, whole}
use Rattle.rkt_sample.specs.Calm.{IsCalm, StillOpen}
use Rattle.rkt_sample.specs.CalmLaws.{runs_open, still_not_gone}
use Rattle.rkt_worker.specs.Lifecycle.{body_from, uncalled}
use Rattle.rkt_source.specs.Memory.{SourceInMemory, source_meaning}
use Rattle.rkt_source.specs.declared.source.Gate.{Gate}

abbrev Source : Type 0
Source = Cancellable SourceInMemory

take_take : (k n : ℕ) (xs : List ℕ) → k ≤ n → take k (take n xs) ≡ take k xs
take_take zero n xs within = refl
take_take (suc k) zero xs within = absurd (omega (arith, within))
take_take (suc k) (suc n) [] within = refl
take_take (suc k) (suc n) (x ∷ xs) within = ap (λ (ys : List ℕ). x ∷ ys) (take_take k n xs (omega (arith, within)))

-- a source in memory is not shut that is still open
not_shut : (rule : GateRule) (source : Source) → StillOpen rule source.stage → (is_gone source.stage || false) ≡ true → ⊥
not_shut rule source goes shut = neither (is_gone source.stage) (still_not_gone rule source.stage goes) shut
  where
    neither : (b : Bool) → b ≡ false → (b || false) ≡ true → ⊥
    neither true is both = false≢true (sym is)
    neither false is both = false≢true both

module _ (rule : GateRule) (calm : IsCalm rule) where
  -- calls under Gates of the rule lead to what is not cut off
  tap_uncut : (t : Tapped Source) (tap : Option (Tapped Source)) (gate : Gate) → IsUncut source_meaning rule t.now → SameTap (cuts source_meaning) gate.tripped (Some t) tap → RanBy rule (Some t) tap → IfSome tap (λ u. IsUncut source_meaning rule u.now)
  tap_uncut t None gate uncut same ran = absurd same
  tap_uncut t (Some u) gate uncut same ran = record {
    never_faults = same.1.never_faults ∙ uncut.never_faults;
    stage = runs_open rule calm ran.0 ran.1 t.now.stage u.now.stage uncut.stage ran.2;
  }

  never_refused : (t : Tapped Source) (tap : Option (Tapped Source)) → IsUncut source_meaning rule t.now → IfSome tap (λ u. IsUncut source_meaning rule u.now) → WasRefused (cuts source_meaning) (Some t) tap → ⊥
  never_refused t None uncut after refused = refused
  never_refused t (Some u) uncut after (inl faulted) = false≢true (sym faulted.1 ∙ uncut.never_faults)
  never_refused t (Some u) uncut after (inr shut) = not_shut rule u.now after.stage shut

  -- what a peek of 14 bytes shows and leaves
  pub record OpenedSo (bytes shown : List ℕ) (body : SampleBody SourceInMemory) : Type 0 where
    pub front : shown ≡ take 14 bytes
    pub all : whole source_meaning body ≡ Some bytes
    pub uncut : IsUncutBody source_meaning rule body

  pub opened_so : (source : SourceInMemory) (bytes shown : List ℕ) (body : SampleBody SourceInMemory) → whole source_meaning (body_from source) ≡ Some bytes → IsTrue (source_meaning source).never_faults
      → CutPeekOf source_meaning rule (body_from source) shown body → OpenedSo bytes shown body
  opened_so source bytes shown body told never peeks = record {
    front = peeks.peek.front ∙ front peeks.peek.stops;
    all = peeks.peek.body ∙ told;
    uncut = after;
  }
    where
      tapped : Tapped Source
      tapped = record { now = uncalled source; begun = uncalled source }

      before : IsUncut source_meaning rule (uncalled source)
      before = record { never_faults = never; stage = tt }

      after : IsUncutBody source_meaning rule body
      after = tap_uncut tapped body.tap peeks.peek.tap.0 before peeks.peek.tap.2 peeks.machine

      front : (14 ≤ length body.held) ⊎ ((body.complete ≡ true) ⊎ WasRefused (cuts source_meaning) (Some tapped) body.tap) → take 14 body.held ≡ take 14 bytes
      front (inl enough) = ap (take 14) (peeks.peek.first bytes (peeks.peek.body ∙ told)).0 ∙ take_take 14 (length body.held) bytes enough
      front (inr (inl complete)) = ap (take 14) ((peeks.peek.first bytes (peeks.peek.body ∙ told)).1 complete)
      front (inr (inr refused)) = absurd (never_refused tapped body.tap before after refused)
