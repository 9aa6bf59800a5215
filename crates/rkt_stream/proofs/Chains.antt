-- Reads of one source behind another.
use Rattle.std.proofs.Common.{◌≡◌, ◌≢◌, ℕ, ◌+◌, ◌-◌, ◌≤◌, ◌<◌, ◌++◌, ◌∙◌, true, false, List, length, take, drop, Option, None, Some, Result, Ok, Err, refl, sym, ap, arith, length-append, length-drop, length-take, length-take-le, drop-drop}
use Rattle.std.proofs.Math.Seq.{drop-append-add}
use Rattle.std.proofs.lemmas.Bool.{and_right, or_right}
use Rattle.std.proofs.lemmas.List.{take-append-le, drop-append-le}
use Rattle.rkt_base.specs.declared.poll.Poll.{Poll}
use Rattle.rkt_base.specs.declared.poll.Poll.TheVariants.{Ready, Pending}
use Rattle.rkt_stream.specs.Chain.{chained_whole, chained_meaning, InTurn}
use Rattle.rkt_source.specs.Source.{Meaning, Keeps, Errs, Gives, Answers}
use Rattle.rkt_source.specs.declared.source.SourceError.{SourceError}
use Rattle.rkt_source.specs.declared.source.SourceError.TheVariants.{SourceFault, Gone, TimedOut}

-- both tell where the two together do
chained_told : (x y : Option (List ℕ)) (skipped : ℕ) (w : List ℕ) → chained_whole x y skipped ≡ Some w → (a : List ℕ) × (b : List ℕ) × (x ≡ Some a) × (y ≡ Some b) × (a ++ drop skipped b ≡ w)
chained_told None y skipped w e = absurd (cc)
chained_told (Some a) None skipped w e = absurd (cc)
chained_told (Some a) (Some b) skipped w e = (a, b, refl, refl, cc)

-- bytes of the first
first_part : (a rest : List ℕ) (at k : ℕ) (new : List ℕ) → k ≢ 0 → k ≤ length new → Gives a at k new → Gives (a ++ rest) at k new
first_part a rest at k new some fits y =
    let long : length (take k new) ≡ k = length-take-le k new fits in
    let same : length (take k new) ≡ length (take k (drop at a)) = ap length y.0 in
    let within : k ≤ length (drop at a) = omega (arith, long, same, length-take k (drop at a)) in
    let before : at ≤ length a = omega (arith, within, some, length-drop at a) in
    (y.0 ∙ sym (take-append-le k (drop at a) rest within) ∙ ap (take k) (sym (drop-append-le at a rest before)), λ z. absurd (some z))

-- bytes of the second, where `skipped` of them stand before its part
second_part : (a b : List ℕ) (skipped at k : ℕ) (new : List ℕ) → skipped ≤ at → Gives b at k new → Gives (a ++ drop skipped b) (length a + (at - skipped)) k new
second_part a b skipped at k new h y =
    let place : skipped + (at - skipped) ≡ at = omega arith in (
      y.0 ∙ ap (λ i. take k (drop i b)) (sym place) ∙ ap (take k) (sym (drop-drop (at - skipped) skipped b)) ∙ ap (take k) (sym (drop-append-add a (drop skipped b) (at - skipped))),
      λ z. let end : at ≡ length b = y.1 z in omega (arith, end, length-append a (drop skipped b), length-drop skipped b),
    )

-- the first gave some bytes
pub first_gives : (skipped : ℕ) (m m' n : Meaning) (k : ℕ) (old new : List ℕ) → InTurn false skipped m n → k ≢ 0 → length new ≡ length old → Answers m m' old new (Ready (Ok k)) → Answers (chained_meaning false skipped m n) (chained_meaning false skipped m' n) old new (Ready (Ok k))
first_gives skipped m m' n k old new turn some long h =
    let taken = h.1 in
    let at : m.taken + (n.taken - skipped) ≡ m.taken = omega (arith, turn) in (
      h.0,
      omega (arith, taken),
      λ room w e. let t = chained_told m.whole n.whole skipped w e in rw (← t.4, at) (first_part t.0 (drop skipped t.1) m.taken k new some (omega (arith, h.0, long)) (h.2 room t.0 t.2)),
    )

second_errs : (over : _) (skipped : ℕ) (m m' n n' : Meaning) (e : SourceError) → m.faults ≤ m'.faults → Errs e n n' → Errs e (chained_meaning over skipped m n) (chained_meaning true skipped m' n')
second_errs over skipped m m' n n' SourceFault later h = let rose = h.0 in (omega (arith, rose), and_right m.never_faults n.never_faults h.1)
second_errs over skipped m m' n n' Gone later h = or_right m'.shut n'.shut h
second_errs over skipped m m' n n' TimedOut later h = or_right m'.shut n'.shut h

-- the second answers, once the first has ended
pub second_answers : {trip : Option ℕ} (over : _) (skipped : ℕ) (m m' n n' : Meaning) (old mid new : List ℕ) (answer : Poll (Result ℕ SourceError)) → Keeps trip m m' → m'.taken ≡ m.taken → m'.pended ≤ m'.pendings → InTurn true skipped m' n → length mid ≡ length old → Answers n n' mid new answer
    → Answers (chained_meaning over skipped m n) (chained_meaning true skipped m' n') old new answer
second_answers over skipped m m' n n' old mid new Pending keeps same within turn long h =
    let taken = h.0 in
    let low = h.1.0 in
    let high = h.1.1 in
    let p = keeps.pended in
    let q = keeps.pendings in
    (omega (arith, taken, same), (omega (arith, low, p), omega (arith, high, q, within)))
second_answers over skipped m m' n n' old mid new (Ready (Ok k)) keeps same within turn long h =
    let taken = h.1 in
    let from = turn.0 in (
      omega (arith, h.0, long),
      omega (arith, taken, same, from),
      λ room w e.
          let t = chained_told m.whole n.whole skipped w e in
          let at : m.taken ≡ length t.0 = sym same ∙ turn.1 t.0 (keeps.whole ∙ t.2) in
          rw (← t.4, at) (second_part t.0 t.1 skipped n.taken k new from (h.2 (omega (arith, long, room)) t.1 t.3)),
    )
second_answers over skipped m m' n n' old mid new (Ready (Err e)) keeps same within turn long h =
    let taken = h.0 in
    (omega (arith, taken, same), second_errs over skipped m m' n n' e keeps.faults h.1)

-- the first has met its end, so it is the second's turn
pub turn_over : {trip : Option ℕ} (skipped : ℕ) (m m' n : Meaning) (k : ℕ) (old mid : List ℕ) → InTurn false skipped m n → 0 < length old → k ≡ 0 → Keeps trip m m' → Answers m m' old mid (Ready (Ok k)) → InTurn true skipped m' n
turn_over skipped m m' n k old mid turn room none keeps h =
    let taken = h.1 in
    (omega (arith, turn), λ w e. let end : m.taken ≡ length w = (h.2 room w (sym keeps.whole ∙ e)).1 none in omega (arith, end, taken, none))
