-- What one call of an object in memory does keeps to the rules of its trait.
use Rattle.std.proofs.Common.{◌≡◌, ℕ, ◌<◌, ◌≤◌, ◌++◌, ◌∙◌, Bool, true, false, nat_eq, List, [], ◌∷◌, length, take, drop, min, Option, Some, Result, Ok, Err, refl, sym, ap, inl, arith, length-take, length-drop}
use Rattle.std.proofs.Math.Seq.{take-append_seam}
use Rattle.std.proofs.lemmas.Bool.Decides.{nat_tests}
use Rattle.std.proofs.lemmas.List.{take_min}
use Rattle.rkt_base.specs.declared.poll.Poll.TheVariants.{Ready}
use Rattle.rkt_source.specs.Memory.{SourceInMemory, SinkInMemory, source_meaning, sink_meaning, is_listed, next_bytes, ReadsUnless, ReadsNext, CountsUnless, ReadsCounted, WritesUnless, WritesAll}
use Rattle.rkt_source.specs.Sink.{SinkKeeps}
use Rattle.rkt_source.specs.Source.{Keeps, Gives, Answers}
use Rattle.rkt_source.specs.declared.sink.SinkError.{SinkError}
use Rattle.rkt_source.specs.declared.source.SourceError.{SourceError}

-- where a call is listed, the list is not empty
listed-some : (fails : List ℕ) (call : ℕ) → is_listed fails call ≡ true → nat_eq (length fails) 0 ≡ false
listed-some [] call h = cc
listed-some (x ∷ xs) call h = grind (arith, nat_tests)

source_keeps_by : (b : Bool) (trip : Option ℕ) (s t : SourceInMemory) (old new : List ℕ) (answer : Result ℕ SourceError) → s.faults ≤ t.faults → ReadsUnless b s t old new answer → Keeps trip (source_meaning s) (source_meaning t)
source_keeps_by true trip s t old new answer later h = rw h.0 (record { whole = refl; never_faults = refl; pendings = refl; faults = rw h.0 at later; pended = omega arith; warned = λ w. inl w; still_warned = λ w. w; still_shut = λ w. w })
source_keeps_by false trip s t old new answer later h = rw h.0 (record { whole = refl; never_faults = refl; pendings = refl; faults = omega arith; pended = omega arith; warned = λ w. inl w; still_warned = λ w. w; still_shut = λ w. w })

pub source_keeps : (trip : Option ℕ) (s t : SourceInMemory) (old new : List ℕ) (answer : Result ℕ SourceError) → s.faults ≤ t.faults → ReadsNext s t old new answer → Keeps trip (source_meaning s) (source_meaning t)
source_keeps trip s t old new answer later h = source_keeps_by (is_listed s.fails s.calls) trip s t old new answer later h

-- a front is as many items as it has
take-length-take : (n : ℕ) (xs : List ℕ) → take (length (take n xs)) xs ≡ take n xs
take-length-take n xs = rw (length-take n xs) (take_min n xs)

next_fits : (s : SourceInMemory) (room : ℕ) → length (next_bytes s room) ≤ room
next_fits s room = omega (arith, length-take (min s.chunk room) (drop s.at s.bytes))

next_gives : (s : SourceInMemory) (room : ℕ) (rest w : List ℕ) → (s.at ≤ length s.bytes) × (1 ≤ s.chunk) → 0 < room → Some s.bytes ≡ Some w → Gives w s.at (length (next_bytes s room)) (next_bytes s room ++ rest)
next_gives s room rest w within some is =
    let same : s.bytes ≡ w = cc in
    rw (← same) (take-append_seam _ rest ∙ sym (take-length-take (min s.chunk room) (drop s.at s.bytes)), λ none. omega (arith, length-take (min s.chunk room) (drop s.at s.bytes), length-drop s.at s.bytes))

source_answers_by : (b : Bool) (s t : SourceInMemory) (old new : List ℕ) (answer : Result ℕ SourceError) → is_listed s.fails s.calls ≡ b → (s.at ≤ length s.bytes) × (1 ≤ s.chunk) → ReadsUnless b s t old new answer → Answers (source_meaning s) (source_meaning t) old new (Ready answer)
source_answers_by true s t old new answer e within h = rw (h.2, h.0) (refl, (omega arith, listed-some s.fails s.calls e))
source_answers_by false s t old new answer e within h = rw (h.2, h.0, h.1) (omega (arith, next_fits s (length old)), refl, λ some x is. next_gives s (length old) (drop (length (next_bytes s (length old))) old) x within some is)

pub source_answers : (s t : SourceInMemory) (old new : List ℕ) (answer : Result ℕ SourceError) → (s.at ≤ length s.bytes) × (1 ≤ s.chunk) → ReadsNext s t old new answer → Answers (source_meaning s) (source_meaning t) old new (Ready answer)
source_answers s t old new answer within h = source_answers_by (is_listed s.fails s.calls) s t old new answer refl within h

counts_by : (b : Bool) (s t : SourceInMemory) (old new : List ℕ) (answer : Result ℕ SourceError) → ReadsUnless b s t old new answer → CountsUnless b s (length old) (Ready answer) t
counts_by true s t old new answer h = (h.0, ap Ready h.2)
counts_by false s t old new answer h = (h.0, ap Ready h.2)

pub reads_counted : (s t : SourceInMemory) (old new : List ℕ) (answer : Result ℕ SourceError) → ReadsNext s t old new answer → ReadsCounted s (length old) (Ready answer) t
reads_counted s t old new answer h = counts_by (is_listed s.fails s.calls) s t old new answer h

sink_keeps_by : (b : Bool) (s t : SinkInMemory) (piece : List ℕ) (answer : Result ℕ SinkError) → s.faults ≤ t.faults → WritesUnless b s t piece answer → SinkKeeps (sink_meaning s) (sink_meaning t)
sink_keeps_by true s t piece answer later h = rw h.0 (record { never_faults = refl; pendings = refl; faults = rw h.0 at later; pended = omega arith })
sink_keeps_by false s t piece (Ok n) later h = rw h.0 (record { never_faults = refl; pendings = refl; faults = omega arith; pended = omega arith })
sink_keeps_by false s t piece (Err e) later h = rw h.0 (record { never_faults = refl; pendings = refl; faults = omega arith; pended = omega arith })

pub sink_keeps : (s t : SinkInMemory) (piece : List ℕ) (answer : Result ℕ SinkError) → s.faults ≤ t.faults → WritesAll s t piece answer → SinkKeeps (sink_meaning s) (sink_meaning t)
sink_keeps s t piece answer later h = sink_keeps_by (is_listed s.fails s.calls) s t piece answer later h
