-- What is known of an exchange with a link that has ended.
use Rattle.std.proofs.Common.{◌≡◌, ◌≤◌, ◌∙◌, ℕ, Bool, true, false, None, Some, Option, arith, refl, sym, subst}
use Rattle.std.specs.Prelude.{IfSome, IsNone, IsSome, MatchOption}
use Rattle.std.specs.List.{All}
use Rattle.rkt_base.specs.declared.poll.Poll.TheVariants.{Pending}
use Rattle.rkt_source.specs.Cancel.{Cancellable}
use Rattle.rkt_data.specs.Body.{Body}
use Rattle.rkt_exchange.specs.Beginning.{beginning}
use Rattle.rkt_exchange.specs.Ended.{IfFinished, handle_of}
use Rattle.rkt_exchange.specs.Relations.{Relations}
use Rattle.rkt_exchange.specs.Invariant.{EndsSo, ExchangeGives, SeenExchange, SeenPhase, InvariantFor}
use Rattle.rkt_exchange.specs.Tables.{SeenTables}
use Rattle.rkt_exchange.specs.declared.ended.EndedOf.{EndedOf}
use Rattle.rkt_exchange.specs.declared.ended.EndedOf.TheVariants.{Finished, Starved}
use Rattle.rkt_request.specs.Incoming.{IsIncoming}
use Rattle.rkt_request.specs.declared.head.Head.{Head}
use Rattle.rkt_router.specs.Calls.{GateFits, GateRule, InWindow}
use Rattle.rkt_routing.specs.Backs.{Sees}
use Rattle.rkt_routing.specs.Beginning.{Beginning}
use Rattle.rkt_source.specs.Source.{Meaning}
use Rattle.rkt_source.specs.declared.source.Gate.{Gate}
use Rattle.rkt_turn.specs.HandsBack.{HandsBack}
use Rattle.rkt_turn.specs.Shutdown.{Handle}
use Rattle.rkt_link.specs.Asked.{Asked, GivesBody, IsUntouched}
use Rattle.rkt_board.specs.Turns.{gate_with}
use Rattle.rkt_worker.specs.Begun.{AllFit, IsBegun}
use Rattle.rkt_worker.specs.Gates.{IsGateOf, Watched, WatchedOn, told, word_in}
use Rattle.rkt_worker.proofs.Cutting.{word_shown, word_stays}
use Rattle.rkt_link.specs.Clock.{ClockMeaning, IsAmid, IsWithin}
use Rattle.rkt_worker.specs.Lifecycle.{Lifecycle, body_from}
use Rattle.rkt_worker.specs.Serving.{gates_with}

in_window : (window : Option (ℕ × ℕ)) (moment : ℕ) → IsWithin window moment → InWindow window moment
in_window None moment within = tt
in_window (Some w) moment within = within w refl

within_window : (window : Option (ℕ × ℕ)) (moment : ℕ) → InWindow window moment → IsWithin window moment
within_window None moment within v is = absurd (cc is)
within_window (Some w) moment within v is = let same : w ≡ v = cc is in subst (λ (u : ℕ × ℕ). (u.0 ≤ moment) × (moment ≤ u.1)) same within

-- a Gate shows no trip where none was seen
none_shown : (tripped seen : Option ℕ) → (IsSome tripped → IsSome seen) → IsNone seen → IsNone tripped
none_shown None seen shown none = refl
none_shown (Some word) None shown none = absurd (cc (shown refl))
none_shown (Some word) (Some w) shown none = absurd (cc none)

-- every Gate of a moment of the clock's window
pub fit_window : (grace mercy : ℕ) (old new : ClockMeaning) (seen : Option ℕ) (may_trip : Bool) → (may_trip ≡ false → IsNone seen) → AllFit (gates_with old.window grace mercy may_trip) grace mercy old new seen
fit_window grace mercy old new seen may_trip none moment tripped amid shown = record { moment = in_window old.window moment amid.within; delays = (refl, refl); trip = λ untripped. none_shown tripped seen shown (none untripped); shown = tt }

-- so where it may show a trip
pub fit_any : (grace mercy : ℕ) (old new : ClockMeaning) (seen : Option ℕ) → AllFit (gates_with old.window grace mercy true) grace mercy old new seen
fit_any grace mercy old new seen = fit_window grace mercy old new seen true (λ untripped. absurd (cc untripped))

-- and every Gate of a moment that the clock has told meanwhile
pub fit_between : (grace mercy : ℕ) (old new : ClockMeaning) (seen : Option ℕ) → AllFit (gates_with (Some (old.last, new.last)) grace mercy true) grace mercy old new seen
fit_between grace mercy old new seen moment tripped amid shown = record { moment = (amid.from, amid.to); delays = (refl, refl); trip = λ untripped. absurd (cc untripped); shown = tt }

-- what all Gates fit that may be told up to a moment, those fit that were told before
pub fit_before : (rule : GateRule) (grace mercy : ℕ) (old now new : ClockMeaning) (before after : Option ℕ) → now.last ≤ new.last → (IsSome before → IsSome after) → AllFit rule grace mercy old new after → AllFit rule grace mercy old now before
fit_before rule grace mercy old now new before after rises still fit moment tripped amid shown =
    fit moment tripped (record { from = amid.from; to = omega (arith, amid.to, rises); within = amid.within }) (λ some. still (shown some))

-- so where more was watched meanwhile
pub fit_so_far : (rule : GateRule) (grace mercy : ℕ) (first old new : Watched) → WatchedOn old new → AllFit rule grace mercy (told first) (told new) (word_in new.trip) → AllFit rule grace mercy (told first) (told old) (word_in old.trip)
fit_so_far rule grace mercy first old new on fit = fit_before rule grace mercy (told first) (told old) (told new) (word_in old.trip) (word_in new.trip) on.rises (word_stays old new on) fit

-- the Gate that was given last fits them
pub fit_gate : (rule : GateRule) (grace mercy : ℕ) (first new : Watched) (gate : Gate) → AllFit rule grace mercy (told first) (told new) (word_in new.trip) → WatchedOn first new → IsGateOf new gate → new.grace ≡ grace → new.mercy ≡ mercy → GateFits rule gate
fit_gate rule grace mercy first new gate fit on is same_grace same_mercy =
    let now : first.last ≤ gate.moment = subst (λ (n : ℕ). first.last ≤ n) is.last on.rises in
    let since : IsAmid (told first) (told new) gate.moment = record {
      from = now;
      to = omega (arith, is.last);
      within = subst (λ (w : Option (ℕ × ℕ)). IsWithin w gate.moment) on.window is.within;
    } in
    subst (λ (n : ℕ). GateFits rule (gate_with gate.moment gate.tripped n gate.mercy)) (sym (is.grace ∙ same_grace))
    (subst (λ (n : ℕ). GateFits rule (gate_with gate.moment gate.tripped grace n)) (sym (is.mercy ∙ same_mercy)) (fit gate.moment gate.tripped since (word_shown new gate is)))

module _ {V B C R F FTask GTask H HTask K KTask N : Type 0} (rel : Relations V B C R F FTask GTask H HTask K KTask) (first : Beginning V B C) (tables : SeenTables F H K N V) where
  -- one that was Pending goes on
  pub goes_on : (waits : Gate → B → B → Type 0) (gate : Gate) (phase : Option (SeenPhase V B C R F FTask GTask H HTask K KTask N)) → ExchangeGives rel first tables waits gate phase Pending → InvariantFor rel first tables phase
  goes_on waits gate None gives = absurd gives
  goes_on waits gate (Some now) gives = gives.0

  pub ended_back : (ended : EndedOf C R Handle) → EndsSo rel first tables ended → HandsBack first.at.kept.shutdown (handle_of ended)
  ended_back (Finished run response handle) ends = ends.backs.hands_back
  ended_back (Starved handle) ends = ends

  pub ended_words : (ended : EndedOf C R Handle) → EndsSo rel first tables ended → IfFinished ended (λ run response. All (Sees (handle_of ended)) run.calls)
  ended_words (Finished run response handle) ends = ends.backs.words
  ended_words (Starved handle) ends = tt

  pub ended_moment : (ended : EndedOf C R Handle) → EndsSo rel first tables ended → IfFinished ended (λ run response. InWindow rel.gates.window run.moment)
  ended_moment (Finished run response handle) ends = subst (λ m. InWindow rel.gates.window m) ends.moment.2 ends.moment.1.moment
  ended_moment (Starved handle) ends = tt

-- the moment of a run, which both windows hold
pub run_amid : {C R : Type 0} (old new : ClockMeaning) (ended : EndedOf C R Handle) → IfFinished ended (λ run response. InWindow old.window run.moment)
    → IfFinished ended (λ run response. InWindow (Some (old.last, new.last)) run.moment) → IfFinished ended (λ run response. IsAmid old new run.moment)
run_amid old new (Finished run response handle) within between = record { from = between.0; to = between.1; within = within_window old.window run.moment within }
run_amid old new (Starved handle) within between = tt

module _ {V S C R F FTask GTask H HTask K KTask N : Type 0} (callbacks : GateRule → Relations V (Body (Cancellable S)) C R F FTask GTask H HTask K KTask)
    (rule : GateRule) (tables : SeenTables F H K N V) (sources : S → Meaning) where
  pub ended_lifecycle : (asked : Asked) (head : Head) (source : S) (handle : Handle) (exchange : SeenExchange V (Body (Cancellable S)) C R F FTask GTask H HTask K KTask N) (ended : EndedOf C R Handle)
      → asked.head ≡ head → IsUntouched (sources source) → GivesBody asked (sources source) → (begun : IsBegun callbacks tables head source handle exchange)
      → EndsSo (callbacks rule) (beginning begun.request begun.jar begun.faults (body_from source) handle) tables ended
      → IfFinished ended (Lifecycle (callbacks rule) tables sources asked)
  ended_lifecycle asked head source handle exchange (Starved back) same untouched gives begun ends = tt
  ended_lifecycle asked head source handle exchange (Finished run response back) same untouched gives begun ends = record {
    request = begun.request;
    jar = begun.jar;
    faults = begun.faults;
    incoming = subst (λ h. IsIncoming h tables.config tables.managed begun.request begun.jar begun.faults) (sym same) begun.incoming;
    source = source;
    untouched = untouched;
    gives = gives;
    before = handle;
    after = back;
    leads = ends.lifecycle;
    backs = ends.backs;
  }

-- of an exchange that has ended, or waits
module _ {E : Type 0} where
  pub if_ended : (ended : Option E) (May : Type 0) (P Q : E → Type 0) → ((e : E) → P e → Q e) → MatchOption ended May P → IfSome ended Q
  if_ended None May P Q so known = tt
  if_ended (Some e) May P Q so known = so e known

  pub if_waits : (ended : Option E) (May : Type 0) (P : E → Type 0) → IsNone ended → MatchOption ended May P → May
  if_waits None May P none known = known
  if_waits (Some e) May P none known = absurd (cc none)

  pub if_so : (ended : Option E) (P Q R : E → Type 0) → ((e : E) → P e → Q e → R e) → IfSome ended P → IfSome ended Q → IfSome ended R
  if_so None P Q R so one two = tt
  if_so (Some e) P Q R so one two = so e one two
