-- What a link holds, piece by piece.
use Rattle.std.proofs.Common.{◌≡◌, ◌≤◌, ◌+◌, ◌++◌, ℕ, Bool, false, true, IsSome, IsTrue, arith, subst, List, [], Option, Some, None, option_map, inl, inr, ap, ◌∙◌, sym, refl, append_assoc, append-nil}
use Rattle.std.proofs.lemmas.Grind.{common_steps}
use Rattle.std.specs.Option.{ForSome}
use Rattle.rkt_source.specs.Source.{Meaning}
use Rattle.rkt_source.specs.Cancel.{Cancellable, cut_of, saw_of}
use Rattle.rkt_source.specs.declared.stage.Stage.TheVariants.{Active}
use Rattle.rkt_exchange.specs.Tables.{SeenTables, table_of}
use Rattle.rkt_exchange.specs.declared.ended.RunOf.{RunOf}
use Rattle.rkt_message.specs.Reading.{ReadsOn}
use Rattle.rkt_message.specs.Response.{ResponseOf}
use Rattle.rkt_message.specs.Sending.{ReadOn}
use Rattle.rkt_message.specs.declared.piece.Piece.{Piece}
use Rattle.rkt_routing.specs.Routed.{turns_of}
use Rattle.rkt_worker.proofs.Cutting.{some_word}
use Rattle.rkt_worker.specs.Causes.{CausedAs, Caused, Ran}
use Rattle.rkt_worker.specs.Gates.{IsCutOff, Watched, word_in}
use Rattle.rkt_worker.specs.Lifecycle.{Lifecycle}
use Rattle.rkt_link.specs.Link.{LinkMeaning, with_taken}
use Rattle.rkt_worker.specs.Sent.{IsSentAs, LeftBy, fault_count}
use Rattle.rkt_worker.specs.Serving.{Serving, callbacks_of}
use Rattle.rkt_worker.specs.Waiting.{MayBePending}
use Rattle.rkt_board.specs.declared.history.End.{End as Ending}
use Rattle.rkt_board.specs.declared.history.End.TheVariants.{Answered, Lost, Cut, Failed, Abandoned, Starved}
use Rattle.rkt_board.specs.declared.history.EntryOf.{EntryOf}

taken_none : (h : Option (List Piece)) → option_map (λ held. held ++ []) h ≡ h
taken_none None = refl
taken_none (Some xs) = ap (λ (ys : List Piece). Some ys) (append-nil xs)

taken_more : (h : Option (List Piece)) (ps qs : List Piece) → option_map (λ held. held ++ qs) (option_map (λ held. held ++ ps) h) ≡ option_map (λ held. held ++ (ps ++ qs)) h
taken_more None ps qs = refl
taken_more (Some xs) ps qs = ap (λ (ys : List Piece). Some ys) (append_assoc xs ps qs)

pub with_taken-nil : (link : LinkMeaning) → with_taken link [] ≡ link
with_taken-nil link = ap (λ h. record link { held = h }) (taken_none link.held)

pub with_taken-with_taken : (link : LinkMeaning) (ps qs : List Piece) → with_taken (with_taken link ps) qs ≡ with_taken link (ps ++ qs)
with_taken-with_taken link ps qs = ap (λ h. record link { held = h }) (taken_more link.held ps qs)

-- what was held before, and then these pieces
held_only : (h : Option (List Piece)) (pieces held : List Piece) → ForSome h (λ old. old ≡ []) → option_map (λ old. old ++ pieces) h ≡ Some held → held ≡ pieces
held_only None pieces held fresh is = absurd (cc is)
held_only (Some old) pieces held fresh is = let empty : old ≡ [] = fresh old refl in grind (arith, common_steps, empty, is)

-- what a link asks and holds that took these pieces, however that ended
left_asked : (ended : Ending) (old new : LinkMeaning) (taken : List Piece) → LeftBy ended old taken new → new.asked ≡ old.asked
left_asked Answered old new taken left = ap (λ (m : LinkMeaning). m.asked) left
left_asked Lost old new taken left = ap (λ (m : LinkMeaning). m.asked) left.only
left_asked (Cut saw cut) old new taken left = ap (λ (m : LinkMeaning). m.asked) left
left_asked (Failed failure) old new taken left = ap (λ (m : LinkMeaning). m.asked) left
left_asked Abandoned old new taken left = ap (λ (m : LinkMeaning). m.asked) left
left_asked Starved old new taken left = ap (λ (m : LinkMeaning). m.asked) left

left_held : (ended : Ending) (old new : LinkMeaning) (taken : List Piece) → LeftBy ended old taken new → new.held ≡ (with_taken old taken).held
left_held Answered old new taken left = ap (λ (m : LinkMeaning). m.held) left
left_held Lost old new taken left = ap (λ (m : LinkMeaning). m.held) left.only
left_held (Cut saw cut) old new taken left = ap (λ (m : LinkMeaning). m.held) left
left_held (Failed failure) old new taken left = ap (λ (m : LinkMeaning). m.held) left
left_held Abandoned old new taken left = ap (λ (m : LinkMeaning). m.held) left
left_held Starved old new taken left = ap (λ (m : LinkMeaning). m.held) left

-- a link that had not failed has failed once where it lost its response
left_faults : (ended : Ending) (old new : LinkMeaning) (taken : List Piece) → LeftBy ended old taken new → old.faults ≡ 0 → new.faults ≡ fault_count ended
left_faults Answered old new taken left none = ap (λ (m : LinkMeaning). m.faults) left ∙ none
left_faults Lost old new taken left none = omega (arith, left.once, none)
left_faults (Cut saw cut) old new taken left none = ap (λ (m : LinkMeaning). m.faults) left ∙ none
left_faults (Failed failure) old new taken left none = ap (λ (m : LinkMeaning). m.faults) left ∙ none
left_faults Abandoned old new taken left none = ap (λ (m : LinkMeaning). m.faults) left ∙ none
left_faults Starved old new taken left none = ap (λ (m : LinkMeaning). m.faults) left ∙ none

-- one that was lost does not say that it never fails
lost_may : (old new : LinkMeaning) (taken : List Piece) → LeftBy Lost old taken new → new.never_faults ≡ false
lost_may old new taken left = ap (λ (m : LinkMeaning). m.never_faults) left.only ∙ left.may

module _ {V S C R F FTask GTask H HTask K KTask L N : Type 0} (served : Serving V S C R F FTask GTask H HTask K KTask L) (tables : SeenTables F H K N V) (seen : Option ℕ) (entry : EntryOf C R L) (old : LinkMeaning) (run : RunOf C) (first response : ResponseOf R) where
  -- a run whose response was sent on a fresh link, and that is kept
  ran_sent : (ended : Ending) (taken : List Piece) → entry ≡ record { link = entry.link; run = Some run; response = Some response; end = ended }
      → (shown : Bool) → (IsTrue shown → IsSome seen) → ForSome old.asked (λ asked. Lifecycle (callbacks_of served tables shown) tables served.sources asked run first) → ForSome old.held (λ held. held ≡ []) → old.faults ≡ 0 → ReadOn served.streams first response
      → ReadsOn served.streams seen first.body.content response.body.content → IsSentAs served.streams (turns_of (table_of tables)) first response ended taken → LeftBy ended old taken (served.links entry.link.io) → Ran served tables seen entry ended
  ran_sent ended taken is shown behind lifecycle fresh none on reads sent left = record {
    run = run;
    run_kept = ap (λ (e : EntryOf _ _ _). e.run) is;
    first = first;
    shown = shown;
    behind = behind;
    lifecycle = λ asked told. lifecycle asked (sym (left_asked ended old (served.links entry.link.io) taken left) ∙ told);
    response = response;
    response_kept = ap (λ (e : EntryOf _ _ _). e.response) is;
    read_on = on;
    reads = reads;
    pieces = taken;
    sent = sent;
    held = λ held told. held_only old.held taken held fresh (sym (left_held ended old (served.links entry.link.io) taken left) ∙ told);
    faults = left_faults ended old (served.links entry.link.io) taken left none;
  }

  -- so its end has its cause
  caused_at : (ended : Ending) (taken : List Piece) → Ran served tables seen entry ended → IsSentAs served.streams (turns_of (table_of tables)) first response ended taken → LeftBy ended old taken (served.links entry.link.io)
      → (watched : Watched) → word_in watched.trip ≡ seen → watched.grace ≡ tables.config.grace → IsCutOff watched entry.link.stage ended → CausedAs served tables seen entry ended
  caused_at Starved taken ran sent left watched word grace cut = inr ran
  caused_at Abandoned taken ran sent left watched word grace cut = absurd sent
  caused_at Answered taken ran sent left watched word grace cut = ran
  caused_at Lost taken ran sent left watched word grace cut = (ran, lost_may old (served.links entry.link.io) taken left)
  caused_at (Failed failure) taken ran sent left watched word grace cut = ran
  caused_at (Cut saw at) taken ran sent left watched word grace cut = (
    ran,
    record {
      tripped = subst IsSome (ap word_in (sym cut.1.seen.tripped.1) ∙ word) (some_word cut.1.seen.tripped.0);
      saw_there = ap saw_of cut.0;
      cut_there = ap cut_of cut.0;
      grace = subst (λ (n : ℕ). saw + n ≤ at) grace cut.1.grace;
    },
  )

  pub caused_sent : (ended : Ending) (taken : List Piece) → entry ≡ record { link = entry.link; run = Some run; response = Some response; end = ended }
      → (shown : Bool) → (IsTrue shown → IsSome seen) → ForSome old.asked (λ asked. Lifecycle (callbacks_of served tables shown) tables served.sources asked run first) → ForSome old.held (λ held. held ≡ []) → old.faults ≡ 0 → ReadOn served.streams first response
      → ReadsOn served.streams seen first.body.content response.body.content → IsSentAs served.streams (turns_of (table_of tables)) first response ended taken → LeftBy ended old taken (served.links entry.link.io)
      → (watched : Watched) → word_in watched.trip ≡ seen → watched.grace ≡ tables.config.grace → IsCutOff watched entry.link.stage ended → Caused served tables seen entry
  caused_sent ended taken is shown behind lifecycle fresh none on reads sent left watched word grace cut =
      subst (CausedAs served tables seen entry) (sym (ap (λ (e : EntryOf _ _ _). e.end) is)) (caused_at ended taken (ran_sent ended taken is shown behind lifecycle fresh none on reads sent left) sent left watched word grace cut)

-- nothing was sent on a link that held nothing and had not failed
module _ {V S C R F FTask GTask H HTask K KTask L N : Type 0} (served : Serving V S C R F FTask GTask H HTask K KTask L) (tables : SeenTables F H K N V) (seen : Option ℕ)
    (entry : EntryOf C R L) (io : Cancellable L) (active : io.stage ≡ Active) (fresh : ForSome (served.links io.io).held (λ held. held ≡ [])) (none : (served.links io.io).faults ≡ 0) where
  -- of an exchange for which there was no memory
  pub starved_unsent : entry ≡ record { link = io; run = None; response = None; end = Starved } → Caused served tables seen entry
  starved_unsent is = subst (Caused served tables seen) (sym is) (inl (record { run = refl; response = refl; held = fresh; faults = none; stage = active }))

  -- of one that was left alone behind a Trip, where one may be Pending
  pub abandoned_unsent : entry ≡ record { link = io; run = None; response = None; end = Abandoned } → IsSome seen → MayBePending (callbacks_of served tables true) served.sources tables
      → Caused served tables seen entry
  abandoned_unsent is tripped waits = subst (Caused served tables seen) (sym is) (tripped, record { run = refl; response = refl; held = fresh; faults = none; stage = active }, waits)

-- how a sending ended, said of equal values
pub ended_as : {S : Type 0} (stream : S → Meaning) (answer : Ending) (turns n : ℕ) (begun first last left : ResponseOf S) (old new : LinkMeaning) → turns ≡ n → begun ≡ first → last ≡ left
    → (taken : List Piece) × IsSentAs stream turns begun last answer taken × LeftBy answer old taken new
    → (taken : List Piece) × IsSentAs stream n first left answer taken × LeftBy answer old taken new
ended_as stream e turns n begun first last left old new same_turns same_first same_left ended = (
  ended.0,
  subst (λ (p : ResponseOf _). IsSentAs stream n first p e ended.0) same_left
      (subst (λ (p : ResponseOf _). IsSentAs stream n p last e ended.0) same_first (subst (λ (k : ℕ). IsSentAs stream k begun last e ended.0) same_turns ended.1)),
  ended.2,
)
