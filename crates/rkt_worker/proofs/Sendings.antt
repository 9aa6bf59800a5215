-- How a response is sent, piece by piece.
use Rattle.std.proofs.Common.{◌≡◌, ◌≢◌, ◌≤◌, ◌++◌, ◌∙◌, ◌⊎◌, inl, inr, ℕ, Bool, true, false, Result, Ok, Err, IfOk, List, [], ◌∷◌, Option, Some, arith, refl, ap, sym, subst, map, append_assoc, append-nil}
use Rattle.rkt_base.specs.Counts.{Rose}
use Rattle.rkt_base.specs.Poll.{IfReadyOk}
use Rattle.rkt_base.specs.declared.poll.Poll.TheVariants.{Ready}
use Rattle.rkt_source.specs.Source.{Meaning, Keeps, Errs}
use Rattle.rkt_source.specs.declared.source.SourceError.{SourceError}
use Rattle.rkt_source.specs.declared.source.SourceError.TheVariants.{SourceFault, Gone, TimedOut}
use Rattle.rkt_message.specs.Reading.{ReadsOn, StreamErrs}
use Rattle.rkt_message.specs.Response.{ResponseOf}
use Rattle.rkt_message.specs.Sending.{Gives, GivesUp, IsFront, MayWait, OwesBehindHead, ReadOn, Sending, Waits, is_end}
use Rattle.rkt_message.specs.Sent.{Sent, SentBody, has_head}
use Rattle.rkt_message.specs.declared.content.Content.{Content}
use Rattle.rkt_message.specs.declared.content.Content.TheVariants as content
use Rattle.rkt_message.specs.declared.piece.Piece.{Piece}
use Rattle.rkt_message.specs.declared.piece.Piece.TheVariants.{Head, Chunk, End}
use Rattle.rkt_message.specs.declared.piece.PieceError.{PieceError}
use Rattle.rkt_source.specs.Cancel.{Cancellable}
use Rattle.rkt_link.specs.Link.{LinkMeaning, Faults, with_taken}
use Rattle.rkt_board.specs.declared.history.End.{End as Ending}
use Rattle.rkt_board.specs.declared.history.End.TheVariants.{Answered, Lost, Cut, Failed, Abandoned, Starved}
use Rattle.rkt_worker.specs.Gates.{Watched}
use Rattle.rkt_worker.specs.Handing.{PutAs}
use Rattle.rkt_worker.specs.Progress.{Advances, PartlySent}
use Rattle.rkt_worker.specs.Sent.{BodyFails, IsProperFront, IsSentAs, LeftBy}

rose_before : (a b c : ℕ) → a ≤ b → Rose b c → Rose a c
rose_before a b c less rose = omega (arith, less, rose)

module _ {S : Type 0} (stream : S → Meaning) where
  -- what a state is that was polled, and only was Pending
  pub record Waited (first now : Sending S) : Type 0 where
    pub begun : now.begun ≡ first.begun
    pub turns : now.turns ≡ first.turns
    pub given : now.given ≡ first.given
    pub over : now.is_over ≡ first.is_over
    pub read_on : now.given ≢ [] → ReadOn stream now.begun now.response

  pub waited_none : (first : Sending S) → (first.given ≢ [] → ReadOn stream first.begun first.response) → Waited first first
  waited_none first on = record { begun = refl; turns = refl; given = refl; over = refl; read_on = on }

  pub waited_more : (first now next : Sending S) → Waited first now → Waits stream now next → next.begun ≡ now.begun → next.turns ≡ now.turns → ReadOn stream next.begun next.response → Waited first next
  waited_more first now next waited waits begun turns on = record {
    begun = begun ∙ waited.begun;
    turns = turns ∙ waited.turns;
    given = waits.given ∙ waited.given;
    over = waits.over ∙ waited.over;
    read_on = λ some. on;
  }

  pub waited_gives : (first now next : Sending S) (piece : Piece) → Waited first now → Gives stream now piece next → IsFront stream next → Advances stream first piece next
  waited_gives first now next piece waited gives front = record {
    given = gives.given ∙ ap (λ (ps : List Piece). ps ++ piece ∷ []) waited.given;
    over = gives.over;
    front = front;
  }

  -- what a poll gave that was ready
  pub ready_gives : (first now next : Sending S) (answer : Result Piece PieceError) → Waited first now → IfReadyOk (Ready answer) (λ piece. Gives stream now piece next) → IfReadyOk (Ready answer) (λ piece. IsFront stream next)
      → IfOk answer (λ piece. Advances stream first piece next)
  ready_gives first now next (Ok piece) waited gives front = waited_gives first now next piece waited gives front
  ready_gives first now next (Err e) waited gives front = tt

  -- no head could be formed of what was begun
  pub no_head : (first now : Sending S) → Waited first now → (now.given ≡ []) × (has_head now.begun ≡ false) → (first.given ≡ []) × (has_head first.begun ≡ false)
  no_head first now waited none = (sym waited.given ∙ none.0, subst (λ (p : ResponseOf S). has_head p ≡ false) waited.begun none.1)

  errs_before : (trip : Option ℕ) (e : SourceError) (a b c : Meaning) → Keeps trip a b → Errs e b c → Errs e a c
  errs_before trip SourceFault a b c keeps errs = (rose_before a.faults b.faults c.faults keeps.faults errs.0, sym keeps.never_faults ∙ errs.1)
  errs_before trip Gone a b c keeps errs = errs
  errs_before trip TimedOut a b c keeps errs = errs

  stream_errs : (trip : Option ℕ) (e : SourceError) (s t : S) (d : Content S) → Keeps trip (stream s) (stream t) → StreamErrs stream e (content.Streamed t) d → StreamErrs stream e (content.Streamed s) d
  stream_errs trip e s t (content.Streamed u) keeps errs = errs_before trip e (stream s) (stream t) (stream u) keeps errs
  stream_errs trip e s t content.None keeps errs = absurd errs
  stream_errs trip e s t content.UnsizedNone keeps errs = absurd errs
  stream_errs trip e s t (content.Sized rest size) keeps errs = absurd errs
  stream_errs trip e s t (content.Phantom length size) keeps errs = absurd errs

  -- a source that was read on, and then refused, has refused
  refused : (trip : Option ℕ) (e : SourceError) (b c d : Content S) → ReadsOn stream trip b c → StreamErrs stream e c d → StreamErrs stream e b d
  refused trip e content.None c d on errs = absurd (subst (λ (x : Content S). StreamErrs stream e x d) on errs)
  refused trip e content.UnsizedNone c d on errs = absurd (subst (λ (x : Content S). StreamErrs stream e x d) on errs)
  refused trip e (content.Sized rest size) c d on errs = absurd (subst (λ (x : Content S). StreamErrs stream e x d) on.2 errs)
  refused trip e (content.Phantom length size) c d on errs = absurd (subst (λ (x : Content S). StreamErrs stream e x d) on.1 errs)
  refused trip e (content.Streamed s) c d on errs = stream_errs trip e s on.0 d on.2 (subst (λ (x : Content S). StreamErrs stream e x d) on.1 errs)

  -- and its bound was the same before
  bounded : (trip : Option ℕ) (turns : ℕ) (b c : Content S) → ReadsOn stream trip b c → MayWait stream turns c → MayWait stream turns b
  bounded trip turns content.None c on may = absurd (subst (MayWait stream turns) on may)
  bounded trip turns content.UnsizedNone c on may = absurd (subst (MayWait stream turns) on may)
  bounded trip turns (content.Sized rest size) c on may = absurd (subst (MayWait stream turns) on.2 may)
  bounded trip turns (content.Phantom length size) c on may = absurd (subst (MayWait stream turns) on.1 may)
  bounded trip turns (content.Streamed s) c on may = subst (λ (n : ℕ). turns ≤ n) on.2.pendings (subst (MayWait stream turns) on.1 may)

  fails_by : (begun : ResponseOf S) (now next : Sending S) → ReadOn stream begun now.response → GivesUp stream now next → BodyFails stream now.turns begun next.response
  fails_by begun now next on (inl errs) = inl (errs.0, refused on.0 errs.0 begun.body.content now.response.body.content next.response.body.content on.1.body.content errs.1)
  fails_by begun now next on (inr spent) = inr (bounded on.0 now.turns begun.body.content now.response.body.content on.1.body.content spent.bound)

  -- a body that is given up has failed since the response was begun
  pub waited_fails : (first now next : Sending S) → Waited first now → now.given ≢ [] → GivesUp stream now next → BodyFails stream first.turns first.begun next.response
  waited_fails first now next waited some gives_up =
      subst (λ (n : ℕ). BodyFails stream n first.begun next.response) waited.turns
      (subst (λ (p : ResponseOf S). BodyFails stream now.turns p next.response) waited.begun (fails_by now.begun now next (waited.read_on some) gives_up))

  -- nothing was sent yet
  pub sent_nothing : (first : Sending S) → first.is_over ≡ false → first.given ≡ [] → PartlySent stream first first []
  sent_nothing first going none = record {
    begun = refl;
    turns = refl;
    going = going;
    given = none;
    at_head = λ same. refl;
    head_sent = λ some. absurd (some none);
    read_on = λ some. absurd (some none);
    front = λ some. absurd (some none);
  }

  some_left : (chunks : List (List ℕ)) (pieces : List Piece) → pieces ≡ map Chunk chunks ++ End ∷ [] → pieces ≢ []
  some_left [] pieces is none = absurd (cc (is, none))
  some_left (c ∷ cs) pieces is none = absurd (cc (is, none))

  some_behind : (taken : List Piece) (piece : Piece) → (taken ++ piece ∷ []) ≢ []
  some_behind [] piece none = absurd (cc none)
  some_behind (p ∷ ps) piece none = absurd (cc none)

  not_over : (piece : Piece) → piece ≢ End → is_end piece ≡ false
  not_over (Head status headers) other = refl
  not_over (Chunk bytes) other = refl
  not_over End other = absurd (other refl)

  -- what was given, with what is owed behind it, is what the response is sent as
  whole : (first next : Sending S) (given rest : List Piece) → next.begun ≡ first.begun → next.given ≡ given → Sent stream next.begun (next.given ++ rest) → Sent stream first.begun (given ++ rest)
  whole first next given rest begun is sent =
      subst (λ (p : ResponseOf S). Sent stream p (given ++ rest)) begun (subst (λ (ps : List Piece). Sent stream next.begun (ps ++ rest)) is sent)

  -- one piece more was sent, which is not the last
  pub sent_more : (first now next : Sending S) (taken : List Piece) (piece : Piece) → PartlySent stream first now taken → Advances stream now piece next → next.begun ≡ now.begun → next.turns ≡ now.turns
      → ReadOn stream next.begun next.response → piece ≢ End → PartlySent stream first next (taken ++ piece ∷ [])
  sent_more first now next taken piece partly advances begun turns on other =
      let going : next.is_over ≡ false = advances.over ∙ not_over piece other in
      let given : next.given ≡ taken ++ piece ∷ [] = advances.given ∙ ap (λ (ps : List Piece). ps ++ piece ∷ []) partly.given in
      record {
        begun = begun ∙ partly.begun;
        turns = turns ∙ partly.turns;
        going = going;
        given = given;
        at_head = λ none. sym given ∙ none;
        head_sent = λ some. some_behind taken piece;
        read_on = λ some. on;
        front = λ some.
            let rest = advances.front.goes_on in
            let left : SentBody stream next.response.body rest.0 = subst (λ (over : Bool). OwesBehindHead stream over next.response.body rest.0) going rest.1 in
            (rest.0, some_left left.0 rest.0 left.3, whole first next (taken ++ piece ∷ []) rest.0 (begun ∙ partly.begun) given (advances.front.completed rest.0 rest.1));
      }

  -- a piece that goes on was made, and nothing more is sent
  pub sent_front : (first now next : Sending S) (taken : List Piece) (piece : Piece) → PartlySent stream first now taken → Advances stream now piece next → next.begun ≡ now.begun → IsProperFront (Sent stream first.begun) taken
  sent_front first now next taken piece partly advances begun =
      let rest = advances.front.goes_on in
      let given : next.given ≡ taken ++ piece ∷ [] = advances.given ∙ ap (λ (ps : List Piece). ps ++ piece ∷ []) partly.given in (
        piece ∷ rest.0,
        λ none. absurd (cc none),
        subst (Sent stream first.begun) (append_assoc taken (piece ∷ []) rest.0) (whole first next (taken ++ piece ∷ []) rest.0 (begun ∙ partly.begun) given (advances.front.completed rest.0 rest.1)),
      )

  -- a body failed of which some pieces were sent
  pub sent_fails : (first now : Sending S) (taken : List Piece) (last : ResponseOf S) → PartlySent stream first now taken → (now.given ≢ []) × BodyFails stream now.turns now.begun last
      → BodyFails stream first.turns first.begun last × IsProperFront (Sent stream first.begun) taken × (taken ≢ [])
  sent_fails first now taken last partly fault = (
    subst (λ (n : ℕ). BodyFails stream n first.begun last) partly.turns (subst (λ (p : ResponseOf S). BodyFails stream now.turns p last) partly.begun fault.1),
    partly.front fault.0,
    partly.head_sent fault.0,
  )

  -- the last piece was sent
  pub sent_all : (first now next : Sending S) (taken : List Piece) (piece : Piece) → PartlySent stream first now taken → Advances stream now piece next → next.begun ≡ now.begun → piece ≡ End
      → Sent stream first.begun (taken ++ piece ∷ [])
  sent_all first now next taken piece partly advances begun last =
      let over : next.is_over ≡ true = advances.over ∙ ap is_end last in
      let given : next.given ≡ taken ++ piece ∷ [] = advances.given ∙ ap (λ (ps : List Piece). ps ++ piece ∷ []) partly.given in
      let nothing = subst (λ (o : Bool). OwesBehindHead stream o next.response.body []) (sym over) refl in
      subst (Sent stream first.begun) (append-nil (taken ++ piece ∷ [])) (whole first next (taken ++ piece ∷ []) [] (begun ∙ partly.begun) given (advances.front.completed [] nothing))

-- what was sent so far is nothing, or a part
pub starved_part : {S : Type 0} (stream : S → Meaning) (first now : Sending S) (taken : List Piece) → PartlySent stream first now taken → (taken ≡ []) ⊎ IsProperFront (Sent stream first.begun) taken
starved_part stream first now [] partly = inl refl
starved_part stream first now (p ∷ ps) partly = inr (partly.front (λ none. cc (sym partly.given ∙ none)))

-- a piece that is not taken ends the response, of which a front was sent
pub put_ends : {K S : Type 0} (links : K → LinkMeaning) (stream : S → Meaning) (watched : Watched) (old new : Cancellable K) (piece : Piece) (ended : Ending) (turns : ℕ) (first last : ResponseOf S) (taken : List Piece) (link : LinkMeaning)
    → PutAs links watched old piece new (Some ended) → IsProperFront (Sent stream first) taken → links old.io ≡ with_taken link taken → IsSentAs stream turns first last ended taken × LeftBy ended link taken (links new.io)
put_ends links stream watched old new piece Lost turns first last taken link put front same = (front, subst (λ (m : LinkMeaning). Faults m (links new.io)) same put)
put_ends links stream watched old new piece (Cut saw cut) turns first last taken link put front same = (front, put.0 ∙ same)
put_ends links stream watched old new piece Answered turns first last taken link put front same = absurd put
put_ends links stream watched old new piece (Failed failure) turns first last taken link put front same = absurd put
put_ends links stream watched old new piece Abandoned turns first last taken link put front same = absurd put
put_ends links stream watched old new piece Starved turns first last taken link put front same = (inr front, put ∙ same)
