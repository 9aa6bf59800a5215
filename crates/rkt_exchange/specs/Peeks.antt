-- What a peek at the front of a body leaves of it.
use Rattle.std.specs.Prelude.{◌≡◌, ◌≤◌, ◌⊎◌, ◌++◌, ⊤, ℕ, IsTrue, List, Option, None, Some, Result, length, max, take}
use Rattle.std.specs.List.{All}
use Rattle.rkt_base.specs.declared.poll.Poll.{Poll}
use Rattle.rkt_base.specs.declared.poll.Poll.TheVariants.{Pending, Ready}
use Rattle.rkt_source.specs.Cancel.{Cancellable, ReadsCut, Runs, cut_meaning}
use Rattle.rkt_data.specs.Body.{Body, FrontOf, PeekStops, Peeked, PeeksByGate, TakenIsHeld, WasRefused}
use Rattle.rkt_data.specs.CountedSource.{ByGate, SameTap, Tapped, body}
use Rattle.rkt_http.specs.declared.method.Method.{Method}
use Rattle.rkt_router.specs.Calls.{GateFits, GateRule}
use Rattle.rkt_routing.specs.declared.progress.Progress.{Progress}
use Rattle.rkt_routing.specs.declared.progress.Progress.TheVariants as progress
use Rattle.rkt_request.specs.Seen.{Seen}
use Rattle.rkt_source.specs.Source.{Meaning, Polled}
use Rattle.rkt_source.specs.declared.source.Gate.{Gate}
use Rattle.rkt_source.specs.declared.source.SourceError.{SourceError}
use Rattle.rkt_dispatch.specs.Overridden.{Overridden, method_in}
use Rattle.rkt_exchange.specs.declared.peeking.PeekingOf.{PeekingOf}

module _ {S : Type 0} (meaning : S → Meaning) where
  -- what a peek of so many bytes leaves of a body, in however many polls, each under a Gate of the rule: it is the same
  -- body, of which more may be held, and it shows its first bytes, fewer only where it has no more or where a read was
  -- refused
  pub record PeekOf (rule : GateRule) (num : ℕ) (b : Body S) (shown : List ℕ) (c : Body S) : Type 0 where
    pub body : body meaning c.held c.tap ≡ body meaning b.held b.tap
    pub held : (more : List ℕ) × (c.held ≡ b.held ++ more)
    pub front : shown ≡ take num c.held
    pub first : FrontOf meaning c
    pub bound : length c.held ≤ max (length b.held) num
    pub stops : (num ≤ length c.held) ⊎ (IsTrue c.complete ⊎ WasRefused meaning b.tap c.tap)
    -- it is the same source, and keeps what no read under a Gate of the rule changes
    pub tap : (gate : Gate) × GateFits rule gate × SameTap meaning gate.tripped b.tap c.tap
    -- no more was taken from it than is held
    pub taken : TakenIsHeld meaning c
    pub complete : IsTrue b.complete → IsTrue c.complete

  -- a poll under this Gate has left the body so, since its source was Pending in it
  pub record PeekWaits (polled : Polled S) (num : ℕ) (gate : Gate) (b c : Body S) : Type 0 where
    pub peeked : Peeked meaning gate.tripped num b c
    pub stops : PeekStops meaning num b c Pending
    pub by_gate : ByGate polled gate Pending b.tap c.tap

  -- a poll under this Gate has left the body so, and the peek is over; none but the last of its reads was refused
  pub record PeekEnds (polled : Polled S) (num : ℕ) (gate : Gate) (b c : Body S) : Type 0 where
    pub peeked : Peeked meaning gate.tripped num b c
    pub stops : PeekStops meaning num b c (Ready tt)
    pub by_gate : PeeksByGate {X = Unit {0}} polled gate (Ready tt) b c

  -- what a poll under this Gate answers: the method that the first 14 bytes set
  abbrev pub MethodPeeked : Polled S → Gate → Body S → Body S → Poll (Option Method) → Type 0
  MethodPeeked polled gate b c Pending = PeekWaits polled 14 gate b c
  MethodPeeked polled gate b c (Ready method) = PeekEnds polled 14 gate b c × (method ≡ method_in (take 14 c.held))

  -- what a poll under this Gate makes of a request whose body is peeked at: only the body changes, until the peek is
  -- over and the method is set
  abbrev pub PeekGives : {V X : Type 0} → Polled S → Gate → PeekingOf (Seen V) (Body S) X
      → Progress (PeekingOf (Seen V) (Body S) X) (PeekingOf (Seen V) (Body S) X)
      → Type 0
  PeekGives polled gate p (progress.Pending q) = (q ≡ record p { body = q.body }) × PeekWaits polled 14 gate p.body q.body
  PeekGives polled gate p (progress.Ready q) =
      (q.ctx ≡ p.ctx) × PeekEnds polled 14 gate p.body q.body × Overridden p.request (take 14 q.body.held) q.request

-- what a source means that may be cut off, and how it is read
abbrev pub cuts : {S : Type 0} → (S → Meaning) → Cancellable S → Meaning
cuts meaning s = cut_meaning s.stage (meaning s.io)

abbrev pub cut_reads : {S : Type 0} → (S → Poll (Unit {0}) → S → Type 0) → Polled S → Polled (Cancellable S)
cut_reads shuts polled = ReadsCut shuts polled

-- it is the same source, and calls under Gates of the rule, one after another, led its machine from the first stage to
-- the second
abbrev pub RanBy : {S : Type 0} → GateRule → Option (Tapped (Cancellable S)) → Option (Tapped (Cancellable S)) → Type 0
RanBy rule None None = ⊤
RanBy rule None (Some u) = ⊥
RanBy rule (Some t) None = ⊥
RanBy rule (Some t) (Some u) = (gates : List Gate) × All (GateFits rule) gates × Runs gates t.now.stage u.now.stage

-- a peek of 14 bytes, as many as _method=delete has, of a body whose source may be cut off
pub record CutPeekOf {S : Type 0} (meaning : S → Meaning) (rule : GateRule) (b : Body (Cancellable S)) (shown : List ℕ)
    (c : Body (Cancellable S)) : Type 0 where
  pub peek : PeekOf (cuts meaning) rule 14 b shown c
  pub machine : RanBy rule b.tap c.tap

abbrev pub peeks_of : {S : Type 0} → (S → Meaning) → GateRule → Body (Cancellable S) → List ℕ → Body (Cancellable S) → Type 0
peeks_of meaning rule b shown c = CutPeekOf meaning rule b shown c

-- its source was Pending in the poll under this Gate
abbrev pub waits_of : {S : Type 0} → (S → Meaning) → (S → Poll (Unit {0}) → S → Type 0) → Polled S → Gate → Body (Cancellable S)
    → Body (Cancellable S) → Type 0
waits_of meaning shuts polled gate b c = PeekWaits (cuts meaning) (cut_reads shuts polled) 14 gate b c
