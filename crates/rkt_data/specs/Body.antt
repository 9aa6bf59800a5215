-- What contracts see of a body that is not opened yet.
use Rattle.std.specs.Borrow.{Bor}
use Rattle.std.specs.Option.{ForSome}
use Rattle.std.specs.Prelude.{◌≡◌, ℕ, ◌+◌, ◌≤◌, ◌⊎◌, ◌++◌, min, max, IsTrue, Bool, true, false, List, [], length, take, Option, None, Some, Ok, Err}
use Rattle.rkt_base.specs.declared.poll.Poll.{Poll}
use Rattle.rkt_base.specs.declared.poll.Poll.TheVariants.{Ready, Pending}
use Rattle.rkt_source.specs.Source.{Meaning, Faulted, Polled}
use Rattle.rkt_source.specs.declared.source.Gate.{Gate}
use Rattle.rkt_source.specs.declared.source.SourceError.{SourceError}
use Rattle.rkt_data.specs.Stream.{Opened, PullsAtMost}
use Rattle.rkt_data.specs.CountedSource.{Tapped, ByGate, SameTap, TapWaits, Gave, body}

pub record Body (S : Type 0) : Type 0 where
  -- the bytes held: all of a local body, else those that were peeked
  pub held : List ℕ
  pub tap : Option (Tapped S)
  -- nothing comes behind the bytes held
  pub complete : Bool

-- the end was met where all that a source tells is taken
abbrev pub EndSeen : Bool → Meaning → Type 0
EndSeen complete m = IsTrue complete → ForSome m.whole (λ w. length w ≤ m.taken)

-- what is so of each body, whose buffer has this much room
abbrev pub HoldsFront : {S : Type 0} → (S → Meaning) → List ℕ → ℕ → Bool → Option (Tapped S) → Type 0
HoldsFront meaning held room complete None = complete ≡ true
HoldsFront meaning held room complete (Some t) =
    Gave (meaning t.begun) (meaning t.now) held × (512 ≤ room) × EndSeen complete (meaning t.now)

-- the bytes held are the first of the body, and all of it where it is complete
abbrev pub FrontOf : {S : Type 0} → (S → Meaning) → Body S → Type 0
FrontOf meaning b =
    ForSome (body meaning b.held b.tap) (λ w. (b.held ≡ take (length b.held) w) × (IsTrue b.complete → b.held ≡ w))

-- what an opened body reads from: nothing, where all that it has is held
abbrev pub opened_tap : {T : Type 0} → Bool → Option T → Option T
opened_tap true tap = None
opened_tap false tap = tap

-- all that the body has is held
abbrev pub IsWhole : {S : Type 0} → (S → Meaning) → Body S → Type 0
IsWhole meaning b = ForSome (body meaning b.held b.tap) (λ w. b.held ≡ w)

-- what the source has given since it was handed in is held
abbrev pub TakenIsHeld : {S : Type 0} → (S → Meaning) → Body S → Type 0
TakenIsHeld meaning b = ForSome b.tap (λ t. (meaning t.now).taken ≡ (meaning t.begun).taken + length b.held)

-- a read was refused in this call
abbrev pub WasRefused : {S : Type 0} → (S → Meaning) → Option (Tapped S) → Option (Tapped S) → Type 0
WasRefused meaning None u = ⊥
WasRefused meaning (Some t) None = ⊥
WasRefused meaning (Some t) (Some u) = Faulted (meaning t.now) (meaning u.now) ⊎ IsTrue (meaning u.now).shut

-- what a peek of num bytes does to a body: it consumes nothing, and takes no more bytes than it was asked for
pub record Peeked {S : Type 0} (meaning : S → Meaning) (trip : Option ℕ) (num : ℕ) (b c : Body S) : Type 0 where
  pub body : body meaning c.held c.tap ≡ body meaning b.held b.tap
  pub held : (more : List ℕ) × (c.held ≡ b.held ++ more)
  pub bound : length c.held ≤ max (length b.held) (min num 512)
  pub tap : SameTap meaning trip b.tap c.tap
  pub front : FrontOf meaning c
  pub taken : TakenIsHeld meaning c
  -- where all of it is held, or as much as is shown, it is left as it was
  pub alone : IsTrue b.complete ⊎ (min num 512 ≤ length b.held) → c ≡ b

-- the source was called under this Gate alone; where a peek is Ready, only the last of its reads may have been refused, and the
-- end was met only where the body is complete now
abbrev pub PeeksByGate : {S X : Type 0} → Polled S → Gate → Poll X → Body S → Body S → Type 0
PeeksByGate polled gate Pending b c = ByGate polled gate Pending b.tap c.tap
PeeksByGate polled gate (Ready x) b c =
    ByGate polled gate (Ready (Ok c.complete)) b.tap c.tap
    ⊎ ((e : SourceError) × ByGate polled gate (Ready (Err e)) b.tap c.tap)

-- why a peek stopped: enough is held, the end came, a read was refused, or the source was Pending
abbrev pub PeekStops : {S : Type 0} → (S → Meaning) → ℕ → Body S → Body S → Poll (Unit {0}) → Type 0
PeekStops meaning num b c Pending = TapWaits meaning b.tap c.tap
PeekStops meaning num b c (Ready _) = (min num 512 ≤ length c.held) ⊎ (IsTrue c.complete ⊎ WasRefused meaning b.tap c.tap)

-- what it answers: the bytes held, up to that number
abbrev pub Shows : {S : Type 0} → (S → Meaning) → ℕ → Body S → Body S → Poll (Bor (List ℕ)) → Type 0
Shows meaning num b c Pending = PeekStops meaning num b c Pending
Shows meaning num b c (Ready r) = (r.now ≡ take (min num 512) c.held) × PeekStops meaning num b c (Ready tt)

-- a body of which nothing was held, peeked at up to p bytes and then opened, takes at most the greater of p and its limit plus
-- one from its source, whatever is read of it
abbrev pub PeekedPulls : {S : Type 0} → (S → Meaning) → Type 0
PeekedPulls {S} meaning =
    (trip : Option ℕ) (p : ℕ) (b c : Body S) (o : Opened S)
    → b.held ≡ []
    → Peeked meaning trip p b c
    → o.front ≡ c.held
    → PullsAtMost meaning o
    → ForSome o.tap (λ t. (meaning t.now).taken ≤ (meaning t.begun).taken + max p (o.limit + 1))
