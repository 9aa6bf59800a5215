-- What contracts see of an opened body, and the bound on what it takes from its source.
use Rattle.std.specs.Option.{ForSome}
use Rattle.std.specs.Prelude.{◌≡◌, ◌↔◌, ℕ, ◌+◌, ◌-◌, ◌≤◌, ◌<◌, max, min, IsTrue, Bool, true, false, List, length, take, drop, Option, None, Some, Result, Ok, Err}
use Rattle.rkt_base.specs.declared.poll.Poll.{Poll}
use Rattle.rkt_base.specs.declared.poll.Poll.TheVariants.{Ready, Pending}
use Rattle.rkt_source.specs.Source.{Meaning, Polled}
use Rattle.rkt_source.specs.declared.source.Gate.{Gate}
use Rattle.rkt_data.specs.CountedSource.{Tapped, SameTap, TapErrs, TapWaits, AsksTap, body}
use Rattle.rkt_source.specs.declared.source.SourceError.{SourceError}

pub record Opened (S : Type 0) : Type 0 where
  -- the bytes held when it was opened: all of a local body, else those that were peeked
  pub front : List ℕ
  pub tap : Option (Tapped S)
  pub limit : ℕ
  -- how many bytes it has given
  pub given : ℕ

-- an opened body, and whether a byte past its limit was read
pub record Piped (S : Type 0) : Type 0 where
  pub opened : Opened S
  pub probed : Bool

abbrev pub one_if : Bool → ℕ
one_if true = 1
one_if false = 0

-- what the source has given since it was handed in: the front, what was read on, and the byte past the limit
pub record Drawn (m n : Meaning) (front : List ℕ) (limit given : ℕ) (probed : Bool) : Type 0 where
  pub taken : n.taken ≡ m.taken + max (length front) given + one_if probed
  pub whole : n.whole ≡ m.whole
  pub bytes : ForSome n.whole (λ w. front ≡ take (length front) (drop m.taken w))
  pub past : IsTrue probed → (given ≡ limit) × (length front ≤ limit)

abbrev pub DrawnBy : {S : Type 0} → (S → Meaning) → List ℕ → ℕ → ℕ → Bool → Option (Tapped S) → Type 0
DrawnBy meaning front limit given probed None = given ≤ length front
DrawnBy meaning front limit given probed (Some t) = Drawn (meaning t.begun) (meaning t.now) front limit given probed

-- since it was handed in the source has given at most the greater of what was peeked and this number
abbrev pub TakesAtMost : {S : Type 0} → (S → Meaning) → Opened S → ℕ → Type 0
TakesAtMost meaning o bound = ForSome o.tap (λ t. (meaning t.now).taken ≤ (meaning t.begun).taken + max (length o.front) bound)

-- the pull bound
abbrev pub PullsAtMost : {S : Type 0} → (S → Meaning) → Opened S → Type 0
PullsAtMost meaning o = TakesAtMost meaning o (o.limit + 1)

-- all bytes of the body, limit or not
abbrev pub whole_of : {S : Type 0} → (S → Meaning) → Opened S → Option (List ℕ)
whole_of meaning o = body meaning o.front o.tap

-- a body's bytes up to a limit, and whether there are no more
abbrev pub cut : List ℕ → ℕ → List ℕ
cut b limit = take limit b

abbrev pub IsComplete : Bool → List ℕ → ℕ → Type 0
IsComplete complete b limit = IsTrue complete ↔ (length b ≤ limit)

-- how many bytes a read can give into a buffer of this length: what the limit leaves of it
abbrev pub room_for : {S : Type 0} → Opened S → ℕ → ℕ
room_for o size = min size (o.limit - o.given)

-- one read under this Gate with this room: bytes that are held come first, and behind them the source is asked once
pub record AsksOnce {S : Type 0} (polled : Polled S) (gate : Gate) (room : ℕ) (answer : Poll (Result ℕ SourceError))
    (o p : Opened S) : Type 0 where
  pub held : (0 < room → o.given < length o.front)
      → (p.tap ≡ o.tap) × (answer ≡ Ready (Ok (min room (length o.front - o.given))))
  pub asks : length o.front ≤ o.given → 0 < room → AsksTap polled gate room answer o.tap p.tap

-- what no read changes
pub record Follows {S : Type 0} (meaning : S → Meaning) (trip : Option ℕ) (o p : Opened S) : Type 0 where
  pub front : p.front ≡ o.front
  pub limit : p.limit ≡ o.limit
  pub tap : SameTap meaning trip o.tap p.tap

-- what a read answers, into a buffer that held `old` and holds `new`: the next bytes up to the limit, and none only at an end
abbrev pub Reads : {S : Type 0} → (S → Meaning) → Opened S → Opened S → List ℕ → List ℕ → Poll (Result ℕ SourceError) → Type 0
Reads meaning o p old new Pending = (p.given ≡ o.given) × TapWaits meaning o.tap p.tap
Reads meaning o p old new (Ready (Err e)) = (p.given ≡ o.given) × (o.given < o.limit) × TapErrs meaning e o.tap p.tap
Reads meaning o p old new (Ready (Ok n)) =
    (n ≤ length old)
    × (p.given ≡ o.given + n)
    × ForSome (whole_of meaning o) (λ b.
    (take n new ≡ take n (drop o.given b)) × (0 < length old → o.given < o.limit → n ≡ 0 → length b ≤ o.given))

-- whether the body ends at its limit, all of which was given
abbrev pub Probes : {S : Type 0} → (S → Meaning) → Piped S → Piped S → Poll (Result Bool SourceError) → Type 0
Probes meaning o p Pending = (p.probed ≡ false) × TapWaits meaning o.opened.tap p.opened.tap
Probes meaning o p (Ready (Err e)) = (p.probed ≡ false) × TapErrs meaning e o.opened.tap p.opened.tap
Probes meaning o p (Ready (Ok complete)) = ForSome (whole_of meaning o.opened) (λ b.
    (IsTrue complete → length b ≤ o.opened.given) × (complete ≡ false → o.opened.given < length b))
