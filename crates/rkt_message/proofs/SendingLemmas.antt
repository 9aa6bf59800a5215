-- The pieces of a response, poll by poll.
use Rattle.std.proofs.Common.{◌≡◌, ◌≢◌, ◌<◌, ◌++◌, ◌∙◌, ℕ, Bool, true, false, List, [], ◌∷◌, Option, refl, sym, ap, subst, append_assoc, append-nil}
use Rattle.std.specs.List.{AllByRecursion, concat}
use Rattle.std.specs.Option.{ForSome}
use Rattle.rkt_source.specs.Source.{Meaning}
use Rattle.rkt_message.specs.Body.{BodyOf, left_of}
use Rattle.rkt_message.specs.Chunks.{ReadsChunk}
use Rattle.rkt_message.specs.Response.{ResponseOf}
use Rattle.rkt_message.specs.Sending.{Gives, IsFront, IsHead, OwesBehindHead, Sending, InvariantAt, TakesFull, is_done, is_end}
use Rattle.rkt_message.specs.Sent.{IsChunk, Sent, SentBody, has_head, head_of}
use Rattle.rkt_message.specs.declared.chunk.ChunkRead.TheVariants as chunk_read
use Rattle.rkt_message.specs.declared.piece.Piece.{Piece}
use Rattle.rkt_message.specs.declared.piece.Piece.TheVariants.{Chunk, End}
use Rattle.rkt_message.specs.declared.stage.Stage.{Stage}
use Rattle.rkt_message.specs.declared.stage.Stage.TheVariants as stage
use Rattle.rkt_message.proofs.ChunkLemmas.{can_be_sent, chunk_first}
use Rattle.rkt_message.proofs.ReadOnLemmas.{takes_nothing}

not_empty : (pieces : List Piece) (piece : Piece) → (pieces ++ piece ∷ []) ≢ []
not_empty [] piece none = absurd (cc none)
not_empty (p ∷ ps) piece none = absurd (cc none)

-- what is left of a body completes what was given
abbrev pub Completes : {S : Type 0} → (S → Meaning) → BodyOf S → ResponseOf S → List Piece → Type 0
Completes meaning body begun given = (rest : List Piece) → SentBody meaning body rest → Sent meaning begun (given ++ rest)

-- before the head the response is as it was handed in
pub at_head : {S : Type 0} (meaning : S → Meaning) (at : Stage) (response begun : ResponseOf S) (given : List Piece) → InvariantAt meaning at response begun given → is_done at ≡ false → given ≡ [] → response ≡ begun
at_head meaning stage.Head response begun given h going none = h.1
at_head meaning stage.Body response begun given h going none = absurd (h.0 none)
at_head meaning stage.Done response begun given h going none = absurd (cc going)

-- and behind it what is left of its body completes what was given
pub behind_head : {S : Type 0} (meaning : S → Meaning) (at : Stage) (response begun : ResponseOf S) (given : List Piece) → InvariantAt meaning at response begun given → is_done at ≡ false → given ≢ [] → Completes meaning response.body begun given
behind_head meaning stage.Head response begun given h going some rest sent = absurd (some h.0)
behind_head meaning stage.Body response begun given h going some rest sent = h.1 rest sent
behind_head meaning stage.Done response begun given h going some rest sent = absurd (cc going)

-- a body that has as much left is sent as the same
pub same_left : {S : Type 0} (meaning : S → Meaning) (a b : BodyOf S) (pieces : List Piece) → b.chunk ≡ a.chunk → left_of meaning b.content ≡ left_of meaning a.content → SentBody meaning b pieces → SentBody meaning a pieces
same_left meaning a b pieces same left sent = (
  sent.0,
  subst (λ (most : ℕ). AllByRecursion (IsChunk most) sent.0) same sent.1,
  subst (λ (o : Option (List ℕ)). ForSome o (λ bytes. concat sent.0 ≡ bytes)) left sent.2,
  sent.3,
)

-- a state stands where it stood while its body has as much left
pub stands_still : {S : Type 0} (meaning : S → Meaning) (at : Stage) (q r begun : ResponseOf S) (given : List Piece) → InvariantAt meaning at q begun given → given ≢ [] → r.body.chunk ≡ q.body.chunk
    → left_of meaning r.body.content ≡ left_of meaning q.body.content → InvariantAt meaning at r begun given
stands_still meaning stage.Head q r begun given h some same left = absurd (some h.0)
stands_still meaning stage.Body q r begun given h some same left = (h.0, λ rest sent. h.1 rest (same_left meaning q.body r.body rest same left sent))
stands_still meaning stage.Done q r begun given h some same left = tt

-- behind the head the body completes it
pub head_stands : {S : Type 0} (meaning : S → Meaning) (response begun : ResponseOf S) (given : List Piece) (piece : Piece) → given ≡ [] → response ≡ begun → has_head response ≡ true → piece ≡ head_of response
    → InvariantAt meaning stage.Body response begun (given ++ piece ∷ [])
head_stands meaning response begun given piece none same can is = (
  not_empty given piece,
  λ rest sent.
      let whole : Sent meaning response (piece ∷ rest) = (rest, can, sent, ap (λ (p : Piece). p ∷ rest) is) in
      subst (λ (p : ResponseOf _). Sent meaning p ((given ++ piece ∷ []) ++ rest)) same
      (subst (λ (ps : List Piece). Sent meaning response ((ps ++ piece ∷ []) ++ rest)) (sym none) whole),
)

-- behind a chunk what is left of the body completes it
pub chunk_stands : {S : Type 0} (meaning : S → Meaning) (q r begun : ResponseOf S) (given : List Piece) (bytes : List ℕ) → Completes meaning q.body begun given → r.body.chunk ≡ q.body.chunk
    → ReadsChunk meaning q.body r.body (chunk_read.Bytes bytes) → InvariantAt meaning stage.Body r begun (given ++ Chunk bytes ∷ [])
chunk_stands meaning q r begun given bytes completes same read = (
  not_empty given (Chunk bytes),
  λ rest sent. subst (Sent meaning begun) (sym (append_assoc given (Chunk bytes ∷ []) rest)) (completes (Chunk bytes ∷ rest) (chunk_first meaning q.body r.body bytes rest same read.0 read.1 sent)),
)

front_of : {S : Type 0} (meaning : S → Meaning) (t : Sending S) → t.is_over ≡ false → 0 < t.response.body.chunk → Completes meaning t.response.body t.begun t.given → IsFront meaning t
front_of meaning t going some completes =
    let go = can_be_sent meaning t.response.body some in
    record {
      completed = λ rest owed. completes rest (subst (λ (over : Bool). OwesBehindHead meaning over t.response.body rest) going owed);
      goes_on = (go.0, subst (λ (over : Bool). OwesBehindHead meaning over t.response.body go.0) (sym going) go.1);
    }

-- a head, where one can be formed
pub gives_head : {S : Type 0} (meaning : S → Meaning) (s t : Sending S) (piece : Piece) → s.given ≡ [] → t.given ≡ s.given ++ piece ∷ [] → t.is_over ≡ false → t.response ≡ s.response → t.waits ≡ 0 → 0 < t.response.body.chunk
    → piece ≡ head_of s.response → InvariantAt meaning stage.Body t.response t.begun t.given → Gives meaning s piece t × IsFront meaning t
gives_head meaning s t piece first given going same none some is stands = (
  record {
    head = (λ _. first, λ _. subst IsHead (sym is) tt);
    given = given;
    over = going ∙ ap is_end (sym is);
    takes = rw (same, is) (takes_nothing meaning s.response.body.content);
    waits = none;
  },
  front_of meaning t going some stands.1,
)

-- a chunk of the next bytes
pub gives_chunk : {S : Type 0} (meaning : S → Meaning) (s t : Sending S) (bytes : List ℕ) → s.given ≢ [] → t.given ≡ s.given ++ Chunk bytes ∷ [] → t.is_over ≡ false → t.waits ≡ 0 → 0 < t.response.body.chunk
    → ReadsChunk meaning s.response.body t.response.body (chunk_read.Bytes bytes) → InvariantAt meaning stage.Body t.response t.begun t.given → Gives meaning s (Chunk bytes) t × IsFront meaning t
gives_chunk meaning s t bytes begun given going none some read stands = (
  record {
    head = (λ h. absurd h, λ first. absurd (begun first));
    given = given;
    over = going;
    takes = read.2;
    waits = none;
  },
  front_of meaning t going some stands.1,
)

-- the end, behind which nothing is owed
pub gives_end : {S : Type 0} (meaning : S → Meaning) (s t : Sending S) → s.given ≢ [] → t.given ≡ s.given ++ End ∷ [] → t.is_over ≡ true → t.begun ≡ s.begun → t.waits ≡ 0
    → ReadsChunk meaning s.response.body t.response.body chunk_read.End → Completes meaning s.response.body s.begun s.given → Gives meaning s End t × IsFront meaning t
gives_end meaning s t begun given over same none read completes =
    let all : Sent meaning s.begun (s.given ++ End ∷ []) = completes (End ∷ []) ([], tt, λ left told. sym (read.0 left told), refl) in
    let whole : Sent meaning t.begun t.given = subst (λ (p : ResponseOf _). Sent meaning p t.given) (sym same) (subst (Sent meaning s.begun) (sym given) all) in (
      record {
        head = (λ h. absurd h, λ first. absurd (begun first));
        given = given;
        over = over;
        takes = read.1;
        waits = none;
      },
      record {
        completed = λ rest owed.
            let nothing : rest ≡ [] = subst (λ (o : Bool). OwesBehindHead meaning o t.response.body rest) over owed in
            subst (λ (ps : List Piece). Sent meaning t.begun (t.given ++ ps)) (sym nothing) (subst (Sent meaning t.begun) (sym (append-nil t.given)) whole);
        goes_on = ([], subst (λ (o : Bool). OwesBehindHead meaning o t.response.body []) (sym over) refl);
      },
    )

-- it takes as many as it may hold
pub takes_full : {S : Type 0} (meaning : S → Meaning) (a b : BodyOf S) (bytes : List ℕ) → ReadsChunk meaning a b (chunk_read.Bytes bytes) → TakesFull a (Chunk bytes)
takes_full meaning a b bytes read = read.3

-- at its head nothing was given
pub none_given : {S : Type 0} (meaning : S → Meaning) (at : Stage) (response begun : ResponseOf S) (given : List Piece) → at ≡ stage.Head → InvariantAt meaning at response begun given → given ≡ []
none_given meaning at response begun given is h = (subst (λ (x : Stage). InvariantAt meaning x response begun given) is h).0

-- and at its body something
pub some_given : {S : Type 0} (meaning : S → Meaning) (at : Stage) (response begun : ResponseOf S) (given : List Piece) → at ≡ stage.Body → InvariantAt meaning at response begun given → given ≢ []
some_given meaning at response begun given is h = (subst (λ (x : Stage). InvariantAt meaning x response begun given) is h).0

-- a state that goes on and gave something is at its body
pub is_at_body : {S : Type 0} (meaning : S → Meaning) (at : Stage) (response begun : ResponseOf S) (given : List Piece) → InvariantAt meaning at response begun given → is_done at ≡ false → given ≢ [] → at ≡ stage.Body
is_at_body meaning stage.Head response begun given h going some = absurd (some h.0)
is_at_body meaning stage.Body response begun given h going some = refl
is_at_body meaning stage.Done response begun given h going some = absurd (cc going)

-- a body that has as much left owes the same
pub owes_still : {S : Type 0} (meaning : S → Meaning) (over : Bool) (a b : BodyOf S) (pieces : List Piece) → b.chunk ≡ a.chunk → left_of meaning b.content ≡ left_of meaning a.content
    → OwesBehindHead meaning over b pieces → OwesBehindHead meaning over a pieces
owes_still meaning true a b pieces same left owed = owed
owes_still meaning false a b pieces same left owed = same_left meaning a b pieces same left owed
