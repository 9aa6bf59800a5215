-- What the guard of a text answers of a body in memory.
use Rattle.std.proofs.Common.{◌≡◌, ◌≢◌, ◌≤◌, ◌&&◌, ◌||◌, ◌∷◌, ◌⊎◌, ℕ, Bool, true, false, IsTrue, IsUtf8, List, [], Option, Some, None, IfSome, IsSome, Result, Err, String, string_bytes, length, nat_le, option_map, if◌then◌else◌, ap, arith, inl, inr, refl, subst, sym, ◌∙◌, drop}
use Rattle.std.proofs.lemmas.Bool.{false≢true}
use Rattle.std.proofs.lemmas.Bool.Decides.{nat_tests}
use Rattle.std.proofs.lemmas.List.{take_all}
use Rattle.std.proofs.lemmas.Str.{IsUtf8-from_is_utf8, IsUtf8-string_bytes, is_utf8-from_IsUtf8}
use Rattle.std.specs.Option.{ForSome}
use Rattle.std.specs.Str.{is_utf8}
use Rattle.std.specs.declared.alloc.Global.{Global}
use Rattle.rkt_base.specs.declared.poll.Poll.{Poll}
use Rattle.rkt_base.specs.declared.poll.Poll.TheVariants.{Ready}
use Rattle.rkt_source.specs.Cancel.{Cancellable, ReadsCut, advanced, is_gone, is_open}
use Rattle.rkt_data.specs.Body.{IsWhole, opened_tap}
use Rattle.rkt_data.specs.Gathering.{Completes, cause_of, cut_from}
use Rattle.rkt_data.specs.Stream.{IsComplete, Opened, whole_of}
use Rattle.rkt_data.specs.CountedSource.{ByGate, TapErrs, Tapped, body}
use Rattle.rkt_data.specs.Text.{TextErr}
use Rattle.rkt_data.specs.declared.capped.Capped.{Capped}
use Rattle.rkt_data.specs.declared.error.DataError.{DataError}
use Rattle.rkt_data.specs.declared.error.DataError.TheVariants as error
use Rattle.rkt_request.specs.Guards.{read_of}
use Rattle.rkt_source.specs.Source.{Meaning, Polled}
use Rattle.rkt_source.specs.declared.source.Gate.{Gate}
use Rattle.rkt_source.specs.declared.source.SourceError.{SourceError}
use Rattle.rkt_source.specs.declared.source.SourceError.TheVariants as source_error
use Rattle.rkt_sample.specs.Bodies.{ReadsAll, SampleBody, meaning_of, text_in, whole}
use Rattle.rkt_sample.specs.Calm.{KeepsOpen}
use Rattle.rkt_sample.specs.CalmLaws.{errs_open, not_gone}

told_of : (n : ℕ) (bytes : Option (List ℕ)) → IsSome bytes → (w : List ℕ) × (option_map (drop n) bytes ≡ Some w)
told_of n (Some bytes) some = (drop n bytes, refl)
told_of n None some = cc some

-- a source that tells its bytes, and is not shut of its own accord
pub record IsTold {S : Type 0} (meaning : S → Meaning) : Type 0 where
  pub tells : (s : S) → IsSome (meaning s).whole
  pub stays_open : (s : S) → (meaning s).shut ≡ false

-- how a source is read, whose shutdown is told so
pub record Reading (S : Type 0) : Type 1 where
  pub shuts : S → Poll (Unit {0}) → S → Type 0
  pub polled : Polled S

-- and how it is read where it may be cut off
abbrev pub reads_cut : {S : Type 0} → Reading S → Polled (Cancellable S)
reads_cut reading = ReadsCut reading.shuts reading.polled

-- a body's bytes are those of it once it is opened
opened_whole : {X : Type 0} (meaning : X → Meaning) (complete : Bool) (held w : List ℕ) (tap : Option (Tapped X)) → (IsTrue complete → ForSome (body meaning held tap) (λ all. held ≡ all)) → body meaning held tap ≡ Some w
    → body meaning held (opened_tap complete tap) ≡ Some w
opened_whole meaning true held w tap is_whole told = ap Some (is_whole refl w told)
opened_whole meaning false held w tap is_whole told = told

-- a text that fits, and is one
fits : (limit : ℕ) (w : List ℕ) → length w ≤ limit → IsUtf8 w → text_in limit (Some w) ≡ Some w
fits limit w small utf8 = by_tests (nat_le (length w) limit) (is_utf8 w) (grind (arith, nat_tests)) (is_utf8-from_IsUtf8 w utf8)
  where
    by_tests : (a b : Bool) → a ≡ true → b ≡ true → (if a && b then Some w else None) ≡ Some w
    by_tests true true is also = refl
    by_tests true false is also = cc also
    by_tests false b is also = cc is

-- one that does not
misses : (limit : ℕ) (w : List ℕ) → ¬ (length w ≤ limit × IsUtf8 w) → text_in limit (Some w) ≡ None
misses limit w fails = by_tests (nat_le (length w) limit) (is_utf8 w) (λ (is : nat_le (length w) limit ≡ true). grind (arith, nat_tests, is)) (IsUtf8-from_is_utf8 w)
  where
    by_tests : (a b : Bool) → (a ≡ true → length w ≤ limit) → (b ≡ true → IsUtf8 w) → (if a && b then Some w else None) ≡ None
    by_tests true true small utf8 = absurd (fails (small refl, utf8 refl))
    by_tests true false small utf8 = refl
    by_tests false b small utf8 = refl

module _ {S : Type 0} (meaning : S → Meaning) (told : IsTold meaning) where
  abbrev SampleTap : Type 0
  SampleTap = Option (Tapped (Cancellable S))

  -- a body tells its bytes
  whole_told : (b : SampleBody S) → (w : List ℕ) × (whole meaning b ≡ Some w)
  whole_told b = by_tap b.held b.tap
    where
      by_tap : (held : List ℕ) (tap : Option (Tapped (Cancellable S))) → (w : List ℕ) × (body (meaning_of meaning) held tap ≡ Some w)
      by_tap held None = (held, refl)
      by_tap held (Some t) = told_of (meaning t.begun.io).taken (meaning t.begun.io).whole (told.tells t.begun.io)

  neither : (a b : Bool) → a ≡ false → b ≡ false → IsTrue (a || b) → ⊥
  neither true b one other both = false≢true (sym one)
  neither false b one other both = false≢true (sym other ∙ both)

  not_shut : (t : Cancellable S) → is_open t.stage ≡ true → IsTrue (meaning_of meaning t).shut → ⊥
  not_shut t goes shut = neither (is_gone t.stage) (meaning t.io).shut (not_gone t.stage goes) (told.stays_open t.io) shut

  -- a source never fails, and is open to the next call under a Gate
  abbrev Serves : Gate → Cancellable S → Type 0
  Serves gate source = IsTrue (meaning source.io).never_faults × (is_open (advanced gate source.stage) ≡ true)

  -- such a one refuses no read under it
  refuses_none : (reading : Reading S) (e : SourceError) (gate : Gate) (m n : SampleTap) → ByGate (reads_cut reading) gate (Ready (Err e)) m n → TapErrs (meaning_of meaning) e m n → IfSome m (λ t. Serves gate t.now) → ⊥
  refuses_none reading e gate None n reads errs serves = errs
  refuses_none reading e gate (Some t) None reads errs serves = errs
  refuses_none reading source_error.SourceFault gate (Some t) (Some u) reads errs serves = cc (serves.0, errs.1)
  refuses_none reading source_error.Gone gate (Some t) (Some u) reads errs serves = not_shut u.now (errs_open reading.shuts reading.polled gate source_error.Gone t.now u.now reads serves.1) errs
  refuses_none reading source_error.TimedOut gate (Some t) (Some u) reads errs serves = not_shut u.now (errs_open reading.shuts reading.polled gate source_error.TimedOut t.now u.now reads serves.1) errs

  read_served : (gate : Gate) (complete : Bool) (tap : SampleTap) → IfSome tap (λ t. IsTrue (meaning t.now.io).never_faults) → IfSome tap (λ t. KeepsOpen (gate ∷ []) t.now.stage) → IfSome (opened_tap complete tap) (λ t. Serves gate t.now)
  read_served gate true tap never goes = tt
  read_served gate false None never goes = tt
  read_served gate false (Some t) never goes = (never, goes.0)

-- a body was opened up to a limit
pub record ReadsOn {S : Type 0} (meaning : S → Meaning) (most : ℕ) (b : SampleBody S) (o : Opened (Cancellable S)) : Type 0 where
  pub front : o.front ≡ b.held
  pub limit : o.limit ≡ most
  pub tap : o.tap ≡ read_of b
  pub is_whole : IsTrue b.complete → IsWhole (meaning_of meaning) b

module _ {S : Type 0} (meaning : S → Meaning) (told : IsTold meaning) (limit : ℕ) (b : SampleBody S) (o : Opened (Cancellable S)) (reads : ReadsOn meaning limit b o) where
  opened_told : (w : List ℕ) → whole meaning b ≡ Some w → whole_of (meaning_of meaning) o ≡ Some w
  opened_told w is_told = rw (reads.front, reads.tap) (opened_whole (meaning_of meaning) b.complete b.held w b.tap reads.is_whole is_told)

  -- its text, and that it has none that fits
  abbrev Told : List ℕ → Type 0
  Told text = text_in limit (whole meaning b) ≡ Some text

  abbrev Untold : Type 0
  Untold = text_in limit (whole meaning b) ≡ None

  cut_whole : (w : List ℕ) → length w ≤ limit → cut_from 0 w o.limit ≡ w
  cut_whole w small = rw reads.limit (take_all limit w small)

  completes : (text : List ℕ) (complete : Bool) (w : List ℕ) → whole meaning b ≡ Some w → IsUtf8 text → text ≡ cut_from 0 w o.limit → IsComplete complete w o.limit
      → ((complete ≡ true) × Told text) ⊎ ((complete ≡ false) × Untold)
  completes text true w is_told utf8 is all =
      let small : length w ≤ limit = subst (λ (n : ℕ). length w ≤ n) reads.limit (all.0 refl) in
      let same : text ≡ w = is ∙ cut_whole w small in
      inl (refl, rw is_told (rw same (fits limit w small (subst IsUtf8 same utf8))))
  completes text false w is_told utf8 is all =
      inr (refl, rw is_told (misses limit w (λ both. absurd (cc (all.1 (subst (λ (n : ℕ). length w ≤ n) (sym reads.limit) both.0))))))

  not_utf8 : (w : List ℕ) → whole meaning b ≡ Some w → ¬ IsUtf8 (cut_from 0 w o.limit) → Untold
  not_utf8 w is_told fails = rw is_told (misses limit w (λ both. fails (subst IsUtf8 (sym (cut_whole w both.0)) both.1)))

  module _ (reading : Reading S) (gate : Gate) (p : Opened (Cancellable S)) where
    refusal : (e : SourceError) → ByGate (reads_cut reading) gate (Ready (Err e)) o.tap p.tap → TapErrs (meaning_of meaning) e o.tap p.tap → ¬ ReadsAll meaning b (gate ∷ [])
    refusal e by_gate errs all =
        refuses_none meaning told reading e gate o.tap p.tap by_gate errs
        (rw reads.tap (read_served meaning told gate b.complete b.tap all.never_faults all.stays_open))

    pub errs_so : (e : DataError) → e ≢ error.NoMemory → ByGate (reads_cut reading) gate (Ready (cause_of e)) o.tap p.tap → TextErr (meaning_of meaning) 0 o p e → Untold ⊎ ¬ ReadsAll meaning b (gate ∷ [])
    errs_so error.SourceFault some by_gate errs = inr (refusal source_error.SourceFault by_gate errs.0)
    errs_so error.Gone some by_gate errs = inr (refusal source_error.Gone by_gate errs.0)
    errs_so error.TimedOut some by_gate errs = inr (refusal source_error.TimedOut by_gate errs.0)
    errs_so (error.NotUtf8 n) some by_gate errs = let bytes = whole_told meaning told b in inl (not_utf8 bytes.0 bytes.1 (errs.1 bytes.0 (opened_told bytes.0 bytes.1)).1)
    errs_so error.SinkFault some by_gate errs = absurd errs
    errs_so error.NoMemory some by_gate errs = absurd (some refl)

  pub reads_text : (c : Capped (String Global)) → Completes (meaning_of meaning) o 0 (string_bytes c.value) c.n → ((c.n.complete ≡ true) × Told (string_bytes c.value)) ⊎ ((c.n.complete ≡ false) × Untold)
  reads_text c done =
      let bytes = whole_told meaning told b in
      let is = done.1 bytes.0 (opened_told bytes.0 bytes.1) in
      completes (string_bytes c.value) c.n.complete bytes.0 bytes.1 (IsUtf8-string_bytes c.value) is.0 is.1
