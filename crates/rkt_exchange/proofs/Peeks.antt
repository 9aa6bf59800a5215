-- Peeks at a body that go on from poll to poll.
use Rattle.std.specs.Prelude.{◌≡◌, ◌++◌, ℕ, IsSome, List, Option, Some, None, take}
use Rattle.std.proofs.Common.{arith, append_assoc, ap, refl, sym, inl, inr, ⊎_elim, ◌∙◌}
use Rattle.std.proofs.lemmas.Bool.{false≢true}
use Rattle.rkt_data.specs.Body.{Body, Peeked, WasRefused}
use Rattle.rkt_data.specs.CountedSource.{SameTap, Tapped}
use Rattle.rkt_data.proofs.CountedSources.{Peeked-complete, SameTap-trans}
use Rattle.rkt_router.specs.Calls.{GateFits, GateRule}
use Rattle.rkt_source.specs.Source.{Keeps, Meaning, Polled}
use Rattle.rkt_source.specs.declared.source.Gate.{Gate}
use Rattle.rkt_exchange.specs.Peeks.{PeekEnds, PeekOf}

-- what is kept under a Gate is kept under one that has a trip where the first has one
keeps_under : (one other : Option ℕ) (m n : Meaning) → (IsSome one → IsSome other) → Keeps one m n → Keeps other m n
keeps_under one other m n trips keeps = record {
  whole = keeps.whole;
  never_faults = keeps.never_faults;
  pendings = keeps.pendings;
  faults = keeps.faults;
  pended = keeps.pended;
  warned = λ h. ⊎_elim inl (λ trip. inr (trips trip)) (keeps.warned h);
  still_warned = keeps.still_warned;
  still_shut = keeps.still_shut;
}

same_under : {S : Type 0} (meaning : S → Meaning) (one other : Option ℕ) (a b : Option (Tapped S)) → (IsSome one → IsSome other) → SameTap meaning one a b → SameTap meaning other a b
same_under meaning one other None None trips same = tt
same_under meaning one other None (Some b) trips same = absurd same
same_under meaning one other (Some a) None trips same = absurd same
same_under meaning one other (Some a) (Some b) trips same = (same.0, keeps_under one other (meaning a.now) (meaning b.now) trips same.1)

-- a poll, and others behind it, keep the source as one Gate of the rule does
same_through : {S : Type 0} (meaning : S → Meaning) (rule : GateRule) (a b c : Option (Tapped S)) (gate later : Gate) (trip : Option ℕ) → gate.tripped ≡ trip → GateFits rule gate → GateFits rule later
    → SameTap meaning trip a b → SameTap meaning later.tripped b c → (g : Gate) × GateFits rule g × SameTap meaning g.tripped a c
same_through meaning rule a b c gate later None is fits fits_later same more =
    (later, fits_later, SameTap-trans meaning later.tripped a b c (same_under meaning None later.tripped a b (λ h. absurd (false≢true h)) same) more)
same_through meaning rule a b c gate later (Some trip) is fits fits_later same more =
    (gate, fits, rw is (SameTap-trans meaning (Some trip) a b c same (same_under meaning later.tripped (Some trip) b c (λ h. refl) more)))

refused_after : {S : Type 0} (meaning : S → Meaning) (trip : Option ℕ) (a b c : Option (Tapped S)) → SameTap meaning trip a b → WasRefused meaning b c → WasRefused meaning a c
refused_after meaning trip None None c same refused = refused
refused_after meaning trip None (Some b) c same refused = absurd same
refused_after meaning trip (Some a) None c same refused = absurd same
refused_after meaning trip (Some a) (Some b) None same refused = refused
refused_after meaning trip (Some a) (Some b) (Some c) same refused =
    let faults = same.1.faults in
    ⊎_elim (λ f. inl (omega (arith, faults, f.0), sym same.1.never_faults ∙ f.1)) inr refused

module _ {S : Type 0} (meaning : S → Meaning) (rule : GateRule) (gate : Gate) (fits : GateFits rule gate) where
  -- a peek that ends in its first poll
  pub peek_once : (polled : Polled S) (b c : Body S) (shown : List ℕ) → PeekEnds meaning polled 14 gate b c → shown ≡ take 14 c.held → PeekOf meaning rule 14 b shown c
  peek_once polled b c shown ends is = record {
    body = ends.peeked.body;
    held = ends.peeked.held;
    front = is;
    first = ends.peeked.front;
    bound = ends.peeked.bound;
    stops = ends.stops;
    tap = (gate, fits, ends.peeked.tap);
    taken = ends.peeked.taken;
    complete = Peeked-complete ends.peeked;
  }

  -- what a peek leaves behind a poll that has not ended it, it leaves of the whole
  pub peek_on : (b c d : Body S) (shown : List ℕ) → Peeked meaning gate.tripped 14 b c → PeekOf meaning rule 14 c shown d → PeekOf meaning rule 14 b shown d
  peek_on b c d shown peeked more = record {
    body = more.body ∙ peeked.body;
    held = (peeked.held.0 ++ more.held.0, more.held.1 ∙ (ap (λ xs. xs ++ more.held.0) peeked.held.1 ∙ append_assoc b.held peeked.held.0 more.held.0));
    front = more.front;
    first = more.first;
    bound = let one = peeked.bound in let other = more.bound in omega (arith, one, other);
    stops = ⊎_elim inl (λ rest. inr (⊎_elim inl (λ refused. inr (refused_after meaning gate.tripped b.tap c.tap d.tap peeked.tap refused)) rest)) more.stops;
    tap = same_through meaning rule b.tap c.tap d.tap gate more.tap.0 gate.tripped refl fits more.tap.1 peeked.tap more.tap.2;
    taken = more.taken;
    complete = λ h. more.complete (Peeked-complete peeked h);
  }
