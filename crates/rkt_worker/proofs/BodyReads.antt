-- Reads of a body, one after another, are reads of it.
use Rattle.std.proofs.Common.{◌+◌, ◌∙◌, inl, inr, List, ℕ, Option, IsSome, arith, refl, ap, subst}
use Rattle.std.proofs.lemmas.List.{drop-drop}
use Rattle.rkt_source.specs.Source.{Meaning, Keeps}
use Rattle.rkt_message.specs.Reading.{ReadsOn}
use Rattle.rkt_message.specs.declared.content.Content.{Content}
use Rattle.rkt_message.specs.declared.content.Content.TheVariants as content

keeps_same : (trip : Option ℕ) (m : Meaning) → Keeps trip m m
keeps_same trip m = record {
  whole = refl;
  never_faults = refl;
  pendings = refl;
  faults = omega arith;
  pended = omega arith;
  warned = λ is. inl is;
  still_warned = λ is. is;
  still_shut = λ is. is;
}

keeps_more : (trip : Option ℕ) (a b c : Meaning) → Keeps trip a b → Keeps trip b c → Keeps trip a c
keeps_more trip a b c first second = record {
  whole = second.whole ∙ first.whole;
  never_faults = second.never_faults ∙ first.never_faults;
  pendings = second.pendings ∙ first.pendings;
  faults = omega (arith, first.faults, second.faults);
  pended = omega (arith, first.pended, second.pended);
  warned = λ is. elim (second.warned is) [ inl before ↦ first.warned before | inr some ↦ inr some ];
  still_warned = λ is. second.still_warned (first.still_warned is);
  still_shut = λ is. second.still_shut (first.still_shut is);
}

keeps_wider : (trip other : Option ℕ) (a b : Meaning) → (IsSome trip → IsSome other) → Keeps trip a b → Keeps other a b
keeps_wider trip other a b wider keeps = record {
  whole = keeps.whole;
  never_faults = keeps.never_faults;
  pendings = keeps.pendings;
  faults = keeps.faults;
  pended = keeps.pended;
  warned = λ is. elim (keeps.warned is) [ inl before ↦ inl before | inr some ↦ inr (wider some) ];
  still_warned = keeps.still_warned;
  still_shut = keeps.still_shut;
}

-- what was read under Gates of one kind was so under those of a wider one
pub reads_wider : {S : Type 0} (stream : S → Meaning) (trip other : Option ℕ) (c d : Content S) → (IsSome trip → IsSome other) → ReadsOn stream trip c d → ReadsOn stream other c d
reads_wider stream trip other content.None d wider on = on
reads_wider stream trip other content.UnsizedNone d wider on = on
reads_wider stream trip other (content.Sized rest size) d wider on = on
reads_wider stream trip other (content.Phantom length size) d wider on = on
reads_wider stream trip other (content.Streamed s) d wider on = (on.0, on.1, keeps_wider trip other (stream s) (stream on.0) wider on.2)

module _ {S : Type 0} (stream : S → Meaning) (trip : Option ℕ) where
  pub reads_none : (c : Content S) → ReadsOn stream trip c c
  reads_none content.None = refl
  reads_none content.UnsizedNone = refl
  reads_none (content.Sized rest size) = (0, size, refl)
  reads_none (content.Phantom length size) = (size, refl)
  reads_none (content.Streamed s) = (s, refl, keeps_same trip (stream s))

  pub reads_more : (b c d : Content S) → ReadsOn stream trip b c → ReadsOn stream trip c d → ReadsOn stream trip b d
  reads_more content.None c d first second = subst (λ (x : Content S). ReadsOn stream trip x d) first second
  reads_more content.UnsizedNone c d first second = subst (λ (x : Content S). ReadsOn stream trip x d) first second
  reads_more (content.Sized rest size) c d first second =
      let then = subst (λ (x : Content S). ReadsOn stream trip x d) first.2 second in
      (first.0 + then.0, then.1, then.2 ∙ ap (λ (bytes : List ℕ). content.Sized bytes then.1) (drop-drop then.0 first.0 rest))
  reads_more (content.Phantom length size) c d first second = subst (λ (x : Content S). ReadsOn stream trip x d) first.1 second
  reads_more (content.Streamed s) c d first second =
      let then = subst (λ (x : Content S). ReadsOn stream trip x d) first.1 second in
      (then.0, then.1, keeps_more trip (stream s) (stream first.0) (stream then.0) first.2 then.2)
