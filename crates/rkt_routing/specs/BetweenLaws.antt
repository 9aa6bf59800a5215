-- Laws of what is known between two calls.
use Rattle.std.specs.Prelude.{◌≡◌, ◌<◌, ◌++◌, ◌∷◌, [], List}
use Rattle.std.specs.List.{All}
use Rattle.std.proofs.Common.{arith, refl, sym, ◌∙◌, append_assoc, subst}
use Rattle.std.proofs.lemmas.List.Elements.{All-append, All-push, All-weaker}
use Rattle.rkt_turn.specs.HandsBack.{HandsBack}
use Rattle.rkt_turn.specs.HandsBackLaws.{hands_back_more, hands_back_same}
use Rattle.rkt_turn.specs.Shutdown.{Handle}
use Rattle.rkt_routing.specs.Backs.{Backs, Sees}
use Rattle.rkt_routing.specs.Between.{BetweenOf}
use Rattle.rkt_routing.specs.declared.run.Call.{Call}

-- a word that was seen stays seen
sees_more : (now after : Handle) → HandsBack now after → (call : Call) → Sees now call → Sees after call
sees_more now after back call sees some = back.seen (subst (λ n. 0 < n) (sym (sees some)) some) ∙ sees some

-- nothing was recorded yet
pub backs_none : (h : Handle) → Backs h h []
backs_none h = record { hands_back = hands_back_same h; words = λ k d lt. absurd (omega (arith, lt)) }

-- one more call was recorded
pub backs_call : (first now after : Handle) (calls calls' : List Call) (call : Call)
    → Backs first now calls
    → HandsBack now after
    → call.word ≡ after.seen
    → calls' ≡ calls ++ call ∷ []
    → Backs first after calls'
backs_call first now after calls calls' call backs back word are = record {
  hands_back = hands_back_more first now after backs.hands_back back;
  words = subst (All (Sees after)) (sym are) (All-push (Sees after) calls call
      (All-weaker (Sees now) (Sees after) (sees_more now after back) calls backs.words) (λ some. sym word));
}

-- more calls were recorded behind these
pub backs_more : (first now after : Handle) (calls more : List Call)
    → Backs first now calls
    → Backs now after more
    → Backs first after (calls ++ more)
backs_more first now after calls more one two = record {
  hands_back = hands_back_more first now after one.hands_back two.hands_back;
  words = All-append (Sees after) calls more
      (All-weaker (Sees now) (Sees after) (sees_more now after two.hands_back) calls one.words) two.words;
}

-- the handle is the same
pub backs_same : (first now after : Handle) (calls : List Call) → after ≡ now → Backs first now calls → Backs first after calls
backs_same first now after calls same backs = subst (λ h. Backs first h calls) (sym same) backs

module _ {X : Type 0} (Whole : List Call → X → Type 0) (first : Handle) where
  -- what is left to be done is said in another way, and the handle is the same
  pub between_on : (now now' : Handle) (calls : List Call) (Rest Rest' : List Call → X → Type 0)
      → now' ≡ now
      → ((rest : List Call) (x : X) → Rest' rest x → Rest rest x)
      → BetweenOf Whole first now calls Rest
      → BetweenOf Whole first now' calls Rest'
  between_on now now' calls Rest Rest' same more between = record {
    leads = λ rest x done. between.leads rest x (more rest x done);
    backs = backs_same first now now' calls same between.backs;
  }

  -- one more call was recorded
  pub between_call : (now after : Handle) (calls calls' : List Call) (call : Call) (Rest Rest' : List Call → X → Type 0)
      → HandsBack now after
      → call.word ≡ after.seen
      → calls' ≡ calls ++ call ∷ []
      → ((rest : List Call) (x : X) → Rest' rest x → Rest (call ∷ rest) x)
      → BetweenOf Whole first now calls Rest
      → BetweenOf Whole first after calls' Rest'
  between_call now after calls calls' call Rest Rest' back word are more between = record {
    leads = λ rest x done. rw (are, append_assoc) (between.leads (call ∷ rest) x (more rest x done));
    backs = backs_call first now after calls calls' call between.backs back word are;
  }
