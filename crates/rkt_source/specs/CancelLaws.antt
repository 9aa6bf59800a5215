-- What a source that is cut off means keeps the laws of a source.
use Rattle.std.proofs.Common.{Bool, true, false, IsTrue, ⊎_elim, refl, ap}
use Rattle.std.proofs.lemmas.Bool.{or_cases, or_left, or_right}
use Rattle.rkt_source.specs.declared.stage.Stage.{Stage}
use Rattle.rkt_source.specs.declared.stage.Stage.TheVariants.{Active, Grace, Mercy, Gone}
use Rattle.rkt_source.specs.Source.{Meaning, Shuts}
use Rattle.rkt_base.specs.declared.poll.Poll.{Poll}
use Rattle.rkt_base.specs.declared.poll.Poll.TheVariants.{Ready, Pending}
use Rattle.rkt_source.specs.Cancel.{Cancellable, ShutsCut, is_warned, is_gone, cut_meaning}

pub gone_is_warned : (s : Stage) → IsTrue (is_gone s) → IsTrue (is_warned s)
gone_is_warned Active h = h
gone_is_warned (Grace saw) h = refl
gone_is_warned (Mercy saw cut) h = refl
gone_is_warned (Gone saw cut) h = refl

pub cut_shut_is_warned : (s : Stage) (m : Meaning)
    → (IsTrue m.shut → IsTrue m.warned)
    → IsTrue (cut_meaning s m).shut
    → IsTrue (cut_meaning s m).warned
cut_shut_is_warned s m law h =
    ⊎_elim (λ g. or_left (is_warned s) m.warned (gone_is_warned s g)) (λ t. or_right (is_warned s) m.warned (law t))
    (or_cases (is_gone s) m.shut h)

same_stage : (s : Stage) (m n : Meaning) (r : Poll (Unit {0})) → Shuts m r n → Shuts (cut_meaning s m) r (cut_meaning s n)
same_stage s m n Pending h = (ap (cut_meaning s) h.0, h.1)
same_stage s m n (Ready r) h = ap (cut_meaning s) h

module _ {I : Type 0} (shuts : I → Poll (Unit {0}) → I → Type 0) (meaning : I → Meaning)
    (keeps : (s t : I) (answer : Poll (Unit {0})) → shuts s answer t → Shuts (meaning s) answer (meaning t)) where
  shuts_at : (gone : Bool) (c d : Cancellable I) (answer : Poll (Unit {0})) → ShutsCut shuts gone c answer d
      → Shuts (cut_meaning c.stage (meaning c.io)) answer (cut_meaning d.stage (meaning d.io))
  shuts_at true c d answer h = rw (h.1, h.0) refl
  shuts_at false c d answer h = rw h.0 (same_stage c.stage (meaning c.io) (meaning d.io) answer (keeps c.io d.io answer h.1))

  pub cut_shuts : (c d : Cancellable I) (answer : Poll (Unit {0})) → ShutsCut shuts (is_gone c.stage) c answer d
      → Shuts (cut_meaning c.stage (meaning c.io)) answer (cut_meaning d.stage (meaning d.io))
  cut_shuts c d answer h = shuts_at (is_gone c.stage) c d answer h
