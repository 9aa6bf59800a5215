-- A jar from which the flash was taken back.
use Rattle.std.proofs.Common.{◌≡◌, ℕ, List, [], ◌∷◌, ◌++◌, length, take, refl, sym, ap, ◌∙◌, subst, append_assoc, append-nil, ⊎_elim, inl, inr}
use Rattle.std.proofs.Math.Seq.{take-append_seam}
use Rattle.rkt_cookie.specs.Jar.{JarParts, addition}
use Rattle.rkt_cookie.specs.declared.change.Change.{Change}
use Rattle.rkt_request.specs.Lent.{Grows, Kept, Lent, MayGrow, with_jar}
use Rattle.rkt_response.specs.Flash.{Flashed, flash_cookie, flashing, with_flash}

-- the jar whose log is cut off behind as many changes
cut : ℕ → JarParts → JarParts
cut count jar = record jar { log = take count jar.log }

same_jar : (one other : JarParts) → one.originals ≡ other.originals → one.log ≡ other.log → one.floor ≡ other.floor → one ≡ other
same_jar one other originals log floor = λ i. record { originals = originals i; log = log i; floor = floor i }

module _ {C : Type 0} where
  -- what the responder left is the jar of before, once the log is cut off where the flash was added
  cut_back : (flashed : Flashed) (before left : Lent C) → MayGrow (flashing flashed before) left → cut (length before.kept.jar.log) left.kept.jar ≡ before.kept.jar
  unfolding cut
  cut_back flashed before left grows =
      ⊎_elim
      (λ (same : left ≡ flashing flashed before). same_jar _ before.kept.jar
      (ap (λ (lent : Lent C). lent.kept.jar.originals) same)
      (ap (λ (lent : Lent C). take (length old) lent.kept.jar.log) same ∙ take-append_seam old (addition (flash_cookie flashed) ∷ []))
      (ap (λ (lent : Lent C). lent.kept.jar.floor) same))
      (λ (more : Grows (flashing flashed before).kept left.kept × (left.gate ≡ before.gate)). same_jar _ before.kept.jar
      more.0.originals
      (ap (take (length old)) (more.0.log.1 ∙ append_assoc old (addition (flash_cookie flashed) ∷ []) more.0.log.0)
      ∙ take-append_seam old ((addition (flash_cookie flashed) ∷ []) ++ more.0.log.0))
      more.0.floor)
      grows
    where
      old : List Change
      old = before.kept.jar.log

  -- so the context is as it was, or has grown
  grown : (flashed : Flashed) (before left after : Lent C) → MayGrow (flashing flashed before) left → after ≡ with_jar left before.kept.jar → MayGrow before after
  grown flashed before left after grows is = subst (MayGrow before) (sym is) (⊎_elim
      (λ (same : left ≡ flashing flashed before). inl (ap (λ (lent : Lent C). with_jar lent before.kept.jar) same))
      (λ (more : Grows (flashing flashed before).kept left.kept × (left.gate ≡ before.gate)). inr (
        record {
          originals = refl;
          floor = refl;
          log = ([], sym (append-nil before.kept.jar.log));
          cache = more.0.cache;
          shutdown = more.0.shutdown;
        },
        more.1,
      ))
      grows)

  -- the same of the steps by which the flash is taken back
  pub regrown : (flashed : Flashed) (before left : Lent C) (lent added look again back : JarParts) (changes : ℕ) → lent ≡ before.kept.jar → added ≡ with_flash flashed lent
      → MayGrow (with_jar before added) left → changes ≡ length look.log → look ≡ before.kept.jar → again ≡ left.kept.jar → back ≡ record again { log = take changes again.log }
      → MayGrow before (with_jar left back)
  unfolding cut
  regrown flashed before left lent added look again back changes lent_is added_is grows counted looked again_is back_is =
      let more : MayGrow (flashing flashed before) left = subst (λ (jar : JarParts). MayGrow (with_jar before jar) left) (added_is ∙ ap (with_flash flashed) lent_is) grows in
      let count : changes ≡ length before.kept.jar.log = counted ∙ ap (λ (jar : JarParts). length jar.log) looked in
      let is : back ≡ before.kept.jar = back_is ∙ (λ i. cut (count i) (again_is i)) ∙ cut_back flashed before left more in
      grown flashed before left (with_jar left back) more (ap (with_jar left) is)
