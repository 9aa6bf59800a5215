-- What a call has answered that was handed on.
use Rattle.std.proofs.Common.{◌≡◌, subst, Result, Ok, Err}
use Rattle.std.specs.Borrow.{Bor}
use Rattle.std.specs.Fn.{Once, FnOnceReturnsAt}
use Rattle.rkt_base.specs.Want.{IfRefused}
use Rattle.rkt_base.specs.declared.want.Want.{Want}
use Rattle.rkt_base.specs.declared.want.Want.TheVariants.{Refused, NoMemory}

-- what follows from the reason of a refusal
pub IfRefused-weaker : {T E : Type 0} (r : Result T (Want E)) (P Q : E → Type 0) → ((e : E) → P e → Q e) → IfRefused r P → IfRefused r Q
IfRefused-weaker (Ok x) P Q more given = tt
IfRefused-weaker (Err (Refused e)) P Q more given = more e given
IfRefused-weaker (Err NoMemory) P Q more given = tt

-- what a closure gave for what is behind a reference
pub returned_at : {F T R : Type 0} (g : Once F (Bor T × Unit {0}) R) (f : F) (x : T) (r s : R) (p : Bor T) → p.now ≡ x → r ≡ s → g.post f (p, tt) r → FnOnceReturnsAt g f x s
returned_at {F} {T} {R} g f x r s p is same post = (p, (let P : R → Type 0 = g.post f (p, tt) in subst P same post), is)

-- a refusal that is passed on, and what follows from its reason
pub refused_on : {E : Type 0} (T U : Type 0) (w : Want E) (P : E → Type 0) → IfRefused {T = T} (Err w) P → IfRefused {T = U} (Err w) P
refused_on T U (Refused e) P given = given
refused_on T U NoMemory P given = tt

pub refused_so_on : {E : Type 0} (T U : Type 0) (w : Want E) (P Q : E → Type 0) → ((e : E) → P e → Q e) → IfRefused {T = T} (Err w) P → IfRefused {T = U} (Err w) Q
refused_so_on T U (Refused e) P Q more given = more e given
refused_so_on T U NoMemory P Q more given = tt
