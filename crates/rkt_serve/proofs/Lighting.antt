-- What an error of a launch keeps.
use Rattle.std.proofs.Common.{Some, None, Result, Ok, Err}
use Rattle.std.specs.Prelude.{IfErr, IfOk, IsErr}
use Rattle.rkt_serve.specs.Kept.{IfKept, IfShutdown, IfWanting, IsLit}
use Rattle.rkt_serve.specs.declared.error.ErrorKindOf.{ErrorKindOf}
use Rattle.rkt_serve.specs.declared.error.ErrorKindOf.TheVariants.{Ignition, Shutdown, NoMemory}

-- nothing is promised of what has failed
pub if_failed : {T E : Type 0} (P : T → Type 0) (answer : Result T E) → IsErr answer → IfOk answer P
if_failed P (Ok t) is = absurd (cc is)
if_failed P (Err e) is = tt

-- a fact of what an error keeps, by another one
pub if_kept : {M L C : Type 0} (P Q : M → Type 0) → ((launched : M) → P launched → Q launched) → (error : ErrorKindOf M L C) → IfKept error P → IfKept error Q
if_kept P Q so (NoMemory None) known = tt
if_kept P Q so (NoMemory (Some launched)) known = so launched known
if_kept P Q so (Shutdown launched) known = so launched known
if_kept P Q so (Ignition fault listener clock) known = tt

-- and by two
pub if_kept_both : {M L C T : Type 0} (P Q R : M → Type 0) → ((launched : M) → P launched → Q launched → R launched) → (answer : Result T (ErrorKindOf M L C)) → IfErr answer (λ e. IfKept e P) → IfErr answer (λ e. IfKept e Q) → IfErr answer (λ e. IfKept e R)
if_kept_both P Q R so (Ok t) one two = tt
if_kept_both P Q R so (Err (NoMemory None)) one two = tt
if_kept_both P Q R so (Err (NoMemory (Some launched))) one two = so launched one two
if_kept_both P Q R so (Err (Shutdown launched)) one two = so launched one two
if_kept_both P Q R so (Err (Ignition fault listener clock)) one two = tt

-- and with what is known where there was no memory
pub if_wanting : {M L C T : Type 0} (P Q : M → Type 0) (N : Type 0) → ((launched : M) → P launched → N → Q launched) → (answer : Result T (ErrorKindOf M L C)) → IfErr answer (λ e. IfKept e P) → IfErr answer (λ e. IfWanting e (λ launched. N))
    → IfErr answer (λ e. IfWanting e Q)
if_wanting P Q N so (Ok t) kept known = tt
if_wanting P Q N so (Err (NoMemory None)) kept known = tt
if_wanting P Q N so (Err (NoMemory (Some launched))) kept known = so launched kept known
if_wanting P Q N so (Err (Shutdown launched)) kept known = tt
if_wanting P Q N so (Err (Ignition fault listener clock)) kept known = tt

-- and with what is known where the listener failed
pub if_shutdown : {M L C T : Type 0} (P Q : M → Type 0) (N : Type 0) → ((launched : M) → P launched → N → Q launched) → (answer : Result T (ErrorKindOf M L C)) → IfErr answer (λ e. IfKept e P) → IfErr answer (λ e. IfShutdown e (λ launched. N))
    → IfErr answer (λ e. IfShutdown e Q)
if_shutdown P Q N so (Ok t) kept known = tt
if_shutdown P Q N so (Err (NoMemory kept)) kept' known = tt
if_shutdown P Q N so (Err (Shutdown launched)) kept known = so launched kept known
if_shutdown P Q N so (Err (Ignition fault listener clock)) kept known = tt

-- an error of what has ignited, with what is known where its shutdown failed
pub lit_and : {M X Q T : Type 0} (P : M → Type 0) (answer : Result T (ErrorKindOf M X Q)) → IfErr answer (λ e. IsLit e) → IfErr answer (λ e. IfShutdown e P) → IfErr answer (λ e. IsLit e × IfShutdown e P)
lit_and P (Ok t) lit known = tt
lit_and P (Err e) lit known = (lit, known)
