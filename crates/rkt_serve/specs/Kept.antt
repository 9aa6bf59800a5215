-- What an error of a launch hands back.
use Rattle.std.specs.Prelude.{◌≡◌, Some, None}
use Rattle.rkt_ignition.specs.declared.error.IgniteError.{IgniteError}
use Rattle.rkt_serve.specs.declared.error.ErrorKindOf.{ErrorKindOf}
use Rattle.rkt_serve.specs.declared.error.ErrorKindOf.TheVariants.{Ignition, Shutdown, NoMemory}

-- a fact of what was launched, where an error keeps it
abbrev pub IfKept : {M L C : Type 0} → ErrorKindOf M L C → (M → Type 0) → Type 0
IfKept (NoMemory None) P = Unit {0}
IfKept (NoMemory (Some launched)) P = P launched
IfKept (Shutdown launched) P = P launched
IfKept (Ignition fault listener clock) P = Unit {0}

-- a fact of what was launched, where its listener failed
abbrev pub IfShutdown : {M L C : Type 0} → ErrorKindOf M L C → (M → Type 0) → Type 0
IfShutdown (Shutdown launched) P = P launched
IfShutdown (NoMemory kept) P = Unit {0}
IfShutdown (Ignition fault listener clock) P = Unit {0}

-- a fact of what was launched, where there was no memory to go on
abbrev pub IfWanting : {M L C : Type 0} → ErrorKindOf M L C → (M → Type 0) → Type 0
IfWanting (NoMemory None) P = Unit {0}
IfWanting (NoMemory (Some launched)) P = P launched
IfWanting (Shutdown launched) P = Unit {0}
IfWanting (Ignition fault listener clock) P = Unit {0}

-- a fact of why it does not ignite, where it does not
abbrev pub IfUnlit : {M L C : Type 0} → ErrorKindOf M L C → (IgniteError → Type 0) → Type 0
IfUnlit (Ignition fault listener clock) P = P fault
IfUnlit (NoMemory kept) P = Unit {0}
IfUnlit (Shutdown launched) P = Unit {0}

-- where it does not ignite, listener and clock come back as they were
abbrev pub GivesBack : {M L C : Type 0} → L → C → ErrorKindOf M L C → Type 0
GivesBack listener clock (Ignition fault l c) = (l ≡ listener) × (c ≡ clock)
GivesBack listener clock (NoMemory kept) = Unit {0}
GivesBack listener clock (Shutdown launched) = Unit {0}

-- it is want of memory
abbrev pub IsWant : {M L C : Type 0} → ErrorKindOf M L C → Type 0
IsWant (Ignition fault listener clock) = ⊥
IsWant (NoMemory kept) = Unit {0}
IsWant (Shutdown launched) = ⊥

-- it has ignited
abbrev pub IsLit : {M L C : Type 0} → ErrorKindOf M L C → Type 0
IsLit (Ignition fault listener clock) = ⊥
IsLit (NoMemory kept) = Unit {0}
IsLit (Shutdown launched) = Unit {0}
