-- One look-up after the other: the first fault ends the row.
use Rattle.std.specs.Prelude.{◌≡◌, Result, Ok, Err}
use Rattle.step_def.specs.declared.fault.DefFault.{DefFault}

-- what comes of the value, or the fault before it
infixl 10 ◌>>=◌
abbrev pub ◌>>=◌ : {A B : Type 0} → Result A DefFault → (A → Result B DefFault) → Result B DefFault
(Ok x) >>= f = f x
(Err fault) >>= f = Err fault

-- what a function returned, seen by view, is this
abbrev pub Gives : {X Y : Type 0} → (X → Y) → Result X DefFault → Result Y DefFault → Type 0
Gives view (Ok x) looked = looked ≡ Ok (view x)
Gives view (Err fault) looked = looked ≡ Err fault
