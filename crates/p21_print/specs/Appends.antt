-- What printing a part of an exchange adds to a text.
use Rattle.std.specs.Prelude.{◌≡◌, ℕ, List, ◌++◌}
use Rattle.p21_parse.specs.Symbol.{Symbol}
use Rattle.p21_print.specs.Printed.{printed_symbols}

-- Behind the old text, the new one has what is spelled, whatever is printed next.
abbrev pub Appends : (List Symbol → List Symbol) → List ℕ → List ℕ → Type 0
Appends spelled old new = (rest : List Symbol) → new ++ printed_symbols rest ≡ old ++ printed_symbols (spelled rest)
