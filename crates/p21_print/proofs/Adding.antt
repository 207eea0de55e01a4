-- What is put at the end of a text, one thing behind the other.
use Rattle.std.proofs.Common.{◌≡◌, ℕ, List, [], ◌∷◌, ◌++◌, map, drop, sym, ap, ◌∙◌, append_assoc, append-nil}
use Rattle.p21_parse.specs.Symbol.{Symbol}
use Rattle.p21_parse.specs.Spell.{spell_all}
use Rattle.p21_print.specs.Printed.{printed_symbol, printed_symbols}
use Rattle.p21_print.specs.Appends.{Appends}

-- With what is still to come, the text is what it was and all that is spelled.
abbrev pub Reaches : (List Symbol → List Symbol) → (List Symbol → List Symbol) → List ℕ → List ℕ → Type 0
Reaches spelled to_come old new = (rest : List Symbol) → new ++ printed_symbols (to_come rest) ≡ old ++ printed_symbols (spelled rest)

-- what is put at once
pub at_once : (spelled : List Symbol → List Symbol) (bytes old new : List ℕ) → ((rest : List Symbol) → bytes ++ printed_symbols rest ≡ printed_symbols (spelled rest)) → new ≡ old ++ bytes → Appends spelled old new
at_once spelled bytes old new is e =
    λ rest. ap (λ (text : List ℕ). text ++ printed_symbols rest) e ∙ append_assoc old bytes (printed_symbols rest) ∙ ap (λ (more : List ℕ). old ++ more) (is rest)

-- one symbol that ends no line
pub one : (s : Symbol) (bytes old new : List ℕ) → printed_symbol s ≡ bytes ++ [] → new ≡ old ++ bytes → Appends (λ rest. s ∷ rest) old new
one s bytes old new is e =
    at_once (λ rest. s ∷ rest) bytes old new (λ rest. ap (λ (text : List ℕ). text ++ printed_symbols rest) (sym (is ∙ append-nil bytes))) e

-- one thing, and another behind it
pub both : (f g : List Symbol → List Symbol) (a b c : List ℕ) → Appends f a b → Appends g b c → Appends (λ rest. f (g rest)) a c
both f g a b c h k = λ rest. k rest ∙ h (g rest)

-- The same of a list of things of one sort, of which those from an index on are to come.
abbrev pub ToCome : {X Y : Type 0} → (Y → List Symbol → List Symbol) → (X → Y) → List X → ℕ → List ℕ → List ℕ → Type 0
ToCome each view xs i old new = Reaches (spell_all each (map view xs)) (spell_all each (map view (drop i xs))) old new
