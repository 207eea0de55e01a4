-- Where symbols leave the grammar of scripts, and where they break a limit first. Nothing here reads forward.
use Rattle.std.specs.Prelude.{◌≡◌, ℕ, ◌⊎◌, false, List, [], ◌∷◌, ◌++◌, length}
use Rattle.p21_parse.specs.Symbol.{Symbol, name}
use Rattle.p21_parse.specs.Nesting.{IsShallow}
use Rattle.p21_parse.specs.Begins.{Begins, StopsAt, DeepAt}
use Rattle.edit_script.specs.Script.{edit_word, IsScript, IsFewScript}

-- The front of a script breaks no limit: at most 32 parentheses are open in one another, and it begins a script of few edits, each of few instances.
pub record IsWithin (most : ℕ) (front : List Symbol) : Type 0 where
  pub shallow : IsShallow false 0 front
  pub few : Begins (IsFewScript most) front

-- what edits and their instances begin with
abbrev pub IsCounted : Symbol → Type 0
IsCounted s = (s ≡ edit_word) ⊎ ((number : ℕ) × (s ≡ name number))

-- With the word that begins an edit, or the name of an instance, a script goes on, but none of few edits and few instances. So many symbols are left
-- from it on.
pub record ManyAt (most : ℕ) (ss : List Symbol) (left : ℕ) : Type 0 where
  pub front : List Symbol
  pub symbol : Symbol
  pub back : List Symbol
  pub parts : ss ≡ front ++ symbol ∷ back
  pub count : length (symbol ∷ back) ≡ left
  pub begins : Begins IsScript (front ++ symbol ∷ [])
  pub within : IsWithin most front
  pub counted : IsCounted symbol
  pub over : Begins (IsFewScript most) (front ++ symbol ∷ []) → ⊥

-- why symbols are no script of few edits
pub data Cause : Type 0 where
  syntax : Cause
  too_deep : Cause
  too_many : Cause

-- Why, and how many symbols are left from there on: whichever stands earliest. A whole script has no place of Syntax.
abbrev pub Refuses : ℕ → Cause → List Symbol → ℕ → Type 0
Refuses most syntax ss left = StopsAt IsScript (IsWithin most) ss left × (IsScript ss → ⊥)
Refuses most too_deep ss left = DeepAt IsScript (IsWithin most) ss left
Refuses most too_many ss left = ManyAt most ss left
