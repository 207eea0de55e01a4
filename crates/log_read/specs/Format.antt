-- Texts in lines, each in its place, and where a text leaves them.
use Rattle.std.specs.Prelude.{◌≡◌, ◌⊎◌, ℕ, ◌+◌, ◌<◌, Bool, true, ◌&&◌, List, [], ◌∷◌, ◌++◌, length}
use Rattle.run_log.specs.LinesFrom.{lines_from}

-- A format: the line that a text begins with, the line of an entry behind those before it, the last line behind all entries, and whether an entry
-- may stand behind those before it.
pub record Format (E D : Type 0) : Type 0 where
  pub first : List ℕ
  pub line : List E → E → List ℕ
  pub last : List E → D → List ℕ
  pub allows : List E → E → Bool

-- each entry may stand behind those before it
abbrev pub allows_all : {E : Type 0} → (List E → E → Bool) → List E → List E → Bool
allows_all allows before [] = true
allows_all allows before (x ∷ t) = allows before x && allows_all allows (before ++ x ∷ []) t

-- the lines at the front of a text: none, the first one and those of entries, or with them the last one
pub data Front (E D : Type 0) : Type 0 where
  Nothing : Front E D
  Begun : List E → Front E D
  Ended : List E → D → Front E D

-- their text
abbrev pub front_text : {E D : Type 0} → Format E D → Front E D → List ℕ
front_text f Nothing = []
front_text f (Begun t) = f.first ++ lines_from f.line [] t
front_text f (Ended t d) = f.first ++ (lines_from f.line [] t ++ f.last t d)

-- how many lines they are
abbrev pub line_count : {E D : Type 0} → Front E D → ℕ
line_count Nothing = 0
line_count (Begun t) = length t + 1
line_count (Ended t d) = length t + 2

-- their entries
abbrev pub front_entries : {E D : Type 0} → Front E D → List E
front_entries Nothing = []
front_entries (Begun t) = t
front_entries (Ended t d) = t

-- the line may come next: the first one behind none, the line of an entry that may stand there or the last one behind entries, and none behind the last
abbrev pub IsInPlace : {E D : Type 0} → Format E D → Front E D → List ℕ → Type 0
IsInPlace f Nothing line = line ≡ f.first
IsInPlace {E = E} {D = D} f (Begun t) line = ((x : E) × (f.allows t x ≡ true) × (line ≡ f.line t x)) ⊎ ((d : D) × (line ≡ f.last t d))
IsInPlace f (Ended t d) line = ⊥

-- The text begins with these lines, each of which is in its place, and behind them no line that may come next begins its rest.
pub record Leaves {E D : Type 0} (f : Format E D) (bytes : List ℕ) (front : Front E D) (rest : List ℕ) : Type 0 where
  pub text : bytes ≡ front_text f front ++ rest
  pub good : allows_all f.allows [] (front_entries front) ≡ true
  pub stop : (line behind : List ℕ) → IsInPlace f front line → rest ≡ line ++ behind → ⊥

-- the lines have no last one
abbrev pub IsOpen : {E D : Type 0} → Front E D → Type 0
IsOpen Nothing = Unit {0}
IsOpen (Begun t) = Unit {0}
IsOpen (Ended t d) = ⊥

-- every line of the text is in its place, and none is the last one
pub record HasNoEnd {E D : Type 0} (f : Format E D) (bytes : List ℕ) : Type 0 where
  pub front : Front E D
  pub no_last : IsOpen front
  pub good : allows_all f.allows [] (front_entries front) ≡ true
  pub text : bytes ≡ front_text f front

-- Line l, counted from 1, is the first that isn't in its place: the lines before it are, and what follows them begins with no line that may come next.
pub record IsBadLine {E D : Type 0} (f : Format E D) (bytes : List ℕ) (l : ℕ) : Type 0 where
  pub front : Front E D
  pub rest : List ℕ
  pub leaves : Leaves f bytes front rest
  pub more : 0 < length rest
  pub line : l ≡ line_count front + 1
