-- A place on the path of a definition.
use Rattle.std.specs.Prelude.{◌≡◌, ℕ, ◌+◌, min, List, length, take, drop}
use Rattle.path_blocks.specs.declared.block.Block.{Block}
use Rattle.path_blocks.specs.declared.def.Def.{Def}
use Rattle.path_blocks.specs.Path.{path_of}

-- how far along the path of a definition: so many of its blocks were given
pub record Place : Type 0 where
  pub def : Def
  pub given : ℕ

-- where the path begins
abbrev pub start : Def → Place
start d = record { def = d; given = 0 }

-- the blocks before the place
abbrev pub behind : Place → List Block
behind p = take p.given (path_of p.def)

-- the blocks from the place on
abbrev pub ahead : Place → List Block
ahead p = drop p.given (path_of p.def)

-- the place so many blocks further on, or the path's end where that comes first
abbrev pub onward : Place → ℕ → Place
onward p n = record { def = p.def; given = min (p.given + n) (length (path_of p.def)) }

-- all blocks of the path were given
abbrev pub IsAtEnd : Place → Type 0
IsAtEnd p = p.given ≡ length (path_of p.def)
