use Rattle.std.proofs.Common.{◌≡◌, ℕ, take}
use Rattle.std.specs.Ordering.{nat_cmp}
use Rattle.std.specs.BTreeMap.{get}
use Rattle.nc_expr.specs.Vars.{last_value}
use Rattle.nc_expr.proofs.vars.Vars.new.Given as goal

-- the map has the pairs so far
abbrev pub invariant-loop-pair : goal.invariant-loop-pair
invariant-loop-pair l = (m : ℕ) → get nat_cmp l.values m ≡ last_value (take l.pair-index l.opening) m
