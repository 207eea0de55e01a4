-- What is left of a budget.
use Rattle.std.specs.Prelude.{ℕ, suc, ◌-◌, nat_le, if◌then◌else◌, Option, Some, None}
use Rattle.exec_tree.specs.declared.limits.TheConstants.{MAX_EXPRESSION_NODES}

-- the budget less what is spent, or None where that is more
abbrev pub rest : ℕ → ℕ → Option ℕ
rest budget spent = if nat_le spent budget then Some (budget - spent) else None

-- what was spent of the nodes that an expression may have, or one more where that was more
abbrev pub capped : Option ℕ → ℕ
capped (Some left) = MAX_EXPRESSION_NODES - left
capped None = suc MAX_EXPRESSION_NODES
