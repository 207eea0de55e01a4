use Rattle.std.proofs.Common.{◌≡◌, map, drop}
use Rattle.entity_types.specs.Class.{class_among}
use Rattle.entity_types.proofs.keyword.class_among.Given as goal

-- the rows that are left give what all rows give
abbrev pub invariant-loop-row : goal.invariant-loop-row
invariant-loop-row l = class_among (map (λ row. (row.0.now, row.1)) (drop l.row-index l.rows)) l.keyword ≡ class_among (map (λ row. (row.0.now, row.1)) l.rows) l.keyword
