use Rattle.std.proofs.Common.{◌≡◌, IsTrue, map, drop, take}
use Rattle.p21_parse.specs.View.{tree_of}
use Rattle.entity_types.specs.Fits.{all_fit}
use Rattle.entity_read.specs.Typed.{fields_among}
use Rattle.entity_read.proofs.Fields.{with_front}
use Rattle.entity_read.proofs.reading.fields_among.Given as goal

-- the fields so far and those at what is left are those at all
abbrev pub invariant-loop-used : goal.invariant-loop-used
invariant-loop-used l = record {
  value : with_front l.fields (fields_among (drop l.used-index l.used) (map tree_of l.params)) ≡ fields_among l.used (map tree_of l.params);
  fits : IsTrue (all_fit (take l.used-index l.used) l.fields);
}
