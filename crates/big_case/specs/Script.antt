-- The script of the large case (this profile): edits that revise the depth of workingsteps.
use Rattle.std.specs.Prelude.{ℕ, ◌+◌, ◌*◌, ◌/◌, List, ◌++◌, codes, decimal}
use Rattle.std.specs.List.{flat_map, range_with_len}
use Rattle.big_case.specs.declared.step.Revision.{Revision}
use Rattle.big_case.specs.Draws.{revision_at}
use Rattle.big_case.specs.Project.{step_number}

-- An edit in a line of its own, with one blank between its parts: when it is due, and the point of the plane of a depth.
abbrev pub edit_text : ℕ → Revision → List ℕ
edit_text at revision =
    codes "EDIT AT " ++ decimal at
    ++ codes "; #" ++ decimal (step_number revision.step + 7)
    ++ codes "=CARTESIAN_POINT('',(0.,0.,-" ++ decimal revision.depth
    ++ codes ".)); ENDEDIT;\n"

-- the edit at an index, counted from 0: it is due 20 entries after the one before it
abbrev pub edit_at : ℕ → ℕ → ℕ → List ℕ
edit_at steps start j = edit_text (20 * j) (revision_at steps start j)

-- the script for a project of so many workingsteps, of which one edit comes to ten, drawn from a start on
abbrev pub script : ℕ → ℕ → List ℕ
script steps start = flat_map (edit_at steps start) (range_with_len 0 (steps / 10))
