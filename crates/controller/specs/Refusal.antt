-- The lines of refusals, of a project, of a script, of a schedule and of a log, after this profile: the reason's name and its numbers.
use Rattle.std.specs.Prelude.{ℕ, List, ◌++◌, codes, decimal}
use Rattle.p21_lex.specs.declared.error.LexErr.{LexErr}
use Rattle.p21_lex.specs.declared.error.LexErr.TheVariants as lexes
use Rattle.p21_parse.specs.declared.error.ReadErr.{ReadErr}
use Rattle.p21_parse.specs.declared.error.ReadErr.TheVariants as reads
use Rattle.entity_read.specs.declared.error.TypeErr.{TypeErr}
use Rattle.entity_read.specs.declared.error.TypeErr.TheVariants as types
use Rattle.project_store.specs.declared.error.StoreErr.{StoreErr}
use Rattle.project_store.specs.declared.error.StoreErr.TheVariants as stores
use Rattle.step_def.specs.declared.fault.DefFault.{DefFault}
use Rattle.step_def.specs.declared.fault.DefFault.TheVariants.{Missing, HasToolpath, BadDirection, Mismatch, NotRectangle, NotPositive, OutOfRange, ToolTooBig, TooManyBlocks}
use Rattle.project_read.specs.declared.reason.ProjectReason.{ProjectReason}
use Rattle.project_read.specs.declared.reason.ProjectReason.TheVariants.{TooLong, Read, Attribute, Store, Tree, Definition, NoStep}
use Rattle.exec_tree.specs.declared.error.TreeErr.{TreeErr}
use Rattle.exec_tree.specs.declared.error.TreeErr.TheVariants as trees
use Rattle.edit_script.specs.declared.error.ScriptErr.{ScriptErr}
use Rattle.edit_script.specs.declared.error.ScriptErr.TheVariants as edits
use Rattle.controller.specs.declared.status.ScriptReason.{ScriptReason}
use Rattle.controller.specs.declared.status.ScriptReason.TheVariants as script
use Rattle.controller.specs.declared.status.LogReason.{LogReason}
use Rattle.controller.specs.declared.status.LogReason.TheVariants as logs
use Rattle.controller.specs.Texts.{row}

-- a name with a number behind it
abbrev pub one : List ℕ → ℕ → List ℕ
one name a = name ++ (codes " " ++ decimal a)

-- a name with two numbers behind it
abbrev pub two : List ℕ → ℕ → ℕ → List ℕ
two name a b = one name a ++ (codes " " ++ decimal b)

abbrev pub lex_text : LexErr → List ℕ
lex_text (lexes.BadByte place) = one (codes "BadByte") place
lex_text (lexes.BadName place) = one (codes "BadName") place
lex_text (lexes.OpenString place) = one (codes "OpenString") place
lex_text (lexes.OpenComment place) = one (codes "OpenComment") place
lex_text (lexes.NumberTooLong place) = one (codes "NumberTooLong") place
lex_text lexes.NoMemory = codes "NoMemory"

abbrev pub read_text : ReadErr → List ℕ
read_text (reads.Lex fault) = lex_text fault
read_text (reads.Syntax place) = one (codes "Syntax") place
read_text (reads.TooDeep place) = one (codes "TooDeep") place
read_text (reads.TooMany place) = one (codes "TooMany") place
read_text (reads.Duplicate n) = one (codes "Duplicate") n
read_text reads.NoMemory = codes "NoMemory"

abbrev pub type_text : TypeErr → List ℕ
type_text (types.BadAttribute n position) = two (codes "BadAttribute") n position
type_text types.NoMemory = codes "NoMemory"

abbrev pub store_text : StoreErr → List ℕ
store_text stores.NoProject = codes "NoProject"
store_text (stores.ManyProjects n) = one (codes "ManyProjects") n
store_text (stores.Unresolved n reference) = two (codes "Unresolved") n reference
store_text (stores.WrongKind n position) = two (codes "WrongKind") n position
store_text stores.NoMemory = codes "NoMemory"

-- a tree that is too deep is written apart from parentheses that are
abbrev pub tree_text : TreeErr → List ℕ
tree_text (trees.Shared n) = one (codes "Shared") n
tree_text (trees.TooDeep n) = one (codes "TreeTooDeep") n
tree_text trees.TooManyNodes = codes "TooManyNodes"
tree_text (trees.ExprTooBig n) = one (codes "ExprTooBig") n
tree_text trees.TooManyChannels = codes "TooManyChannels"
tree_text (trees.NewChannel n) = one (codes "NewChannel") n
tree_text trees.NoMemory = codes "NoMemory"

abbrev pub fault_text : DefFault → List ℕ
fault_text (Missing n position) = two (codes "Missing") n position
fault_text (HasToolpath operation) = one (codes "HasToolpath") operation
fault_text (BadDirection n) = one (codes "BadDirection") n
fault_text (Mismatch operation feature) = two (codes "Mismatch") operation feature
fault_text (NotRectangle n) = one (codes "NotRectangle") n
fault_text (NotPositive n position) = two (codes "NotPositive") n position
fault_text (OutOfRange n position) = two (codes "OutOfRange") n position
fault_text (ToolTooBig tool) = one (codes "ToolTooBig") tool
fault_text (TooManyBlocks n count) = two (codes "TooManyBlocks") n count

abbrev pub reason_text : ProjectReason → List ℕ
reason_text TooLong = codes "TooLong"
reason_text (Read fault) = read_text fault
reason_text (Attribute fault) = type_text fault
reason_text (Store fault) = store_text fault
reason_text (Tree fault) = tree_text fault
reason_text (Definition n fault) = one (codes "Definition") n ++ (codes " " ++ fault_text fault)
reason_text (NoStep n) = one (codes "NoStep") n

abbrev pub refusal_line : ProjectReason → List ℕ
refusal_line reason = row (codes "refused " ++ reason_text reason)

-- a name with three numbers behind it
abbrev pub three : List ℕ → ℕ → ℕ → ℕ → List ℕ
three name a b c = two name a b ++ (codes " " ++ decimal c)

abbrev pub edits_text : ScriptErr → List ℕ
edits_text (edits.Lex fault) = lex_text fault
edits_text (edits.Syntax place) = one (codes "Syntax") place
edits_text (edits.TooDeep place) = one (codes "TooDeep") place
edits_text (edits.TooMany place) = one (codes "TooMany") place
edits_text (edits.AtOrder edit) = one (codes "AtOrder") edit
edits_text (edits.Repeated edit n) = two (codes "Repeated") edit n
edits_text (edits.Attribute edit n position) = three (codes "Attribute") edit n position
edits_text edits.NoMemory = codes "NoMemory"

abbrev pub script_text : ScriptReason → List ℕ
script_text script.TooLong = codes "TooLong"
script_text (script.Script fault) = edits_text fault
script_text (script.Schedule place) = one (codes "Schedule") place

abbrev pub script_line : ScriptReason → List ℕ
script_line reason = row (codes "refused " ++ script_text reason)

abbrev pub log_text : LogReason → List ℕ
log_text logs.TooLong = codes "TooLong"
log_text (logs.BadLine l) = one (codes "BadLine") l
log_text logs.NoEnd = codes "NoEnd"

abbrev pub log_line : LogReason → List ℕ
log_line reason = row (codes "refused " ++ log_text reason)
