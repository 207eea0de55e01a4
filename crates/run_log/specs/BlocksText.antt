-- The text of blocks by themselves, after this profile: a line for each.
use Rattle.std.specs.Prelude.{ℕ, List}
use Rattle.std.specs.List.{flat_map}
use Rattle.path_blocks.specs.declared.block.Block.{Block}
use Rattle.run_log.specs.Line.{line}
use Rattle.run_log.specs.LogText.{block_words}

unfoldable pub block_line : Block → List ℕ
block_line b = line (block_words b)

abbrev pub blocks_text : List Block → List ℕ
blocks_text blocks = flat_map block_line blocks
