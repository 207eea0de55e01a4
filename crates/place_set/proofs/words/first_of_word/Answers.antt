use Rattle.place_set.proofs.BitLemmas.{found_set, found_first, is_word}
use Rattle.place_set.proofs.words.first_of_word.Goals as goal

pub returns-clause-set : goal.returns-clause-set
returns-clause-set c = found_set c.args.words.now c.args.w c.requires.some (is_word _ (c.type_inv.words c.args.w))

pub returns-clause-first : goal.returns-clause-first
returns-clause-first c = found_first c.args.words.now c.args.w c.requires.some (is_word _ (c.type_inv.words c.args.w))
