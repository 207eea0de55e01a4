use Rattle.entity_types.proofs.KeywordLemmas.{other_length}
use Rattle.entity_types.proofs.keyword.is_word.Goals as goal

pub returns-else-keyword-word : goal.returns-else-keyword-word
returns-else-keyword-word c = other_length c.args.keyword.now c.args.word.now c.if-keyword-word.false
