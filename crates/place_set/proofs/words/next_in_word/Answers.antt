use Rattle.std.proofs.Common.{◌/◌, slice_index}
use Rattle.place_set.proofs.BitLemmas.{is_word}
use Rattle.place_set.proofs.NextLemmas.{none_in_word, next_in_word_is, rest_some, rest_small, rest_short}
use Rattle.place_set.proofs.words.next_in_word.Goals as goal

pub returns-then-rest-eq0 : goal.returns-then-rest-eq0
returns-then-rest-eq0 c = none_in_word c.args.words.now c.args.i c.if-rest-eq0.true

pub returns-else-rest-eq0 : goal.returns-else-rest-eq0
returns-else-rest-eq0 c =
    let word = slice_index c.args.words.now (c.args.i / 64) in
    let small = is_word word (c.type_inv.words (c.args.i / 64)) in
    let some = rest_some _ c.if-rest-eq0.false in
    next_in_word_is c.args.words.now c.args.i some (rest_small word _ small) (rest_short word _ small some)
