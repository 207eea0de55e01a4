use Rattle.std.proofs.Common.{◌<◌, ◌+◌, ◌/◌, ◌≡◌, length, subst, arith, ℕ, Option}
use Rattle.std.specs.Prelude.{MatchOption}
use Rattle.place_set.specs.Words.{NoneInWord, IsNextInWord}
use Rattle.place_set.proofs.NextLemmas.{next_here, next_above, none_above, none_of_one}
use Rattle.place_set.proofs.set.next_up.Goals as goal

pub returns-in-Some-next_in_word : goal.returns-in-Some-next_in_word
returns-in-Some-next_in_word c =
    let own = subst (λ (o : Option ℕ). MatchOption o (NoneInWord c.args.below.now c.args.i) (IsNextInWord c.args.below.now c.args.i)) c.in_default.is c.next_in_word.ensures in
    let up = subst (λ (o : Option ℕ). MatchOption o (NoneInWord c.args.above.now (c.args.i / 64 + 1)) (IsNextInWord c.args.above.now (c.args.i / 64 + 1))) c.in-Some-next_in_word.is c.next_in_word-2.ensures in
    let long = c.requires.long in
    let one = c.requires.one in
    let word = up.word in
    let inside : (c.args.i / 64 + 1) / 64 < length c.args.above.now = omega (arith, one, c.if-i-ge64.false) in
    let within : c.in-Some-next_in_word.w < length c.args.below.now = omega (arith, long, word, c.if-i-ge64.false) in
    next_above c.args.below.now c.args.above.now c.args.i c.in-Some-next_in_word.w c.first_of_word.result c.requires.sums within own (next_here c.args.above.now (c.args.i / 64 + 1) c.in-Some-next_in_word.w inside up)
    c.first_of_word.ensures.word c.first_of_word.ensures.set c.first_of_word.ensures.first

pub returns-in-None : goal.returns-in-None
returns-in-None c =
    let own = subst (λ (o : Option ℕ). MatchOption o (NoneInWord c.args.below.now c.args.i) (IsNextInWord c.args.below.now c.args.i)) c.in_default.is c.next_in_word.ensures in
    let up = subst (λ (o : Option ℕ). MatchOption o (NoneInWord c.args.above.now (c.args.i / 64 + 1)) (IsNextInWord c.args.above.now (c.args.i / 64 + 1))) c.in-None.is c.next_in_word-2.ensures in
    let first : (c.args.i / 64 + 1) / 64 ≡ 0 = omega (arith, c.if-i-ge64.false) in
    none_above c.args.below.now c.args.above.now c.args.i c.requires.sums own (none_of_one c.args.above.now (c.args.i / 64 + 1) c.requires.one first up)
