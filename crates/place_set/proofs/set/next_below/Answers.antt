use Rattle.std.proofs.Common.{◌<◌, ◌+◌, ◌/◌, length, subst, arith, ℕ, Option}
use Rattle.std.specs.Prelude.{MatchOption}
use Rattle.place_set.specs.Words.{NoneInWord, IsNextInWord, NoneFrom, IsNextFrom}
use Rattle.place_set.proofs.NextLemmas.{next_above, none_above}
use Rattle.place_set.proofs.set.next_below.Goals as goal

pub returns-in-Some-next_up : goal.returns-in-Some-next_up
returns-in-Some-next_up c =
    let own = subst (λ (o : Option ℕ). MatchOption o (NoneInWord c.args.low.now c.args.i) (IsNextInWord c.args.low.now c.args.i)) c.in_default.is c.next_in_word.ensures in
    let up = subst (λ (o : Option ℕ). MatchOption o (NoneFrom c.args.mid.now (c.args.i / 64 + 1)) (IsNextFrom c.args.mid.now (c.args.i / 64 + 1))) c.in-Some-next_up.is c.next_up.ensures in
    let l = c.requires.low_length in
    let m = c.requires.mid_length in
    let inside = up.within in
    let within : c.in-Some-next_up.w < length c.args.low.now = omega (arith, l, m, inside) in
    next_above c.args.low.now c.args.mid.now c.args.i c.in-Some-next_up.w c.first_of_word.result c.requires.low_sums within own up c.first_of_word.ensures.word c.first_of_word.ensures.set c.first_of_word.ensures.first

pub returns-in-None : goal.returns-in-None
returns-in-None c =
    let own = subst (λ (o : Option ℕ). MatchOption o (NoneInWord c.args.low.now c.args.i) (IsNextInWord c.args.low.now c.args.i)) c.in_default.is c.next_in_word.ensures in
    let up = subst (λ (o : Option ℕ). MatchOption o (NoneFrom c.args.mid.now (c.args.i / 64 + 1)) (IsNextFrom c.args.mid.now (c.args.i / 64 + 1))) c.in-None.is c.next_up.ensures in
    none_above c.args.low.now c.args.mid.now c.args.i c.requires.low_sums own up
