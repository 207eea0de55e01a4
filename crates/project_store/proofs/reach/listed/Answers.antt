use Rattle.std.proofs.Common.{◌≡◌, List, ℕ, sym, subst, rules}
use Rattle.std.specs.List.Sorted.{IsStrictlyIncreasing}
use Rattle.std.proofs.lemmas.Map.Keys.{IsStrictlyIncreasing-from_sorted}
use Rattle.project_store.proofs.reach.listed.Goals as goal

pub returns-clause-rising : goal.returns-clause-rising
returns-clause-rising c =
    let all : c.loop-number.list ≡ c.args.numbers.now.keys = search rules in
    subst (λ (ks : List ℕ). IsStrictlyIncreasing ks) (sym all) (IsStrictlyIncreasing-from_sorted c.args.numbers.now.keys c.into_iter-number-iterator.ensures.into_iter_gives.4)
