use Rattle.std.proofs.Common.{◌≡◌, ℕ, List, get_or, sym, subst, arith}
use Rattle.std.proofs.lemmas.Grind.{common_steps}
use Rattle.edit_script.specs.Edits.{IsRepeat}
use Rattle.edit_script.specs.Judged.{IsRepeatAt}
use Rattle.edit_script.proofs.Judging.{repeat_is}
use Rattle.edit_script.proofs.repeat.repeated.Goals as goal

pub returns : goal.returns
returns c =
    let numbers = c.in_ok-numbers.numbers.items in
    let i = c.in_ok-again.again in
    let there : IsRepeatAt numbers i = subst (λ (xs : List ℕ). IsRepeatAt xs i) c.as_slice-2.ensures.value c.in_ok-again.ensures in
    let is : get_or numbers i 0 ≡ c.index.result.now = grind (arith, common_steps) in
    subst (λ (xs : List ℕ). IsRepeat xs c.index.result.now) c.in_ok-numbers.ensures (repeat_is numbers i c.index.result.now (sym is) there)
