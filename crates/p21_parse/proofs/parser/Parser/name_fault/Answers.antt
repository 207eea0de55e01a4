use Rattle.std.proofs.Common.{◌≡◌, ◌≤◌, ◌+◌, ℕ, Some, length, get_or, subst, arith}
use Rattle.std.specs.Prelude.{option_map}
use Rattle.std.proofs.lemmas.Grind.{common_steps}
use Rattle.p21_parse.specs.declared.names.NameFault.TheVariants.{Duplicate}
use Rattle.p21_parse.specs.Names.{NamesAre, AreOwn, IsFirstRepeat}
use Rattle.p21_parse.proofs.BehindLemmas.{count_is}
use Rattle.p21_parse.proofs.Naming.{twice}
use Rattle.p21_parse.proofs.parser.Parser.name_fault.Goals as goal

pub returns-in-Some : goal.returns-in-Some
returns-in-Some c =
    let numbers = c.in_ok-numbers.numbers.items in
    let i = c.in-Some.again in
    let first : IsFirstRepeat numbers (Some i) = subst (λ o. IsFirstRepeat numbers o) c.in-Some.is (subst (λ xs. IsFirstRepeat xs c.in_ok-again.field-0) c.as_slice.ensures.value c.in_ok-again.ensures) in
    let is : get_or numbers i 0 ≡ c.index.result.now = grind (arith, common_steps) in
    λ s ts l.
    let own : AreOwn s (length ts + c.args.end) numbers (option_map (λ at. length ts + at) c.in_ok-numbers.one_more) = c.in_ok-numbers.ensures s ts l in
    let within : length ts + c.args.end ≤ length s.tokens.now = omega (arith, count_is s c.args.self.now ts c.args.earlier.now l, c.requires.end) in
    subst (λ (n : ℕ). NamesAre s (length ts + c.args.end) (Some (Duplicate n))) is (twice s (length ts + c.args.end) numbers (option_map (λ at. length ts + at) c.in_ok-numbers.one_more) i within own first)
