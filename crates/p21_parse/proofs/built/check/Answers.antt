use Rattle.std.proofs.Common.{◌≡◌, ◌≤◌, ◌<◌, ℕ, nat_eq, Some, map, length, subst, sym, arith, rules}
use Rattle.std.specs.List.{IsDistinct}
use Rattle.std.proofs.lemmas.List.{length-map}
use Rattle.p21_parse.specs.View.{instance_of}
use Rattle.p21_parse.specs.Names.{IsFirstRepeat}
use Rattle.p21_parse.specs.Built.{IsFirstInvalid}
use Rattle.p21_parse.proofs.Building.{invalid_again, invalid_next, all_valid}
use Rattle.p21_parse.proofs.built.check.Goals as goal

pub returns-in-Some-clause-refused : goal.returns-in-Some-clause-refused
returns-in-Some-clause-refused c =
    let numbers = c.in_ok-numbers.numbers.items in
    let first : IsFirstRepeat numbers (Some c.in-Some.again) = subst (λ o. IsFirstRepeat numbers o) c.in-Some.is (subst (λ xs. IsFirstRepeat xs c.in_ok-again.field-0) c.as_slice.ensures.value c.in_ok-again.ensures) in
    invalid_again (map instance_of c.args.items.now) numbers c.in_ok-numbers.ensures c.in-Some.again first

pub returns-then-len-items-clause-refused : goal.returns-then-len-items-clause-refused
returns-then-len-items-clause-refused c =
    let items = map instance_of c.args.items.now in
    let numbers = c.in_ok-numbers.numbers.items in
    let distinct : IsDistinct nat_eq numbers = subst (λ o. IsFirstRepeat numbers o) c.in_default.is (subst (λ xs. IsFirstRepeat xs c.in_ok-again.field-0) c.as_slice.ensures.value c.in_ok-again.ensures) in
    let len : c.len-then-len-items.result ≡ length numbers = search rules in
    let fewer : length numbers < length items = omega (arith, c.if-len-items.true, c.len.ensures, length-map c.args.items.now instance_of) in
    subst (λ (n : ℕ). IsFirstInvalid items n) (sym len) (invalid_next items numbers c.in_ok-numbers.ensures distinct fewer)

pub returns-clause-valid : goal.returns-clause-valid
returns-clause-valid c =
    let items = map instance_of c.args.items.now in
    let numbers = c.in_ok-numbers.numbers.items in
    let distinct : IsDistinct nat_eq numbers = subst (λ o. IsFirstRepeat numbers o) c.in_default.is (subst (λ xs. IsFirstRepeat xs c.in_ok-again.field-0) c.as_slice.ensures.value c.in_ok-again.ensures) in
    let all : length items ≤ length numbers = omega (arith, c.if-len-items.false, c.len.ensures, length-map c.args.items.now instance_of) in
    all_valid items numbers c.in_ok-numbers.ensures distinct all
