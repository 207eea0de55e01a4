use Rattle.std.proofs.Common.{◌≡◌, ◌++◌, Ok, length, rules}
use Rattle.std.specs.List.{AllByRecursion}
use Rattle.p21_lex.specs.Reading.{IsToken}
use Rattle.p21_lex.specs.Tokens.{tokens_of}
use Rattle.p21_join.specs.Join.{EndsInSemicolon, LastIsSemicolon}
use Rattle.p21_slices.proofs.Parts.{begins}
use Rattle.p21_slices.proofs.slice.begin.Goals as goal

pub returns-in-Ok-clause-front : goal.returns-in-Ok-clause-front
returns-in-Ok-clause-front c =
    let front = c.args.front.now in
    let ts = c.in-Some.first.items in
    let us = c.in-Some-2.last.items in
    let text = c.as_slice-2.result.now in
    let first : tokens_of front ≡ Ok ts = search rules in
    let inside : AllByRecursion (IsToken front) ts = search rules in
    let last : tokens_of c.args.end.now ≡ Ok us = search rules in
    let ends : EndsInSemicolon front = search rules in
    let so : LastIsSemicolon ts = search rules in
    let four : length us ≡ 4 = search rules in
    let is : text ≡ front ++ c.args.end.now = search rules in
    begins front c.args.end.now text ts us _ first inside ends so last four is c.in-Ok.ensures.found
