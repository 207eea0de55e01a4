use Rattle.std.proofs.Common.{arith}
use Rattle.std.proofs.lemmas.List.Elements.{recursion_from_All}
use Rattle.p21_lex.specs.Reading.{IsToken}
use Rattle.p21_parse.proofs.Followed.{tokens_few}
use Rattle.p21_parse.proofs.following.instances.Goals as goal

pub overflow_cast-result : goal.overflow_cast-result
overflow_cast-result c =
    let found = c.in_ok-items.ensures.found in
    let within = found.inside in
    let few = tokens_few c.args.bytes.now c.args.tokens.now 0 c.args.bytes.now (recursion_from_All (IsToken c.args.bytes.now) c.args.tokens.now c.tokens_fit.ensures.inside) c.tokens_fit.ensures.found in
    let short = c.requires.short in
    omega (arith, within, few, short)
