use Rattle.std.proofs.Common.{◌↔◌, ℕ, IsTrue, List, subst}
use Rattle.std.specs.List.{AllByRecursion}
use Rattle.p21_parse.specs.Symbol.{keyword}
use Rattle.p21_parse.specs.Tree.{Tree}
use Rattle.p21_parse.specs.View.{part_of}
use Rattle.p21_parse.specs.Begins.{IsSymbol}
use Rattle.p21_parse.specs.Built.{Fits}
use Rattle.p21_parse.proofs.Fit.{part_valid}
use Rattle.p21_parse.proofs.fitting.is_valid_part.Goals as goal

pub returns-then-is_keyword : goal.returns-then-is_keyword
returns-then-is_keyword c =
    let real : IsSymbol (keyword c.args.part.now.keyword) = subst (λ (w : List ℕ). IsSymbol (keyword w)) c.bytes.ensures (c.is_keyword.ensures.0 c.if-is_keyword.true) in
    part_valid (part_of c.args.part.now) c.all_fit.result real (subst (λ (ts : List Tree). IsTrue c.all_fit.result ↔ AllByRecursion (Fits 31) ts) c.as_slice.ensures c.all_fit.ensures)
