use Rattle.std.proofs.Common.{◌≡◌, map, length, rules}
use Rattle.p21_parse.specs.View.{instance_of}
use Rattle.p21_join.specs.Join.{EndsInSemicolon, LastIsSemicolon}
use Rattle.p21_parse.specs.declared.limits.TheConstants.{MAX_INSTANCES}
use Rattle.p21_slices.proofs.Parts.{is_whole}
use Rattle.p21_slices.proofs.slice.whole.Goals as goal

pub returns-else-next-found : goal.returns-else-next-found
returns-else-next-found c =
    let slice = c.args.slice.now in
    let ts = c.args.found.now in
    let ends : EndsInSemicolon slice = search rules in
    let last : LastIsSemicolon ts = search rules in
    let all : c.in-Ok.next ≡ length ts = search rules in
    is_whole slice ts (map instance_of c.in-Ok.items) c.in-Ok.next MAX_INSTANCES c.requires.exact c.requires.inside ends last c.in-Ok.ensures.found all
