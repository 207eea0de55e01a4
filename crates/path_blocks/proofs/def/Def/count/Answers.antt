use Rattle.std.proofs.Common.{sym, w64, refl, FitsSigned, rules}
use Rattle.path_blocks.specs.Numbers.{numbers_of}
use Rattle.std.proofs.lemmas.Int.{to_z-of_z}
use Rattle.path_blocks.proofs.def.Def.count.Goals as goal

pub returns-clause-exact : goal.returns-clause-exact
returns-clause-exact c =
    let z0 : FitsSigned w64 c.args.self.now.z0 = search rules in
    let bottom : FitsSigned w64 c.args.self.now.bottom = search rules in
    let axial : FitsSigned w64 c.args.self.now.axial = search rules in
    c.block_count.ensures.path (numbers_of c.args.self.now) (sym (to_z-of_z w64 _ z0)) (sym (to_z-of_z w64 _ bottom)) (sym (to_z-of_z w64 _ axial)) refl
