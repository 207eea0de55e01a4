use Rattle.std.proofs.Common.{◌≡◌, refl, arith, Some}
use Rattle.std.specs.Prelude.{slice_get}
use Rattle.std.proofs.lemmas.Option.{slice_get_read}
use Rattle.nc_outside.proofs.Named.{gives_bytes}
use Rattle.nc_outside.proofs.memory_files.replace_bytes.Goals as goal

pub returns : goal.returns
returns c =
    let f = c.index_mut-file.result.now in
    let at : slice_get c.args.files.now.items c.args.i ≡ Some f = slice_get_read c.args.files.now.items _ c.args.i f refl (omega arith) c.index_mut-file.ensures.value in
    gives_bytes c.args.files.now.items c.args.i f _ c.args.bytes.items at refl refl refl
