use Rattle.std.proofs.Common.{◌≡◌, true, false, refl, arith, Some}
use Rattle.std.specs.Prelude.{slice_get}
use Rattle.std.specs.Str.{bytes_eq}
use Rattle.std.proofs.lemmas.Option.{slice_get_read}
use Rattle.nc_outside.proofs.Named.{none_yet, named_at}
use Rattle.nc_outside.proofs.memory_files.place_of.Goals as goal

pub returns-then-eq-clause-found : goal.returns-then-eq-clause-found
returns-then-eq-clause-found c =
    let f = c.index-files-i.result in
    let at : slice_get c.args.files.now c.loop-i.i ≡ Some f = slice_get_read c.args.files.now _ c.loop-i.i f refl (omega arith) c.index-files-i.is in
    let same : bytes_eq f.name c.args.name.now ≡ true = cc in
    (omega arith, record { none_before = c.loop-i.invariant; here = named_at _ f c.args.name.now at same })

pub loop-i-preserved : goal.loop-i-preserved
loop-i-preserved c =
    let f = c.index-files-i.result in
    let at : slice_get c.args.files.now c.loop-i.i ≡ Some f = slice_get_read c.args.files.now _ c.loop-i.i f refl (omega arith) c.index-files-i.is in
    let differ : bytes_eq f.name c.args.name.now ≡ false = cc in
    none_yet c.args.files.now c.loop-i.i f c.args.name.now at differ c.loop-i.invariant
