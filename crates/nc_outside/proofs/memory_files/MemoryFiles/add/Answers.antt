use Rattle.std.proofs.Common.{◌≡◌, refl, None, ◌∙◌}
use Rattle.nc_outside.specs.MemoryState.{IsFirst, file_named}
use Rattle.nc_outside.proofs.Named.{added_held, added_faults}
use Rattle.nc_outside.proofs.memory_files.MemoryFiles.add.Goals as goal

pub returns-in-Some-clause-faults : goal.returns-in-Some-clause-faults
returns-in-Some-clause-faults c =
    let first : IsFirst c.self.inside.files.items c.args.name.now c.in-Some.i = rw (← c.deref.ensures.value, ← c.bytes.ensures) c.in-Some.ensures.found.1 in
    rw (← c.self.view_is) (λ n. rw (c.replace_bytes.ensures c.args.name.now first n).1 refl)

pub returns-in_ok-push-in-None-clause-ok : goal.returns-in_ok-push-in-None-clause-ok
returns-in_ok-push-in-None-clause-ok c =
    let none : file_named c.self.inside.files.items c.args.name.now ≡ None = rw (← c.deref.ensures.value, ← c.bytes.ensures) c.in-None.ensures.absent in
    let named = c.in_ok-of-in-None.ensures ∙ c.bytes-in-None.ensures in
    rw (← c.self.view_is, c.in_ok-push-in-None.ensures.items, ← c.in_ok-copy.ensures.items) (λ n. added_held c.self.inside.files.items c.args.name.now _ none named n)

pub returns-in_ok-push-in-None-clause-faults : goal.returns-in_ok-push-in-None-clause-faults
returns-in_ok-push-in-None-clause-faults c =
    let none : file_named c.self.inside.files.items c.args.name.now ≡ None = rw (← c.deref.ensures.value, ← c.bytes.ensures) c.in-None.ensures.absent in
    let named = c.in_ok-of-in-None.ensures ∙ c.bytes-in-None.ensures in
    rw (← c.self.view_is, c.in_ok-push-in-None.ensures.items) (λ n. added_faults c.self.inside.files.items c.args.name.now _ c.self.inside.absent_faults none named refl n)
