-- `build_nested::insert::insert_nested` meets its contract: the insert, and the guest placed where it is accepted.
use Rattle.build_nested.proofs.NestLaws.{accepted_low}
use native.Mathlib.Omega.{arith}
use Rattle.build_nested.proofs.insert.insert_nested.Goals as goal

pub overflow_add-held : goal.overflow_add-held
overflow_add-held c =
    let a = c.args in
    let h = c.held_height-held.result in
    let l = accepted_low a.words.now a.arena.now a.table a.key.now a.guest h _ _ c.insert_below_path.ensures _ c.in_ok-replaced.was tt in
    omega arith
