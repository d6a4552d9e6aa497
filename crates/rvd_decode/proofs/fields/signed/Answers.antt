use Rattle.std.proofs.Common.{◌≤◌, ◌^◌, arith}
use Rattle.std.proofs.Math.Pow.{pow_mono}
use Rattle.std.proofs.lemmas.Int.{ints}
use Rattle.rvd_decode.proofs.fields.signed.Goals as goal

pub overflow_sub-result : goal.overflow_sub-result
overflow_sub-result g c =
    let small : 2 ^ g.row.WIDTH ≤ 2 ^ 30 = pow_mono {i = g.row.WIDTH} {j = 30} (omega arith) in
    omega (arith, ints)
