use Rattle.std.proofs.Common.{◌≡◌, take, length}
use Prim.Native.Nat.{◌/◌}
use Rattle.std.specs.List.{fold}
use Rattle.std.specs.Simd.{first_chunks}
use Rattle.sheet.specs.Names.{stir}
use Rattle.sheet.proofs.Mixing.{stir_all}
use Rattle.sheet.proofs.label.mix.Given as goal

abbrev pub invariant-loop-quad : goal.invariant-loop-quad
invariant-loop-quad l = l.k ≡ stir_all 0 (take l.quad-index l.quads)

abbrev pub invariant-loop-byte : goal.invariant-loop-byte
invariant-loop-byte l = l.k ≡ fold stir (stir_all 0 (first_chunks 4 (length l.name / 4) l.name)) (take l.byte-index l.rest)
