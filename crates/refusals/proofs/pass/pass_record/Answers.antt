use mathlib.Core.Path.{◌≡◌, refl, sym, subst, ◌∙◌}
use mathlib.Core.Bool.{true}
use Prim.Native.Nat.{ℕ, ◌+◌}
use Rattle.sheet.specs.Head.{quad_at, by_quads}
use Rattle.sheet.specs.declared.Head.{Head}
use Rattle.sheet.proofs.Heads.{by_quads_lem}
use Rattle.refusals.specs.Packed.{light, Passed}
use Rattle.refusals.proofs.Light.{light_quad, passes_linked}
use Rattle.refusals.proofs.Passing.{right_passed}
use Rattle.refusals.proofs.pass.pass_record.Goals as goal

pub light_labels-requires : goal.light_labels-requires
light_labels-requires c =
    let l = sym c.is_light.ensures ∙ c.if-is_light.true in
    subst (λ (x : ℕ). light (by_quads c.quad_at-a.result x 0 0) ≡ true) (light_quad c.quad_at-a.result c.quad_at.result l) l

pub returns-in-Some : goal.returns-in-Some
returns-in-Some c =
    let l = sym c.is_light.ensures ∙ c.if-is_light.true in
    subst (λ (h : Head). Passed h c.args.up c.args.found (c.args.found + c.in-Some.labels))
    (by_quads_lem c.args.s.now c.args.i (λ j. (c.type_inv.s j).fits) _ _ (quad_at c.args.s.now (c.args.i + 8)) _ c.quad_at-a.ensures.0 c.quad_at.ensures.0 refl c.quad_at-then-is_light.ensures.0)
    (right_passed _ c.args.up c.args.found _ c.requires.1.0 (passes_linked _ _ _ _ _ _ _ (light_quad c.quad_at-a.result c.quad_at.result l) c.in-Some.ensures) c.requires.1.1)
