-- Of each public function: any two results that its promise allows are equal, and so is all that the two calls leave in what was lent to be written. `Learnt` is what a caller learns of a call: the function's own clauses as the prover reads them, so no promise is written here a second time, but for the two loads. Equal as values: the logic has one NaN, so its pattern is left open. `tools/determined` finds a public function that is missing. Assumes nothing.
use mathlib.Core.Path.{◌≡◌, refl, ap}
use mathlib.Core.List.{List, [], ◌∷◌}
use Prim.Native.Nat.{ℕ, ◌≤◌}
use native.Mathlib.Omega.{arith}
use lib.ListN.{length}
use lib.Ieee.{Float}
use seplogic.Ra.Ura.{Ura}
use base.Logic.{SProp}
use prog.Memory.{Memory}
use prog.Routine.{Routine}
use types.Logic.{Logic}
use contract.Lifetimes.{Lfts}
use contract.Monad.{Fun}
use denote.Param.{number}
use denote.Param.Laws.{Laws, IsCopy}
use denote.RattleType.{RattleType}
use denote.Triple.Entry.{Args}
use denote.Triple.Clauses.{Lasts}
use denote.MutBor.{MutBor}
use mir.Syntax.{Dict, w64}
use mir.Val.{Fits}
use Rattle.std.specs.declared.clone.Clone.{Ghosts as Clone}
use Rattle.std.specs.declared.ops.Add.{Ghosts as Add}
use Rattle.std.specs.declared.ops.Sub.{Ghosts as Sub}
use Rattle.std.specs.declared.ops.Mul.{Ghosts as Mul}
use Rattle.std.specs.declared.ops.Div.{Ghosts as Div}
use Rattle.face.specs.declared.triangle.Shape.{Ghosts as Shape}
use Rattle.face.specs.declared.vec.Point.{Ghosts as Point}
use Rattle.boundary.specs.ToC.{answer_to_c}
use Rattle.cells.specs.declared.Cell.{Cell}
use Rattle.cells.specs.Cells.{load_answer, numbers_loaded, neighbours_loaded}
use Rattle.arith.proofs.Determined.{determined}
use Rattle.promises.specs.Fixes.{Promise, Fixes, Says}
use Rattle.arith
use Rattle.face
use Rattle.patterns
use Rattle.insetting
use Rattle.answer
use Rattle.placement
use Rattle.buffers
use Rattle.mesh
use Rattle.plane_builder
use Rattle.cheap_column
use Rattle.merge
use Rattle.stl
use Rattle.stl_writing
use Rattle.stl_reading
use Rattle.column
use Rattle.boundary
use Rattle.column_builder
use Rattle.heightmap
use Rattle.heightmap_plan
use Rattle.heightmap_why
use Rattle.heightmap_faces
use Rattle.heightmap_laying
use Rattle.heightmap_builder
use Rattle.sheet
use Rattle.cells
use Rattle.exports

-- ---- what fixes nothing: no promise, an inequality, a buffer that is left out
pub no-promise : Fixes patterns.specs.contracts.digit_value.ended (λ κs a x e. Unit {0}) → ⊥
no-promise f = let z : ◌≡◌ {A = ℕ} 0 1 = (f tt (0, tt) 0 1 (tt, tt) (tt, tt) tt tt).0 in omega arith

pub inequality : Fixes patterns.specs.contracts.digit_value.ended (λ κs a x e. x ≤ 16) → ⊥
inequality f = let z : ◌≡◌ {A = ℕ} 0 1 = (f tt (0, tt) 0 1 (tt, tt) (tt, tt) (omega arith) (omega arith)).0 in omega arith

pub left_out : (κs : Lfts 2) (a : Args sheet.specs.contracts.write_answer.signature κs) → Fixes sheet.specs.contracts.write_answer.ended (λ κs a x e. x ≡ 0) → ⊥
left_out κs a f =
    let same = (f κs a 0 0 (tt, ([], tt)) (tt, (0 ∷ [], tt)) refl refl).1 in
    let z : ◌≡◌ {A = ℕ} 0 1 = ap (λ (w : Lasts sheet.specs.contracts.write_answer.ended κs a). length w.1.0) same in
    omega arith

-- ---- arith
pub arith-root : Fixes arith.specs.contracts.root.ended arith.proofs.root.Reads.Learnt
arith-root κs a x y v w p q = (determined p q, refl)

pub arith-fused : Fixes arith.specs.contracts.fused.ended arith.proofs.fused.Reads.Learnt
arith-fused κs a x y v w p q = (determined p q, refl)

-- ---- face
pub face-face-raise : Fixes face.specs.contracts.face.raise.ended face.proofs.face.raise.Reads.Learnt
face-face-raise κs a x y v w p q = (determined p q, refl)

pub face-face-new-quad : Fixes face.specs.contracts.face.new_quad.ended face.proofs.face.new_quad.Reads.Learnt
face-face-new-quad κs a x y v w p q = (determined p q, refl)

pub face-face-new-bounded-quad : Fixes face.specs.contracts.face.new_bounded_quad.ended face.proofs.face.new_bounded_quad.Reads.Learnt
face-face-new-bounded-quad κs a x y v w p q = (determined p q, refl)

pub face-face-raise-six : Fixes face.specs.contracts.face.raise_six.ended face.proofs.face.raise_six.Reads.Learnt
face-face-raise-six κs a x y v w p q = (determined p q, refl)

pub face-face-new-hexagon : Fixes face.specs.contracts.face.new_hexagon.ended face.proofs.face.new_hexagon.Reads.Learnt
face-face-new-hexagon κs a x y v w p q = (determined p q, refl)

pub face-triangle-QuadShape-own-triangle : Fixes face.specs.contracts.triangle.QuadShape.own_triangle.ended face.proofs.triangle.QuadShape.own_triangle.Reads.Learnt
face-triangle-QuadShape-own-triangle κs a x y v w p q = (determined p q, refl)

pub face-triangle-HexagonShape-own-triangle : Fixes face.specs.contracts.triangle.HexagonShape.own_triangle.ended face.proofs.triangle.HexagonShape.own_triangle.Reads.Learnt
face-triangle-HexagonShape-own-triangle κs a x y v w p q = (determined p q, refl)

pub face-triangle-triangle-of : (S : RattleType) (l : Laws S) (s : Shape S.Denot) (d : Dict)
    → Fixes (face.specs.contracts.triangle.triangle_of.ended S s d) (face.proofs.triangle.triangle_of.Reads.Learnt S l s d)
face-triangle-triangle-of S l s d κs a x y v w p q = (determined p q, refl)

pub face-triangle-counts-of : (S : RattleType) (l : Laws S) (s : Shape S.Denot) (d : Dict)
    → Fixes (face.specs.contracts.triangle.counts_of.ended S s d) (face.proofs.triangle.counts_of.Reads.Learnt S l s d)
face-triangle-counts-of S l s d κs a x y v w p q = (determined p q, refl)

pub face-uv-mapping-alter-uv : Fixes face.specs.contracts.uv_mapping.alter_uv.ended face.proofs.uv_mapping.alter_uv.Reads.Learnt
face-uv-mapping-alter-uv κs a x y v w p q = (determined p q, refl)

pub face-uv-mapping-alter : (n : ℕ) (f : Fits w64 n) → Fixes (face.specs.contracts.uv_mapping.alter.ended (number n)) (face.proofs.uv_mapping.alter.Reads.Learnt n f)
face-uv-mapping-alter n f κs a x y v w p q = (determined p q, refl)

pub face-uv-mapping-wrap-uv : Fixes face.specs.contracts.uv_mapping.wrap_uv.ended face.proofs.uv_mapping.wrap_uv.Reads.Learnt
face-uv-mapping-wrap-uv κs a x y v w p q = (determined p q, refl)

pub face-uv-mapping-wrap-six : Fixes face.specs.contracts.uv_mapping.wrap_six.ended face.proofs.uv_mapping.wrap_six.Reads.Learnt
face-uv-mapping-wrap-six κs a x y v w p q = (determined p q, refl)

pub face-inset-is-none : Fixes face.specs.contracts.inset.is_none.ended face.proofs.inset.is_none.Reads.Learnt
face-inset-is-none κs a x y v w p q = (determined p q, refl)

pub face-vec-one-over : Fixes face.specs.contracts.vec.one_over.ended face.proofs.vec.one_over.Reads.Learnt
face-vec-one-over κs a x y v w p q = (determined p q, refl)

pub face-uv-mapping-UvOptionsDefault-default : Fixes face.specs.contracts.uv_mapping.UvOptionsDefault.default.ended face.proofs.uv_mapping.UvOptionsDefault.default.Reads.Learnt
face-uv-mapping-UvOptionsDefault-default κs a x y v w p q = (determined p q, refl)

pub face-vec-Vec2Add-add : Fixes face.specs.contracts.vec.Vec2Add.add.ended face.proofs.vec.Vec2Add.add.Reads.Learnt
face-vec-Vec2Add-add κs a x y v w p q = (determined p q, refl)

pub face-vec-Vec2Sub-sub : Fixes face.specs.contracts.vec.Vec2Sub.sub.ended face.proofs.vec.Vec2Sub.sub.Reads.Learnt
face-vec-Vec2Sub-sub κs a x y v w p q = (determined p q, refl)

pub face-vec-Vec2MulF32-mul : Fixes face.specs.contracts.vec.Vec2MulF32.mul.ended face.proofs.vec.Vec2MulF32.mul.Reads.Learnt
face-vec-Vec2MulF32-mul κs a x y v w p q = (determined p q, refl)

pub face-vec-Vec2DivF32-div : Fixes face.specs.contracts.vec.Vec2DivF32.div.ended face.proofs.vec.Vec2DivF32.div.Reads.Learnt
face-vec-Vec2DivF32-div κs a x y v w p q = (determined p q, refl)

pub face-vec-Vec2Point-zero : Fixes face.specs.contracts.vec.Vec2Point.zero.ended face.proofs.vec.Vec2Point.zero.Reads.Learnt
face-vec-Vec2Point-zero κs a x y v w p q = (determined p q, refl)

pub face-vec-Vec2Point-squared : Fixes face.specs.contracts.vec.Vec2Point.squared.ended face.proofs.vec.Vec2Point.squared.Reads.Learnt
face-vec-Vec2Point-squared κs a x y v w p q = (determined p q, refl)

pub face-vec-Vec2Point-length : Fixes face.specs.contracts.vec.Vec2Point.length.ended face.proofs.vec.Vec2Point.length.Reads.Learnt
face-vec-Vec2Point-length κs a x y v w p q = (determined p q, refl)

pub face-vec-Vec2Point-direction : Fixes face.specs.contracts.vec.Vec2Point.direction.ended face.proofs.vec.Vec2Point.direction.Reads.Learnt
face-vec-Vec2Point-direction κs a x y v w p q = (determined p q, refl)

pub face-vec-Vec3Add-add : Fixes face.specs.contracts.vec.Vec3Add.add.ended face.proofs.vec.Vec3Add.add.Reads.Learnt
face-vec-Vec3Add-add κs a x y v w p q = (determined p q, refl)

pub face-vec-Vec3Sub-sub : Fixes face.specs.contracts.vec.Vec3Sub.sub.ended face.proofs.vec.Vec3Sub.sub.Reads.Learnt
face-vec-Vec3Sub-sub κs a x y v w p q = (determined p q, refl)

pub face-vec-Vec3MulF32-mul : Fixes face.specs.contracts.vec.Vec3MulF32.mul.ended face.proofs.vec.Vec3MulF32.mul.Reads.Learnt
face-vec-Vec3MulF32-mul κs a x y v w p q = (determined p q, refl)

pub face-vec-Vec3DivF32-div : Fixes face.specs.contracts.vec.Vec3DivF32.div.ended face.proofs.vec.Vec3DivF32.div.Reads.Learnt
face-vec-Vec3DivF32-div κs a x y v w p q = (determined p q, refl)

pub face-vec-Vec3Point-zero : Fixes face.specs.contracts.vec.Vec3Point.zero.ended face.proofs.vec.Vec3Point.zero.Reads.Learnt
face-vec-Vec3Point-zero κs a x y v w p q = (determined p q, refl)

pub face-vec-Vec3Point-squared : Fixes face.specs.contracts.vec.Vec3Point.squared.ended face.proofs.vec.Vec3Point.squared.Reads.Learnt
face-vec-Vec3Point-squared κs a x y v w p q = (determined p q, refl)

pub face-vec-Vec3Point-length : Fixes face.specs.contracts.vec.Vec3Point.length.ended face.proofs.vec.Vec3Point.length.Reads.Learnt
face-vec-Vec3Point-length κs a x y v w p q = (determined p q, refl)

pub face-vec-Vec3Point-direction : Fixes face.specs.contracts.vec.Vec3Point.direction.ended face.proofs.vec.Vec3Point.direction.Reads.Learnt
face-vec-Vec3Point-direction κs a x y v w p q = (determined p q, refl)

-- ---- patterns
pub patterns-float : Fixes patterns.specs.contracts.float.ended patterns.proofs.float.Reads.Learnt
patterns-float κs a x y v w p q = (determined p q, refl)

pub patterns-pattern : Fixes patterns.specs.contracts.pattern.ended patterns.proofs.pattern.Reads.Learnt
patterns-pattern κs a x y v w p q = (determined p q, refl)

pub patterns-digit-value : Fixes patterns.specs.contracts.digit_value.ended patterns.proofs.digit_value.Reads.Learnt
patterns-digit-value κs a x y v w p q = (determined p q, refl)

pub patterns-bytes-of : Fixes patterns.specs.contracts.bytes_of.ended patterns.proofs.bytes_of.Reads.Learnt
patterns-bytes-of κs a x y v w p q = (determined p q, refl)

pub patterns-of-bytes : Fixes patterns.specs.contracts.of_bytes.ended patterns.proofs.of_bytes.Reads.Learnt
patterns-of-bytes κs a x y v w p q = (determined p q, refl)

-- ---- insetting
pub insetting-centroid : (P : RattleType) (n : ℕ) (l : Laws P) (f : Fits w64 n) (c : IsCopy P) (p : Point P.Denot) (i : Dict) (copied : Clone P.Denot) (j : Dict) (added : Add P.Denot P.Denot P.Denot) (k : Dict) (less : Sub P.Denot P.Denot P.Denot) (m : Dict) (times : Mul P.Denot Float P.Denot) (o : Dict) (over : Div P.Denot Float P.Denot) (r : Dict)
    → Fixes (insetting.specs.contracts.centroid.ended P (number n) p i copied j added k less m times o over r) (insetting.proofs.centroid.Reads.Learnt P n l f c p i copied j added k less m times o over r)
insetting-centroid P n l f c p i copied j added k less m times o over r κs a x y v w q s = (determined q s, refl)

pub insetting-inset-quad : Fixes insetting.specs.contracts.inset_quad.ended insetting.proofs.inset_quad.Reads.Learnt
insetting-inset-quad κs a x y v w p q = (determined p q, refl)

pub insetting-inset-hexagon : Fixes insetting.specs.contracts.inset_hexagon.ended insetting.proofs.inset_hexagon.Reads.Learnt
insetting-inset-hexagon κs a x y v w p q = (determined p q, refl)

-- ---- answer
pub answer-answer-number-of : Fixes answer.specs.contracts.answer.number_of.ended answer.proofs.answer.number_of.Reads.Learnt
answer-answer-number-of κs a x y v w p q = (determined p q, refl)

pub answer-answer-counts-of : Fixes answer.specs.contracts.answer.counts_of.ended answer.proofs.answer.counts_of.Reads.Learnt
answer-answer-counts-of κs a x y v w p q = (determined p q, refl)

pub answer-answer-need-of : Fixes answer.specs.contracts.answer.need_of.ended answer.proofs.answer.need_of.Reads.Learnt
answer-answer-need-of κs a x y v w p q = (determined p q, refl)

pub answer-answer-limit : Fixes answer.specs.contracts.answer.limit.ended answer.proofs.answer.limit.Reads.Learnt
answer-answer-limit κs a x y v w p q = (determined p q, refl)

pub answer-answer-name : Fixes answer.specs.contracts.answer.name.ended answer.proofs.answer.name.Reads.Learnt
answer-answer-name κs a x y v w p q = (determined p q, refl)

pub answer-answer-room : Fixes answer.specs.contracts.answer.room.ended answer.proofs.answer.room.Reads.Learnt
answer-answer-room κs a x y v w p q = (determined p q, refl)

pub answer-check-in-range : Fixes answer.specs.contracts.check.in_range.ended answer.proofs.check.in_range.Reads.Learnt
answer-check-in-range κs a x y v w p q = (determined p q, refl)

pub answer-check-in-range2 : Fixes answer.specs.contracts.check.in_range2.ended answer.proofs.check.in_range2.Reads.Learnt
answer-check-in-range2 κs a x y v w p q = (determined p q, refl)

pub answer-check-in-range3 : Fixes answer.specs.contracts.check.in_range3.ended answer.proofs.check.in_range3.Reads.Learnt
answer-check-in-range3 κs a x y v w p q = (determined p q, refl)

pub answer-check-all-in-range : Fixes answer.specs.contracts.check.all_in_range.ended answer.proofs.check.all_in_range.Reads.Learnt
answer-check-all-in-range κs a x y v w p q = (determined p q, refl)

pub answer-check-is-exactly : Fixes answer.specs.contracts.check.is_exactly.ended answer.proofs.check.is_exactly.Reads.Learnt
answer-check-is-exactly κs a x y v w p q = (determined p q, refl)

pub answer-check-names-option : Fixes answer.specs.contracts.check.names_option.ended answer.proofs.check.names_option.Reads.Learnt
answer-check-names-option κs a x y v w p q = (determined p q, refl)

pub answer-check-is-neighbour : Fixes answer.specs.contracts.check.is_neighbour.ended answer.proofs.check.is_neighbour.Reads.Learnt
answer-check-is-neighbour κs a x y v w p q = (determined p q, refl)

pub answer-check-all-name-options : Fixes answer.specs.contracts.check.all_name_options.ended answer.proofs.check.all_name_options.Reads.Learnt
answer-check-all-name-options κs a x y v w p q = (determined p q, refl)

pub answer-check-all-below : Fixes answer.specs.contracts.check.all_below.ended answer.proofs.check.all_below.Reads.Learnt
answer-check-all-below κs a x y v w p q = (determined p q, refl)

pub answer-check-all-neighbours : Fixes answer.specs.contracts.check.all_neighbours.ended answer.proofs.check.all_neighbours.Reads.Learnt
answer-check-all-neighbours κs a x y v w p q = (determined p q, refl)

pub answer-check-is-cell-count : Fixes answer.specs.contracts.check.is_cell_count.ended answer.proofs.check.is_cell_count.Reads.Learnt
answer-check-is-cell-count κs a x y v w p q = (determined p q, refl)

-- ---- placement
pub placement-options-entries : Fixes placement.specs.contracts.options.entries.ended placement.proofs.options.entries.Reads.Learnt
placement-options-entries κs a x y v w p q = (determined p q, refl)

pub placement-options-is-table : Fixes placement.specs.contracts.options.is_table.ended placement.proofs.options.is_table.Reads.Learnt
placement-options-is-table κs a x y v w p q = (determined p q, refl)

pub placement-options-FaceOptionsDefault-default : Fixes placement.specs.contracts.options.FaceOptionsDefault.default.ended placement.proofs.options.FaceOptionsDefault.default.Reads.Learnt
placement-options-FaceOptionsDefault-default κs a x y v w p q = (determined p q, refl)

pub placement-options-option-at : Fixes placement.specs.contracts.options.option_at.ended placement.proofs.options.option_at.Reads.Learnt
placement-options-option-at κs a x y v w p q = (determined p q, refl)

pub placement-options-choice-names : Fixes placement.specs.contracts.options.choice_names.ended placement.proofs.options.choice_names.Reads.Learnt
placement-options-choice-names κs a x y v w p q = (determined p q, refl)

pub placement-options-option-for : Fixes placement.specs.contracts.options.option_for.ended placement.proofs.options.option_for.Reads.Learnt
placement-options-option-for κs a x y v w p q = (determined p q, refl)

pub placement-placement-stand-from : Fixes placement.specs.contracts.placement.stand_from.ended placement.proofs.placement.stand_from.Reads.Learnt
placement-placement-stand-from κs a x y v w p q = (determined p q, refl)

pub placement-placement-stand-by : Fixes placement.specs.contracts.placement.stand_by.ended placement.proofs.placement.stand_by.Reads.Learnt
placement-placement-stand-by κs a x y v w p q = (determined p q, refl)

pub placement-placement-stand-point : Fixes placement.specs.contracts.placement.stand_point.ended placement.proofs.placement.stand_point.Reads.Learnt
placement-placement-stand-point κs a x y v w p q = (determined p q, refl)

pub placement-placement-is-shift : Fixes placement.specs.contracts.placement.is_shift.ended placement.proofs.placement.is_shift.Reads.Learnt
placement-placement-is-shift κs a x y v w p q = (determined p q, refl)

pub placement-placement-shift-point : Fixes placement.specs.contracts.placement.shift_point.ended placement.proofs.placement.shift_point.Reads.Learnt
placement-placement-shift-point κs a x y v w p q = (determined p q, refl)

pub placement-placement-stand-normal : Fixes placement.specs.contracts.placement.stand_normal.ended placement.proofs.placement.stand_normal.Reads.Learnt
placement-placement-stand-normal κs a x y v w p q = (determined p q, refl)

pub placement-placement-settle : Fixes placement.specs.contracts.placement.settle.ended placement.proofs.placement.settle.Reads.Learnt
placement-placement-settle κs a x y v w p q = (determined p q, refl)

pub placement-placement-placement-in-range : Fixes placement.specs.contracts.placement.placement_in_range.ended placement.proofs.placement.placement_in_range.Reads.Learnt
placement-placement-placement-in-range κs a x y v w p q = (determined p q, refl)

-- ---- buffers
pub buffers-laying-has-room : Fixes buffers.specs.contracts.laying.has_room.ended buffers.proofs.laying.has_room.Reads.Learnt
buffers-laying-has-room κs a x y v w p q = (determined p q, refl)

pub buffers-laying-lay-quad : Fixes buffers.specs.contracts.laying.lay_quad.ended buffers.proofs.laying.lay_quad.Reads.Learnt
buffers-laying-lay-quad κs a x y v w p q = let e = determined p.1 q.1 in (determined p.0 q.0, λ i. (tt, (tt, (tt, (tt, ((e i).vertices, ((e i).normals, ((e i).uvs, ((e i).indices, tt)))))))))

pub buffers-laying-lay-wall : Fixes buffers.specs.contracts.laying.lay_wall.ended buffers.proofs.laying.lay_wall.Reads.Learnt
buffers-laying-lay-wall κs a x y v w p q = let e = determined p q in (refl, λ i. (tt, (tt, (tt, (tt, ((e i).vertices, ((e i).normals, ((e i).uvs, ((e i).indices, tt)))))))))

pub buffers-laying-lay-hexagon : Fixes buffers.specs.contracts.laying.lay_hexagon.ended buffers.proofs.laying.lay_hexagon.Reads.Learnt
buffers-laying-lay-hexagon κs a x y v w p q = let e = determined p.1 q.1 in (determined p.0 q.0, λ i. (tt, (tt, (tt, (tt, ((e i).vertices, ((e i).normals, ((e i).uvs, ((e i).indices, tt)))))))))

pub buffers-laying-lay-plain-quad : Fixes buffers.specs.contracts.laying.lay_plain_quad.ended buffers.proofs.laying.lay_plain_quad.Reads.Learnt
buffers-laying-lay-plain-quad κs a x y v w p q = let e = determined p q in (refl, λ i. (tt, (tt, ((e i).vertices, ((e i).normals, ((e i).uvs, ((e i).indices, tt)))))))

pub buffers-laying-lay-plain-hexagon : Fixes buffers.specs.contracts.laying.lay_plain_hexagon.ended buffers.proofs.laying.lay_plain_hexagon.Reads.Learnt
buffers-laying-lay-plain-hexagon κs a x y v w p q = let e = determined p q in (refl, λ i. (tt, (tt, ((e i).vertices, ((e i).normals, ((e i).uvs, ((e i).indices, tt)))))))

pub buffers-plain-shift-quad : Fixes buffers.specs.contracts.plain.shift_quad.ended buffers.proofs.plain.shift_quad.Reads.Learnt
buffers-plain-shift-quad κs a x y v w p q = (determined p q, refl)

pub buffers-plain-stand-quad : Fixes buffers.specs.contracts.plain.stand_quad.ended buffers.proofs.plain.stand_quad.Reads.Learnt
buffers-plain-stand-quad κs a x y v w p q = (determined p q, refl)

pub buffers-plain-stand-hexagon : Fixes buffers.specs.contracts.plain.stand_hexagon.ended buffers.proofs.plain.stand_hexagon.Reads.Learnt
buffers-plain-stand-hexagon κs a x y v w p q = (determined p q, refl)

-- ---- mesh
pub mesh-stored-holds-counts : Fixes mesh.specs.contracts.stored.holds_counts.ended mesh.proofs.stored.holds_counts.Reads.Learnt
mesh-stored-holds-counts κs a x y v w p q = (determined p q, refl)

pub mesh-stored-scale : Fixes mesh.specs.contracts.stored.scale.ended mesh.proofs.stored.scale.Reads.Learnt
mesh-stored-scale κs a x y v w p q = let e = determined p.1 q.1 in (determined p.0 q.0, λ i. (tt, (tt, ((e i).vertices, (tt, (tt, (tt, tt)))))))

pub mesh-stored-offset : Fixes mesh.specs.contracts.stored.offset.ended mesh.proofs.stored.offset.Reads.Learnt
mesh-stored-offset κs a x y v w p q = let e = determined p.1 q.1 in (determined p.0 q.0, λ i. (tt, (tt, ((e i).vertices, (tt, (tt, (tt, tt)))))))

pub mesh-stored-texture-scale : Fixes mesh.specs.contracts.stored.texture_scale.ended mesh.proofs.stored.texture_scale.Reads.Learnt
mesh-stored-texture-scale κs a x y v w p q = let e = determined p.1 q.1 in (determined p.0 q.0, λ i. (tt, (tt, (tt, (tt, ((e i).uvs, (tt, tt)))))))

pub mesh-stored-centroid : Fixes mesh.specs.contracts.stored.centroid.ended mesh.proofs.stored.centroid.Reads.Learnt
mesh-stored-centroid κs a x y v w p q = (determined p q, refl)

pub mesh-stored-uv-centroid : Fixes mesh.specs.contracts.stored.uv_centroid.ended mesh.proofs.stored.uv_centroid.Reads.Learnt
mesh-stored-uv-centroid κs a x y v w p q = (determined p q, refl)

pub mesh-windows-faces-if-done : Fixes mesh.specs.contracts.windows.faces_if_done.ended mesh.proofs.windows.faces_if_done.Reads.Learnt
mesh-windows-faces-if-done κs a x y v w p q = (determined p q, refl)

pub mesh-windows-window-if-done : Fixes mesh.specs.contracts.windows.window_if_done.ended mesh.proofs.windows.window_if_done.Reads.Learnt
mesh-windows-window-if-done κs a x y v w p q = (determined p q, refl)

pub mesh-windows-window-of-all : Fixes mesh.specs.contracts.windows.window_of_all.ended mesh.proofs.windows.window_of_all.Reads.Learnt
mesh-windows-window-of-all κs a x y v w p q = (determined p q, refl)

-- ---- plane_builder
pub plane-builder-plan : Fixes plane_builder.specs.contracts.plan.ended plane_builder.proofs.plan.Reads.Learnt
plane-builder-plan κs a x y v w p q = (determined p q, refl)

pub plane-builder-faces : Fixes plane_builder.specs.contracts.faces.ended plane_builder.proofs.faces.Reads.Learnt
plane-builder-faces κs a x y v w p q = (determined p q, refl)

pub plane-builder-window : Fixes plane_builder.specs.contracts.window.ended plane_builder.proofs.window.Reads.Learnt
plane-builder-window κs a x y v w p q = (determined p q, refl)

pub plane-builder-build : Fixes plane_builder.specs.contracts.build.ended plane_builder.proofs.build.Reads.Learnt
plane-builder-build κs a x y v w p q = let e = determined p.1 q.1 in (determined p.0 q.0, λ i. (tt, (tt, (tt, (tt, ((e i).vertices, ((e i).normals, ((e i).uvs, ((e i).indices, tt)))))))))

pub plane-builder-face : Fixes plane_builder.specs.contracts.face.ended plane_builder.proofs.face.Reads.Learnt
plane-builder-face κs a x y v w p q = let e = determined p.1 q.1 in (determined p.0 q.0, λ i. (tt, (tt, (tt, (tt, (tt, ((e i).vertices, ((e i).normals, ((e i).uvs, ((e i).indices, tt))))))))))

pub plane-builder-cap-pair-at : Fixes plane_builder.specs.contracts.cap.pair_at.ended plane_builder.proofs.cap.pair_at.Reads.Learnt
plane-builder-cap-pair-at κs a x y v w p q = (determined p q, refl)

pub plane-builder-cap-corners-of : Fixes plane_builder.specs.contracts.cap.corners_of.ended plane_builder.proofs.cap.corners_of.Reads.Learnt
plane-builder-cap-corners-of κs a x y v w p q = (determined p q, refl)

pub plane-builder-cap-cap-hexagon : Fixes plane_builder.specs.contracts.cap.cap_hexagon.ended plane_builder.proofs.cap.cap_hexagon.Reads.Learnt
plane-builder-cap-cap-hexagon κs a x y v w p q = (determined p q, refl)

pub plane-builder-cap-put-cap : Fixes plane_builder.specs.contracts.cap.put_cap.ended plane_builder.proofs.cap.put_cap.Reads.Learnt
plane-builder-cap-put-cap κs a x y v w p q = let e = determined p q in (refl, λ i. (tt, (tt, (tt, (tt, ((e i).vertices, ((e i).normals, ((e i).uvs, ((e i).indices, tt)))))))))

-- ---- cheap_column
pub cheap-column-plan : Fixes cheap_column.specs.contracts.plan.ended cheap_column.proofs.plan.Reads.Learnt
cheap-column-plan κs a x y v w p q = (determined p q, refl)

pub cheap-column-faces : Fixes cheap_column.specs.contracts.faces.ended cheap_column.proofs.faces.Reads.Learnt
cheap-column-faces κs a x y v w p q = (determined p q, refl)

pub cheap-column-window : Fixes cheap_column.specs.contracts.window.ended cheap_column.proofs.window.Reads.Learnt
cheap-column-window κs a x y v w p q = (determined p q, refl)

pub cheap-column-build : Fixes cheap_column.specs.contracts.build.ended cheap_column.proofs.build.Reads.Learnt
cheap-column-build κs a x y v w p q = let e = determined p.1 q.1 in (determined p.0 q.0, λ i. (tt, (tt, ((e i).vertices, ((e i).normals, ((e i).uvs, ((e i).indices, tt)))))))

pub cheap-column-face : Fixes cheap_column.specs.contracts.face.ended cheap_column.proofs.face.Reads.Learnt
cheap-column-face κs a x y v w p q = let e = determined p.1 q.1 in (determined p.0 q.0, λ i. (tt, (tt, (tt, ((e i).vertices, ((e i).normals, ((e i).uvs, ((e i).indices, tt))))))))

-- ---- merge
pub merge-merge : Fixes merge.specs.contracts.merge.ended merge.proofs.merge.Reads.Learnt
merge-merge κs a x y v w p q = let e = determined p.1 q.1 in (determined p.0 q.0, λ i. (tt, (tt, (tt, (tt, (tt, (tt, ((e i).vertices, ((e i).normals, ((e i).uvs, ((e i).indices, tt)))))))))))

-- ---- stl
pub stl-file-length : Fixes stl.specs.contracts.file_length.ended stl.proofs.file_length.Reads.Learnt
stl-file-length κs a x y v w p q = (determined p q, refl)

-- ---- stl_writing
pub stl-writing-write : Fixes stl_writing.specs.contracts.write.ended stl_writing.proofs.write.Reads.Learnt
stl-writing-write κs a x y v w p q = let e = determined p.1 q.1 in (determined p.0 q.0, λ i. (tt, (tt, (tt, (tt, (tt, (e i, tt)))))))

-- ---- stl_reading
pub stl-reading-read : Fixes stl_reading.specs.contracts.read.ended stl_reading.proofs.read.Reads.Learnt
stl-reading-read κs a x y v w p q = let e = determined p.1 q.1 in (determined p.0 q.0, λ i. (tt, ((e i).vertices, ((e i).normals, ((e i).uvs, ((e i).indices, tt))))))

-- ---- column
pub column-parts-of : Fixes column.specs.contracts.parts_of.ended column.proofs.parts_of.Reads.Learnt
column-parts-of κs a x y v w p q = (determined p q, refl)

pub column-delta-of : Fixes column.specs.contracts.delta_of.ended column.proofs.delta_of.Reads.Learnt
column-delta-of κs a x y v w p q = (determined p q, refl)

pub column-side-counts : Fixes column.specs.contracts.side_counts.ended column.proofs.side_counts.Reads.Learnt
column-side-counts κs a x y v w p q = (determined p q, refl)

pub column-cap-counts : Fixes column.specs.contracts.cap_counts.ended column.proofs.cap_counts.Reads.Learnt
column-cap-counts κs a x y v w p q = (determined p q, refl)

pub column-side-option : Fixes column.specs.contracts.side_option.ended column.proofs.side_option.Reads.Learnt
column-side-option κs a x y v w p q = (determined p q, refl)

pub column-plan : Fixes column.specs.contracts.plan.ended column.proofs.plan.Reads.Learnt
column-plan κs a x y v w p q = (determined p q, refl)

pub column-window-faces : Fixes column.specs.contracts.window.faces.ended column.proofs.window.faces.Reads.Learnt
column-window-faces κs a x y v w p q = (determined p q, refl)

pub column-window-window : Fixes column.specs.contracts.window.window.ended column.proofs.window.window.Reads.Learnt
column-window-window κs a x y v w p q = (determined p q, refl)

pub column-caps-top-stand : Fixes column.specs.contracts.caps.top_stand.ended column.proofs.caps.top_stand.Reads.Learnt
column-caps-top-stand κs a x y v w p q = (determined p q, refl)

pub column-caps-bottom-stand : Fixes column.specs.contracts.caps.bottom_stand.ended column.proofs.caps.bottom_stand.Reads.Learnt
column-caps-bottom-stand κs a x y v w p q = (determined p q, refl)

pub column-names-side-faces : Fixes column.specs.contracts.names.side_faces.ended column.proofs.names.side_faces.Reads.Learnt
column-names-side-faces κs a x y v w p q = (determined p q, refl)

pub column-names-face-count : Fixes column.specs.contracts.names.face_count.ended column.proofs.names.face_count.Reads.Learnt
column-names-face-count κs a x y v w p q = (determined p q, refl)

pub column-names-name-of : Fixes column.specs.contracts.names.name_of.ended column.proofs.names.name_of.Reads.Learnt
column-names-name-of κs a x y v w p q = (determined p q, refl)

pub column-names-piece-of : Fixes column.specs.contracts.names.piece_of.ended column.proofs.names.piece_of.Reads.Learnt
column-names-piece-of κs a x y v w p q = (determined p q, refl)

pub column-names-start-of : Fixes column.specs.contracts.names.start_of.ended column.proofs.names.start_of.Reads.Learnt
column-names-start-of κs a x y v w p q = (determined p q, refl)

pub column-wall-wall-of : Fixes column.specs.contracts.wall.wall_of.ended column.proofs.wall.wall_of.Reads.Learnt
column-wall-wall-of κs a x y v w p q = (determined p q, refl)

pub column-wall-part-at : Fixes column.specs.contracts.wall.part_at.ended column.proofs.wall.part_at.Reads.Learnt
column-wall-part-at κs a x y v w p q = (determined p q, refl)

-- ---- cells
-- a load's clause is one word, `Loading`: here its promise is written out too, and held to the function's own clauses by `refl`
abbrev Loads : {R : Type 0} (answer : ℕ → ℕ → ℕ → R) → List Cell → MutBor (List Float) → MutBor (List ℕ) → R → MutBor (List Float) → MutBor (List ℕ) → Type 0
Loads answer cs l m r l' m' =
    (r ≡ answer (length cs) (length l.now) (length m.now)) × (l'.now ≡ numbers_loaded cs l.now m.now) × (m'.now ≡ neighbours_loaded cs l.now m.now)

abbrev load-promise : Promise cells.specs.contracts.load.ended
load-promise κs a r e = Loads load_answer a.0.now a.1.0 a.1.1.0 r e.1.0 e.1.1.0

pub cells-load-says : {M : Type 1} {𝓤 : Ura M} (𝓛 : Logic 𝓤) (mem : Memory → SProp 𝓤) (run : Routine → Fun 𝓤) → Says cells.specs.contracts.load.ended (cells.specs.contracts.load.clauses 𝓛 mem run) load-promise
cells-load-says 𝓛 mem run κs a g r e = refl

pub cells-load-learnt : Fixes cells.specs.contracts.load.ended cells.proofs.load.Reads.Learnt
cells-load-learnt κs a x y v w p q = (determined p.0 q.0, λ i. (tt, (determined p.1 q.1 i, (determined p.2 q.2 i, tt))))

pub cells_load : Fixes cells.specs.contracts.load.ended load-promise
cells_load κs a x y v w p q = (determined p.0 q.0, λ i. (tt, (determined p.1 q.1 i, (determined p.2 q.2 i, tt))))

-- ---- boundary
pub boundary-from-c-Vec2FromCVec2-from : Fixes boundary.specs.contracts.from_c.Vec2FromCVec2.from.ended boundary.proofs.from_c.Vec2FromCVec2.from.Reads.Learnt
boundary-from-c-Vec2FromCVec2-from κs a x y v w p q = (determined p q, refl)

pub boundary-from-c-Vec3FromCVec3-from : Fixes boundary.specs.contracts.from_c.Vec3FromCVec3.from.ended boundary.proofs.from_c.Vec3FromCVec3.from.Reads.Learnt
boundary-from-c-Vec3FromCVec3-from κs a x y v w p q = (determined p q, refl)

pub boundary-from-c-CountsFromCCounts-from : Fixes boundary.specs.contracts.from_c.CountsFromCCounts.from.ended boundary.proofs.from_c.CountsFromCCounts.from.Reads.Learnt
boundary-from-c-CountsFromCCounts-from κs a x y v w p q = (determined p q, refl)

pub boundary-from-c-Choice3FromCChoice3-from : Fixes boundary.specs.contracts.from_c.Choice3FromCChoice3.from.ended boundary.proofs.from_c.Choice3FromCChoice3.from.Reads.Learnt
boundary-from-c-Choice3FromCChoice3-from κs a x y v w p q = (determined p q, refl)

pub boundary-from-c-TurnFromCTurn-from : Fixes boundary.specs.contracts.from_c.TurnFromCTurn.from.ended boundary.proofs.from_c.TurnFromCTurn.from.Reads.Learnt
boundary-from-c-TurnFromCTurn-from κs a x y v w p q = (determined p q, refl)

pub boundary-from-c-PlacementFromCPlacement-from : Fixes boundary.specs.contracts.from_c.PlacementFromCPlacement.from.ended boundary.proofs.from_c.PlacementFromCPlacement.from.Reads.Learnt
boundary-from-c-PlacementFromCPlacement-from κs a x y v w p q = (determined p q, refl)

pub boundary-from-c-UvOptionsFromCUvOptions-from : Fixes boundary.specs.contracts.from_c.UvOptionsFromCUvOptions.from.ended boundary.proofs.from_c.UvOptionsFromCUvOptions.from.Reads.Learnt
boundary-from-c-UvOptionsFromCUvOptions-from κs a x y v w p q = (determined p q, refl)

pub boundary-jobs-PlaneFromCPlane-from : Fixes boundary.specs.contracts.jobs.PlaneFromCPlane.from.ended boundary.proofs.jobs.PlaneFromCPlane.from.Reads.Learnt
boundary-jobs-PlaneFromCPlane-from κs a x y v w p q = (determined p q, refl)

pub boundary-jobs-ChoiceFromCChoice-from : Fixes boundary.specs.contracts.jobs.ChoiceFromCChoice.from.ended boundary.proofs.jobs.ChoiceFromCChoice.from.Reads.Learnt
boundary-jobs-ChoiceFromCChoice-from κs a x y v w p q = (determined p q, refl)

pub boundary-jobs-SideFromCChoice-from : Fixes boundary.specs.contracts.jobs.SideFromCChoice.from.ended boundary.proofs.jobs.SideFromCChoice.from.Reads.Learnt
boundary-jobs-SideFromCChoice-from κs a x y v w p q = (determined p q, refl)

pub boundary-jobs-SubdivisionsFromCSubdivisions-from : Fixes boundary.specs.contracts.jobs.SubdivisionsFromCSubdivisions.from.ended boundary.proofs.jobs.SubdivisionsFromCSubdivisions.from.Reads.Learnt
boundary-jobs-SubdivisionsFromCSubdivisions-from κs a x y v w p q = (determined p q, refl)

pub boundary-jobs-ColumnFromCColumn-from : Fixes boundary.specs.contracts.jobs.ColumnFromCColumn.from.ended boundary.proofs.jobs.ColumnFromCColumn.from.Reads.Learnt
boundary-jobs-ColumnFromCColumn-from κs a x y v w p q = (determined p q, refl)

pub boundary-jobs-CheapColumnFromCCheapColumn-from : Fixes boundary.specs.contracts.jobs.CheapColumnFromCCheapColumn.from.ended boundary.proofs.jobs.CheapColumnFromCCheapColumn.from.Reads.Learnt
boundary-jobs-CheapColumnFromCCheapColumn-from κs a x y v w p q = (determined p q, refl)

pub boundary-jobs-HeightRangeFromCRange-from : Fixes boundary.specs.contracts.jobs.HeightRangeFromCRange.from.ended boundary.proofs.jobs.HeightRangeFromCRange.from.Reads.Learnt
boundary-jobs-HeightRangeFromCRange-from κs a x y v w p q = (determined p q, refl)

pub boundary-jobs-OriginFromCOrigin-from : Fixes boundary.specs.contracts.jobs.OriginFromCOrigin.from.ended boundary.proofs.jobs.OriginFromCOrigin.from.Reads.Learnt
boundary-jobs-OriginFromCOrigin-from κs a x y v w p q = (determined p q, refl)

pub boundary-jobs-is-fringe : Fixes boundary.specs.contracts.jobs.is_fringe.ended boundary.proofs.jobs.is_fringe.Reads.Learnt
boundary-jobs-is-fringe κs a x y v w p q = (determined p q, refl)

pub boundary-jobs-heightmap-of : Fixes boundary.specs.contracts.jobs.heightmap_of.ended boundary.proofs.jobs.heightmap_of.Reads.Learnt
boundary-jobs-heightmap-of κs a x y v w p q = (determined p q, refl)

pub boundary-jobs-HeightMapTryFromCHeightMap-try-from : Fixes boundary.specs.contracts.jobs.HeightMapTryFromCHeightMap.try_from.ended boundary.proofs.jobs.HeightMapTryFromCHeightMap.try_from.Reads.Learnt
boundary-jobs-HeightMapTryFromCHeightMap-try-from κs a x y v w p q = (determined p q, refl)

pub boundary-to-c-CAnswerFromAnswer-from : Fixes boundary.specs.contracts.to_c.CAnswerFromAnswer.from.ended boundary.proofs.to_c.CAnswerFromAnswer.from.Reads.Learnt
boundary-to-c-CAnswerFromAnswer-from κs a x y v w p q = (determined p q, refl)

pub boundary-to-c-CVec2FromVec2-from : Fixes boundary.specs.contracts.to_c.CVec2FromVec2.from.ended boundary.proofs.to_c.CVec2FromVec2.from.Reads.Learnt
boundary-to-c-CVec2FromVec2-from κs a x y v w p q = (determined p q, refl)

pub boundary-to-c-CVec3FromVec3-from : Fixes boundary.specs.contracts.to_c.CVec3FromVec3.from.ended boundary.proofs.to_c.CVec3FromVec3.from.Reads.Learnt
boundary-to-c-CVec3FromVec3-from κs a x y v w p q = (determined p q, refl)

pub boundary-to-c-CCentroidFromCentroidAnswer-from : Fixes boundary.specs.contracts.to_c.CCentroidFromCentroidAnswer.from.ended boundary.proofs.to_c.CCentroidFromCentroidAnswer.from.Reads.Learnt
boundary-to-c-CCentroidFromCentroidAnswer-from κs a x y v w p q = (determined p q, refl)

pub boundary-to-c-CUvCentroidFromUvCentroidAnswer-from : Fixes boundary.specs.contracts.to_c.CUvCentroidFromUvCentroidAnswer.from.ended boundary.proofs.to_c.CUvCentroidFromUvCentroidAnswer.from.Reads.Learnt
boundary-to-c-CUvCentroidFromUvCentroidAnswer-from κs a x y v w p q = (determined p q, refl)

pub boundary-to-c-CFacesFromFacesAnswer-from : Fixes boundary.specs.contracts.to_c.CFacesFromFacesAnswer.from.ended boundary.proofs.to_c.CFacesFromFacesAnswer.from.Reads.Learnt
boundary-to-c-CFacesFromFacesAnswer-from κs a x y v w p q = (determined p q, refl)

pub boundary-to-c-CWindowFromWindowAnswer-from : Fixes boundary.specs.contracts.to_c.CWindowFromWindowAnswer.from.ended boundary.proofs.to_c.CWindowFromWindowAnswer.from.Reads.Learnt
boundary-to-c-CWindowFromWindowAnswer-from κs a x y v w p q = (determined p q, refl)

pub boundary-to-c-CFileFromFileAnswer-from : Fixes boundary.specs.contracts.to_c.CFileFromFileAnswer.from.ended boundary.proofs.to_c.CFileFromFileAnswer.from.Reads.Learnt
boundary-to-c-CFileFromFileAnswer-from κs a x y v w p q = (determined p q, refl)

pub boundary-to-c-CWhyFromWhyAnswer-from : Fixes boundary.specs.contracts.to_c.CWhyFromWhyAnswer.from.ended boundary.proofs.to_c.CWhyFromWhyAnswer.from.Reads.Learnt
boundary-to-c-CWhyFromWhyAnswer-from κs a x y v w p q = (determined p q, refl)

pub boundary-to-c-CWhichFromWhichAnswer-from : Fixes boundary.specs.contracts.to_c.CWhichFromWhichAnswer.from.ended boundary.proofs.to_c.CWhichFromWhichAnswer.from.Reads.Learnt
boundary-to-c-CWhichFromWhichAnswer-from κs a x y v w p q = (determined p q, refl)

-- ---- column_builder
pub column-builder-plan : Fixes column_builder.specs.contracts.plan.ended column_builder.proofs.plan.Reads.Learnt
column-builder-plan κs a x y v w p q = (determined p q, refl)

pub column-builder-build : Fixes column_builder.specs.contracts.build.ended column_builder.proofs.build.Reads.Learnt
column-builder-build κs a x y v w p q = let e = determined p.1 q.1 in (determined p.0 q.0, λ i. (tt, (tt, (tt, (tt, (tt, ((e i).vertices, ((e i).normals, ((e i).uvs, ((e i).indices, tt))))))))))

pub column-builder-face : Fixes column_builder.specs.contracts.face.ended column_builder.proofs.face.Reads.Learnt
column-builder-face κs a x y v w p q = let e = determined p.1 q.1 in (determined p.0 q.0, λ i. (tt, (tt, (tt, (tt, (tt, (tt, ((e i).vertices, ((e i).normals, ((e i).uvs, ((e i).indices, tt)))))))))))

-- ---- heightmap
pub heightmap-grid-element-or : (T : RattleType) (l : Laws T) (c : IsCopy T) (s : Clone T.Denot) (d : Dict)
    → Fixes (heightmap.specs.contracts.grid.element_or.ended T s d) (heightmap.proofs.grid.element_or.Reads.Learnt T l c s d)
heightmap-grid-element-or T l c s d κs a x y v w p q = (determined p q, refl)

pub heightmap-grid-cell-count : Fixes heightmap.specs.contracts.grid.Grid.cell_count.ended heightmap.proofs.grid.Grid.cell_count.Reads.Learnt
heightmap-grid-cell-count κs a x y v w p q = (determined p q, refl)

pub heightmap-grid-height-at : Fixes heightmap.specs.contracts.grid.Grid.height_at.ended heightmap.proofs.grid.Grid.height_at.Reads.Learnt
heightmap-grid-height-at κs a x y v w p q = (determined p q, refl)

pub heightmap-grid-position-at : Fixes heightmap.specs.contracts.grid.Grid.position_at.ended heightmap.proofs.grid.Grid.position_at.Reads.Learnt
heightmap-grid-position-at κs a x y v w p q = (determined p q, refl)

pub heightmap-grid-left-at : Fixes heightmap.specs.contracts.grid.Grid.left_at.ended heightmap.proofs.grid.Grid.left_at.Reads.Learnt
heightmap-grid-left-at κs a x y v w p q = (determined p q, refl)

pub heightmap-grid-right-at : Fixes heightmap.specs.contracts.grid.Grid.right_at.ended heightmap.proofs.grid.Grid.right_at.Reads.Learnt
heightmap-grid-right-at κs a x y v w p q = (determined p q, refl)

pub heightmap-grid-neighbour-at : Fixes heightmap.specs.contracts.grid.Grid.neighbour_at.ended heightmap.proofs.grid.Grid.neighbour_at.Reads.Learnt
heightmap-grid-neighbour-at κs a x y v w p q = (determined p q, refl)

pub heightmap-grid-fringe-at : Fixes heightmap.specs.contracts.grid.Grid.fringe_at.ended heightmap.proofs.grid.Grid.fringe_at.Reads.Learnt
heightmap-grid-fringe-at κs a x y v w p q = (determined p q, refl)

pub heightmap-grid-wall-at : Fixes heightmap.specs.contracts.grid.Grid.wall_at.ended heightmap.proofs.grid.Grid.wall_at.Reads.Learnt
heightmap-grid-wall-at κs a x y v w p q = (determined p q, refl)

pub heightmap-wall-is-present : Fixes heightmap.specs.contracts.Wall.is_present.ended heightmap.proofs.Wall.is_present.Reads.Learnt
heightmap-wall-is-present κs a x y v w p q = (determined p q, refl)

pub heightmap-wall-foot : Fixes heightmap.specs.contracts.Wall.foot.ended heightmap.proofs.Wall.foot.Reads.Learnt
heightmap-wall-foot κs a x y v w p q = (determined p q, refl)

pub heightmap-grid-span-of : Fixes heightmap.specs.contracts.grid.Grid.span_of.ended heightmap.proofs.grid.Grid.span_of.Reads.Learnt
heightmap-grid-span-of κs a x y v w p q = (determined p q, refl)

pub heightmap-options-choice-of : Fixes heightmap.specs.contracts.options.choice_of.ended heightmap.proofs.options.choice_of.Reads.Learnt
heightmap-options-choice-of κs a x y v w p q = (determined p q, refl)

pub heightmap-options-option-of : Fixes heightmap.specs.contracts.options.option_of.ended heightmap.proofs.options.option_of.Reads.Learnt
heightmap-options-option-of κs a x y v w p q = (determined p q, refl)

pub heightmap-options-origin-of : Fixes heightmap.specs.contracts.options.origin_of.ended heightmap.proofs.options.origin_of.Reads.Learnt
heightmap-options-origin-of κs a x y v w p q = (determined p q, refl)

pub heightmap-options-side-stand : Fixes heightmap.specs.contracts.options.side_stand.ended heightmap.proofs.options.side_stand.Reads.Learnt
heightmap-options-side-stand κs a x y v w p q = (determined p q, refl)

-- ---- heightmap_builder
pub heightmap-builder-plan : Fixes heightmap_builder.specs.contracts.plan.ended heightmap_builder.proofs.plan.Reads.Learnt
heightmap-builder-plan κs a x y v w p q = (determined p q, refl)

pub heightmap-builder-build : Fixes heightmap_builder.specs.contracts.build.ended heightmap_builder.proofs.build.Reads.Learnt
heightmap-builder-build κs a x y v w p q = let e = determined p.1 q.1 in (determined p.0 q.0, λ i. (tt, (tt, ((e i).vertices, ((e i).normals, ((e i).uvs, ((e i).indices, tt)))))))

pub heightmap-builder-face : Fixes heightmap_builder.specs.contracts.face.ended heightmap_builder.proofs.face.Reads.Learnt
heightmap-builder-face κs a x y v w p q = let e = determined p.1 q.1 in (determined p.0 q.0, λ i. (tt, (tt, (tt, ((e i).vertices, ((e i).normals, ((e i).uvs, ((e i).indices, tt))))))))

-- ---- heightmap_faces
pub heightmap-faces-kept-number-of : Fixes heightmap_faces.specs.contracts.kept.number_of.ended heightmap_faces.proofs.kept.number_of.Reads.Learnt
heightmap-faces-kept-number-of κs a x y v w p q = (determined p q, refl)

pub heightmap-faces-kept-top-by : Fixes heightmap_faces.specs.contracts.kept.top_by.ended heightmap_faces.proofs.kept.top_by.Reads.Learnt
heightmap-faces-kept-top-by κs a x y v w p q = (determined p q, refl)

pub heightmap-faces-skin-of : Fixes heightmap_faces.specs.contracts.skin_of.ended heightmap_faces.proofs.skin_of.Reads.Learnt
heightmap-faces-skin-of κs a x y v w p q = (determined p q, refl)

pub heightmap-faces-wall-quad : Fixes heightmap_faces.specs.contracts.wall_quad.ended heightmap_faces.proofs.wall_quad.Reads.Learnt
heightmap-faces-wall-quad κs a x y v w p q = (determined p q, refl)

pub heightmap-faces-top-of : Fixes heightmap_faces.specs.contracts.top_of.ended heightmap_faces.proofs.top_of.Reads.Learnt
heightmap-faces-top-of κs a x y v w p q = (determined p q, refl)

pub heightmap-faces-cap-offset : Fixes heightmap_faces.specs.contracts.cap_offset.ended heightmap_faces.proofs.cap_offset.Reads.Learnt
heightmap-faces-cap-offset κs a x y v w p q = (determined p q, refl)

pub heightmap-faces-lift : Fixes heightmap_faces.specs.contracts.lift.ended heightmap_faces.proofs.lift.Reads.Learnt
heightmap-faces-lift κs a x y v w p q = (determined p q, refl)

pub heightmap-faces-named-cap-of : Fixes heightmap_faces.specs.contracts.named.cap_of.ended heightmap_faces.proofs.named.cap_of.Reads.Learnt
heightmap-faces-named-cap-of κs a x y v w p q = (determined p q, refl)

pub heightmap-faces-named-side-of : Fixes heightmap_faces.specs.contracts.named.side_of.ended heightmap_faces.proofs.named.side_of.Reads.Learnt
heightmap-faces-named-side-of κs a x y v w p q = (determined p q, refl)

pub heightmap-faces-kept-level-by : Fixes heightmap_faces.specs.contracts.kept.level_by.ended heightmap_faces.proofs.kept.level_by.Reads.Learnt
heightmap-faces-kept-level-by κs a x y v w p q = (determined p q, refl)

pub heightmap-faces-level-of : Fixes heightmap_faces.specs.contracts.level_of.ended heightmap_faces.proofs.level_of.Reads.Learnt
heightmap-faces-level-of κs a x y v w p q = (determined p q, refl)

pub heightmap-faces-kept-keep-top : Fixes heightmap_faces.specs.contracts.kept.keep_top.ended heightmap_faces.proofs.kept.keep_top.Reads.Learnt
heightmap-faces-kept-keep-top κs a x y v w p q = (determined p q, refl)

-- ---- heightmap_laying
pub heightmap-laying-put-all : Fixes heightmap_laying.specs.contracts.put_all.ended heightmap_laying.proofs.put_all.Reads.Learnt
heightmap-laying-put-all κs a x y v w p q = let e = determined p q in (refl, λ i. (tt, (tt, ((e i).vertices, ((e i).normals, ((e i).uvs, ((e i).indices, tt)))))))

pub heightmap-laying-put-named : Fixes heightmap_laying.specs.contracts.put_named.ended heightmap_laying.proofs.put_named.Reads.Learnt
heightmap-laying-put-named κs a x y v w p q = let e = determined p q in (refl, λ i. (tt, (tt, (tt, (tt, ((e i).vertices, ((e i).normals, ((e i).uvs, ((e i).indices, tt)))))))))

-- ---- heightmap_plan
pub heightmap-plan-check : Fixes heightmap_plan.specs.contracts.check.ended heightmap_plan.proofs.check.Reads.Learnt
heightmap-plan-check κs a x y v w p q = (determined p q, refl)

pub heightmap-plan-test : Fixes heightmap_plan.specs.contracts.test.ended heightmap_plan.proofs.test.Reads.Learnt
heightmap-plan-test κs a x y v w p q = (determined p q, refl)

pub heightmap-plan-plan : Fixes heightmap_plan.specs.contracts.plan.ended heightmap_plan.proofs.plan.Reads.Learnt
heightmap-plan-plan κs a x y v w p q = (determined p q, refl)

pub heightmap-plan-tally-tally-all : Fixes heightmap_plan.specs.contracts.tally.tally_all.ended heightmap_plan.proofs.tally.tally_all.Reads.Learnt
heightmap-plan-tally-tally-all κs a x y v w p q = (determined p q, refl)

pub heightmap-plan-tally-cell-start : Fixes heightmap_plan.specs.contracts.tally.cell_start.ended heightmap_plan.proofs.tally.cell_start.Reads.Learnt
heightmap-plan-tally-cell-start κs a x y v w p q = (determined p q, refl)

pub heightmap-plan-names-survey-faces : Fixes heightmap_plan.specs.contracts.names.survey_faces.ended heightmap_plan.proofs.names.survey_faces.Reads.Learnt
heightmap-plan-names-survey-faces κs a x y v w p q = (determined p q, refl)

pub heightmap-plan-names-find : Fixes heightmap_plan.specs.contracts.names.find.ended heightmap_plan.proofs.names.find.Reads.Learnt
heightmap-plan-names-find κs a x y v w p q = (determined p q, refl)

pub heightmap-plan-names-face-count : Fixes heightmap_plan.specs.contracts.names.face_count.ended heightmap_plan.proofs.names.face_count.Reads.Learnt
heightmap-plan-names-face-count κs a x y v w p q = (determined p q, refl)

pub heightmap-plan-names-number-of : Fixes heightmap_plan.specs.contracts.names.number_of.ended heightmap_plan.proofs.names.number_of.Reads.Learnt
heightmap-plan-names-number-of κs a x y v w p q = (determined p q, refl)

pub heightmap-plan-names-survey-side : Fixes heightmap_plan.specs.contracts.names.survey_side.ended heightmap_plan.proofs.names.survey_side.Reads.Learnt
heightmap-plan-names-survey-side κs a x y v w p q = (determined p q, refl)

pub heightmap-plan-window-faces : Fixes heightmap_plan.specs.contracts.window.faces.ended heightmap_plan.proofs.window.faces.Reads.Learnt
heightmap-plan-window-faces κs a x y v w p q = (determined p q, refl)

pub heightmap-plan-window-seek : Fixes heightmap_plan.specs.contracts.window.seek.ended heightmap_plan.proofs.window.seek.Reads.Learnt
heightmap-plan-window-seek κs a x y v w p q = (determined p q, refl)

pub heightmap-plan-window-window : Fixes heightmap_plan.specs.contracts.window.window.ended heightmap_plan.proofs.window.window.Reads.Learnt
heightmap-plan-window-window κs a x y v w p q = (determined p q, refl)

-- ---- heightmap_why
pub heightmap-why-reason-code : Fixes heightmap_why.specs.contracts.reason_code.ended heightmap_why.proofs.reason_code.Reads.Learnt
heightmap-why-reason-code κs a x y v w p q = (determined p q, refl)

pub heightmap-why-reason-height : Fixes heightmap_why.specs.contracts.reason_height.ended heightmap_why.proofs.reason_height.Reads.Learnt
heightmap-why-reason-height κs a x y v w p q = (determined p q, refl)

pub heightmap-why-reason-face : Fixes heightmap_why.specs.contracts.reason_face.ended heightmap_why.proofs.reason_face.Reads.Learnt
heightmap-why-reason-face κs a x y v w p q = (determined p q, refl)

pub heightmap-why-kind-code : Fixes heightmap_why.specs.contracts.kind_code.ended heightmap_why.proofs.kind_code.Reads.Learnt
heightmap-why-kind-code κs a x y v w p q = (determined p q, refl)

pub heightmap-why-cell-of : Fixes heightmap_why.specs.contracts.cell_of.ended heightmap_why.proofs.cell_of.Reads.Learnt
heightmap-why-cell-of κs a x y v w p q = (determined p q, refl)

pub heightmap-why-side-of : Fixes heightmap_why.specs.contracts.side_of.ended heightmap_why.proofs.side_of.Reads.Learnt
heightmap-why-side-of κs a x y v w p q = (determined p q, refl)

pub heightmap-why-why : Fixes heightmap_why.specs.contracts.why.ended heightmap_why.proofs.why.Reads.Learnt
heightmap-why-why κs a x y v w p q = (determined p q, refl)

pub heightmap-why-which : Fixes heightmap_why.specs.contracts.which.ended heightmap_why.proofs.which.Reads.Learnt
heightmap-why-which κs a x y v w p q = (determined p q, refl)

-- ---- sheet
pub sheet-write-answer : Fixes sheet.specs.contracts.write_answer.ended sheet.proofs.write_answer.Reads.Learnt
sheet-write-answer κs a x y v w p q = let e = determined p.buffer q.buffer in (determined p.count q.count, λ i. (tt, (e i, tt)))

-- ---- exports
pub exports-cheap-hosirekar-cheap-column-plan : Fixes exports.specs.contracts.cheap.hosirekar_cheap_column_plan.ended exports.proofs.cheap.hosirekar_cheap_column_plan.Reads.Learnt
exports-cheap-hosirekar-cheap-column-plan κs a x y v w p q = (determined p q, refl)

pub exports-cheap-hosirekar-cheap-column-faces : Fixes exports.specs.contracts.cheap.hosirekar_cheap_column_faces.ended exports.proofs.cheap.hosirekar_cheap_column_faces.Reads.Learnt
exports-cheap-hosirekar-cheap-column-faces κs a x y v w p q = (determined p q, refl)

pub exports-cheap-hosirekar-cheap-column-window : Fixes exports.specs.contracts.cheap.hosirekar_cheap_column_window.ended exports.proofs.cheap.hosirekar_cheap_column_window.Reads.Learnt
exports-cheap-hosirekar-cheap-column-window κs a x y v w p q = (determined p q, refl)

pub exports-cheap-hosirekar-cheap-column-build : Fixes exports.specs.contracts.cheap.hosirekar_cheap_column_build.ended exports.proofs.cheap.hosirekar_cheap_column_build.Reads.Learnt
exports-cheap-hosirekar-cheap-column-build κs a x y v w p q = let e = determined p.1 q.1 in (determined p.0 q.0, λ i. (tt, (tt, ((e i).vertices, ((e i).normals, ((e i).uvs, ((e i).indices, tt)))))))

pub exports-cheap-hosirekar-cheap-column-face : Fixes exports.specs.contracts.cheap.hosirekar_cheap_column_face.ended exports.proofs.cheap.hosirekar_cheap_column_face.Reads.Learnt
exports-cheap-hosirekar-cheap-column-face κs a x y v w p q = let e = determined p.1 q.1 in (determined p.0 q.0, λ i. (tt, (tt, (tt, ((e i).vertices, ((e i).normals, ((e i).uvs, ((e i).indices, tt))))))))

pub exports-columns-hosirekar-column-plan : Fixes exports.specs.contracts.columns.hosirekar_column_plan.ended exports.proofs.columns.hosirekar_column_plan.Reads.Learnt
exports-columns-hosirekar-column-plan κs a x y v w p q = (determined p q, refl)

pub exports-columns-hosirekar-column-faces : Fixes exports.specs.contracts.columns.hosirekar_column_faces.ended exports.proofs.columns.hosirekar_column_faces.Reads.Learnt
exports-columns-hosirekar-column-faces κs a x y v w p q = (determined p q, refl)

pub exports-columns-hosirekar-column-window : Fixes exports.specs.contracts.columns.hosirekar_column_window.ended exports.proofs.columns.hosirekar_column_window.Reads.Learnt
exports-columns-hosirekar-column-window κs a x y v w p q = (determined p q, refl)

pub exports-columns-hosirekar-column-build : Fixes exports.specs.contracts.columns.hosirekar_column_build.ended exports.proofs.columns.hosirekar_column_build.Reads.Learnt
exports-columns-hosirekar-column-build κs a x y v w p q = let e = determined p.1 q.1 in (determined p.0 q.0, λ i. (tt, (tt, (tt, (tt, (tt, ((e i).vertices, ((e i).normals, ((e i).uvs, ((e i).indices, tt))))))))))

pub exports-columns-hosirekar-column-face : Fixes exports.specs.contracts.columns.hosirekar_column_face.ended exports.proofs.columns.hosirekar_column_face.Reads.Learnt
exports-columns-hosirekar-column-face κs a x y v w p q = let e = determined p.1 q.1 in (determined p.0 q.0, λ i. (tt, (tt, (tt, (tt, (tt, (tt, ((e i).vertices, ((e i).normals, ((e i).uvs, ((e i).indices, tt)))))))))))

pub exports-merging-hosirekar-merge : Fixes exports.specs.contracts.merging.hosirekar_merge.ended exports.proofs.merging.hosirekar_merge.Reads.Learnt
exports-merging-hosirekar-merge κs a x y v w p q = let e = determined p.1 q.1 in (determined p.0 q.0, λ i. (tt, (tt, (tt, (tt, (tt, (tt, ((e i).vertices, ((e i).normals, ((e i).uvs, ((e i).indices, tt)))))))))))

pub exports-numbers-hosirekar-root : Fixes exports.specs.contracts.numbers.hosirekar_root.ended exports.proofs.numbers.hosirekar_root.Reads.Learnt
exports-numbers-hosirekar-root κs a x y v w p q = (determined p q, refl)

pub exports-numbers-hosirekar-fused : Fixes exports.specs.contracts.numbers.hosirekar_fused.ended exports.proofs.numbers.hosirekar_fused.Reads.Learnt
exports-numbers-hosirekar-fused κs a x y v w p q = (determined p q, refl)

pub exports-plane-hosirekar-plane-plan : Fixes exports.specs.contracts.plane.hosirekar_plane_plan.ended exports.proofs.plane.hosirekar_plane_plan.Reads.Learnt
exports-plane-hosirekar-plane-plan κs a x y v w p q = (determined p q, refl)

pub exports-plane-hosirekar-plane-faces : Fixes exports.specs.contracts.plane.hosirekar_plane_faces.ended exports.proofs.plane.hosirekar_plane_faces.Reads.Learnt
exports-plane-hosirekar-plane-faces κs a x y v w p q = (determined p q, refl)

pub exports-plane-hosirekar-plane-window : Fixes exports.specs.contracts.plane.hosirekar_plane_window.ended exports.proofs.plane.hosirekar_plane_window.Reads.Learnt
exports-plane-hosirekar-plane-window κs a x y v w p q = (determined p q, refl)

pub exports-plane-hosirekar-plane-build : Fixes exports.specs.contracts.plane.hosirekar_plane_build.ended exports.proofs.plane.hosirekar_plane_build.Reads.Learnt
exports-plane-hosirekar-plane-build κs a x y v w p q = let e = determined p.1 q.1 in (determined p.0 q.0, λ i. (tt, (tt, (tt, (tt, ((e i).vertices, ((e i).normals, ((e i).uvs, ((e i).indices, tt)))))))))

pub exports-plane-hosirekar-plane-face : Fixes exports.specs.contracts.plane.hosirekar_plane_face.ended exports.proofs.plane.hosirekar_plane_face.Reads.Learnt
exports-plane-hosirekar-plane-face κs a x y v w p q = let e = determined p.1 q.1 in (determined p.0 q.0, λ i. (tt, (tt, (tt, (tt, (tt, ((e i).vertices, ((e i).normals, ((e i).uvs, ((e i).indices, tt))))))))))

pub exports-files-hosirekar-stl-write : Fixes exports.specs.contracts.files.hosirekar_stl_write.ended exports.proofs.files.hosirekar_stl_write.Reads.Learnt
exports-files-hosirekar-stl-write κs a x y v w p q = let e = determined p.1 q.1 in (determined p.0 q.0, λ i. (tt, (tt, (tt, (tt, (tt, (e i, tt)))))))

pub exports-files-hosirekar-stl-read : Fixes exports.specs.contracts.files.hosirekar_stl_read.ended exports.proofs.files.hosirekar_stl_read.Reads.Learnt
exports-files-hosirekar-stl-read κs a x y v w p q = let e = determined p.1 q.1 in (determined p.0 q.0, λ i. (tt, ((e i).vertices, ((e i).normals, ((e i).uvs, ((e i).indices, tt))))))

pub exports-stored-hosirekar-scale : Fixes exports.specs.contracts.stored.hosirekar_scale.ended exports.proofs.stored.hosirekar_scale.Reads.Learnt
exports-stored-hosirekar-scale κs a x y v w p q = let e = determined p.1 q.1 in (determined p.0 q.0, λ i. (tt, (tt, ((e i).vertices, (tt, (tt, (tt, tt)))))))

pub exports-stored-hosirekar-offset : Fixes exports.specs.contracts.stored.hosirekar_offset.ended exports.proofs.stored.hosirekar_offset.Reads.Learnt
exports-stored-hosirekar-offset κs a x y v w p q = let e = determined p.1 q.1 in (determined p.0 q.0, λ i. (tt, (tt, ((e i).vertices, (tt, (tt, (tt, tt)))))))

pub exports-stored-hosirekar-texture-scale : Fixes exports.specs.contracts.stored.hosirekar_texture_scale.ended exports.proofs.stored.hosirekar_texture_scale.Reads.Learnt
exports-stored-hosirekar-texture-scale κs a x y v w p q = let e = determined p.1 q.1 in (determined p.0 q.0, λ i. (tt, (tt, (tt, (tt, ((e i).uvs, (tt, tt)))))))

pub exports-stored-hosirekar-centroid : Fixes exports.specs.contracts.stored.hosirekar_centroid.ended exports.proofs.stored.hosirekar_centroid.Reads.Learnt
exports-stored-hosirekar-centroid κs a x y v w p q = (determined p q, refl)

pub exports-stored-hosirekar-uv-centroid : Fixes exports.specs.contracts.stored.hosirekar_uv_centroid.ended exports.proofs.stored.hosirekar_uv_centroid.Reads.Learnt
exports-stored-hosirekar-uv-centroid κs a x y v w p q = (determined p q, refl)

pub exports-texture-hosirekar-alter-uv : Fixes exports.specs.contracts.texture.hosirekar_alter_uv.ended exports.proofs.texture.hosirekar_alter_uv.Reads.Learnt
exports-texture-hosirekar-alter-uv κs a x y v w p q = (determined p q, refl)

pub exports-texture-hosirekar-wrap-uv : Fixes exports.specs.contracts.texture.hosirekar_wrap_uv.ended exports.proofs.texture.hosirekar_wrap_uv.Reads.Learnt
exports-texture-hosirekar-wrap-uv κs a x y v w p q = (determined p q, refl)

abbrev export-load-promise : Promise exports.specs.contracts.loading.hosirekar_heightmap_load.ended
export-load-promise κs a r e = Loads (λ n l m. answer_to_c (load_answer n l m)) a.0.now a.1.0 a.1.1.0 r e.1.0 e.1.1.0

pub exports-loading-hosirekar-heightmap-load-says : {M : Type 1} {𝓤 : Ura M} (𝓛 : Logic 𝓤) (mem : Memory → SProp 𝓤) (run : Routine → Fun 𝓤) → Says exports.specs.contracts.loading.hosirekar_heightmap_load.ended (exports.specs.contracts.loading.hosirekar_heightmap_load.clauses 𝓛 mem run) export-load-promise
exports-loading-hosirekar-heightmap-load-says 𝓛 mem run κs a g r e = refl

pub exports-loading-hosirekar-heightmap-load-learnt : Fixes exports.specs.contracts.loading.hosirekar_heightmap_load.ended exports.proofs.loading.hosirekar_heightmap_load.Reads.Learnt
exports-loading-hosirekar-heightmap-load-learnt κs a x y v w p q = (determined p.0 q.0, λ i. (tt, (determined p.1 q.1 i, (determined p.2 q.2 i, tt))))

pub exports-loading-hosirekar-heightmap-load : Fixes exports.specs.contracts.loading.hosirekar_heightmap_load.ended export-load-promise
exports-loading-hosirekar-heightmap-load κs a x y v w p q = (determined p.0 q.0, λ i. (tt, (determined p.1 q.1 i, (determined p.2 q.2 i, tt))))

pub exports-maps-hosirekar-heightmap-plan : Fixes exports.specs.contracts.maps.hosirekar_heightmap_plan.ended exports.proofs.maps.hosirekar_heightmap_plan.Reads.Learnt
exports-maps-hosirekar-heightmap-plan κs a x y v w p q = (determined p q, refl)

pub exports-maps-hosirekar-heightmap-faces : Fixes exports.specs.contracts.maps.hosirekar_heightmap_faces.ended exports.proofs.maps.hosirekar_heightmap_faces.Reads.Learnt
exports-maps-hosirekar-heightmap-faces κs a x y v w p q = (determined p q, refl)

pub exports-maps-hosirekar-heightmap-window : Fixes exports.specs.contracts.maps.hosirekar_heightmap_window.ended exports.proofs.maps.hosirekar_heightmap_window.Reads.Learnt
exports-maps-hosirekar-heightmap-window κs a x y v w p q = (determined p q, refl)

pub exports-maps-hosirekar-heightmap-why : Fixes exports.specs.contracts.maps.hosirekar_heightmap_why.ended exports.proofs.maps.hosirekar_heightmap_why.Reads.Learnt
exports-maps-hosirekar-heightmap-why κs a x y v w p q = (determined p q, refl)

pub exports-maps-hosirekar-heightmap-which : Fixes exports.specs.contracts.maps.hosirekar_heightmap_which.ended exports.proofs.maps.hosirekar_heightmap_which.Reads.Learnt
exports-maps-hosirekar-heightmap-which κs a x y v w p q = (determined p q, refl)

pub exports-maps-hosirekar-heightmap-build : Fixes exports.specs.contracts.maps.hosirekar_heightmap_build.ended exports.proofs.maps.hosirekar_heightmap_build.Reads.Learnt
exports-maps-hosirekar-heightmap-build κs a x y v w p q = let e = determined p.1 q.1 in (determined p.0 q.0, λ i. (tt, (tt, (tt, (tt, (tt, (tt, (tt, (tt, ((e i).vertices, ((e i).normals, ((e i).uvs, ((e i).indices, tt)))))))))))))

pub exports-maps-hosirekar-heightmap-face : Fixes exports.specs.contracts.maps.hosirekar_heightmap_face.ended exports.proofs.maps.hosirekar_heightmap_face.Reads.Learnt
exports-maps-hosirekar-heightmap-face κs a x y v w p q = let e = determined p.1 q.1 in (determined p.0 q.0, λ i. (tt, (tt, (tt, (tt, (tt, (tt, (tt, (tt, (tt, ((e i).vertices, ((e i).normals, ((e i).uvs, ((e i).indices, tt))))))))))))))
